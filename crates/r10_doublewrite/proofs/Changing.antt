-- Runs of writes in place.
use Rattle.std.proofs.Common.{◌≡◌, ⊎_elim, inl, inr, ℕ, zero, suc, ◌+◌, ◌*◌, ◌<◌, ◌≤◌, List, [], ◌∷◌, length, take, drop, sym, ◌∙◌, ap, arith}
use Rattle.std.specs.Prelude.{slice_index}
use Rattle.std.proofs.Math.Nat.{mul-suc}
use Rattle.std.proofs.lemmas.List.{drop_more, length-drop}
use Rattle.r10_medium.specs.Disk.{Image}
use Rattle.r10_medium.specs.PowerLoss.{put_blocks}
use Rattle.r10_sector.specs.Held.{Held, AgreesBut, IsAmong, put_sectors}
use Rattle.r10_sector.specs.Plate.{Plate, Changes, IsLeftChangedBy}

pub among_at : (per n i : ℕ) (fs : List ℕ) → i < length fs → slice_index fs i ≤ n → n < slice_index fs i + per → IsAmong per fs n
among_at per n i [] lt from below = absurd (omega (arith, lt))
among_at per n zero (f ∷ fs) lt from below = inl (from, below)
among_at per n (suc i) (f ∷ fs) lt from below = inr (among_at per n i fs (omega (arith, lt)) from below)

-- one of the sectors more
pub agrees_more : (per i : ℕ) (fs : List ℕ) → i < length fs → (x y z : Held) → AgreesBut per fs x y → AgreesBut per (slice_index fs i ∷ []) y z → AgreesBut per fs x z
agrees_more per i fs lt x y z first second = record {
  size = second.size ∙ first.size;
  others = λ n absent. second.others n (λ among. ⊎_elim (λ here. absent (among_at per n i fs lt here.0 here.1)) (λ none. none) among) ∙ first.others n absent;
  one = second.one ∙ first.one;
  two = second.two ∙ first.two;
}

-- one write more
pub grown : {per : ℕ} (R S : Held → Held → Type 0) → ((x y z : Held) → R x y → S y z → R x z) → (a b c : Plate per) → Changes R a b → Changes S b c → Changes R a c
grown R S step a b c first second = record {
  later = omega (arith, first.later, second.later);
  since = λ t h le since. ⊎_elim (first.since t h le) (λ from. inr (onto h from)) (second.since t h (omega (arith, le, first.later)) since);
  left = λ h left. onto h (second.left h left);
  now = step a.now b.now c.now first.now second.now;
}
  where
    onto : (h : Held) → IsLeftChangedBy S b h → IsLeftChangedBy R a h
    onto h from = let before = first.left from.0 from.1 in (before.0, before.1, step before.0 from.0 h before.2 from.2)

-- So many sectors are in place: those that are left, put over what is read now, give what all give.
pub record IsPlacing {per : ℕ} (fs : List ℕ) (bs : Image) (old now : Plate per) (i : ℕ) (rest : Image) : Type 0 where
  pub changes : Changes (AgreesBut per fs) old now
  pub size : length rest ≡ per * length (drop i fs)
  pub put : put_sectors per (drop i fs) rest now.now.image ≡ put_sectors per fs bs old.now.image
  pub trust : now.trusted ≡ old.trusted
  pub failures : old.failures ≤ now.failures

pub size_left : (per i : ℕ) (fs : List ℕ) (rest : Image) → i < length fs → length rest ≡ per * length (drop i fs) → length rest ≡ per + per * length (drop (i + 1) fs)
size_left per i fs rest lt size =
    size ∙ ap (λ (l : List ℕ). per * length l) (drop_more fs i 0 lt) ∙ omega (arith, mul-suc per (length (drop (i + 1) fs)))

pub put_more : (per i : ℕ) (fs : List ℕ) (rest a : Image) → i < length fs
    → put_sectors per (drop i fs) rest a ≡ put_sectors per (drop (i + 1) fs) (drop per rest) (put_blocks a (slice_index fs i) (take per rest))
put_more per i fs rest a lt = ap (λ (l : List ℕ). put_sectors per l rest a) (drop_more fs i 0 lt)

pub placed_more : {per : ℕ} (fs : List ℕ) (bs : Image) (old mid new : Plate per) (i : ℕ) (rest sector after : Image) → i < length fs
    → sector ≡ take per rest → after ≡ drop per rest
    → IsPlacing fs bs old mid i rest
    → Changes (AgreesBut per (slice_index fs i ∷ [])) mid new → new.now.image ≡ put_blocks mid.now.image (slice_index fs i) sector
    → new.trusted ≡ mid.trusted → mid.failures ≤ new.failures → IsPlacing fs bs old new (i + 1) after
placed_more {per = per} fs bs old mid new i rest sector after lt is after_is so_far changes written trust failures = record {
  changes = grown (AgreesBut per fs) (AgreesBut per (slice_index fs i ∷ [])) (agrees_more per i fs lt) old mid new so_far.changes changes;
  size = ap length after_is ∙ omega (arith, length-drop per rest, size_left per i fs rest lt so_far.size);
  put = ap (λ (l : Image). put_sectors per (drop (i + 1) fs) l new.now.image) after_is
      ∙ ap (put_sectors per (drop (i + 1) fs) (drop per rest)) (written ∙ ap (put_blocks mid.now.image (slice_index fs i)) is)
      ∙ sym (put_more per i fs rest mid.now.image lt) ∙ so_far.put;
  trust = trust ∙ so_far.trust;
  failures = omega (arith, failures, so_far.failures);
}
