-- A list of files of which the last one changes.
use Rattle.std.proofs.Common.{◌≡◌, ◌≤◌, ℕ, Bool, true, false, cond, List, [], ◌∷◌, ◌++◌, map, length, Some, None, refl, sym, ap, ◌∙◌, subst, arith}
use Rattle.std.specs.List.{AllByRecursion, flat_map, last_or}
use Rattle.std.proofs.lemmas.List.{append_assoc, append-nil}
use Rattle.std.proofs.lemmas.List.Elements.{filter-append}
use Rattle.r10_body.specs.Rules.{is_entry_on}
use Rattle.r10_body.specs.Files.{on_channel}
use Rattle.r10_body.specs.declared.entry.Entry.{Entry}
use Rattle.r10_machine.specs.Machine.{File, Lane, change_last}
use Rattle.r10_machine.specs.SoundParts.{own_files, counts_on, LaneClimbs, Climbs, count_or_0}
use Rattle.r10_machine.proofs.Climbing.{map-joined, entry_counts}
use Rattle.std.proofs.lemmas.Option.{same_Some}

-- the last file, where it is its own, gets more
pub last_entries : (change : File → File) (more : List Entry) → ((f : File) → ((change f).own ≡ f.own) × ((change f).entries ≡ f.entries ++ more))
    → (files : List File) (f : File) → last_or None files ≡ Some f → f.own ≡ true → flat_map (λ f. f.entries) (own_files (change_last change files)) ≡ flat_map (λ f. f.entries) (own_files files) ++ more
last_entries change more same [] f is own = cc
last_entries change more same (x ∷ []) f is own =
    let here : x.own ≡ true = ap (λ (g : File). g.own) (same_Some _ _ is) ∙ own in
    alone (change x).own x.own ((same x).0 ∙ here) here
  where
    alone : (b c : Bool) → b ≡ true → c ≡ true → flat_map (λ f. f.entries) (cond b (change x ∷ []) []) ≡ flat_map (λ f. f.entries) (cond c (x ∷ []) []) ++ more
    alone true true one two = append-nil (change x).entries ∙ (same x).1 ∙ ap (λ (l : List Entry). l ++ more) (sym (append-nil x.entries))
    alone true false one two = cc
    alone false c one two = cc
last_entries change more same (x ∷ y ∷ ys) f is own = by x.own (last_entries change more same (y ∷ ys) f is own)
  where
    by : (b : Bool) → flat_map (λ f. f.entries) (own_files (change_last change (y ∷ ys))) ≡ flat_map (λ f. f.entries) (own_files (y ∷ ys)) ++ more
        → flat_map (λ f. f.entries) (cond b (x ∷ own_files (change_last change (y ∷ ys))) (own_files (change_last change (y ∷ ys)))) ≡ flat_map (λ f. f.entries) (cond b (x ∷ own_files (y ∷ ys)) (own_files (y ∷ ys))) ++ more
    by true rest = ap (λ (l : List Entry). x.entries ++ l) rest ∙ sym (append_assoc x.entries (flat_map (λ f. f.entries) (own_files (y ∷ ys))) more)
    by false rest = rest

pub last_counts : (channel : ℕ) (change : File → File) (more : List Entry) → ((f : File) → ((change f).own ≡ f.own) × ((change f).entries ≡ f.entries ++ more))
    → (files : List File) (f : File) → last_or None files ≡ Some f → f.own ≡ true → counts_on channel (change_last change files) ≡ counts_on channel files ++ entry_counts (on_channel channel more)
last_counts channel change more same files f is own =
    let before = flat_map (λ (f : File). f.entries) (own_files files) in
    ap (λ (l : List Entry). entry_counts (on_channel channel l)) (last_entries change more same files f is own)
    ∙ ap entry_counts (filter-append (is_entry_on channel) before more)
    ∙ map-joined (λ (e : Entry). e.count) (on_channel channel before) (on_channel channel more)

-- what holds of each own file, and of the last as it is changed, holds afterwards
pub last_own : (P : File → Type 0) (change : File → File) → ((f : File) → (change f).own ≡ f.own) → (files : List File) (f : File) → last_or None files ≡ Some f
    → AllByRecursion P (own_files files) → (P f → P (change f)) → AllByRecursion P (own_files (change_last change files))
last_own P change same [] f is all here = tt
last_own P change same (x ∷ []) f is all here = alone (change x).own x.own (same x) all (subst (λ (g : File). P g → P (change g)) (sym (same_Some _ _ is)) here)
  where
    alone : (b c : Bool) → b ≡ c → AllByRecursion P (cond c (x ∷ []) []) → (P x → P (change x)) → AllByRecursion P (cond b (change x ∷ []) [])
    alone true true is (first, all) here = (here first, tt)
    alone true false is all here = cc
    alone false c is all here = tt
last_own P change same (x ∷ y ∷ ys) f is all here = by x.own all (λ rest. last_own P change same (y ∷ ys) f is rest here)
  where
    by : (b : Bool) → AllByRecursion P (cond b (x ∷ own_files (y ∷ ys)) (own_files (y ∷ ys))) → (AllByRecursion P (own_files (y ∷ ys)) → AllByRecursion P (own_files (change_last change (y ∷ ys))))
        → AllByRecursion P (cond b (x ∷ own_files (change_last change (y ∷ ys))) (own_files (change_last change (y ∷ ys))))
    by true (first, all) rest = (first, rest all)
    by false all rest = rest all

-- the same of each file
pub last_each : (P : File → Type 0) (change : File → File) (files : List File) (f : File) → last_or None files ≡ Some f → AllByRecursion P files → (P f → P (change f)) → AllByRecursion P (change_last change files)
last_each P change [] f is all here = tt
last_each P change (x ∷ []) f is (first, all) here = (subst (λ (g : File). P g → P (change g)) (sym (same_Some _ _ is)) here first, tt)
last_each P change (x ∷ y ∷ ys) f is (first, all) here = (first, last_each P change (y ∷ ys) f is all here)

pub last_length : (change : File → File) (files : List File) → length (change_last change files) ≡ length files
last_length change [] = refl
last_length change (x ∷ []) = refl
last_length change (x ∷ y ∷ ys) = omega (arith, last_length change (y ∷ ys))

pub last_last : (change : File → File) (files : List File) (f : File) → last_or None files ≡ Some f → last_or None (change_last change files) ≡ Some (change f)
last_last change [] f is = cc
last_last change (x ∷ []) f is = ap (λ (g : File). Some (change g)) (same_Some _ _ is)
last_last change (x ∷ y ∷ []) f is = ap (λ (g : File). Some (change g)) (same_Some _ _ is)
last_last change (x ∷ y ∷ z ∷ zs) f is = last_last change (y ∷ z ∷ zs) f is

pub shown_files : (change : File → File) (files : List File) (f : File) → last_or None files ≡ Some f → AllByRecursion (λ f. f.shown ≤ length f.entries) files → ((change f).shown ≤ length (change f).entries)
    → AllByRecursion (λ f. f.shown ≤ length f.entries) (change_last change files)
shown_files change files f is all here = last_each (λ f. f.shown ≤ length f.entries) change files f is all (λ before. here)

-- where the last file isn't its own, its own ones stay
pub others_change : (change : File → File) → ((f : File) → (change f).own ≡ f.own) → (files : List File) (f : File) → last_or None files ≡ Some f → f.own ≡ false
    → own_files (change_last change files) ≡ own_files files
others_change change same [] f is foreign = refl
others_change change same (x ∷ []) f is foreign =
    let here : x.own ≡ false = ap (λ (g : File). g.own) (same_Some _ _ is) ∙ foreign in
    alone (change x).own x.own (same x ∙ here) here
  where
    alone : (b c : Bool) → b ≡ false → c ≡ false → cond b (change x ∷ []) [] ≡ cond c (x ∷ []) []
    alone false false one two = refl
    alone false true one two = cc
    alone true c one two = cc
others_change change same (x ∷ y ∷ ys) f is foreign = by x.own (others_change change same (y ∷ ys) f is foreign)
  where
    by : (b : Bool) → own_files (change_last change (y ∷ ys)) ≡ own_files (y ∷ ys) → cond b (x ∷ own_files (change_last change (y ∷ ys))) (own_files (change_last change (y ∷ ys))) ≡ cond b (x ∷ own_files (y ∷ ys)) (own_files (y ∷ ys))
    by true rest = ap (λ (fs : List File). x ∷ fs) rest
    by false rest = rest

-- counts are those of its own files
pub counts_same : (channel : ℕ) (files new : List File) → own_files new ≡ own_files files → counts_on channel new ≡ counts_on channel files
counts_same channel files new same = ap (λ (fs : List File). entry_counts (on_channel channel (flat_map (λ f. f.entries) fs))) same

pub climb_same : (files new : List File) → own_files new ≡ own_files files → (lanes : List Lane) → AllByRecursion (LaneClimbs files) lanes → AllByRecursion (LaneClimbs new) lanes
climb_same files new same [] all = tt
climb_same files new same (lane ∷ lanes) (here, all) =
    (subst (λ (l : List ℕ). Climbs 0 (l ++ map (λ x. x.count) lane.waiting) (count_or_0 lane.last)) (sym (counts_same lane.spec.id files new same)) here, climb_same files new same lanes all)
