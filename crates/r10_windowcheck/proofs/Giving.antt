-- What is known of the bytes that were given, with one window more.
use Rattle.std.proofs.Common.{◌≡◌, ℕ, ◌<◌, ◌⊎◌, inl, inr, List, [], ◌++◌, length, take, drop, true, false, Option, Some, None, is_some, sym, ap, ◌∙◌, subst, arith, append_assoc}
use Rattle.std.proofs.lemmas.List.{append-nil, length-append, nil_from_length, take-append-drop}
use Rattle.r10_body.specs.Faults.{HasFault, IsFaulty}
use Rattle.r10_body.specs.declared.fault.FileFault.{FileFault}
use Rattle.r10_body.specs.declared.fault.FileFault.TheVariants.{Truncated}
use Rattle.r10_packet_rules.proofs.Faults.{fault_stays}
use Rattle.r10_packet_rules.specs.Tracks.{TracksForeign}
use Rattle.r10_packet_rules.specs.declared.file.FirstFault.{FirstFault}
use Rattle.r10_packet_rules.specs.declared.file.ForeignTrack.{ForeignTrack}
use Rattle.r10_judge.specs.Walks.{EndsWithFault, TracksWalked}
use Rattle.r10_judge.specs.declared.walk.Walk.{Walk}
use Rattle.r10_windowcheck.specs.Given.{AreTakenOver, StaysFaulty, Stands}

-- ---- a fault

-- what stands after packets is at fault
fault_at : (track : ForeignTrack) (before rest bytes : List ℕ) (offset : ℕ) (fault : FileFault) → bytes ≡ before ++ rest → offset ≡ track.offset → TracksForeign track before → 0 < length rest
    → HasFault rest fault → IsFaulty bytes offset fault
fault_at track before rest bytes offset fault is place foreign some has = (
  foreign.packets,
  rest,
  is ∙ ap (λ (l : List ℕ). l ++ rest) foreign.bytes_are,
  place ∙ foreign.offset ∙ ap length foreign.bytes_are,
  foreign.foreign,
  inl some,
  has,
)

-- where a file is at fault that is at fault whatever comes
pub faulty_so_far : (o : Option FirstFault) (at : FirstFault) (walk : Walk) (bytes rest : List ℕ) → o ≡ Some at → Stands o walk bytes rest → IsFaulty bytes at.offset at.fault
faulty_so_far None at walk bytes rest is stands = absurd cc
faulty_so_far (Some a) at walk bytes rest is stands =
    let same : a ≡ at = cc in
    subst (λ (b : FirstFault). IsFaulty bytes b.offset b.fault) same (subst (λ (l : List ℕ). IsFaulty l a.offset a.fault) (append-nil bytes) (stands.0 []))

-- ---- windows

pub still_broken : (o : Option FirstFault) (walk : Walk) (bytes window rest : List ℕ) → is_some o ≡ true → Stands o walk bytes rest → Stands o walk (bytes ++ window) rest
still_broken None walk bytes window rest some stands = absurd cc
still_broken (Some at) walk bytes window rest some stands = (λ later. subst (λ (l : List ℕ). IsFaulty l at.offset at.fault) (sym (append_assoc bytes window later)) (stands.0 (window ++ later)), stands.1)

pub not_broken : (o : Option FirstFault) (walk : Walk) (bytes rest : List ℕ) → is_some o ≡ false → Stands o walk bytes rest → AreTakenOver walk bytes rest
not_broken None walk bytes rest none stands = stands
not_broken (Some at) walk bytes rest none stands = absurd cc

-- what is kept and a window are packets and what stands after them
further : (bytes window before rest kept : List ℕ) (n : ℕ) → bytes ≡ before ++ rest → kept ≡ rest ++ window → bytes ++ window ≡ (before ++ take n kept) ++ drop n kept
further bytes window before rest kept n is all =
    ap (λ (l : List ℕ). l ++ window) is
    ∙ append_assoc before rest window
    ∙ ap (λ (l : List ℕ). before ++ l) (sym all ∙ sym (take-append-drop n kept))
    ∙ sym (append_assoc before (take n kept) (drop n kept))

beginning_of : (fault : Option FileFault) (rest : List ℕ) → EndsWithFault fault rest → (fault ≡ None) ⊎ (fault ≡ Some Truncated) → (rest ≡ []) ⊎ HasFault rest Truncated
beginning_of None rest ends may = inl (nil_from_length rest ends)
beginning_of (Some f) rest ends (inl e) = absurd cc
beginning_of (Some f) rest ends (inr e) = let same : f ≡ Truncated = cc in inr (subst (λ (g : FileFault). HasFault rest g) same ends.1)

pub goes_on : (old new : Walk) (bytes window rest kept : List ℕ) (n : ℕ) (fault : Option FileFault) → kept ≡ rest ++ window
    → ((before : List ℕ) → TracksWalked old before → TracksWalked new (before ++ take n kept)) → EndsWithFault fault (drop n kept) → new.judge.closed ≡ old.judge.closed
    → (fault ≡ None) ⊎ (fault ≡ Some Truncated) → AreTakenOver old bytes rest → AreTakenOver new (bytes ++ window) (drop n kept)
goes_on old new bytes window rest kept n fault all step ends closed may so_far = record {
  before = so_far.before ++ take n kept;
  bytes_are = further bytes window so_far.before rest kept n so_far.bytes_are all;
  walked = step so_far.before so_far.walked;
  closed = closed ∙ so_far.closed;
  beginning = beginning_of fault (drop n kept) ends may;
}

pub stops : (old new : Walk) (bytes window rest kept : List ℕ) (n : ℕ) (fault : Option FileFault) (at : FirstFault) → kept ≡ rest ++ window
    → ((before : List ℕ) → TracksWalked old before → TracksWalked new (before ++ take n kept)) → EndsWithFault fault (drop n kept)
    → at.offset ≡ new.track.offset → fault ≡ Some at.fault → (at.fault ≡ Truncated → ⊥) → AreTakenOver old bytes rest → StaysFaulty (bytes ++ window) at
stops old new bytes window rest kept n fault at all step ends place is lasts so_far = λ later.
    let before : List ℕ = so_far.before ++ take n kept in
    let left : List ℕ = drop n kept in
    let there : EndsWithFault (Some at.fault) left = subst (λ (o : Option FileFault). EndsWithFault o left) is ends in
    let whole : (bytes ++ window) ++ later ≡ before ++ (left ++ later) = ap (λ (l : List ℕ). l ++ later) (further bytes window so_far.before rest kept n so_far.bytes_are all) ∙ append_assoc before left later in
    fault_at new.track before (left ++ later) ((bytes ++ window) ++ later) at.offset at.fault whole place (step so_far.before so_far.walked).foreign
    (omega (arith, there.0, length-append left later)) (fault_stays left later at.fault there.1 lasts)
