-- Bytes fall apart into packets in one way.
use Rattle.std.proofs.Common.{◌≡◌, ℕ, ◌<◌, ◌≤◌, ◌⊎◌, inl, inr, List, [], ◌∷◌, ◌++◌, length, take, count_by, refl, sym, ap, ◌∙◌, subst, arith, append-nil, append_assoc}
use Rattle.std.proofs.lemmas.List.{length-append}
use Rattle.std.proofs.Math.Seq.{take-append_seam}
use Rattle.std.specs.List.{AllByRecursion, concat}
use Rattle.r10_packet.specs.Framing.{header_at}
use Rattle.r10_packet.specs.declared.header.Header.{Header}
use Rattle.r10_packet.proofs.NoRuleBroken.{whole_of}
use Rattle.r10_body.specs.Foreign.{opaque_at, IsForeignPacket, IsForeignFile}
use Rattle.r10_body.specs.Faults.{HasFault, IsFaulty, first_packet}
use Rattle.r10_body.specs.declared.fault.FileFault.{FileFault}
use Rattle.r10_body.specs.declared.fault.FileFault.TheVariants.{Truncated}
use Rattle.r10_body.proofs.Lists.{same_front, same_behind}
use Rattle.r10_packet_rules.proofs.Fronts.{stays}
use Rattle.r10_packet_rules.proofs.Faults.{one_fault, apart, fault_stays}

pub packet_long : (packet : List ℕ) → IsForeignPacket packet → 24 ≤ length packet
packet_long packet is = (whole_of packet is.framed).long

told_length : (packet rest : List ℕ) → IsForeignPacket packet → (header_at (packet ++ rest)).packet_len ≡ length packet
told_length packet rest is = ap (λ (h : Header). h.packet_len) (stays packet rest is.framed).header ∙ is.whole

pub first_again : (packet rest : List ℕ) → IsForeignPacket packet → first_packet (packet ++ rest) ≡ packet
first_again packet rest is = ap (λ n. take n (packet ++ rest)) (told_length packet rest is) ∙ take-append_seam packet rest

-- one packet stands first
same_first : (p q x y : List ℕ) → IsForeignPacket p → IsForeignPacket q → p ++ x ≡ q ++ y → (p ≡ q) × (x ≡ y)
same_first p q x y is other e =
    let sizes : length p ≡ length q = sym (told_length p x is) ∙ ap (λ t. (header_at t).packet_len) e ∙ told_length q y other in
    let same : p ≡ q = same_front p q x y sizes e in
    (same, same_behind p q x y same e)

-- no packet of any recorder stands first
abbrev pub Stops : List ℕ → Type 0
Stops bytes = (packet rest : List ℕ) → IsForeignPacket packet → bytes ≡ packet ++ rest → ⊥

pub nothing_stops : Stops []
nothing_stops packet rest is e = absurd (omega (arith, packet_long packet is, length-append packet rest, ap length e))

pub fault_stops : (bytes : List ℕ) (f : FileFault) → HasFault bytes f → Stops bytes
fault_stops bytes f h packet rest is e = apart packet rest f is (subst (λ t. HasFault t f) e h)

pub one_way : (ps qs : List (List ℕ)) (r s : List ℕ) → AllByRecursion IsForeignPacket ps → AllByRecursion IsForeignPacket qs → Stops r → Stops s
    → concat ps ++ r ≡ concat qs ++ s → (ps ≡ qs) × (r ≡ s)
one_way [] [] r s f g h i e = (refl, e)
one_way [] (q ∷ qs) r s f g h i e = absurd (h q (concat qs ++ s) g.0 (e ∙ append_assoc q (concat qs) s))
one_way (p ∷ ps) [] r s f g h i e = absurd (i p (concat ps ++ r) f.0 (sym e ∙ append_assoc p (concat ps) r))
one_way (p ∷ ps) (q ∷ qs) r s f g h i e =
    let first = same_first p q (concat ps ++ r) (concat qs ++ s) f.0 g.0 (sym (append_assoc p (concat ps) r) ∙ e ∙ append_assoc q (concat qs) s) in
    let left = one_way ps qs r s f.1 g.1 h i first.1 in
    let heads : p ≡ q = first.0 in
    let tails : ps ≡ qs = left.0 in
    (cc, left.1)

-- ---- verdicts

pub one_count : (bytes : List ℕ) (m n : ℕ) → IsForeignFile bytes m → IsForeignFile bytes n → m ≡ n
one_count bytes m n f g =
    let same = one_way f.0 g.0 [] [] f.3 g.3 nothing_stops nothing_stops (append-nil (concat f.0) ∙ sym f.1 ∙ g.1 ∙ sym (append-nil (concat g.0))) in
    f.4 ∙ ap (count_by opaque_at) same.0 ∙ sym g.4

one_place : (bytes : List ℕ) (o : ℕ) (f : FileFault) (p : ℕ) (g : FileFault) (x : IsFaulty bytes o f) (y : IsFaulty bytes p g) → (x.0 ≡ y.0) × (x.1 ≡ y.1)
one_place bytes o f p g x y = one_way x.0 y.0 x.1 y.1 x.4 y.4 (fault_stops x.1 f x.6) (fault_stops y.1 g y.6) (sym x.2 ∙ y.2)

pub one_offset : (bytes : List ℕ) (o : ℕ) (f : FileFault) (p : ℕ) (g : FileFault) → IsFaulty bytes o f → IsFaulty bytes p g → o ≡ p
one_offset bytes o f p g x y = x.3 ∙ ap (λ ps. length (concat ps)) (one_place bytes o f p g x y).0 ∙ sym y.3

pub one_reason : (bytes : List ℕ) (o : ℕ) (f : FileFault) (p : ℕ) (g : FileFault) → IsFaulty bytes o f → IsFaulty bytes p g → f ≡ g
one_reason bytes o f p g x y = one_fault y.1 f g (subst (λ t. HasFault t f) (one_place bytes o f p g x y).1 x.6) y.6

-- where bytes are packets, no more are needed and none is missing
something_left : (packets : List (List ℕ)) (rest : List ℕ) → (0 < length rest) ⊎ (length packets ≡ 0) → 0 < length packets → rest ≡ [] → ⊥
something_left packets rest (inl more) some e = omega (arith, more, ap length e)
something_left packets rest (inr none) some e = omega (arith, none, some)

pub apart_files : (bytes : List ℕ) (n o : ℕ) (f : FileFault) → IsForeignFile bytes n → IsFaulty bytes o f → ⊥
apart_files bytes n o f x y =
    let same = one_way x.0 y.0 [] y.1 x.3 y.4 nothing_stops (fault_stops y.1 f y.6) (append-nil (concat x.0) ∙ sym x.1 ∙ y.2) in
    something_left y.0 y.1 y.5 (omega (arith, x.2, ap length same.0)) (sym same.1)

still_some : (packets : List (List ℕ)) (rest more : List ℕ) → (0 < length rest) ⊎ (length packets ≡ 0) → (0 < length (rest ++ more)) ⊎ (length packets ≡ 0)
still_some packets rest more (inl some) = inl (omega (arith, some, length-append rest more))
still_some packets rest more (inr none) = inr none

pub faulty_stays : (bytes more : List ℕ) (o : ℕ) (f : FileFault) → IsFaulty bytes o f → (f ≡ Truncated → ⊥) → IsFaulty (bytes ++ more) o f
faulty_stays bytes more o f x other = (
  x.0,
  x.1 ++ more,
  ap (λ t. t ++ more) x.2 ∙ append_assoc (concat x.0) x.1 more,
  x.3,
  x.4,
  still_some x.0 x.1 more x.5,
  fault_stays x.1 more f x.6 other,
)
