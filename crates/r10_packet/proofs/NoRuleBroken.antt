-- What holds where no rule is broken.
use Rattle.std.proofs.Common.{◌≡◌, ℕ, ◌-◌, ◌%◌, ◌≤◌, Bool, true, false, List, [], ◌∷◌, ◌++◌, length, take, refl, ◌∙◌, Some, None}
use Rattle.std.proofs.lemmas.Bool.{eqb-true, leb-true, eq-eqb, le-leb, and_parts}
use Rattle.std.specs.Prelude.{nat_le}
use Rattle.r10_count.specs.Checks.{first_broken}
use Rattle.r10_count.specs.Bytes.{u16_at}
use Rattle.r10_packet.specs.Sums.{sum_of_words16}
use Rattle.r10_packet.specs.Framing.{header_at, has_lengths, header_rules, header_fault, framing_fault}
use Rattle.r10_packet.specs.declared.header.Header.{Header}
use Rattle.r10_packet.specs.declared.fault.PacketFault.{PacketFault}
use Rattle.r10_packet.specs.declared.fault.PacketFault.TheVariants.{Truncated, Sync, HeaderSum, Length}

-- the first check holds, and the others
pub none_broken : (answer : Bool) (fault : PacketFault) (rest : List (Bool × PacketFault)) → first_broken ((answer, fault) ∷ rest) ≡ None
    → (answer ≡ true) × (first_broken rest ≡ None)
none_broken true fault rest e = (refl, e)
none_broken false fault rest e = absurd (cc)

-- the lengths that a packet may have
pub record HasLengths (h : Header) : Type 0 where
  pub least : 24 ≤ h.packet_len
  pub words : h.packet_len % 4 ≡ 0
  pub inside : h.data_len ≤ h.packet_len - 24

pub lengths_of : (h : Header) → has_lengths h ≡ true → HasLengths h
lengths_of h e =
    let a = and_parts _ _ e in
    let b = and_parts _ _ a.0 in
    let c = and_parts _ _ b.0 in
    record {
      least = leb-true 24 h.packet_len c.0;
      words = eqb-true (h.packet_len % 4) 0 c.1;
      inside = leb-true h.data_len (h.packet_len - 24) a.1;
    }

-- a header without a fault
pub record IsSound (bytes : List ℕ) : Type 0 where
  pub sync : u16_at bytes 0 ≡ 0xEB25
  pub total : u16_at bytes 22 ≡ sum_of_words16 (take 22 bytes)
  pub lengths : has_lengths (header_at bytes) ≡ true

pub sound_of : (bytes : List ℕ) → header_fault bytes ≡ None → IsSound bytes
sound_of bytes e =
    let a = none_broken _ _ _ e in
    let b = none_broken _ _ _ a.1 in
    let c = none_broken _ _ _ b.1 in
    record { sync = eqb-true _ _ a.0; total = eqb-true _ _ b.0; lengths = c.0 }

-- a check that holds, and checks with more after them
pub held : (answer : Bool) (fault : PacketFault) (rest : List (Bool × PacketFault)) → answer ≡ true → first_broken ((answer, fault) ∷ rest) ≡ first_broken rest
held true fault rest e = refl
held false fault rest e = absurd (cc)

still_broken : (rules more : List (Bool × PacketFault)) (f : PacketFault) → first_broken rules ≡ Some f → first_broken (rules ++ more) ≡ Some f
still_broken [] more f e = absurd (cc)
still_broken ((true, g) ∷ rules) more f e = still_broken rules more f e
still_broken ((false, g) ∷ rules) more f e = e

still_unbroken : (rules more : List (Bool × PacketFault)) → first_broken rules ≡ None → first_broken (rules ++ more) ≡ first_broken more
still_unbroken [] more e = refl
still_unbroken ((true, g) ∷ rules) more e = still_unbroken rules more e
still_unbroken ((false, g) ∷ rules) more e = absurd (cc)

-- the rules of a packet, from those of its header
pub no_header_fault : (bytes : List ℕ) → IsSound bytes → header_fault bytes ≡ None
no_header_fault bytes is =
    held _ Sync _ (eq-eqb (u16_at bytes 0) 0xEB25 is.sync) ∙ held _ HeaderSum _ (eq-eqb (u16_at bytes 22) (sum_of_words16 (take 22 bytes)) is.total) ∙ held _ Length [] is.lengths

pub fault_in_header : (bytes : List ℕ) (f : PacketFault) → 24 ≤ length bytes → header_fault bytes ≡ Some f → framing_fault bytes ≡ Some f
fault_in_header bytes f long e = held _ Truncated _ (le-leb 24 (length bytes) long) ∙ still_broken (header_rules bytes) _ f e

pub no_fault : (bytes : List ℕ) → 24 ≤ length bytes → header_fault bytes ≡ None → (header_at bytes).packet_len ≤ length bytes → framing_fault bytes ≡ None
no_fault bytes long e whole =
    held _ Truncated _ (le-leb 24 (length bytes) long)
    ∙ still_unbroken (header_rules bytes) ((nat_le (header_at bytes).packet_len (length bytes), Truncated) ∷ []) e
    ∙ held _ Truncated [] (le-leb (header_at bytes).packet_len (length bytes) whole)

-- what is known of a packet without a fault
pub record IsWhole (bytes : List ℕ) : Type 0 where
  pub long : 24 ≤ length bytes
  pub sound : IsSound bytes
  pub whole : (header_at bytes).packet_len ≤ length bytes

pub whole_of : (bytes : List ℕ) → framing_fault bytes ≡ None → IsWhole bytes
whole_of bytes e =
    let a = none_broken _ _ _ e in
    let b = none_broken _ _ _ a.1 in
    let c = none_broken _ _ _ b.1 in
    let d = none_broken _ _ _ c.1 in
    let f = none_broken _ _ _ d.1 in
    record {
      long = leb-true 24 (length bytes) a.0;
      sound = record { sync = eqb-true _ _ b.0; total = eqb-true _ _ c.0; lengths = d.0 };
      whole = leb-true (header_at bytes).packet_len (length bytes) f.0;
    }
