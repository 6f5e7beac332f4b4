-- What stretches say of the file.
use Rattle.std.proofs.Common.{◌≡◌, ℕ, ◌+◌, ◌-◌, ◌<◌, inl, List, [], ◌∷◌, ◌++◌, length, refl, sym, ap, ◌∙◌, arith, append_assoc}
use Rattle.std.specs.Prelude.{count_by}
use Rattle.std.specs.List.{AllByRecursion, concat}
use Rattle.std.proofs.lemmas.List.{length-append}
use Rattle.r10_body.specs.Foreign.{IsForeignFile, IsForeignPacket, opaque_at}
use Rattle.r10_body.specs.Faults.{IsFaulty}
use Rattle.r10_body.specs.declared.fault.FileFault.{FileFault}
use Rattle.r10_survey.specs.Parts.{Part, packet, stray, AreParts, IsBroken, packets_of}
use Rattle.r10_survey.specs.Damage.{stretches_after, stretches_of}
use Rattle.r10_survey.specs.declared.damage.Stretch.{Stretch}
use Rattle.r10_survey.proofs.Stretches.{one_ended}

-- where bytes stand last that no packet has, a stretch comes, from the first of them on
pub record ComesFirst (at lost : ℕ) (stretches : List Stretch) : Type 0 where
  pub first : Stretch
  pub more : List Stretch
  pub are : stretches ≡ first ∷ more
  pub offset : first.offset ≡ at - lost

some_stretch : (parts : List Part) (at lost : ℕ) → (lost ≡ 0 → ⊥) → ComesFirst at lost (stretches_after at lost parts)
some_stretch [] at lost some = record {
  first = record { offset = at - lost; length = lost };
  more = [];
  are = one_ended at lost (record { offset = at - lost; length = lost }) some refl refl;
  offset = refl;
}
some_stretch (packet p ∷ parts) at lost some = record {
  first = record { offset = at - lost; length = lost };
  more = stretches_after (at + length p) 0 parts;
  are = ap (λ t. t ++ stretches_after (at + length p) 0 parts) (one_ended at lost (record { offset = at - lost; length = lost }) some refl refl);
  offset = refl;
}
some_stretch (stray b ∷ parts) at lost some =
    let later = some_stretch parts (at + 1) (lost + 1) (λ e. absurd (omega (arith, e))) in
    record { first = later.first; more = later.more; are = later.are; offset = omega (arith, later.offset) }

-- ---- no stretch

pub record AreWhole (file : List ℕ) (packets : List (List ℕ)) : Type 0 where
  pub bytes_are : file ≡ concat packets
  pub foreign : AllByRecursion IsForeignPacket packets

all_packets : (parts : List Part) (at : ℕ) (file : List ℕ) → AreParts parts file [] → stretches_after at 0 parts ≡ [] → AreWhole file (packets_of parts)
all_packets [] at file are none = record { bytes_are = are; foreign = tt }
all_packets (packet p ∷ parts) at file are none =
    let rest = all_packets parts (at + length p) are.0 are.3 none in
    record { bytes_are = are.1 ∙ ap (λ t. p ++ t) rest.bytes_are; foreign = (are.2, rest.foreign) }
all_packets (stray b ∷ parts) at file are none =
    let there = some_stretch parts (at + 1) 1 (λ e. absurd (omega (arith, e))) in
    let both : [] ≡ there.first ∷ there.more = sym none ∙ there.are in
    absurd (cc)

some_packet : (file : List ℕ) (packets : List (List ℕ)) → file ≡ concat packets → 0 < length file → 0 < length packets
some_packet file [] is some = absurd (omega (arith, some, ap length is))
some_packet file (p ∷ packets) is some = omega arith

pub lenient : (file : List ℕ) (parts : List Part) → AreParts parts file [] → stretches_of parts ≡ [] → 0 < length file → IsForeignFile file (count_by opaque_at (packets_of parts))
lenient file parts are none some =
    let whole = all_packets parts 0 file are none in
    (packets_of parts, whole.bytes_are, some_packet file (packets_of parts) whole.bytes_are some, whole.foreign, refl)

-- ---- a stretch

pub record IsBrokenAt (at offset : ℕ) (file : List ℕ) : Type 0 where
  pub packets : List (List ℕ)
  pub rest : List ℕ
  pub bytes_are : file ≡ concat packets ++ rest
  pub offset_is : offset ≡ at + length (concat packets)
  pub foreign : AllByRecursion IsForeignPacket packets
  pub some : 0 < length rest
  pub broken : IsBroken rest

first_broken_at : (parts : List Part) (at : ℕ) (file : List ℕ) (first : Stretch) (more : List Stretch) → AreParts parts file [] → stretches_after at 0 parts ≡ first ∷ more → IsBrokenAt at first.offset file
first_broken_at [] at file first more are is = (let none : [] ≡ first ∷ more = is in absurd (cc))
first_broken_at (packet p ∷ parts) at file first more are is =
    let later = first_broken_at parts (at + length p) are.0 first more are.3 is in
    record {
      packets = p ∷ later.packets;
      rest = later.rest;
      bytes_are = are.1 ∙ ap (λ t. p ++ t) later.bytes_are ∙ sym (append_assoc p (concat later.packets) later.rest);
      offset_is = omega (arith, later.offset_is, length-append p (concat later.packets));
      foreign = (are.2, later.foreign);
      some = later.some;
      broken = later.broken;
    }
first_broken_at (stray b ∷ parts) at file first more are is =
    let there = some_stretch parts (at + 1) 1 (λ e. absurd (omega (arith, e))) in
    let both : there.first ∷ there.more ≡ first ∷ more = sym there.are ∙ is in
    let same : there.first ≡ first = cc in
    record {
      packets = [];
      rest = file;
      bytes_are = refl;
      offset_is = omega (arith, there.offset, ap (λ (s : Stretch). s.offset) same);
      foreign = tt;
      some = omega (arith, ap length are.1);
      broken = are.2;
    }

pub faulty : (file : List ℕ) (parts : List Part) (first : Stretch) (more : List Stretch) → AreParts parts file [] → stretches_of parts ≡ first ∷ more → (fault : FileFault) × IsFaulty file first.offset fault
faulty file parts first more are is =
    let there = first_broken_at parts 0 file first more are is in
    (there.broken.0, (there.packets, there.rest, there.bytes_are, omega (arith, there.offset_is), there.foreign, inl there.some, there.broken.1))
