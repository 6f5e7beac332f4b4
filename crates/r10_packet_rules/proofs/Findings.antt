-- What each answer of the strict reading says.
use Rattle.std.proofs.Common.{◌≡◌, ◌↔◌, ℕ, ◌+◌, ◌%◌, ◌<◌, ◌≤◌, Bool, true, false, IsTrue, List, length, sym, subst, ap, ◌∙◌, Some, None, arith, lit≤}
use Rattle.std.proofs.lemmas.List.{length-take-le}
use Rattle.r10_count.specs.Bytes.{flag_at}
use Rattle.r10_packet.specs.Framing.{framing_fault, header_at, body_at, has_data_checksum}
use Rattle.r10_packet.specs.declared.header.Header.{Header}
use Rattle.r10_packet.specs.declared.fault.PacketFault.{PacketFault}
use Rattle.r10_packet.proofs.Fields.{AreBytes}
use Rattle.r10_packet.proofs.NoRuleBroken.{whole_of}
use Rattle.r10_body.specs.Bodies.{IsBodyOf}
use Rattle.r10_body.specs.Content.{Content, FitsContent, body_of, type_of}
use Rattle.r10_body.specs.Packets.{Packet, flagged, packet_bytes}
use Rattle.r10_body.specs.Rules.{KeepsChecksums}
use Rattle.r10_body.specs.Faults.{KeepsHeader, KeepsFiller, ReadsPacket, BreaksRule}
use Rattle.r10_body.specs.Faults as broken_rules
use Rattle.r10_body.specs.Foreign.{is_opaque_packet, opaque_at}
use Rattle.r10_packet_rules.specs.Header.{IsCheckedRight, IsOwnHeader, AreFactsOfHeader, packet_of, goes_unchecked}
use Rattle.r10_packet_rules.specs.declared.facts.Facts.{Facts}
use Rattle.r10_packet_rules.specs.Strict.{FindsPacket}
use Rattle.r10_packet_rules.specs.declared.strict.StrictReading.TheVariants.{Strict, Breaks}
use Rattle.r10_packet_rules.proofs.First.{foreign_first}
use Rattle.r10_packet_rules.proofs.Spelled.{framed, reads_made}

-- ---- the least rule

one_or_more : (before : List Packet) (bytes : List ℕ) (closed : Bool) (m : ℕ) → BreaksRule before bytes closed m → 1 ≤ m
one_or_more before bytes closed m (broken_rules.version breaks) = lit≤ tt
one_or_more before bytes closed m (broken_rules.filler is breaks) = lit≤ tt
one_or_more before bytes closed m (broken_rules.body breaks) = lit≤ tt
one_or_more before bytes closed m (broken_rules.start p reads breaks) = lit≤ tt
one_or_more before bytes closed m (broken_rules.channels p reads breaks) = lit≤ tt
one_or_more before bytes closed m (broken_rules.sequence p reads breaks) = lit≤ tt
one_or_more before bytes closed m (broken_rules.counts p reads breaks) = lit≤ tt
one_or_more before bytes closed m (broken_rules.index p reads breaks) = lit≤ tt
one_or_more before bytes closed m (broken_rules.unclosed p reads index unclosed) = lit≤ tt
one_or_more before bytes closed m (broken_rules.counters p reads breaks) = lit≤ tt
one_or_more before bytes closed m (broken_rules.events p reads breaks) = lit≤ tt
one_or_more before bytes closed m (broken_rules.reports p loss reads is breaks) = lit≤ tt

two_or_more : (before : List Packet) (bytes : List ℕ) (closed : Bool) (m : ℕ) → KeepsHeader bytes → BreaksRule before bytes closed m → 2 ≤ m
two_or_more before bytes closed m keeps (broken_rules.version breaks) = absurd (breaks keeps)
two_or_more before bytes closed m keeps (broken_rules.filler is breaks) = lit≤ tt
two_or_more before bytes closed m keeps (broken_rules.body breaks) = lit≤ tt
two_or_more before bytes closed m keeps (broken_rules.start p reads breaks) = lit≤ tt
two_or_more before bytes closed m keeps (broken_rules.channels p reads breaks) = lit≤ tt
two_or_more before bytes closed m keeps (broken_rules.sequence p reads breaks) = lit≤ tt
two_or_more before bytes closed m keeps (broken_rules.counts p reads breaks) = lit≤ tt
two_or_more before bytes closed m keeps (broken_rules.index p reads breaks) = lit≤ tt
two_or_more before bytes closed m keeps (broken_rules.unclosed p reads index unclosed) = lit≤ tt
two_or_more before bytes closed m keeps (broken_rules.counters p reads breaks) = lit≤ tt
two_or_more before bytes closed m keeps (broken_rules.events p reads breaks) = lit≤ tt
two_or_more before bytes closed m keeps (broken_rules.reports p loss reads is breaks) = lit≤ tt

three_or_more : (before : List Packet) (bytes : List ℕ) (closed : Bool) (m : ℕ) → KeepsHeader bytes → (opaque_at bytes ≡ false → KeepsFiller bytes) → BreaksRule before bytes closed m → 3 ≤ m
three_or_more before bytes closed m keeps least (broken_rules.version breaks) = absurd (breaks keeps)
three_or_more before bytes closed m keeps least (broken_rules.filler is breaks) = absurd (breaks (least is))
three_or_more before bytes closed m keeps least (broken_rules.body breaks) = lit≤ tt
three_or_more before bytes closed m keeps least (broken_rules.start p reads breaks) = lit≤ tt
three_or_more before bytes closed m keeps least (broken_rules.channels p reads breaks) = lit≤ tt
three_or_more before bytes closed m keeps least (broken_rules.sequence p reads breaks) = lit≤ tt
three_or_more before bytes closed m keeps least (broken_rules.counts p reads breaks) = lit≤ tt
three_or_more before bytes closed m keeps least (broken_rules.index p reads breaks) = lit≤ tt
three_or_more before bytes closed m keeps least (broken_rules.unclosed p reads index unclosed) = lit≤ tt
three_or_more before bytes closed m keeps least (broken_rules.counters p reads breaks) = lit≤ tt
three_or_more before bytes closed m keeps least (broken_rules.events p reads breaks) = lit≤ tt
three_or_more before bytes closed m keeps least (broken_rules.reports p loss reads is breaks) = lit≤ tt

-- ---- the answers

pub not_framed : (bytes : List ℕ) (f : PacketFault) → AreBytes bytes → framing_fault bytes ≡ Some f → FindsPacket bytes (Breaks 3)
not_framed bytes f fits fault =
    (λ p reads. (let sound = (framed bytes p reads).sound in absurd cc), λ foreign. (let sound = (foreign_first bytes fits foreign).sound in absurd cc))

pub not_own : (bytes : List ℕ) → (IsOwnHeader (header_at bytes) → ⊥) → FindsPacket bytes (Breaks 1)
not_own bytes never = (
  λ p reads. never (framed bytes p reads).keeps,
  λ foreign. record { early = lit≤ tt; broken = λ before closed. broken_rules.version never; least = λ before closed m breaks. one_or_more before bytes closed m breaks },
)

-- the checksum is right and the filler is the least
abbrev pub IsFilled : List ℕ → Type 0
IsFilled bytes = (has_data_checksum bytes ≡ true) × KeepsFiller bytes

pub not_filled : (bytes : List ℕ) → AreBytes bytes → IsOwnHeader (header_at bytes) → (IsFilled bytes → ⊥) → opaque_at bytes ≡ false → FindsPacket bytes (Breaks 2)
not_filled bytes fits keeps never read = (
  λ p reads. (let is = framed bytes p reads in never (is.checksum, is.filler)),
  λ foreign. record {
    early = lit≤ tt;
    broken = λ before closed. broken_rules.filler read (λ filler. never ((foreign_first bytes fits foreign).checked read, filler));
    least = λ before closed m breaks. two_or_more before bytes closed m keeps breaks;
  },
)

-- where nothing is read, and neither of the first two rules is broken
pub not_read : (bytes : List ℕ) → IsOwnHeader (header_at bytes) → (opaque_at bytes ≡ false → KeepsFiller bytes) → ((p : Packet) → ReadsPacket bytes p → ⊥) → FindsPacket bytes (Breaks 3)
not_read bytes keeps least never = (
  never,
  λ foreign. record {
    early = lit≤ tt;
    broken = λ before closed. broken_rules.body (λ found. never found.0 found.1);
    least = λ before closed m breaks. three_or_more before bytes closed m keeps least breaks;
  },
)

pub not_filled_opaque : (bytes : List ℕ) → IsOwnHeader (header_at bytes) → (IsFilled bytes → ⊥) → opaque_at bytes ≡ true → FindsPacket bytes (Breaks 3)
not_filled_opaque bytes keeps never opaque =
    not_read bytes keeps (λ read. absurd (let differ : true ≡ false = sym opaque ∙ read in cc)) (λ p reads. (let is = framed bytes p reads in never (is.checksum, is.filler)))

-- the body of a packet that is read
pub body_read : (bytes : List ℕ) (p : Packet) → ReadsPacket bytes p → IsBodyOf (header_at bytes).data_type (header_at bytes).counter p.content (body_at bytes)
body_read bytes p reads =
    let is = framed bytes p reads in
    let type : (header_at bytes).data_type ≡ type_of p.content = ap (λ (h : Header). h.data_type) is.header in
    let counter : (header_at bytes).counter ≡ p.counter = ap (λ (h : Header). h.counter) is.header in
    record { type_is = sym type; fits = subst (λ n. FitsContent n p.content) (sym counter) reads.0.content; body_is = is.body_is ∙ ap (λ n. body_of n p.content) (sym counter) }

-- ---- the same from the parts that were read

pub is_own : (bytes : List ℕ) (h : Header) (r : Bool) → h ≡ header_at bytes → (IsTrue r ↔ IsOwnHeader h) → r ≡ true → IsOwnHeader (header_at bytes)
is_own bytes h r same iff is = subst IsOwnHeader same (iff.0 is)

pub is_not_own : (bytes : List ℕ) (h : Header) (r : Bool) → h ≡ header_at bytes → (IsTrue r ↔ IsOwnHeader h) → r ≡ false → IsOwnHeader (header_at bytes) → ⊥
is_not_own bytes h r same iff not own = (let is : r ≡ true = iff.1 (subst IsOwnHeader (sym same) own) in let differ : true ≡ false = sym is ∙ not in absurd cc)

pub is_not_filled : (bytes : List ℕ) (r : Bool) → (IsTrue r ↔ IsFilled bytes) → r ≡ false → IsFilled bytes → ⊥
is_not_filled bytes r iff not filled = (let is : r ≡ true = iff.1 filled in let differ : true ≡ false = sym is ∙ not in absurd cc)

pub opaque_told : (bytes : List ℕ) (h : Header) (b : List ℕ) (r reported : Bool) → h ≡ header_at bytes → b ≡ body_at bytes → r ≡ is_opaque_packet h b → r ≡ reported → opaque_at bytes ≡ reported
opaque_told bytes h b r reported eh eb is told_is = sym (is ∙ ap (λ (g : Header). is_opaque_packet g b) eh ∙ ap (is_opaque_packet (header_at bytes)) eb) ∙ told_is

low_flag : (b : Bool) (check : ℕ) → check < 4 → (flag_at 4 b + check) % 4 ≡ check
low_flag true check lt = omega arith
low_flag false check lt = omega arith

pub wrongly_checked : (bytes : List ℕ) (h : Header) (r : Bool) → h ≡ header_at bytes → IsOwnHeader (header_at bytes) → IsFilled bytes → (IsTrue r ↔ IsCheckedRight h) → r ≡ false → FindsPacket bytes (Breaks 3)
wrongly_checked bytes h r eh own filled iff not =
    not_read bytes own (λ _. filled.1)
    (λ p reads.
    let is = framed bytes p reads in
    let flags : (header_at bytes).flags ≡ flag_at 4 (flagged p) + p.check = ap (λ (g : Header). g.flags) is.header in
    let type : (header_at bytes).data_type ≡ type_of p.content = ap (λ (g : Header). g.data_type) is.header in
    let right : IsCheckedRight (header_at bytes) =
    λ t. ap (λ n. n % 4) flags ∙ low_flag (flagged p) p.check reads.0.check ∙ reads.1 (subst (λ n. IsTrue (goes_unchecked n)) type t) in
    let yes : r ≡ true = iff.1 (subst IsCheckedRight (sym eh) right) in
    let differ : true ≡ false = sym yes ∙ not in absurd cc)

pub found_strict : (bytes : List ℕ) (h : Header) (b : List ℕ) (f : Facts) (content : Content) → AreBytes bytes → framing_fault bytes ≡ None → h ≡ header_at bytes → b ≡ body_at bytes
    → IsOwnHeader (header_at bytes) → IsFilled bytes → IsCheckedRight h → IsBodyOf h.data_type h.counter content b → AreFactsOfHeader f h content → FindsPacket bytes (Strict f)
found_strict bytes h b f content fits sound eh eb own filled right is tells =
    let g = header_at bytes in
    let p = packet_of g content in
    let body : IsBodyOf g.data_type g.counter content (body_at bytes) =
    subst (λ (x : Header). IsBodyOf x.data_type x.counter content (body_at bytes)) eh (subst (λ (y : List ℕ). IsBodyOf h.data_type h.counter content y) eb is) in
    let sums : KeepsChecksums p = λ t. subst IsCheckedRight eh right (subst (λ n. IsTrue (goes_unchecked n)) body.type_is t) in
    let reads = reads_made bytes content fits sound filled.0 own filled.1 body sums in
    let size : g.packet_len ≡ length (packet_bytes p) = sym (length-take-le g.packet_len bytes (whole_of bytes sound).whole) ∙ ap (λ (t : List ℕ). length t) reads.2 in
    (p, reads, subst (λ (x : Header). AreFactsOfHeader f x content) eh tells (sym body.type_is) size)

pub found_nothing : (bytes : List ℕ) (h : Header) (b : List ℕ) → h ≡ header_at bytes → b ≡ body_at bytes → IsOwnHeader (header_at bytes) → IsFilled bytes
    → ((content : Content) → IsBodyOf h.data_type h.counter content b → ⊥) → FindsPacket bytes (Breaks 3)
found_nothing bytes h b eh eb own filled none =
    not_read bytes own (λ _. filled.1)
    (λ p reads. none p.content (subst (λ (x : Header). IsBodyOf x.data_type x.counter p.content b) (sym eh)
    (subst (λ (y : List ℕ). IsBodyOf (header_at bytes).data_type (header_at bytes).counter p.content y) (sym eb) (body_read bytes p reads))))
