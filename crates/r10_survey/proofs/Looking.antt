-- What is seen of a packet, by what is read of it where it stands.
use Rattle.std.proofs.Common.{◌≡◌, ℕ, Bool, true, false, List, [], length, take, drop, sym, ap, subst, ◌∙◌, refl, None, arith}
use Rattle.std.specs.Prelude.{◌↔◌}
use Rattle.std.proofs.lemmas.List.{length-take-le}
use Rattle.r10_packet.specs.Framing.{framing_fault, header_at, body_at, has_data_checksum}
use Rattle.r10_packet.specs.declared.header.Header.{Header}
use Rattle.r10_packet.proofs.NoRuleBroken.{lengths_of, whole_of}
use Rattle.r10_body.specs.Foreign.{opaque_at, IsForeignBody, IsForeignPacket}
use Rattle.r10_body.specs.Faults.{first_packet}
use Rattle.r10_packet_rules.proofs.Fronts.{first_stays, first_joined, opaque_first, is_foreign}
use Rattle.r10_survey.specs.Entries.{AreEntriesOfPackets, AreEntriesOf, HasEntries}
use Rattle.r10_survey.specs.Looks.{IsSeen, IsSeenFirst}
use Rattle.r10_survey.specs.declared.look.SeenPacket.{SeenPacket}

-- a packet stands first in bytes, and has so many entries
abbrev pub HasEntriesAt : List ℕ → ℕ → Type 0
HasEntriesAt bytes n = (entries : List (List ℕ)) × AreEntriesOf bytes entries × (n ≡ length entries)

entries_first : (bytes : List ℕ) → framing_fault bytes ≡ None → (entries : List (List ℕ)) → AreEntriesOf bytes entries → AreEntriesOf (first_packet bytes) entries
entries_first bytes framed entries are =
    let still = first_stays bytes framed in
    let joined = first_joined bytes in
    let header : header_at bytes ≡ header_at (first_packet bytes) = sym (ap header_at joined) ∙ still.header in
    let body_is : body_at bytes ≡ body_at (first_packet bytes) = sym (ap body_at joined) ∙ still.body_is in
    record {
      read = λ e.
          let same : AreEntriesOfPackets (header_at (first_packet bytes)).data_type (drop 4 (body_at bytes)) entries =
          subst (λ (h : Header). AreEntriesOfPackets h.data_type (drop 4 (body_at bytes)) entries) header (are.read (sym (opaque_first bytes framed) ∙ e)) in
          subst (λ t. AreEntriesOfPackets (header_at (first_packet bytes)).data_type (drop 4 t) entries) body_is same;
      unread = λ e. are.unread (sym (opaque_first bytes framed) ∙ e);
    }

-- one that is not read has none
pub none_at : (bytes : List ℕ) → opaque_at bytes ≡ true → HasEntriesAt bytes 0
none_at bytes reported = ([], record { read = λ clear. absurd (cc (reported, clear)); unread = λ e. refl }, refl)

-- another has those of its body
pub some_at : (bytes : List ℕ) (h : Header) (body : List ℕ) (n : ℕ) → h ≡ header_at bytes → body ≡ body_at bytes → opaque_at bytes ≡ false → HasEntries h.data_type body n → HasEntriesAt bytes n
some_at bytes h body n header body_is clear has =
    let same : AreEntriesOfPackets (header_at bytes).data_type (drop 4 body) has.entries = subst (λ (t : Header). AreEntriesOfPackets t.data_type (drop 4 body) has.entries) header has.are in
    (has.entries, record { read = λ e. subst (λ t. AreEntriesOfPackets (header_at bytes).data_type (drop 4 t) has.entries) body_is same; unread = λ reported. absurd (cc (reported, clear)) }, has.number)

seen_of : (bytes : List ℕ) (s : SeenPacket) → framing_fault bytes ≡ None → s.header ≡ header_at bytes → s.length ≡ (header_at bytes).packet_len
    → s.opaque ≡ opaque_at bytes → s.right ≡ has_data_checksum bytes → HasEntriesAt bytes s.entries → IsSeen s (first_packet bytes)
seen_of bytes s framed header size opaque right has =
    let still = first_stays bytes framed in
    let joined = first_joined bytes in
    record {
      header = header ∙ sym (ap header_at joined) ∙ still.header;
      size = size ∙ sym (length-take-le (header_at bytes).packet_len bytes (whole_of bytes framed).whole);
      opaque = opaque ∙ sym (opaque_first bytes framed);
      right = right ∙ sym (ap has_data_checksum joined) ∙ still.sum;
      entries = has.0;
      entries_are = entries_first bytes framed has.0 has.1;
      entry_number = has.2;
    }

pub seen_first : (bytes : List ℕ) (s : SeenPacket) → framing_fault bytes ≡ None → s.header ≡ header_at bytes → s.length ≡ (header_at bytes).packet_len
    → s.opaque ≡ opaque_at bytes → s.right ≡ has_data_checksum bytes → HasEntriesAt bytes s.entries
    → (opaque_at bytes ≡ false → (has_data_checksum bytes ≡ true) × IsForeignBody (header_at bytes).data_type (body_at bytes)) → IsSeenFirst bytes s
seen_first bytes s framed header size opaque right has judged =
    let whole = whole_of bytes framed in
    let lengths = lengths_of (header_at bytes) whole.sound.lengths in
    record {
      least = omega (arith, size, lengths.least);
      inside = omega (arith, size, whole.whole);
      foreign = subst (λ n. IsForeignPacket (take n bytes)) (sym size) (is_foreign bytes framed judged);
      seen = subst (λ n. IsSeen s (take n bytes)) (sym size) (seen_of bytes s framed header size opaque right has);
    }

-- two answers to one question are the same
pub same_answer : {P : Type 0} (a b : Bool) → (a ≡ true) ↔ P → P ↔ (b ≡ true) → a ≡ b
same_answer true b e f = sym (f.0 (e.0 refl))
same_answer false true e f = e.1 (f.1 refl)
same_answer false false e f = refl
