-- A body's entries, of one length each.
use Rattle.std.proofs.Common.{◌≡◌, ℕ, ◌*◌, ◌/◌, ◌^◌, ◌<◌, List, [], ◌∷◌, ◌++◌, length, drop, refl, sym, ap, subst, ◌∙◌, arith}
use Rattle.std.proofs.lemmas.List.{append-nil, append_assoc, length-drop, nil_from_length}
use Rattle.r10_count.specs.Bytes.{le_bytes}
use Rattle.r10_count.proofs.Fronts.{same_u32}
use Rattle.r10_count.proofs.Fixed.{fixed_parts}
use Rattle.r10_body.specs.Foreign.{IsForeignBody}
use Rattle.r10_survey.specs.Entries.{AreEach, AreEntriesOfPackets, AreEntriesOf, AreEntriesIn, HasEntries}

each_of : (size : ℕ) (rest : List ℕ) → 0 < size → length rest ≡ length rest / size * size → (entries : List (List ℕ)) × AreEach size entries rest × (length entries ≡ length rest / size)
each_of size rest some e =
    let parts = fixed_parts size (length rest / size) rest e in
    (parts.0, (parts.1, parts.3), parts.2)

events_are : (bytes : List ℕ) (entries : List (List ℕ)) → AreEach 12 entries bytes → AreEntriesOfPackets 0x02 bytes entries
events_are bytes entries is = record {
  event = λ e. is;
  time = λ e. absurd (omega (arith, e));
  bus = λ e. absurd (omega (arith, e));
  discrete = λ e. absurd (omega (arith, e));
  message = λ e. absurd (omega (arith, e));
  arinc = λ e. absurd (omega (arith, e));
  uart = λ e. absurd (omega (arith, e));
  none = λ e. absurd cc;
}

time_is : (bytes : List ℕ) (entries : List (List ℕ)) → AreEach 8 entries bytes → AreEntriesOfPackets 0x11 bytes entries
time_is bytes entries is = record {
  event = λ e. absurd (omega (arith, e));
  time = λ e. is;
  bus = λ e. absurd (omega (arith, e));
  discrete = λ e. absurd (omega (arith, e));
  message = λ e. absurd (omega (arith, e));
  arinc = λ e. absurd (omega (arith, e));
  uart = λ e. absurd (omega (arith, e));
  none = λ e. absurd cc;
}

changes_are : (bytes : List ℕ) (entries : List (List ℕ)) → AreEach 12 entries bytes → AreEntriesOfPackets 0x29 bytes entries
changes_are bytes entries is = record {
  event = λ e. absurd (omega (arith, e));
  time = λ e. absurd (omega (arith, e));
  bus = λ e. absurd (omega (arith, e));
  discrete = λ e. is;
  message = λ e. absurd (omega (arith, e));
  arinc = λ e. absurd (omega (arith, e));
  uart = λ e. absurd (omega (arith, e));
  none = λ e. absurd cc;
}

words_are : (bytes : List ℕ) (entries : List (List ℕ)) → AreEach 8 entries bytes → AreEntriesOfPackets 0x38 bytes entries
words_are bytes entries is = record {
  event = λ e. absurd (omega (arith, e));
  time = λ e. absurd (omega (arith, e));
  bus = λ e. absurd (omega (arith, e));
  discrete = λ e. absurd (omega (arith, e));
  message = λ e. absurd (omega (arith, e));
  arinc = λ e. is;
  uart = λ e. absurd (omega (arith, e));
  none = λ e. absurd cc;
}

-- a body of a type has the entries that stand after its word
of_rest : (type known word : ℕ) (rest body : List ℕ) (entries : List (List ℕ)) (n : ℕ) → type ≡ known → body ≡ le_bytes 4 word ++ rest → AreEntriesOfPackets known rest entries → length entries ≡ n → HasEntries type body n
of_rest type known word rest body entries n t e are number =
    let left : drop 4 body ≡ rest = ap (drop 4) e in
    record { entries = entries; are = subst (λ k. AreEntriesOfPackets k (drop 4 body) entries) (sym t) (subst (λ bytes. AreEntriesOfPackets known bytes entries) (sym left) are); number = sym number }

pub of_events : (type word : ℕ) (rest body : List ℕ) → type ≡ 0x02 → word < 2 ^ 32 → body ≡ le_bytes 4 word ++ rest → IsForeignBody type body → HasEntries type body (length rest / 12)
of_events type word rest body t lt e foreign =
    let reported = foreign.event t in
    let same = same_u32 word reported.0 rest reported.1 lt reported.2 (sym e ∙ reported.4) in
    let each = each_of 12 rest (omega arith) (omega (arith, ap length same.1, reported.3)) in
    of_rest type 0x02 word rest body each.0 (length rest / 12) t e (events_are rest each.0 each.1) each.2

pub of_time : (type word : ℕ) (rest body : List ℕ) → type ≡ 0x11 → word < 2 ^ 32 → body ≡ le_bytes 4 word ++ rest → IsForeignBody type body → HasEntries type body (length rest / 8)
of_time type word rest body t lt e foreign =
    let reported = foreign.time t in
    let each = each_of 8 rest (omega arith) (omega (arith, reported, ap length e)) in
    of_rest type 0x11 word rest body each.0 (length rest / 8) t e (time_is rest each.0 each.1) each.2

pub of_changes : (type word : ℕ) (rest body : List ℕ) → type ≡ 0x29 → word < 2 ^ 32 → body ≡ le_bytes 4 word ++ rest → IsForeignBody type body → HasEntries type body (length rest / 12)
of_changes type word rest body t lt e foreign =
    let reported = foreign.discrete t in
    let same = same_u32 word reported.0 rest reported.1 lt reported.3 (sym e ∙ reported.5) in
    let each = each_of 12 rest (omega arith) (omega (arith, ap length same.1, reported.4)) in
    of_rest type 0x29 word rest body each.0 (length rest / 12) t e (changes_are rest each.0 each.1) each.2

pub of_words : (type word : ℕ) (rest body : List ℕ) → type ≡ 0x38 → word < 2 ^ 32 → body ≡ le_bytes 4 word ++ rest → IsForeignBody type body → HasEntries type body (length rest / 8)
of_words type word rest body t lt e foreign =
    let reported = foreign.arinc t in
    let same = same_u32 word reported.0 rest reported.1 lt reported.2 (sym e ∙ reported.4) in
    let each = each_of 8 rest (omega arith) (omega (arith, ap length same.1, reported.3)) in
    of_rest type 0x38 word rest body each.0 (length rest / 8) t e (words_are rest each.0 each.1) each.2

-- a body without a whole word has none
pub of_none : (type : ℕ) (body : List ℕ) → length body < 4 → HasEntries type body 0
of_none type body short =
    let none : drop 4 body ≡ [] = nil_from_length (drop 4 body) (omega (arith, length-drop 4 body, short)) in
    record {
      entries = [];
      are = record {
        event = λ e. (tt, none);
        time = λ e. (tt, none);
        bus = λ e. (tt, none);
        discrete = λ e. (tt, none);
        message = λ e. (tt, none);
        arinc = λ e. (tt, none);
        uart = λ e. (tt, none);
        none = λ e. refl;
      };
      number = refl;
    }

-- the entries of packets, with one more
pub entries_more : (packets : List (List ℕ)) (p : List ℕ) (entries own : List (List ℕ)) → AreEntriesIn packets entries → AreEntriesOf p own → AreEntriesIn (packets ++ p ∷ []) (entries ++ own)
entries_more [] p entries own are of = (own, [], ap (λ t. t ++ own) are ∙ sym (append-nil own), of, refl)
entries_more (q ∷ packets) p entries own are of =
    let left = entries_more packets p are.1 own are.4 of in
    (are.0, are.1 ++ own, ap (λ t. t ++ own) are.2 ∙ append_assoc are.0 are.1 own, are.3, left)

pub lone_entries : (p : List ℕ) (own : List (List ℕ)) → AreEntriesOf p own → AreEntriesIn (p ∷ []) own
lone_entries p own of = (own, [], sym (append-nil own), of, refl)
