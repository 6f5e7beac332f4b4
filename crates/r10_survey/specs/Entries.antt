-- The entries of packets that are read.
use Rattle.std.specs.Prelude.{◌≡◌, ℕ, ◌==◌, Bool, true, false, Option, Some, List, [], ◌∷◌, ◌++◌, length, drop}
use Rattle.std.specs.List.{AllByRecursion, concat, list_any}
use Rattle.r10_count.specs.Form.{IsEntryBytes}
use Rattle.r10_count.specs.Texts.{told_size}
use Rattle.r10_b1553.specs.Bus.{bus_told_size}
use Rattle.r10_packet.specs.Framing.{header_at, body_at}
use Rattle.r10_packet.specs.Types.{type_event, type_time, type_bus, type_discrete, type_message, type_arinc, type_uart}
use Rattle.r10_body.specs.Foreign.{opaque_at}

-- the data types whose entries are counted: events, a time, MIL-STD-1553 messages, changes of discretes, messages, ARINC 429
-- words, UART messages
abbrev pub entry_types : List ℕ
entry_types = type_event ∷ type_time ∷ type_bus ∷ type_discrete ∷ type_message ∷ type_arinc ∷ type_uart ∷ []

abbrev pub has_entries : ℕ → Bool
has_entries type = list_any (λ t. t == type) entry_types

-- bytes are entries end to end, of each of which so many bytes tell the length
abbrev pub AreCut : ℕ → (List ℕ → Option ℕ) → List (List ℕ) → List ℕ → Type 0
AreCut front reported entries bytes = AllByRecursion (IsEntryBytes front reported) entries × (bytes ≡ concat entries)

-- bytes are entries of so many bytes each
abbrev pub AreEach : ℕ → List (List ℕ) → List ℕ → Type 0
AreEach size entries bytes = AreCut size (λ front. Some size) entries bytes

-- these are the entries in the bytes after the channel specific data word, by the data type: an event has a stamp and a word,
-- a time four words of digits, a change a stamp and the states, an ARINC 429 word a header and the word; the others tell their
-- lengths
pub record AreEntriesOfPackets (type : ℕ) (bytes : List ℕ) (entries : List (List ℕ)) : Type 0 where
  pub event : type ≡ type_event → AreEach 12 entries bytes
  pub time : type ≡ type_time → AreEach 8 entries bytes
  pub bus : type ≡ type_bus → AreCut 14 bus_told_size entries bytes
  pub discrete : type ≡ type_discrete → AreEach 12 entries bytes
  pub message : type ≡ type_message → AreCut 12 told_size entries bytes
  pub arinc : type ≡ type_arinc → AreEach 8 entries bytes
  pub uart : type ≡ type_uart → AreCut 12 told_size entries bytes
  pub none : has_entries type ≡ false → entries ≡ []

-- a body has so many entries
pub record HasEntries (type : ℕ) (body : List ℕ) (n : ℕ) : Type 0 where
  pub entries : List (List ℕ)
  pub are : AreEntriesOfPackets type (drop 4 body) entries
  pub number : n ≡ length entries

-- these are the entries of a packet; one that is not read has none
pub record AreEntriesOf (p : List ℕ) (entries : List (List ℕ)) : Type 0 where
  pub read : opaque_at p ≡ false → AreEntriesOfPackets (header_at p).data_type (drop 4 (body_at p)) entries
  pub unread : opaque_at p ≡ true → entries ≡ []

-- these are the entries of packets, in order
abbrev pub AreEntriesIn : List (List ℕ) → List (List ℕ) → Type 0
AreEntriesIn [] entries = entries ≡ []
AreEntriesIn (p ∷ packets) entries = (own : List (List ℕ)) × (more : List (List ℕ)) × (entries ≡ own ++ more) × AreEntriesOf p own
    × AreEntriesIn packets more
