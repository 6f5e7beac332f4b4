-- The body of a MIL-STD-1553 packet: the channel specific data word, then for each message an intra-packet time stamp, the
-- block status word, the gap times word, the length word, and the message's 16-bit words.
use Rattle.std.specs.Prelude.{◌≡◌, ℕ, ◌+◌, ◌*◌, ◌%◌, ◌^◌, ◌<◌, ◌≤◌, ◌==◌, cond, Option, Some, None, List, ◌++◌, length, bit_and}
use Rattle.std.specs.List.{flat_map, AllByRecursion, concat}
use Rattle.r10_count.specs.Bytes.{le_bytes, u16_at}
use Rattle.r10_count.specs.Count.{IsCount, stamp}
use Rattle.r10_count.specs.Form.{IsEntryBytes}
use Rattle.r10_b1553.specs.declared.entry.BusEntry.{BusEntry}
use Rattle.r10_b1553.specs.declared.message.BusMessage.{BusMessage}

-- the word has the number of messages
abbrev pub bus_word : ℕ → List ℕ
bus_word count = le_bytes 4 count

-- 16-bit words, the low byte of each first
abbrev pub words_low_first : List ℕ → List ℕ
words_low_first words = flat_map (le_bytes 2) words

-- the length is that of the words in bytes
abbrev pub bus_entry : BusEntry → List ℕ
bus_entry e = stamp e.count ++ le_bytes 2 e.message.status ++ le_bytes 2 e.message.gap ++ le_bytes 2 (2 * length e.message.words)
    ++ words_low_first e.message.words

-- the length of an entry in the body
abbrev pub bus_entry_size : BusEntry → ℕ
bus_entry_size e = 14 + 2 * length e.message.words

abbrev pub bus_body : List BusEntry → List ℕ
bus_body entries = bus_word (length entries) ++ flat_map bus_entry entries

-- a message at a count
abbrev pub bus_at : ℕ → BusMessage → BusEntry
bus_at count m = record { count = count; message = m }

abbrev pub bus_of : ℕ → ℕ → ℕ → List ℕ → BusEntry
bus_of count status gap words = bus_at count (record { status = status; gap = gap; words = words })

-- the bits of the block status that have a name: bus B (13), message error, RT to RT, format error, response timeout (12 to
-- 9), word count error, sync type error and invalid word (5 to 3)
abbrev pub named_bits : ℕ
named_bits = 0x3E38

-- two commands, two statuses and 32 data words
abbrev pub most_words : ℕ
most_words = 36

-- the ranges of the fields
pub record FitsBus (e : BusEntry) : Type 0 where
  pub count : IsCount e.count
  pub status : bit_and e.message.status named_bits ≡ e.message.status
  pub gap : e.message.gap < 2 ^ 16
  pub few : length e.message.words ≤ most_words
  pub words : AllByRecursion (λ w. w < 2 ^ 16) e.message.words

-- the messages of one packet: there is one, and there are no more than the word's 24 bits count
pub record FitsBusBody (entries : List BusEntry) : Type 0 where
  pub some : 0 < length entries
  pub counted : length entries < 2 ^ 24
  pub fields : AllByRecursion FitsBus entries

-- the body that the writer makes of these entries
abbrev pub IsBus : List BusEntry → List ℕ → Type 0
IsBus entries body = FitsBusBody entries × (body ≡ bus_body entries)

-- the number of bytes that the length word tells
abbrev pub bus_told_bytes : List ℕ → ℕ
bus_told_bytes front = u16_at front 12

-- the length of an entry that begins so; none begins with an odd number of bytes
abbrev pub bus_told_size : List ℕ → Option ℕ
bus_told_size front = cond (bus_told_bytes front % 2 == 0) (Some (14 + bus_told_bytes front)) None

-- whoever wrote it: a word, and exactly as many entries as it tells
abbrev pub IsForeignBus : List ℕ → Type 0
IsForeignBus body =
    (word : ℕ) × (entries : List (List ℕ)) × (word < 2 ^ 32) × (word % 2 ^ 24 ≡ length entries)
    × AllByRecursion (IsEntryBytes 14 bus_told_size) entries × (body ≡ le_bytes 4 word ++ concat entries)
