-- The body of an ARINC 429 packet: the channel specific data word, then for each word an intra-packet data header and the
-- word. There are no stamps: a word's count is the packet's counter plus the gaps so far.
use Rattle.std.specs.Prelude.{◌≡◌, ℕ, ◌+◌, ◌-◌, ◌*◌, ◌%◌, ◌^◌, ◌<◌, ◌≤◌, List, [], ◌∷◌, ◌++◌, length, take}
use Rattle.std.specs.List.{AllByRecursion}
use Rattle.r10_count.specs.Bytes.{le_bytes, flag_at}
use Rattle.r10_count.specs.Count.{IsCount}
use Rattle.r10_a429.specs.declared.entry.ArincEntry.{ArincEntry}
use Rattle.r10_a429.specs.declared.message.ArincMessage.{ArincMessage}

-- a message at a count
abbrev pub arinc_at : ℕ → ArincMessage → ArincEntry
arinc_at count m = record { count = count; message = m }

-- bus, format error, parity error, high speed, and the gap since the word before
abbrev pub arinc_header : ℕ → ArincEntry → ℕ
arinc_header gap e = 2 ^ 24 * e.message.bus + flag_at 23 e.message.format + flag_at 22 e.message.parity + flag_at 21 e.message.high
    + gap

abbrev pub arinc_entry : ℕ → ArincEntry → List ℕ
arinc_entry gap e = le_bytes 4 (arinc_header gap e) ++ le_bytes 4 e.message.word

-- each word after one at this count
abbrev pub arinc_entries : ℕ → List ArincEntry → List ℕ
arinc_entries before [] = []
arinc_entries before (e ∷ entries) = arinc_entry (e.count - before) e ++ arinc_entries e.count entries

-- the channel specific data word has the number of words, and the first gap is the one since the packet's counter
abbrev pub arinc_body : ℕ → List ArincEntry → List ℕ
arinc_body counter entries = le_bytes 4 (length entries) ++ arinc_entries counter entries

-- the ranges of the fields
pub record FitsArinc (e : ArincEntry) : Type 0 where
  pub count : IsCount e.count
  pub bus : e.message.bus < 2 ^ 8
  pub word : e.message.word < 2 ^ 32

-- the longest gap in a packet: a tenth of a second, in units of 100 ns
abbrev pub longest_gap : ℕ
longest_gap = 1000000

-- no earlier than a count, and no more than the longest gap later
abbrev pub FollowsSoon : ℕ → ArincEntry → Type 0
FollowsSoon before e = (before ≤ e.count) × (e.count ≤ before + longest_gap)

-- counts don't fall, and no gap is over a tenth of a second
abbrev pub HasShortGaps : ℕ → List ArincEntry → Type 0
HasShortGaps before [] = Unit {0}
HasShortGaps before (e ∷ entries) = FollowsSoon before e × HasShortGaps e.count entries

-- the first word stands at the packet's counter, so that its gap is 0
abbrev pub HasGaps : ℕ → List ArincEntry → Type 0
HasGaps counter entries = AllByRecursion (λ e. e.count ≡ counter) (take 1 entries) × HasShortGaps counter entries

-- words that a packet of this counter may have: at least one, and as many as its word can tell
pub record FitsArincBody (counter : ℕ) (entries : List ArincEntry) : Type 0 where
  pub some : 0 < length entries
  pub reported : length entries < 2 ^ 16
  pub fields : AllByRecursion FitsArinc entries
  pub gaps : HasGaps counter entries

-- the body that the writer makes of these words in a packet of this counter
abbrev pub IsArinc : ℕ → List ArincEntry → List ℕ → Type 0
IsArinc counter entries body = FitsArincBody counter entries × (body ≡ arinc_body counter entries)

-- whoever wrote it: a word, and eight bytes for each of as many words as it tells
abbrev pub IsForeignArinc : List ℕ → Type 0
IsForeignArinc body = (word : ℕ) × (rest : List ℕ) × (word < 2 ^ 32) × (length rest ≡ 8 * (word % 2 ^ 16))
    × (body ≡ le_bytes 4 word ++ rest)
