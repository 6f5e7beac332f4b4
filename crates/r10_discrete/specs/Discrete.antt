-- The body of a discrete packet: the channel specific data word, then for each change an intra-packet time stamp and the states.
use Rattle.std.specs.Prelude.{◌≡◌, ℕ, ◌*◌, ◌^◌, ◌<◌, ◌≤◌, List, ◌++◌, length}
use Rattle.std.specs.List.{flat_map, AllByRecursion}
use Rattle.r10_count.specs.Bytes.{le_bytes}
use Rattle.r10_count.specs.Count.{IsCount, stamp}
use Rattle.r10_discrete.specs.declared.entry.DiscreteEntry.{DiscreteEntry}
use Rattle.r10_discrete.specs.declared.message.DiscreteMessage.{DiscreteMessage}

-- a message at a count
abbrev pub discrete_at : ℕ → DiscreteMessage → DiscreteEntry
discrete_at count m = record { count = count; message = m }

abbrev pub discrete_entry : DiscreteEntry → List ℕ
discrete_entry e = stamp e.count ++ le_bytes 4 e.message.states

-- the word has the number of discretes
abbrev pub discrete_body : ℕ → List DiscreteEntry → List ℕ
discrete_body bits entries = le_bytes 4 (8 * bits) ++ flat_map discrete_entry entries

-- no state beyond the channel's discretes
abbrev pub FitsDiscrete : ℕ → DiscreteEntry → Type 0
FitsDiscrete bits e = IsCount e.count × (e.message.states < 2 ^ bits)

-- what a packet may have: at least one change, of 1 to 31 discretes
pub record FitsDiscreteBody (bits : ℕ) (entries : List DiscreteEntry) : Type 0 where
  pub some : 0 < length entries
  pub discretes : (1 ≤ bits) × (bits ≤ 31)
  pub fields : AllByRecursion (FitsDiscrete bits) entries

-- the body that the writer makes of these changes of so many discretes
abbrev pub IsDiscrete : ℕ → List DiscreteEntry → List ℕ → Type 0
IsDiscrete bits entries body = FitsDiscreteBody bits entries × (body ≡ discrete_body bits entries)

-- whoever wrote it: a word, and twelve bytes for each change
abbrev pub IsForeignDiscrete : List ℕ → Type 0
IsForeignDiscrete body = (word : ℕ) × (rest : List ℕ) × (changes : ℕ) × (word < 2 ^ 32) × (length rest ≡ 12 * changes)
    × (body ≡ le_bytes 4 word ++ rest)
