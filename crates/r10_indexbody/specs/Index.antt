-- The bodies of index packets: the channel specific data word, then for each packet that is named an intra-packet time stamp
-- and where it stands. A node names packets of data, and a root names nodes.
use Rattle.std.specs.Prelude.{◌≡◌, ℕ, ◌+◌, ◌*◌, ◌%◌, ◌^◌, ◌<◌, ◌≤◌, ◌⊎◌, Bool, ◌&&◌, ◌||◌, nat_le, List, ◌++◌, length}
use Rattle.std.specs.List.{flat_map, AllByRecursion}
use Rattle.r10_count.specs.Bytes.{le_bytes, u32_at, bit_of}
use Rattle.r10_count.specs.Count.{IsCount, stamp}
use Rattle.r10_indexbody.specs.declared.entry.NodeEntry.{NodeEntry}
use Rattle.r10_indexbody.specs.declared.entry.RootEntry.{RootEntry}

-- ---- nodes

-- the word that names a packet: its data type above its channel ID
abbrev pub packet_word : NodeEntry → ℕ
packet_word e = 2 ^ 16 * e.data_type + e.channel

-- the packet's counter, data type and channel, and its offset in the file
abbrev pub node_entry : NodeEntry → List ℕ
node_entry e = stamp e.counter ++ le_bytes 4 (packet_word e) ++ le_bytes 8 e.offset

-- the word says that this is a node, without the file's size and without data headers, and has the number of entries
abbrev pub node_body : List NodeEntry → List ℕ
node_body entries = le_bytes 4 (2 ^ 31 + length entries) ++ flat_map node_entry entries

-- the ranges of the fields
pub record FitsNode (e : NodeEntry) : Type 0 where
  pub counter : IsCount e.counter
  pub data_type : e.data_type < 2 ^ 8
  pub channel : e.channel < 2 ^ 16
  pub offset : e.offset < 2 ^ 64

-- the entries of one packet: there is one, and there are no more than the word's 16 bits count
pub record FitsNodeBody (entries : List NodeEntry) : Type 0 where
  pub some : 0 < length entries
  pub counted : length entries < 2 ^ 16
  pub fields : AllByRecursion FitsNode entries

-- the body that the writer makes of these entries
abbrev pub IsNode : List NodeEntry → List ℕ → Type 0
IsNode entries body = FitsNodeBody entries × (body ≡ node_body entries)

-- whoever wrote it: a word of a node, and twenty bytes for each of as many entries as it tells
abbrev pub IsForeignNode : List ℕ → Type 0
IsForeignNode body =
    (word : ℕ) × (rest : List ℕ) × (2 ^ 31 ≤ word) × (word < 2 ^ 32) × (length rest ≡ 20 * (word % 2 ^ 16))
    × (body ≡ le_bytes 4 word ++ rest)

-- ---- roots

-- the node's counter, and its offset in the file
abbrev pub root_entry : RootEntry → List ℕ
root_entry e = stamp e.counter ++ le_bytes 8 e.offset

-- the word says that this is a root, without the file's size and without data headers, and has the number of entries
abbrev pub root_body : List RootEntry → List ℕ
root_body entries = le_bytes 4 (length entries) ++ flat_map root_entry entries

pub record FitsRoot (e : RootEntry) : Type 0 where
  pub counter : IsCount e.counter
  pub offset : e.offset < 2 ^ 64

pub record FitsRootBody (entries : List RootEntry) : Type 0 where
  pub some : 0 < length entries
  pub counted : length entries < 2 ^ 16
  pub fields : AllByRecursion FitsRoot entries

abbrev pub IsRoot : List RootEntry → List ℕ → Type 0
IsRoot entries body = FitsRootBody entries × (body ≡ root_body entries)

-- whoever wrote it: a word of a root, and sixteen bytes for each of as many entries as it tells, or of one more, since some
-- recorders don't count the last
abbrev pub IsForeignRoot : List ℕ → Type 0
IsForeignRoot body =
    (word : ℕ) × (rest : List ℕ) × (entries : ℕ) × (word < 2 ^ 31) × ((entries ≡ word % 2 ^ 16) ⊎ (entries ≡ word % 2 ^ 16 + 1))
    × (length rest ≡ 16 * entries) × (body ≡ le_bytes 4 word ++ rest)

-- ---- both

-- whoever wrote it: a node or a root
abbrev pub IsForeignIndex : List ℕ → Type 0
IsForeignIndex body = IsForeignNode body ⊎ IsForeignRoot body

-- there is a word, and it says that the file's size or data headers are there, which aren't read
abbrev pub is_opaque_index : List ℕ → Bool
is_opaque_index body = nat_le 4 (length body) && (bit_of 30 (u32_at body 0) || bit_of 29 (u32_at body 0))
