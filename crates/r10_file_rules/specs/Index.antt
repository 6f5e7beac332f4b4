-- What is kept of a file's index.
use Rattle.std.specs.Prelude.{◌≡◌, ◌⊎◌, ℕ, ◌+◌, ◌-◌, ◌*◌, ◌^◌, ◌<◌, ◌≤◌, Option, None, Some, List, [], ◌∷◌, ◌++◌, length, filter}
use Rattle.std.specs.Prelude.{count_by}
use Rattle.r10_indexbody.specs.Index.{root_body}
use Rattle.r10_indexbody.specs.declared.entry.RootEntry.{RootEntry}
use Rattle.r10_body.specs.Limits.{entries_per_node, full_node}
use Rattle.r10_body.specs.Packets.{Packet, file_bytes}
use Rattle.r10_body.specs.Rules.{is_data, is_node, is_root, is_closed_file, group_size, last_root, last_time, node_entries, unnamed}
use Rattle.r10_index.specs.Counted.{CountsEntriesUpTo}
use Rattle.r10_index.specs.Written.{names}
use Rattle.r10_file_rules.specs.Names.{root_at}
use Rattle.r10_file_rules.specs.declared.index.IndexTracks.{IndexTracks}

-- the last root stands at this offset, or there is none
abbrev pub IsLastRoot : Option ℕ → List Packet → Type 0
IsLastRoot None packets = count_by is_root packets ≡ 0
IsLastRoot (Some offset) packets = (0 < count_by is_root packets) × (offset < 2 ^ 63)
    × ((own : RootEntry) → last_root 0 own packets ≡ root_at (last_time 0 packets) offset)

pub record IsIndexed (t : IndexTracks) (packets : List Packet) : Type 0 where
  -- what nodes say of the packets that are no index packets
  pub named : t.book.entries ≡ node_entries 0 (filter is_data packets)
  pub counted : CountsEntriesUpTo t.book.counted (filter is_data packets)
  -- the bytes of those packets, and of all
  pub end : t.end ≡ length (file_bytes (filter is_data packets))
  pub bytes : t.bytes ≡ length (file_bytes packets)
  pub nodes : t.nodes ≡ count_by is_node packets
  pub group : t.group ≡ group_size packets
  -- the nodes that no root names yet, each full but the file's last node
  pub loose : unnamed packets ≡ names (last_time 0 packets) t.start t.pending
  pub full : 0 < t.pending → t.bytes + 20 * (entries_per_node * t.nodes - length t.book.entries) ≡ t.start + full_node * t.pending
  pub few : entries_per_node * t.nodes < length t.book.entries + entries_per_node
  pub low : t.start + full_node * t.pending < 2 ^ 64
  pub link : IsLastRoot t.root packets
  -- a root stands at the end
  pub closed : t.closed ≡ is_closed_file packets

-- a group of so many nodes has place for one more: the first always, the others up to the size of the first
abbrev pub HasPlaceIn : Option ℕ → ℕ → ℕ → Type 0
HasPlaceIn None pending group = Unit {0}
HasPlaceIn (Some offset) pending group = pending < group

-- a root's last entry: the root before it, which has the clock's counter, or the root itself, with its own counter and at its
-- offset
abbrev pub link_at : ℕ → ℕ → Option ℕ → ℕ → RootEntry
link_at clock counter None own = root_at counter own
link_at clock counter (Some offset) own = root_at clock offset

-- the nodes that stand last are a group, and this is the body of their root
abbrev pub IsRootHere : IndexTracks → ℕ → ℕ → List ℕ → Type 0
IsRootHere t clock counter body =
    ((0 < t.pending) × (t.pending < 65535) × ((t.pending ≡ t.group) ⊎ (length t.book.entries ≤ entries_per_node * t.nodes)))
    × (body ≡ root_body (names clock t.start t.pending ++ link_at clock counter t.root t.bytes ∷ []))

-- all that is kept is the same
pub record IsSameIndex (old new : IndexTracks) : Type 0 where
  pub named : new.book.entries ≡ old.book.entries
  pub counted : new.book.counted ≡ old.book.counted
  pub end : new.end ≡ old.end
  pub bytes : new.bytes ≡ old.bytes
  pub nodes : new.nodes ≡ old.nodes
  pub group : new.group ≡ old.group
  pub start : new.start ≡ old.start
  pub pending : new.pending ≡ old.pending
  pub root : new.root ≡ old.root
  pub closed : new.closed ≡ old.closed
