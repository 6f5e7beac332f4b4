-- Limits of a file's packets, and of its index.
use Rattle.std.specs.Prelude.{ℕ, ◌+◌, ◌*◌}
pub use Rattle.r10_setup.specs.Setup.{longest_text}

-- the entries of a node: each node of a file has so many, but its last, which may have fewer
abbrev pub entries_per_node : ℕ
entries_per_node = 100

-- the bytes of a node's packet with so many entries
abbrev pub full_node : ℕ
full_node = 28 + 20 * entries_per_node

-- the most nodes that a root names: with one more its packet would be longer than the longest
abbrev pub nodes_per_root : ℕ
nodes_per_root = 32_765
