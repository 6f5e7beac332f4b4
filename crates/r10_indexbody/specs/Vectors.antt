-- Index bodies written out: of the first recording, and of other recorders.
use Rattle.std.specs.Prelude.{◌≡◌, ℕ, true, false, List, [], ◌∷◌, ◌++◌, map, replicate, refl}
use Rattle.std.proofs.Common.{arith, lit<, lit≤, inl, inr}
use Rattle.r10_indexbody.specs.Index.{node_body, node_entry, root_body, FitsNode, IsForeignNode, IsForeignRoot, is_opaque_index}
use Rattle.r10_indexbody.specs.declared.entry.NodeEntry.{NodeEntry}
use Rattle.r10_indexbody.specs.declared.entry.RootEntry.{RootEntry}

-- 1000 as a stamp
abbrev pub at_1000 : List ℕ
at_1000 = 0xE8 ∷ 0x03 ∷ 0x00 ∷ 0x00 ∷ 0x00 ∷ 0x00 ∷ 0x00 ∷ 0x00 ∷ []

abbrev pub a_node_entry : ℕ → ℕ → ℕ → NodeEntry
a_node_entry data_type channel offset = record { counter = 1000; data_type = data_type; channel = channel; offset = offset }

-- a setup, a time and a packet of a serial line
pub node-body : node_body (a_node_entry 0x01 0 0 ∷ a_node_entry 0x11 1 32 ∷ a_node_entry 0x50 5 68 ∷ []) ≡
    (0x03 ∷ 0x00 ∷ 0x00 ∷ 0x80 ∷ [])
    ++ at_1000 ++ (0x00 ∷ 0x00 ∷ 0x01 ∷ 0x00 ∷ 0 ∷ 0 ∷ 0 ∷ 0 ∷ 0 ∷ 0 ∷ 0 ∷ 0 ∷ [])
    ++ at_1000 ++ (0x01 ∷ 0x00 ∷ 0x11 ∷ 0x00 ∷ 32 ∷ 0 ∷ 0 ∷ 0 ∷ 0 ∷ 0 ∷ 0 ∷ 0 ∷ [])
    ++ at_1000 ++ (0x05 ∷ 0x00 ∷ 0x50 ∷ 0x00 ∷ 68 ∷ 0 ∷ 0 ∷ 0 ∷ 0 ∷ 0 ∷ 0 ∷ 0 ∷ [])
node-body = refl

abbrev pub a_root_entry : ℕ → RootEntry
a_root_entry offset = record { counter = 1000; offset = offset }

-- the node, and the root itself
pub root-body : root_body (a_root_entry 124 ∷ a_root_entry 212 ∷ []) ≡
    (0x02 ∷ 0x00 ∷ 0x00 ∷ 0x00 ∷ []) ++ at_1000 ++ (124 ∷ 0 ∷ 0 ∷ 0 ∷ 0 ∷ 0 ∷ 0 ∷ 0 ∷ []) ++ at_1000
    ++ (212 ∷ 0 ∷ 0 ∷ 0 ∷ 0 ∷ 0 ∷ 0 ∷ 0 ∷ [])
root-body = refl

-- a channel beyond 16 bits is spelled as another data type: only the ranges tell them apart
pub spelled-alike : node_entry (a_node_entry 0x10 65537 32) ≡ node_entry (a_node_entry 0x11 1 32)
spelled-alike = refl

pub beyond : FitsNode (a_node_entry 0x10 65537 32) → ⊥
beyond fits = omega (arith, fits.channel)

-- a node has the counted number of entries, and a root that number or one more; bits without a name are not judged
pub foreign-node : IsForeignNode (0x01 ∷ 0x00 ∷ 0x00 ∷ 0x90 ∷ replicate 20 0)
foreign-node = (0x90000001, replicate 20 0, lit≤ tt, lit< tt, refl, refl)

pub foreign-root : IsForeignRoot (0x01 ∷ 0x00 ∷ 0x00 ∷ 0x00 ∷ replicate 16 0)
foreign-root = (1, replicate 16 0, 1, lit< tt, inl refl, refl, refl)

pub foreign-root-uncounted : IsForeignRoot (0x01 ∷ 0x00 ∷ 0x00 ∷ 0x00 ∷ replicate 32 0)
foreign-root-uncounted = (1, replicate 32 0, 2, lit< tt, inr refl, refl, refl)

-- neither the file's size (bit 30) nor data headers (bit 29) are read, in nodes and in roots; a body without a whole word says
-- nothing
pub opaque-words : map (λ high. is_opaque_index (0 ∷ 0 ∷ 0 ∷ high ∷ [])) (0x40 ∷ 0xC0 ∷ 0x20 ∷ 0xA0 ∷ 0x00 ∷ 0x80 ∷ 0x10 ∷ [])
    ≡ true ∷ true ∷ true ∷ true ∷ false ∷ false ∷ false ∷ []
opaque-words = refl

pub no-word : is_opaque_index (0 ∷ 0 ∷ 0x40 ∷ []) ≡ false
no-word = refl
