-- What one packet more changes of the groups of an index.
use Rattle.std.proofs.Common.{◌≡◌, ℕ, ◌+◌, ◌<◌, Bool, true, false, cond, List, [], ◌∷◌, ◌++◌, length, refl, sym, ap, ◌∙◌, arith}
use Rattle.std.specs.Prelude.{count_by}
use Rattle.std.proofs.lemmas.List.{length-append}
use Rattle.r10_indexbody.specs.declared.entry.RootEntry.{RootEntry}
use Rattle.r10_body.specs.Packets.{Packet, packet_bytes, file_bytes}
use Rattle.r10_body.specs.Rules.{is_node, is_root, root_entry_of, last_nodes, unnamed, last_root, group_size}
use Rattle.r10_body.proofs.Indexes.{counted_first}

-- where a packet stands after others that stand at an offset
placed : (offset : ℕ) (q : Packet) (ps : List Packet) → offset + length (packet_bytes q) + length (file_bytes ps) ≡ offset + length (file_bytes (q ∷ ps))
placed offset q ps = omega (arith, length-append (packet_bytes q) (file_bytes ps))

from_start : (n : ℕ) → 0 + n ≡ n
from_start n = omega arith

here : (offset : ℕ) → offset ≡ offset + length (file_bytes [])
here offset = omega arith

nodes_from : (offset : ℕ) (names : List RootEntry) (ps : List Packet) (p : Packet)
    → last_nodes offset names (ps ++ p ∷ []) ≡ cond (is_node p) (last_nodes offset names ps ++ root_entry_of (offset + length (file_bytes ps)) p ∷ []) []
nodes_from offset names [] p = ap (λ n. cond (is_node p) (names ++ root_entry_of n p ∷ []) []) (here offset)
nodes_from offset names (q ∷ ps) p =
    let last = last_nodes (offset + length (packet_bytes q)) (cond (is_node q) (names ++ root_entry_of offset q ∷ []) []) ps in
    nodes_from (offset + length (packet_bytes q)) (cond (is_node q) (names ++ root_entry_of offset q ∷ []) []) ps p
    ∙ ap (λ n. cond (is_node p) (last ++ root_entry_of n p ∷ []) []) (placed offset q ps)

-- a node more is the last of those that no root names, and after any other packet there are none
pub unnamed_with : (ps : List Packet) (p : Packet) → is_node p ≡ true → unnamed (ps ++ p ∷ []) ≡ unnamed ps ++ root_entry_of (length (file_bytes ps)) p ∷ []
unnamed_with ps p is =
    nodes_from 0 [] ps p ∙ ap (λ n. cond (is_node p) (unnamed ps ++ root_entry_of n p ∷ []) []) (from_start (length (file_bytes ps)))
    ∙ ap (λ b. cond b (unnamed ps ++ root_entry_of (length (file_bytes ps)) p ∷ []) []) is

pub none_unnamed : (ps : List Packet) (p : Packet) → is_node p ≡ false → unnamed (ps ++ p ∷ []) ≡ []
none_unnamed ps p is =
    nodes_from 0 [] ps p ∙ ap (λ n. cond (is_node p) (unnamed ps ++ root_entry_of n p ∷ []) []) (from_start (length (file_bytes ps)))
    ∙ ap (λ b. cond b (unnamed ps ++ root_entry_of (length (file_bytes ps)) p ∷ []) []) is

root_from : (offset : ℕ) (found : RootEntry) (ps : List Packet) (p : Packet)
    → last_root offset found (ps ++ p ∷ []) ≡ cond (is_root p) (root_entry_of (offset + length (file_bytes ps)) p) (last_root offset found ps)
root_from offset found [] p = ap (λ n. cond (is_root p) (root_entry_of n p) found) (here offset)
root_from offset found (q ∷ ps) p =
    let last = last_root (offset + length (packet_bytes q)) (cond (is_root q) (root_entry_of offset q) found) ps in
    root_from (offset + length (packet_bytes q)) (cond (is_root q) (root_entry_of offset q) found) ps p
    ∙ ap (λ n. cond (is_root p) (root_entry_of n p) last) (placed offset q ps)

-- the last root is the packet more, or that of the packets before
pub root_with : (found : RootEntry) (ps : List Packet) (p : Packet) → is_root p ≡ true → last_root 0 found (ps ++ p ∷ []) ≡ root_entry_of (length (file_bytes ps)) p
root_with found ps p is =
    root_from 0 found ps p ∙ ap (λ n. cond (is_root p) (root_entry_of n p) (last_root 0 found ps)) (from_start (length (file_bytes ps)))
    ∙ ap (λ b. cond b (root_entry_of (length (file_bytes ps)) p) (last_root 0 found ps)) is

pub root_before : (found : RootEntry) (ps : List Packet) (p : Packet) → is_root p ≡ false → last_root 0 found (ps ++ p ∷ []) ≡ last_root 0 found ps
root_before found ps p is =
    root_from 0 found ps p ∙ ap (λ n. cond (is_root p) (root_entry_of n p) (last_root 0 found ps)) (from_start (length (file_bytes ps)))
    ∙ ap (λ b. cond b (root_entry_of (length (file_bytes ps)) p) (last_root 0 found ps)) is

-- the first group has a size once there is a root
sized_by : (q : Packet) (ps : List Packet) (p : Packet) (b : Bool) → is_root q ≡ b → 0 < count_by is_root (q ∷ ps)
    → (0 < count_by is_root ps → group_size (ps ++ p ∷ []) ≡ group_size ps) → group_size ((q ∷ ps) ++ p ∷ []) ≡ group_size (q ∷ ps)
sized_by q ps p true is some rest = rw is refl
sized_by q ps p false is some rest =
    let none : count_by is_root (q ∷ []) ≡ 0 = rw is refl in
    let left : 0 < count_by is_root ps = omega (arith, some, counted_first is_root q ps, none) in
    rw is (ap (λ n. count_by is_node (q ∷ []) + n) (rest left))

pub size_stays : (ps : List Packet) (p : Packet) → 0 < count_by is_root ps → group_size (ps ++ p ∷ []) ≡ group_size ps
size_stays [] p some = absurd (omega (arith, some))
size_stays (q ∷ ps) p some = sized_by q ps p (is_root q) refl some (λ left. size_stays ps p left)

-- and counts the nodes until then
grown_by : (q : Packet) (ps : List Packet) (p : Packet) (b : Bool) → is_root q ≡ b → count_by is_root (q ∷ ps) ≡ 0
    → (count_by is_root ps ≡ 0 → group_size (ps ++ p ∷ []) ≡ group_size ps + group_size (p ∷ [])) → group_size ((q ∷ ps) ++ p ∷ []) ≡ group_size (q ∷ ps) + group_size (p ∷ [])
grown_by q ps p true is none rest = let one : count_by is_root (q ∷ []) ≡ 1 = rw is refl in absurd (omega (arith, none, counted_first is_root q ps, one))
grown_by q ps p false is none rest =
    let left : count_by is_root ps ≡ 0 = omega (arith, none, counted_first is_root q ps) in
    rw is (omega (arith, rest left))

pub size_grows : (ps : List Packet) (p : Packet) → count_by is_root ps ≡ 0 → group_size (ps ++ p ∷ []) ≡ group_size ps + group_size (p ∷ [])
size_grows [] p none = sym (from_start (group_size (p ∷ [])))
size_grows (q ∷ ps) p none = grown_by q ps p (is_root q) refl none (λ left. size_grows ps p left)

pub size_of_node : (p : Packet) → is_node p ≡ true → is_root p ≡ false → group_size (p ∷ []) ≡ 1
size_of_node p node other = rw (other, node) refl

pub size_of_root : (p : Packet) → is_root p ≡ true → group_size (p ∷ []) ≡ 0
size_of_root p is = rw is refl
