-- The packets of a file in front of its index.
use Rattle.std.proofs.Common.{◌≡◌, ℕ, ◌+◌, ◌<◌, ◌≤◌, true, false, List, [], ◌∷◌, ◌++◌, length, take, drop, refl, sym, ap, subst, ◌∙◌, arith, append_assoc}
use Rattle.std.specs.Prelude.{count_by, filter}
use Rattle.std.specs.List.{concat}
use Rattle.std.proofs.lemmas.List.{append-nil, length-append, length-take, take-take, take_at}
use Rattle.std.proofs.lemmas.List.Concat.{flat_map-append}
use Rattle.r10_medium.specs.Disk.{Image}
use Rattle.r10_blockout.specs.Blocks.{Shows, bytes_from}
use Rattle.r10_body.specs.Content.{Content, node, root}
use Rattle.r10_body.specs.Packets.{Packet, packet_bytes, file_bytes}
use Rattle.r10_body.specs.Rules.{MayFollow, EachFollows, KeepsIndex, is_data, is_index, is_node, is_root}
use Rattle.r10_body.proofs.Indexes.{Part, datum, node_here, root_here, part_of, counted, counted_yes, counted_no, no_nodes, no_roots, datas_yes, datas_no}
use Rattle.std.proofs.lemmas.Bool.{true≢false}

-- ---- the index stands at the end

-- there is no index yet, or it stands after the other packets
data Fronted (ps : List Packet) : Type 0 where
  plain : count_by is_node ps ≡ 0 → count_by is_root ps ≡ 0 → filter is_data ps ≡ ps → Fronted ps
  indexed : (index : List Packet) → ps ≡ filter is_data ps ++ index → 0 < count_by is_node ps + count_by is_root ps → Fronted ps

-- no index packet stands before a packet that is none of an index
no_index : (ps : List Packet) (p : Packet) → is_index p ≡ false → KeepsIndex ps p → count_by is_index ps ≡ 0
no_index ps p i keeps = by p.content refl
  where
    by : (c : Content) → p.content ≡ c → count_by is_index ps ≡ 0
    by (node es) e = let yes : is_index p ≡ true = rw e refl in absurd (true≢false (sym yes ∙ i))
    by (root es) e = let yes : is_index p ≡ true = rw e refl in absurd (true≢false (sym yes ∙ i))
    by c e = rw e at keeps

-- an index packet after others
behind : (ps : List Packet) (p : Packet) → is_index p ≡ true → Fronted ps → (index : List Packet) × (ps ++ p ∷ [] ≡ filter is_data (ps ++ p ∷ []) ++ index)
behind ps p i (plain nodes roots all) = (p ∷ [], ap (λ (qs : List Packet). qs ++ p ∷ []) (sym all ∙ sym (datas_no ps p i)))
behind ps p i (indexed index is some) = (
  index ++ p ∷ [],
  ap (λ (qs : List Packet). qs ++ p ∷ []) is ∙ append_assoc (filter is_data ps) index (p ∷ []) ∙ ap (λ (qs : List Packet). qs ++ (index ++ p ∷ [])) (sym (datas_no ps p i)),
)

more_fronted : (ps : List Packet) (p : Packet) → MayFollow ps p → Part p → Fronted ps → Fronted (ps ++ p ∷ [])
more_fronted ps p may (datum i n r len) (plain nodes roots all) = plain
    (omega (arith, nodes, counted is_node ps p, counted_no is_node p n))
    (omega (arith, roots, counted is_root ps p, counted_no is_root p r))
    (datas_yes ps p i ∙ ap (λ (qs : List Packet). qs ++ p ∷ []) all)
more_fronted ps p may (datum i n r len) (indexed index is some) = absurd (omega (arith, some, no_nodes ps (no_index ps p i may.index), no_roots ps (no_index ps p i may.index)))
more_fronted ps p may (node_here es e i n r len) fronted =
    let b = behind ps p i fronted in
    indexed b.0 b.1 (omega (arith, counted is_node ps p, counted_yes is_node p n))
more_fronted ps p may (root_here es e i n r len) fronted =
    let b = behind ps p i fronted in
    indexed b.0 b.1 (omega (arith, counted is_root ps p, counted_yes is_root p r))

fronted_from : (before ps : List Packet) → EachFollows before ps → Fronted before → Fronted (before ++ ps)
fronted_from before [] each fronted = subst Fronted (sym (append-nil before)) fronted
fronted_from before (p ∷ ps) each fronted =
    subst Fronted (append_assoc before (p ∷ []) ps) (fronted_from (before ++ p ∷ []) ps each.1 (more_fronted before p each.0 (part_of p) fronted))

index_of : (ps : List Packet) → Fronted ps → (index : List Packet) × (ps ≡ filter is_data ps ++ index)
index_of ps (plain nodes roots all) = ([], sym all ∙ sym (append-nil (filter is_data ps)))
index_of ps (indexed index is some) = (index, is)

-- what stands after a file's other packets is its index
pub data_first : (ps : List Packet) → EachFollows [] ps → (index : List Packet) × (ps ≡ filter is_data ps ++ index)
data_first ps each = index_of ps (fronted_from [] ps each (plain refl refl refl))

-- ---- the front of a file

pub follows_front : (before xs ys : List Packet) → EachFollows before (xs ++ ys) → EachFollows before xs
follows_front before [] ys each = tt
follows_front before (x ∷ xs) ys each = (each.0, follows_front (before ++ x ∷ []) xs ys each.1)

-- the front of bytes that are shown is shown
pub shows_front : (image : Image) (first size : ℕ) (front rest : List ℕ) → bytes_from image first size ≡ front ++ rest → Shows image first front
shows_front image first size front rest is =
    let all : List ℕ = concat (drop first image) in
    let within : length front ≤ size = omega (arith, ap (λ (l : List ℕ). length l) is, length-append front rest, length-take size all) in
    sym (take-take (length front) size all within) ∙ ap (take (length front)) is ∙ take_at front rest (length front) refl

pub bytes_front : (xs ys : List Packet) → file_bytes (xs ++ ys) ≡ file_bytes xs ++ file_bytes ys
bytes_front xs ys = flat_map-append packet_bytes xs ys
