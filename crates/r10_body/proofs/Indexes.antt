-- Packets of an index among others: how many there are, and how long they are together.
use Rattle.std.proofs.Common.{◌≡◌, ℕ, suc, ◌+◌, ◌-◌, ◌*◌, ◌/◌, ◌%◌, ◌<◌, ◌≤◌, Bool, true, false, ◌==◌, List, [], ◌∷◌, ◌++◌, length, drop, refl, sym, ap, subst, ◌∙◌, arith, append_assoc}
use Rattle.std.specs.Prelude.{count_by, filter, min, cond, ◌&&◌}
use Rattle.std.specs.List.{sum_by}
use Rattle.std.proofs.lemmas.List.{append-nil, length-append, length-drop, length-take}
use Rattle.std.proofs.lemmas.List.Sums.{sum_by-append, sum_by-cons, length-filter}
use Rattle.r10_packet.specs.Header.{checksum_bits}
use Rattle.r10_indexbody.specs.Index.{FitsNodeBody}
use Rattle.r10_indexbody.specs.declared.entry.NodeEntry.{NodeEntry}
use Rattle.r10_indexbody.specs.declared.entry.RootEntry.{RootEntry}
use Rattle.r10_indexbody.proofs.Nodes.{body-length as node_length}
use Rattle.r10_indexbody.proofs.Roots.{body-length as root_length}
use Rattle.r10_body.proofs.Lone.{packet-length}
use Rattle.r10_body.specs.Content.{Content, setup, time, event, uart, bus, arinc, discrete, message, node, root, report, type_of, body_of}
use Rattle.r10_body.specs.Packets.{Packet, packet_bytes, file_bytes}
use Rattle.r10_body.specs.Rules.{MayFollow, EachFollows, KeepsChecksums, IsNextNode, IsNextRoot, HasPlace, is_index, is_data, is_node, is_root, is_closed_file, all_named, has_whole_index, node_entries, root_entry_of, last_nodes, unnamed, last_root}
use Rattle.r10_body.proofs.Sentences.{rest_length}
use Rattle.std.proofs.lemmas.List.Elements.{filter-append}

-- ---- what a packet is

-- the bytes of an index packet
abbrev pub index_len : Content → ℕ
index_len (node entries) = 28 + 20 * length entries
index_len (root entries) = 28 + 16 * length entries
index_len content = 0

-- a packet of data, a node or a root
pub data Part (p : Packet) : Type 0 where
  datum : is_index p ≡ false → is_node p ≡ false → is_root p ≡ false → index_len p.content ≡ 0 → Part p
  node_here : (entries : List NodeEntry) → p.content ≡ node entries → is_index p ≡ true → is_node p ≡ true → is_root p ≡ false → index_len p.content ≡ 28 + 20 * length entries → Part p
  root_here : (entries : List RootEntry) → p.content ≡ root entries → is_index p ≡ true → is_node p ≡ false → is_root p ≡ true → index_len p.content ≡ 28 + 16 * length entries → Part p

part_at : (p : Packet) (c : Content) → p.content ≡ c → Part p
part_at p (setup text) e = datum (rw e refl) (rw e refl) (rw e refl) (rw e refl)
part_at p (time civil) e = datum (rw e refl) (rw e refl) (rw e refl) (rw e refl)
part_at p (event one) e = datum (rw e refl) (rw e refl) (rw e refl) (rw e refl)
part_at p (uart es) e = datum (rw e refl) (rw e refl) (rw e refl) (rw e refl)
part_at p (bus es) e = datum (rw e refl) (rw e refl) (rw e refl) (rw e refl)
part_at p (arinc es) e = datum (rw e refl) (rw e refl) (rw e refl) (rw e refl)
part_at p (discrete bits es) e = datum (rw e refl) (rw e refl) (rw e refl) (rw e refl)
part_at p (message es) e = datum (rw e refl) (rw e refl) (rw e refl) (rw e refl)
part_at p (node es) e = node_here es e (rw e refl) (rw e refl) (rw e refl) (rw e refl)
part_at p (report loss) e = datum (rw e refl) (rw e refl) (rw e refl) (rw e refl)
part_at p (root es) e = root_here es e (rw e refl) (rw e refl) (rw e refl) (rw e refl)

pub part_of : (p : Packet) → Part p
part_of p = part_at p p.content refl

-- ---- how many there are

pub counted : (test : Packet → Bool) (ps : List Packet) (p : Packet) → count_by test (ps ++ p ∷ []) ≡ count_by test ps + count_by test (p ∷ [])
counted test ps p = sum_by-append _ ps (p ∷ [])

pub counted_yes : (test : Packet → Bool) (p : Packet) → test p ≡ true → count_by test (p ∷ []) ≡ 1
counted_yes test p is = rw is refl

pub counted_no : (test : Packet → Bool) (p : Packet) → test p ≡ false → count_by test (p ∷ []) ≡ 0
counted_no test p is = rw is refl

pub counted_first : (test : Packet → Bool) (p : Packet) (ps : List Packet) → count_by test (p ∷ ps) ≡ count_by test (p ∷ []) + count_by test ps
counted_first test p ps = sum_by-append _ (p ∷ []) ps

data_yes : (p : Packet) → is_index p ≡ false → count_by is_data (p ∷ []) ≡ 1
data_yes p is = rw is refl

data_no : (p : Packet) → is_index p ≡ true → count_by is_data (p ∷ []) ≡ 0
data_no p is = rw is refl

-- without index packets there are neither nodes nor roots
pub none_at : (p : Packet) (ps : List Packet) → Part p → count_by is_index (p ∷ ps) ≡ 0 → (is_index p ≡ false) × (is_node p ≡ false) × (is_root p ≡ false) × (count_by is_index ps ≡ 0)
none_at p ps (datum i n r len) none = (i, n, r, omega (arith, none, counted_first is_index p ps))
none_at p ps (node_here es e i n r len) none = absurd (omega (arith, none, counted_first is_index p ps, counted_yes is_index p i))
none_at p ps (root_here es e i n r len) none = absurd (omega (arith, none, counted_first is_index p ps, counted_yes is_index p i))

pub no_nodes : (ps : List Packet) → count_by is_index ps ≡ 0 → count_by is_node ps ≡ 0
no_nodes [] none = refl
no_nodes (p ∷ ps) none =
    let parts = none_at p ps (part_of p) none in
    omega (arith, counted_first is_node p ps, counted_no is_node p parts.1, no_nodes ps parts.3)

pub no_roots : (ps : List Packet) → count_by is_index ps ≡ 0 → count_by is_root ps ≡ 0
no_roots [] none = refl
no_roots (p ∷ ps) none =
    let parts = none_at p ps (part_of p) none in
    omega (arith, counted_first is_root p ps, counted_no is_root p parts.2, no_roots ps parts.3)

pub not_closed : (ps : List Packet) → count_by is_index ps ≡ 0 → is_closed_file ps ≡ false
not_closed [] none = refl
not_closed (p ∷ ps) none = let parts = none_at p ps (part_of p) none in rw parts.2 (not_closed ps parts.3)

-- an index is whole only after a root
pub not_whole : (ps : List Packet) → is_closed_file ps ≡ false → has_whole_index ps ≡ false
not_whole ps unclosed = rw unclosed refl

both_first : (a b : Bool) → a && b ≡ true → a ≡ true
both_first true b e = refl
both_first false b e = e

pub whole_closed : (ps : List Packet) → has_whole_index ps ≡ true → is_closed_file ps ≡ true
whole_closed ps whole = both_first (is_closed_file ps) (all_named ps) whole

-- ---- how long an index packet is

index_body : (c : Content) (counter : ℕ) → type_of c == 3 ≡ true → (length (body_of counter c) + 24 ≡ index_len c) × (length (body_of counter c) % 4 ≡ 0)
index_body (node es) counter is = (omega (arith, node_length es), omega (arith, node_length es))
index_body (root es) counter is = (omega (arith, root_length es), omega (arith, root_length es))
index_body c counter is = absurd (let no : false ≡ true = is in cc)

pub none_wide : (check : ℕ) → check ≡ 0 → checksum_bits check / 8 ≡ 0
none_wide check e = rw e refl

long_at : (p : Packet) → p.check ≡ 0 → is_index p ≡ true → length (packet_bytes p) ≡ index_len p.content
long_at p none is =
    let body = index_body p.content p.counter is in
    omega (arith, packet-length p, rest_length p, none_wide p.check none, body.0, body.1)

pub index_long : (p : Packet) → KeepsChecksums p → is_index p ≡ true → length (packet_bytes p) ≡ index_len p.content
index_long p keeps is = long_by (part_of p) where
  long_by : Part p → length (packet_bytes p) ≡ index_len p.content
  long_by (datum i n r len) = absurd (let no : false ≡ true = sym i ∙ is in cc)
  long_by (node_here es e i n r len) = long_at p (keeps (rw e refl)) is
  long_by (root_here es e i n r len) = long_at p (keeps (rw e refl)) is

-- ---- how long an index is

-- the bytes of index packets
abbrev pub index_bytes : List Packet → ℕ
index_bytes ps = sum_by (λ p. index_len p.content) ps

pub bytes_more : (ps : List Packet) (p : Packet) → index_bytes (ps ++ p ∷ []) ≡ index_bytes ps + index_len p.content
bytes_more ps p = omega (arith, sum_by-append (λ (q : Packet). index_len q.content) ps (p ∷ []), sum_by-cons (λ (q : Packet). index_len q.content) p [])

-- how many nodes stand last, with a packet more
unnamed_by : (p : Packet) (b : Bool) → is_node p ≡ b → (offset : ℕ) (names : List RootEntry) → length (last_nodes offset names (p ∷ [])) ≡ cond b (suc (length names)) 0
unnamed_by p true is offset names = rw is (omega (arith, length-append names (root_entry_of offset p ∷ [])))
unnamed_by p false is offset names = rw is refl

unnamed_from : (offset : ℕ) (names : List RootEntry) (ps : List Packet) (p : Packet) (b : Bool) → is_node p ≡ b
    → length (last_nodes offset names (ps ++ p ∷ [])) ≡ cond b (suc (length (last_nodes offset names ps))) 0
unnamed_from offset names [] p b is = unnamed_by p b is offset names
unnamed_from offset names (q ∷ ps) p b is = unnamed_from (offset + length (packet_bytes q)) (cond (is_node q) (names ++ root_entry_of offset q ∷ []) []) ps p b is

pub unnamed_more : (ps : List Packet) (p : Packet) (b : Bool) → is_node p ≡ b → length (unnamed (ps ++ p ∷ [])) ≡ cond b (suc (length (unnamed ps))) 0
unnamed_more ps p b is = unnamed_from 0 [] ps p b is

-- Nodes name each packet of data at most once, and a hundred at most each, and all but the last a hundred; a root names at least one node, and
-- the root before it or itself.
pub record Sized (ps : List Packet) : Type 0 where
  pub named : ℕ
  pub bytes : index_bytes ps + 16 * length (unnamed ps) ≤ 44 * count_by is_node ps + 20 * named + 44 * count_by is_root ps
  pub once : named ≤ count_by is_data ps
  pub few : named ≤ 100 * count_by is_node ps
  pub whole : 100 * count_by is_node ps < count_by is_data ps + 100
  pub roots : count_by is_root ps + length (unnamed ps) ≤ count_by is_node ps

pub sized_within : (ps : List Packet) → Sized ps → (index_bytes ps ≤ 20 * count_by is_data ps + 88 * count_by is_node ps) × (100 * count_by is_node ps < count_by is_data ps + 100)
sized_within ps s = (omega (arith, s.bytes, s.once, s.roots), s.whole)

pub entries_length : (offset : ℕ) (ps : List Packet) → length (node_entries offset ps) ≡ length ps
entries_length offset [] = refl
entries_length offset (p ∷ ps) = omega (arith, entries_length (offset + length (packet_bytes p)) ps)

taken : (n a b : ℕ) → n ≡ min 100 (a - b) → 0 < n → (b < a) × (n ≤ 100) × (n + b ≤ a)
taken n a b is some = (omega (arith, is, some), omega (arith, is, some), omega (arith, is, some))

-- a node that may come next names at least one packet that no node names yet, and a hundred at most
next_named : (before : List Packet) (entries : List NodeEntry) → 0 < length entries → IsNextNode before entries
    → (100 * count_by is_node before < count_by is_data before) × (length entries ≤ 100) × (length entries + 100 * count_by is_node before ≤ count_by is_data before)
next_named before entries some next =
    let all = node_entries 0 (filter is_data before) in
    let most : length all ≡ count_by is_data before = entries_length 0 (filter is_data before) ∙ length-filter is_data before in
    let size : length entries ≡ min 100 (count_by is_data before - 100 * count_by is_node before) =
    ap (λ (es : List NodeEntry). length es) next ∙ length-take 100 (drop (100 * count_by is_node before) all) ∙ ap (min 100) (length-drop (100 * count_by is_node before) all ∙ ap (λ n. n - 100 * count_by is_node before) most) in
    taken (length entries) (count_by is_data before) (100 * count_by is_node before) size some

next_names : (before : List Packet) (p : Packet) (entries : List RootEntry) → IsNextRoot before p entries → length entries ≡ length (unnamed before) + 1
next_names before p entries next =
    let link = last_root 0 (root_entry_of (length (file_bytes before)) p) before in
    omega (arith, ap (λ (es : List RootEntry). length es) next.1, length-append (unnamed before) (link ∷ []))

sized_more : (before : List Packet) (p : Packet) → MayFollow before p → Part p → Sized before → Sized (before ++ p ∷ [])
sized_more before p may (datum i n r len) s =
    let datas : count_by is_data (before ++ p ∷ []) ≡ count_by is_data before + 1 = omega (arith, counted is_data before p, data_yes p i) in
    let same : count_by is_node (before ++ p ∷ []) ≡ count_by is_node before = omega (arith, counted is_node before p, counted_no is_node p n) in
    let none : count_by is_root (before ++ p ∷ []) ≡ count_by is_root before = omega (arith, counted is_root before p, counted_no is_root p r) in
    let long : index_bytes (before ++ p ∷ []) ≡ index_bytes before = omega (arith, bytes_more before p, len) in
    let last : length (unnamed (before ++ p ∷ [])) ≡ 0 = unnamed_more before p false n in
    record {
      named = s.named;
      bytes = omega (arith, long, last, same, none, s.bytes);
      once = omega (arith, datas, s.once);
      few = omega (arith, same, s.few);
      whole = omega (arith, same, datas, s.whole);
      roots = omega (arith, none, last, same, s.roots);
    }
sized_more before p may (node_here es e i n r len) s =
    let datas : count_by is_data (before ++ p ∷ []) ≡ count_by is_data before = omega (arith, counted is_data before p, data_no p i) in
    let more : count_by is_node (before ++ p ∷ []) ≡ count_by is_node before + 1 = omega (arith, counted is_node before p, counted_yes is_node p n) in
    let none : count_by is_root (before ++ p ∷ []) ≡ count_by is_root before = omega (arith, counted is_root before p, counted_no is_root p r) in
    let long : index_bytes (before ++ p ∷ []) ≡ index_bytes before + 28 + 20 * length es = omega (arith, bytes_more before p, len) in
    let last : length (unnamed (before ++ p ∷ [])) ≡ suc (length (unnamed before)) = unnamed_more before p true n in
    let fits : FitsNodeBody es = rw e at may.fits.content in
    let says : HasPlace before × IsNextNode before es = rw e at may.index in
    let next = next_named before es fits.some says.1 in
    record {
      named = s.named + length es;
      bytes = omega (arith, long, last, more, none, s.bytes);
      once = omega (arith, datas, s.few, next.2);
      few = omega (arith, more, s.few, next.1);
      whole = omega (arith, more, datas, next.0);
      roots = omega (arith, none, last, more, s.roots);
    }
sized_more before p may (root_here es e i n r len) s =
    let datas : count_by is_data (before ++ p ∷ []) ≡ count_by is_data before = omega (arith, counted is_data before p, data_no p i) in
    let same : count_by is_node (before ++ p ∷ []) ≡ count_by is_node before = omega (arith, counted is_node before p, counted_no is_node p n) in
    let more : count_by is_root (before ++ p ∷ []) ≡ count_by is_root before + 1 = omega (arith, counted is_root before p, counted_yes is_root p r) in
    let long : index_bytes (before ++ p ∷ []) ≡ index_bytes before + 28 + 16 * length es = omega (arith, bytes_more before p, len) in
    let last : length (unnamed (before ++ p ∷ [])) ≡ 0 = unnamed_more before p false n in
    let says : IsNextRoot before p es = rw e at may.index in
    let names : length es ≡ length (unnamed before) + 1 = next_names before p es says in
    record {
      named = s.named;
      bytes = omega (arith, long, last, same, more, names, s.bytes);
      once = omega (arith, datas, s.once);
      few = omega (arith, same, s.few);
      whole = omega (arith, same, datas, s.whole);
      roots = omega (arith, more, last, same, says.0.0, s.roots);
    }

sized_from : (before ps : List Packet) → EachFollows before ps → Sized before → Sized (before ++ ps)
sized_from before [] each sized = subst (λ (b : List Packet). Sized b) (sym (append-nil before)) sized
sized_from before (p ∷ ps) each sized =
    subst (λ (b : List Packet). Sized b) (append_assoc before (p ∷ []) ps) (sized_from (before ++ p ∷ []) ps each.1 (sized_more before p each.0 (part_of p) sized))

-- the index of a file has 20 bytes for each packet that it names and at most 88 for each node, and all nodes but the last name a hundred
pub sized : (ps : List Packet) → EachFollows [] ps → (index_bytes ps ≤ 20 * count_by is_data ps + 88 * count_by is_node ps) × (100 * count_by is_node ps < count_by is_data ps + 100)
sized ps each = sized_within ps (sized_from [] ps each (record { named = 0; bytes = omega arith; once = omega arith; few = omega arith; whole = omega arith; roots = omega arith }))

-- ---- packets of data

pub datas_yes : (ps : List Packet) (p : Packet) → is_index p ≡ false → filter is_data (ps ++ p ∷ []) ≡ filter is_data ps ++ p ∷ []
datas_yes ps p is = let one : filter is_data (p ∷ []) ≡ p ∷ [] = rw is refl in filter-append is_data ps (p ∷ []) ∙ ap (λ (qs : List Packet). filter is_data ps ++ qs) one

pub datas_no : (ps : List Packet) (p : Packet) → is_index p ≡ true → filter is_data (ps ++ p ∷ []) ≡ filter is_data ps
datas_no ps p is = let none : filter is_data (p ∷ []) ≡ [] = rw is refl in filter-append is_data ps (p ∷ []) ∙ ap (λ (qs : List Packet). filter is_data ps ++ qs) none ∙ append-nil (filter is_data ps)
