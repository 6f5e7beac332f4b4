-- A file of packets with the written index after it keeps all rules, and is closed.
use Rattle.std.proofs.Common.{◌≡◌, ℕ, zero, suc, ◌+◌, ◌-◌, ◌*◌, ◌/◌, ◌%◌, ◌^◌, ◌<◌, ◌≤◌, ◌⊎◌, inl, inr, Bool, true, false, cond, ◌&&◌, List, [], ◌∷◌, ◌++◌, length, take, drop, refl, sym, ap, subst, ◌∙◌, arith, append_assoc, Option, None, Some}
use Rattle.std.specs.Prelude.{count_by, filter, min, nat_lt}
use Rattle.std.specs.List.{AllByRecursion}
use Rattle.std.proofs.lemmas.Bool.{false≢true, le-leb, lt-ltb, ltb-false, ltb-true}
use Rattle.std.proofs.lemmas.List.{append-nil, length-append, length-drop, length-take}
use Rattle.std.proofs.lemmas.List.Elements.{filter-append, recursion_from_All, All-from_recursion, All-drop, All-take}
use Rattle.std.proofs.lemmas.List.Sums.{length-filter}
use Rattle.r10_count.specs.Count.{IsCount}
use Rattle.r10_count.proofs.Lists.{all_more}
use Rattle.r10_indexbody.specs.Index.{FitsNode, FitsRoot}
use Rattle.r10_indexbody.specs.declared.entry.NodeEntry.{NodeEntry}
use Rattle.r10_indexbody.specs.declared.entry.RootEntry.{RootEntry}
use Rattle.r10_body.specs.declared.entry.Entry.{Entry}
use Rattle.r10_indexbody.proofs.Nodes.{body-length as node_length}
use Rattle.r10_indexbody.proofs.Roots.{body-length as root_length}
use Rattle.r10_body.specs.Packets.{Packet, FitsPacket, packet_bytes, file_bytes, file_entries}
use Rattle.r10_body.specs.Rules.{MayFollow, EachFollows, IsFile, Rise, is_time, is_index, is_data, is_node, is_root, is_closed_file, closed_from, all_named, packet_on, is_entry_on, node_entries, root_entry_of, last_nodes, unnamed, last_root, last_report, group_size, last_time}
use Rattle.r10_body.specs.Sequence.{next_sequence}
use Rattle.r10_body.proofs.ChannelLists.{rises}
use Rattle.r10_body.proofs.Groups.{unnamed_with, none_unnamed, root_with, root_before, size_stays, size_grows, size_of_node, size_of_root}
use Rattle.r10_body.proofs.Indexes.{counted, counted_first, counted_yes, counted_no, index_long, no_nodes, no_roots, none_at, not_whole, part_of, entries_length}
use Rattle.r10_body.proofs.Lengths.{last_with}
use Rattle.r10_body.proofs.Lone.{packet-length}
use Rattle.r10_body.proofs.Reporting.{time_fits}
use Rattle.r10_body.proofs.Rules.{follows_more, follows_fit, bytes_more}
use Rattle.r10_body.proofs.Sentences.{type_fits, rest_length}
use Rattle.r10_index.specs.Written.{node_packet, group_nodes, node_count, root_entries, link_of, root_packet, groups, index_of, IsGroup}

-- ---- what the packets of data are

data_at : (p : Packet) (ps : List Packet) (b : Bool) → is_index p ≡ b → count_by is_index (p ∷ ps) ≡ 0 → filter is_data ps ≡ ps → filter is_data (p ∷ ps) ≡ p ∷ ps
data_at p ps true is none rest = absurd (omega (arith, none, counted_first is_index p ps, counted_yes is_index p is))
data_at p ps false is none rest = rw is (ap (λ (qs : List Packet). p ∷ qs) rest)

left_none : (p : Packet) (ps : List Packet) → count_by is_index (p ∷ ps) ≡ 0 → count_by is_index ps ≡ 0
left_none p ps none = omega (arith, none, counted_first is_index p ps)

-- without index packets all are of data, and no root names a node
pub all_data : (ps : List Packet) → count_by is_index ps ≡ 0 → filter is_data ps ≡ ps
all_data [] none = refl
all_data (p ∷ ps) none = data_at p ps (is_index p) refl none (all_data ps (left_none p ps none))

-- nor is there a group
no_names_from : (offset : ℕ) (ps : List Packet) → count_by is_index ps ≡ 0 → last_nodes offset [] ps ≡ []
no_names_from offset [] none = refl
no_names_from offset (p ∷ ps) none =
    let parts = none_at p ps (part_of p) none in
    rw parts.1 (no_names_from (offset + length (packet_bytes p)) ps parts.3)

pub no_names : (ps : List Packet) → count_by is_index ps ≡ 0 → unnamed ps ≡ []
no_names ps none = no_names_from 0 ps none

no_group : (ps : List Packet) → count_by is_index ps ≡ 0 → group_size ps ≡ 0
no_group [] none = refl
no_group (p ∷ ps) none =
    let parts = none_at p ps (part_of p) none in
    rw parts.2 (omega (arith, counted_no is_node p parts.1, no_group ps parts.3))

no_link_at : (offset : ℕ) (own : RootEntry) (p : Packet) (ps : List Packet) (b : Bool) → is_root p ≡ b → count_by is_root (p ∷ ps) ≡ 0
    → (count_by is_root ps ≡ 0 → last_root (offset + length (packet_bytes p)) own ps ≡ own) → last_root offset own (p ∷ ps) ≡ own
no_link_at offset own p ps true is none rest = absurd (omega (arith, none, counted_first is_root p ps, counted_yes is_root p is))
no_link_at offset own p ps false is none rest = rw is (rest (omega (arith, none, counted_first is_root p ps)))

-- without a root none is the last
pub no_link_here : (offset : ℕ) (own : RootEntry) (ps : List Packet) → count_by is_root ps ≡ 0 → last_root offset own ps ≡ own
no_link_here offset own [] none = refl
no_link_here offset own (p ∷ ps) none = no_link_at offset own p ps (is_root p) refl none (λ left. no_link_here (offset + length (packet_bytes p)) own ps left)

-- ---- the entries

-- the entries of packets that fit have their fields in range
pub entries_fit : (offset : ℕ) (ps : List Packet) → AllByRecursion FitsPacket ps → offset + length (file_bytes ps) < 2 ^ 64 → AllByRecursion FitsNode (node_entries offset ps)
entries_fit offset [] fits short = tt
entries_fit offset (p ∷ ps) fits short =
    let long : length (file_bytes (p ∷ ps)) ≡ length (packet_bytes p) + length (file_bytes ps) = length-append (packet_bytes p) (file_bytes ps) in (
      record { counter = fits.0.counter; data_type = type_fits p.content; channel = fits.0.channel; offset = omega (arith, short) },
      entries_fit (offset + length (packet_bytes p)) ps fits.1 (omega (arith, short, long)),
    )

pub part_fits : (n : ℕ) (entries : List NodeEntry) → AllByRecursion FitsNode entries → AllByRecursion FitsNode (take 100 (drop n entries))
part_fits n entries fits =
    recursion_from_All FitsNode (take 100 (drop n entries)) (All-take FitsNode 100 (drop n entries) (All-drop FitsNode n entries (All-from_recursion FitsNode entries fits)))

-- a packet has 24 bytes or more
pub bytes_of_packets : (ps : List Packet) → 24 * length ps ≤ length (file_bytes ps)
bytes_of_packets [] = omega arith
bytes_of_packets (p ∷ ps) = omega (arith, bytes_of_packets ps, packet-length p, length-append (packet_bytes p) (file_bytes ps))

-- ---- nodes

pub nodes_length : (counter number : ℕ) (entries : List NodeEntry) (before n : ℕ) → length (group_nodes counter number entries before n) ≡ n
nodes_length counter number entries before zero = refl
nodes_length counter number entries before (suc n) =
    omega (arith, nodes_length counter number entries before n, length-append (group_nodes counter number entries before n) (node_packet counter (number + n) entries (before + n) ∷ []))

pub roots_more : (end : ℕ) (ps : List Packet) (p : Packet) → root_entries end (ps ++ p ∷ []) ≡ root_entries end ps ++ root_entry_of (end + length (file_bytes ps)) p ∷ []
roots_more end [] p = let same : end ≡ end + 0 = omega arith in ap (λ n. root_entry_of n p ∷ []) same
roots_more end (q ∷ ps) p =
    let more = roots_more (end + length (packet_bytes q)) ps p in
    let sum : end + length (packet_bytes q) + length (file_bytes ps) ≡ end + length (packet_bytes q ++ file_bytes ps) = omega (arith, length-append (packet_bytes q) (file_bytes ps)) in
    ap (λ (es : List RootEntry). root_entry_of end q ∷ es) (more ∙ ap (λ n. root_entries (end + length (packet_bytes q)) ps ++ root_entry_of n p ∷ []) sum)

roots_length : (offset : ℕ) (ps : List Packet) → length (root_entries offset ps) ≡ length ps
roots_length offset [] = refl
roots_length offset (p ∷ ps) = omega (arith, roots_length (offset + length (packet_bytes p)) ps)

-- a node has a hundred entries at most
node_bytes : (counter number : ℕ) (entries : List NodeEntry) (n : ℕ) → length (packet_bytes (node_packet counter number entries n)) ≤ 2028
node_bytes counter number entries n = omega (arith, index_long (node_packet counter number entries n) (λ _. refl) refl, length-take 100 (drop (100 * n) entries))

pub last_more : (start : ℕ) (qs : List Packet) (p : Packet) → is_time p ≡ false → last_time start (qs ++ p ∷ []) ≡ last_time start qs
last_more start [] p is = rw is refl
last_more start (q ∷ qs) p is = last_more (cond (is_time q) q.counter start) qs p is

-- ---- what is known after groups and so many nodes

-- of how many nodes the first group is: where there is no root yet, of those that are there
abbrev pub Grouped : Option ℕ → ℕ → ℕ → ℕ → List Packet → Type 0
Grouped None per n m before = (count_by is_root before ≡ 0) × (n ≡ 0) × (group_size before ≡ m)
Grouped (Some at) per n m before = (0 < count_by is_root before) × (group_size before ≡ per)

-- after the file's packets stand groups of n nodes together, and then these nodes, of which the first stands at an offset
pub record Stands (ps : List Packet) (per n number start : ℕ) (link : Option ℕ) (group before : List Packet) : Type 0 where
  pub each : EachFollows [] before
  pub datas : filter is_data before ≡ ps
  pub nodes : count_by is_node before ≡ n + length group
  pub names : unnamed before ≡ root_entries start group
  pub bytes : length (file_bytes before) ≡ start + length (file_bytes group)
  pub low : start ≤ length (file_bytes ps) + 2088 * n
  pub short : length (file_bytes group) ≤ 2028 * length group
  pub fit : AllByRecursion FitsRoot (root_entries start group)
  pub grouped : Grouped link per n (length group) before
  pub root : (own : RootEntry) → last_root 0 own before ≡ link_of (last_time 0 ps) link own
  pub linked : (own : RootEntry) → FitsRoot own → FitsRoot (link_of (last_time 0 ps) link own)
  pub zeros : next_sequence 0 before ≡ (number + length group) % 256
  pub time : last_time 0 before ≡ last_time 0 ps
  pub some : 2 ≤ length before
  pub quiet : last_report before ≡ None

-- no index packet says an entry
nothing_more : (before : List Packet) → EachFollows [] before → Rise 0 (filter (is_entry_on 0) (file_entries before) ++ [])
nothing_more before each = subst (λ (es : List Entry). Rise 0 es) (sym (append-nil (filter (is_entry_on 0) (file_entries before)))) (rises 0 before each)

-- a group that isn't whole has place for a node more
place : (link : Option ℕ) (per n m : ℕ) (before : List Packet) → Grouped link per n m before → m < per → 0 < count_by is_root before → m < group_size before
place None per n m before grouped less roots = absurd (omega (arith, roots, grouped.0))
place (Some at) per n m before grouped less roots = omega (arith, less, grouped.1)

-- the next node may follow
pub node_follows : (ps : List Packet) (per n number start : ℕ) (link : Option ℕ) (nodes before : List Packet) → AllByRecursion FitsPacket ps → length (file_bytes ps) < 2 ^ 63
    → Stands ps per n number start link nodes before → length nodes < per → 100 * (n + length nodes) < length ps
    → MayFollow before (node_packet (last_time 0 ps) (number + length nodes) (node_entries 0 ps) (n + length nodes))
node_follows ps per n number start link nodes before fits short s less left =
    let entries = node_entries 0 ps in
    let k = n + length nodes in
    let part = take 100 (drop (100 * k) entries) in
    let size : length part ≡ min 100 (length ps - 100 * k) =
    length-take 100 (drop (100 * k) entries) ∙ ap (min 100) (length-drop (100 * k) entries ∙ ap (λ m. m - 100 * k) (entries_length 0 ps)) in
    let p : Packet = node_packet (last_time 0 ps) (number + length nodes) entries k in
    let says : part ≡ take 100 (drop (100 * count_by is_node before) (node_entries 0 (filter is_data before))) = rw (s.nodes, s.datas) refl in
    let many : length (unnamed before) ≡ length nodes = ap (λ (es : List RootEntry). length es) s.names ∙ roots_length start nodes in
    record {
      fits = record {
        channel = omega arith;
        sequence = omega arith;
        gap = tt;
        check = omega arith;
        counter = time_fits 0 ps (omega arith) fits;
        content = record { some = omega (arith, size, left); counted = omega (arith, size); fields = part_fits (100 * k) entries (entries_fit 0 ps fits (omega (arith, short))) };
        short = omega (arith, rest_length p, node_length part, size);
      };
      checksums = λ _. refl;
      start = ((λ e. absurd (false≢true e), λ e. absurd (omega (arith, e, s.some))), λ e. absurd (omega (arith, e, s.some)));
      channels = ((λ _. refl, λ _. refl), λ lt. absurd (omega arith), λ _. refl);
      sequence = sym s.zeros;
      counts = (tt, nothing_more before s.each, tt);
      index = (λ roots. omega (arith, many, place link per n (length nodes) before s.grouped less roots), says);
      counters = (λ e. absurd (omega (arith, e, s.some)), λ _. sym s.time);
      events = tt;
      reports = (rw s.quiet refl, tt);
    }

-- and then one node more is there
grouped_more : (link : Option ℕ) (per n m : ℕ) (before : List Packet) (p : Packet) → is_node p ≡ true → is_root p ≡ false → Grouped link per n m before → Grouped link per n (m + 1) (before ++ p ∷ [])
grouped_more None per n m before p node other g =
    (omega (arith, g.0, counted is_root before p, counted_no is_root p other), g.1, omega (arith, size_grows before p g.0, size_of_node p node other, g.2))
grouped_more (Some at) per n m before p node other g = (omega (arith, g.0, counted is_root before p), size_stays before p g.0 ∙ g.1)

-- all that stands before is short enough for offsets of 64 bits
in_64 : (size count start n bytes m : ℕ) → size < 2 ^ 63 → 24 * count ≤ size → start ≤ size + 2088 * n → bytes ≤ 2028 * m → 100 * (n + m) < count + 100 → start + bytes < 2 ^ 64
in_64 size count start n bytes m short packets low long few = omega (arith, short, packets, low, long, few)

pub node_stands : (ps : List Packet) (per n number start : ℕ) (link : Option ℕ) (nodes before : List Packet) → AllByRecursion FitsPacket ps → length (file_bytes ps) < 2 ^ 63
    → (s : Stands ps per n number start link nodes before) → 100 * (n + length nodes) < length ps
    → MayFollow before (node_packet (last_time 0 ps) (number + length nodes) (node_entries 0 ps) (n + length nodes))
    → Stands ps per n number start link (nodes ++ node_packet (last_time 0 ps) (number + length nodes) (node_entries 0 ps) (n + length nodes) ∷ []) (before ++ node_packet (last_time 0 ps) (number + length nodes) (node_entries 0 ps) (n + length nodes) ∷ [])
node_stands ps per n number start link nodes before fits short s left may =
    let p : Packet = node_packet (last_time 0 ps) (number + length nodes) (node_entries 0 ps) (n + length nodes) in
    let one : length (nodes ++ p ∷ []) ≡ length nodes + 1 = length-append nodes (p ∷ []) in
    let here : root_entry_of (length (file_bytes before)) p ≡ root_entry_of (start + length (file_bytes nodes)) p = ap (λ k. root_entry_of k p) s.bytes in
    let names : root_entries start (nodes ++ p ∷ []) ≡ root_entries start nodes ++ root_entry_of (start + length (file_bytes nodes)) p ∷ [] = roots_more start nodes p in
    let long : length (file_bytes (nodes ++ p ∷ [])) ≡ length (file_bytes nodes) + length (packet_bytes p) =
    ap (λ (b : List ℕ). length b) (bytes_more nodes p) ∙ length-append (file_bytes nodes) (packet_bytes p) in
    let whole : length (file_bytes (before ++ p ∷ [])) ≡ length (file_bytes before) + length (packet_bytes p) =
    ap (λ (b : List ℕ). length b) (bytes_more before p) ∙ length-append (file_bytes before) (packet_bytes p) in
    let within : start + length (file_bytes nodes) < 2 ^ 64 =
    in_64 (length (file_bytes ps)) (length ps) start n (length (file_bytes nodes)) (length nodes) short (bytes_of_packets ps) s.low s.short (omega (arith, left)) in
    record {
      each = follows_more [] before p s.each may;
      datas = filter-append is_data before (p ∷ []) ∙ append-nil (filter is_data before) ∙ s.datas;
      nodes = omega (arith, s.nodes, counted is_node before p, one);
      names = unnamed_with before p refl ∙ ap (λ (es : List RootEntry). es ++ root_entry_of (length (file_bytes before)) p ∷ []) s.names
          ∙ ap (λ (e : RootEntry). root_entries start nodes ++ e ∷ []) here ∙ sym names;
      bytes = omega (arith, s.bytes, long, whole);
      low = s.low;
      short = omega (arith, s.short, long, one, node_bytes (last_time 0 ps) (number + length nodes) (node_entries 0 ps) (n + length nodes));
      fit = subst (λ (es : List RootEntry). AllByRecursion FitsRoot es) (sym names)
          (all_more FitsRoot (root_entries start nodes) (root_entry_of (start + length (file_bytes nodes)) p) s.fit (record { counter = time_fits 0 ps (omega arith) fits; offset = within }));
      grouped = subst (λ k. Grouped link per n k (before ++ p ∷ [])) (sym one) (grouped_more link per n (length nodes) before p refl refl s.grouped);
      root = λ own. root_before own before p refl ∙ s.root own;
      linked = s.linked;
      zeros = omega (arith, s.zeros, counted (packet_on 0) before p, one);
      time = last_more 0 before p refl ∙ s.time;
      some = omega (arith, s.some, length-append before (p ∷ []));
      quiet = last_with None before p;
    }

-- after groups stand the nodes of one more
pub nodes_stand : (ps : List Packet) (per n number start : ℕ) (link : Option ℕ) (before : List Packet) (m : ℕ) → AllByRecursion FitsPacket ps → length (file_bytes ps) < 2 ^ 63
    → Stands ps per n number start link [] before → m ≤ per → 100 * (n + m) < length ps + 100
    → Stands ps per n number start link (group_nodes (last_time 0 ps) number (node_entries 0 ps) n m) (before ++ group_nodes (last_time 0 ps) number (node_entries 0 ps) n m)
nodes_stand ps per n number start link before zero fits short s few left = subst (λ (b : List Packet). Stands ps per n number start link [] b) (sym (append-nil before)) s
nodes_stand ps per n number start link before (suc m) fits short s few left =
    let counter = last_time 0 ps in
    let entries = node_entries 0 ps in
    let nodes = group_nodes counter number entries n m in
    let so = nodes_stand ps per n number start link before m fits short s (omega (arith, few)) (omega (arith, left)) in
    let many : length nodes ≡ m = nodes_length counter number entries n m in
    let less : 100 * (n + length nodes) < length ps = omega (arith, many, left) in
    let may = node_follows ps per n number start link nodes (before ++ nodes) fits short so (omega (arith, many, few)) less in
    let next = node_stands ps per n number start link nodes (before ++ nodes) fits short so less may in
    let named : node_packet counter (number + length nodes) entries (n + length nodes) ≡ node_packet counter (number + m) entries (n + m) = ap (λ k. node_packet counter (number + k) entries (n + k)) many in
    let moved = subst (λ (p : Packet). Stands ps per n number start link (nodes ++ p ∷ []) ((before ++ nodes) ++ p ∷ [])) named next in
    subst (λ (b : List Packet). Stands ps per n number start link (nodes ++ node_packet counter (number + m) entries (n + m) ∷ []) b) (append_assoc before nodes (node_packet counter (number + m) entries (n + m) ∷ [])) moved

-- ---- the root

-- a group ends where it is whole, or where all packets are named
ends : (link : Option ℕ) (per n m : ℕ) (before : List Packet) → Grouped link per n m before → length (unnamed before) ≡ m → (m ≡ per) ⊎ (all_named before ≡ true)
    → (length (unnamed before) ≡ group_size before) ⊎ (all_named before ≡ true)
ends None per n m before g many either = inl (many ∙ sym g.2)
ends (Some at) per n m before g many (inl whole) = inl (many ∙ whole ∙ sym g.1)
ends (Some at) per n m before g many (inr all) = inr all

-- the root may follow its nodes
pub root_follows : (ps : List Packet) (per n number start : ℕ) (link : Option ℕ) (nodes before : List Packet) → AllByRecursion FitsPacket ps → length (file_bytes ps) < 2 ^ 63
    → Stands ps per n number start link nodes before → 0 < length nodes → length nodes ≤ 32765 → 100 * (n + length nodes) < length ps + 100 → (length nodes ≡ per) ⊎ (all_named before ≡ true)
    → MayFollow before (root_packet (last_time 0 ps) (number + length nodes) start link nodes)
root_follows ps per n number start link nodes before fits short s filled few left either =
    let time = last_time 0 ps in
    let p : Packet = root_packet time (number + length nodes) start link nodes in
    let own : RootEntry = record { counter = time; offset = start + length (file_bytes nodes) } in
    let last : RootEntry = link_of time link own in
    let names = root_entries start nodes ++ last ∷ [] in
    let size : length names ≡ length nodes + 1 = omega (arith, length-append (root_entries start nodes) (last ∷ []), roots_length start nodes) in
    let stamped : IsCount time = time_fits 0 ps (omega arith) fits in
    let within : start + length (file_bytes nodes) < 2 ^ 64 =
    in_64 (length (file_bytes ps)) (length ps) start n (length (file_bytes nodes)) (length nodes) short (bytes_of_packets ps) s.low s.short left in
    let many : length (unnamed before) ≡ length nodes = ap (λ (es : List RootEntry). length es) s.names ∙ roots_length start nodes in
    let linked : last_root 0 (root_entry_of (length (file_bytes before)) p) before ≡ last =
    s.root (root_entry_of (length (file_bytes before)) p) ∙ ap (λ k. link_of time link (record { counter = time; offset = k })) s.bytes in
    let says : names ≡ unnamed before ++ last_root 0 (root_entry_of (length (file_bytes before)) p) before ∷ [] =
    ap (λ (es : List RootEntry). es ++ last ∷ []) (sym s.names) ∙ ap (λ (e : RootEntry). unnamed before ++ e ∷ []) (sym linked) in
    record {
      fits = record {
        channel = omega arith;
        sequence = omega arith;
        gap = tt;
        check = omega arith;
        counter = stamped;
        content = record {
          some = omega (arith, size);
          counted = omega (arith, size, few);
          fields = all_more FitsRoot (root_entries start nodes) last s.fit (s.linked own (record { counter = stamped; offset = within }));
        };
        short = omega (arith, rest_length p, root_length names, size, few);
      };
      checksums = λ _. refl;
      start = ((λ e. absurd (false≢true e), λ e. absurd (omega (arith, e, s.some))), λ e. absurd (omega (arith, e, s.some)));
      channels = ((λ _. refl, λ _. refl), λ lt. absurd (omega arith), λ _. refl);
      sequence = sym s.zeros;
      counts = (tt, nothing_more before s.each, tt);
      index = ((omega (arith, many, filled), ends link per n (length nodes) before s.grouped many either), says);
      counters = (λ e. absurd (omega (arith, e, s.some)), λ _. sym s.time);
      events = tt;
      reports = (rw s.quiet refl, tt);
    }

-- a root more, after a group of the size that all groups have
grouped_next : (link : Option ℕ) (per n m at : ℕ) (before : List Packet) (p : Packet) → is_root p ≡ true → Grouped link per n m before → m ≡ per → Grouped (Some at) per (n + m) 0 (before ++ p ∷ [])
grouped_next None per n m at before p is g whole =
    (omega (arith, counted is_root before p, counted_yes is_root p is), omega (arith, size_grows before p g.0, size_of_root p is, g.2, whole))
grouped_next (Some old) per n m at before p is g whole = (omega (arith, g.0, counted is_root before p), size_stays before p g.0 ∙ g.1)

pub root_bytes : (counter number start : ℕ) (link : Option ℕ) (nodes : List Packet) → length (packet_bytes (root_packet counter number start link nodes)) ≡ 44 + 16 * length nodes
root_bytes counter number start link nodes =
    let last : RootEntry = link_of counter link (record { counter = counter; offset = start + length (file_bytes nodes) }) in
    omega (arith, index_long (root_packet counter number start link nodes) (λ _. refl) refl, length-append (root_entries start nodes) (last ∷ []), roots_length start nodes)

pub root_stands : (ps : List Packet) (per n number start : ℕ) (link : Option ℕ) (nodes before : List Packet) → AllByRecursion FitsPacket ps → length (file_bytes ps) < 2 ^ 63
    → Stands ps per n number start link nodes before → 0 < length nodes → 100 * (n + length nodes) < length ps + 100 → length nodes ≡ per
    → MayFollow before (root_packet (last_time 0 ps) (number + length nodes) start link nodes)
    → Stands ps per (n + length nodes) (number + length nodes + 1) (start + length (file_bytes nodes) + length (packet_bytes (root_packet (last_time 0 ps) (number + length nodes) start link nodes)))
    (Some (start + length (file_bytes nodes))) [] (before ++ root_packet (last_time 0 ps) (number + length nodes) start link nodes ∷ [])
root_stands ps per n number start link nodes before fits short s filled left whole may =
    let time = last_time 0 ps in
    let p : Packet = root_packet time (number + length nodes) start link nodes in
    let stamped : IsCount time = time_fits 0 ps (omega arith) fits in
    let within : start + length (file_bytes nodes) < 2 ^ 64 =
    in_64 (length (file_bytes ps)) (length ps) start n (length (file_bytes nodes)) (length nodes) short (bytes_of_packets ps) s.low s.short left in
    let bytes : length (file_bytes (before ++ p ∷ [])) ≡ length (file_bytes before) + length (packet_bytes p) =
    ap (λ (b : List ℕ). length b) (bytes_more before p) ∙ length-append (file_bytes before) (packet_bytes p) in
    record {
      each = follows_more [] before p s.each may;
      datas = filter-append is_data before (p ∷ []) ∙ append-nil (filter is_data before) ∙ s.datas;
      nodes = omega (arith, s.nodes, counted is_node before p);
      names = none_unnamed before p refl;
      bytes = omega (arith, bytes, s.bytes);
      low = omega (arith, s.low, s.short, filled, root_bytes time (number + length nodes) start link nodes);
      short = omega arith;
      fit = tt;
      grouped = grouped_next link per n (length nodes) (start + length (file_bytes nodes)) before p refl s.grouped whole;
      root = λ own. root_with own before p refl ∙ ap (λ k. root_entry_of k p) s.bytes;
      linked = λ own is. record { counter = stamped; offset = within };
      zeros = omega (arith, s.zeros, counted (packet_on 0) before p);
      time = last_more 0 before p refl ∙ s.time;
      some = omega (arith, s.some, length-append before (p ∷ []));
      quiet = last_with None before p;
    }

-- ---- all groups

pub closed_last : (b : Bool) (ps : List Packet) (p : Packet) → closed_from b (ps ++ p ∷ []) ≡ is_root p
closed_last b [] p = refl
closed_last b (q ∷ ps) p = closed_last (is_root q) ps p

-- the packets keep all rules, and the last of them is a root after which nothing is left to name
pub record IsWhole (packets : List Packet) : Type 0 where
  pub each : EachFollows [] packets
  pub closed : is_closed_file packets ≡ true
  pub named : all_named packets ≡ true
  pub some : 2 ≤ length packets
  pub quiet : last_report packets ≡ None

pub nlt_is : (a b : ℕ) (c : Bool) → nat_lt a b ≡ c → b ≤ a → nat_lt a b ≡ false
nlt_is a b true e le = absurd (omega (arith, le, ltb-true a b e))
nlt_is a b false e le = e

-- after all nodes no group is left
pub none_left : (fuel per counter number start : ℕ) (link : Option ℕ) (entries : List NodeEntry) (n : ℕ) → node_count entries ≤ n → groups fuel per counter number start link entries n ≡ []
none_left zero per counter number start link entries n done = refl
none_left (suc fuel) per counter number start link entries n done = rw (nlt_is n (node_count entries) (nat_lt n (node_count entries)) refl done) refl

named_all : (before : List Packet) (count nodes : ℕ) → count_by is_data before ≡ count → count_by is_node before ≡ nodes → count ≤ 100 * nodes → all_named before ≡ true
named_all before count nodes datas is few = le-leb (count_by is_data before) (100 * count_by is_node before) (omega (arith, datas, is, few))

split_group : (before nodes : List Packet) (last : Packet) (rest : List Packet) → (before ++ nodes) ++ last ∷ rest ≡ before ++ ((nodes ++ last ∷ []) ++ rest)
split_group before nodes last rest = append_assoc before nodes (last ∷ rest) ∙ ap (λ (qs : List Packet). before ++ qs) (sym (append_assoc nodes (last ∷ []) rest))

-- how many nodes the next group has
pub next_size : (per n count m : ℕ) → 0 < per → n < count → m ≡ min per (count - n) → (0 < m) × (m ≤ per) × (n + m ≤ count) × (n + m < count → m ≡ per)
next_size per n count m some left is = (omega (arith, is, some, left), omega (arith, is), omega (arith, is, left), λ more. omega (arith, is, more))

bounds : (m : ℕ) → (m ≤ 100 * ((m + 99) / 100)) × (100 * ((m + 99) / 100) < m + 100)
bounds m = (omega arith, omega arith)

pub split_lt : {X : Type 0} (a b : ℕ) (c : Bool) → nat_lt a b ≡ c → (a < b → X) → (b ≤ a → X) → X
split_lt a b true e less more = less (ltb-true a b e)
split_lt a b false e less more = more (ltb-false a b e)

pub count_is : (ps : List Packet) → node_count (node_entries 0 ps) ≡ (length ps + 99) / 100
count_is ps = ap (λ k. (k + 99) / 100) (entries_length 0 ps)

-- a whole group, after which others come
group_full : (per : ℕ) (ps : List Packet) (n number start : ℕ) (link : Option ℕ) (before : List Packet) (m : ℕ) → AllByRecursion FitsPacket ps → length (file_bytes ps) < 2 ^ 63 → IsGroup per
    → Stands ps per n number start link [] before → m ≡ per → n + m < node_count (node_entries 0 ps)
    → Stands ps per (n + m) (number + m + 1)
    (start + length (file_bytes (group_nodes (last_time 0 ps) number (node_entries 0 ps) n m)) + length (packet_bytes (root_packet (last_time 0 ps) (number + m) start link (group_nodes (last_time 0 ps) number (node_entries 0 ps) n m))))
    (Some (start + length (file_bytes (group_nodes (last_time 0 ps) number (node_entries 0 ps) n m)))) []
    ((before ++ group_nodes (last_time 0 ps) number (node_entries 0 ps) n m) ++ root_packet (last_time 0 ps) (number + m) start link (group_nodes (last_time 0 ps) number (node_entries 0 ps) n m) ∷ [])
group_full per ps n number start link before m fits short is s whole more =
    let nodes = group_nodes (last_time 0 ps) number (node_entries 0 ps) n m in
    let all = bounds (length ps) in
    let low : 100 * (n + m) < length ps + 100 = omega (arith, more, count_is ps, all.1) in
    let many : length nodes ≡ m = nodes_length (last_time 0 ps) number (node_entries 0 ps) n m in
    let so = nodes_stand ps per n number start link before m fits short s (omega (arith, whole)) low in
    let some : 0 < length nodes = omega (arith, many, whole, is.0) in
    let few : 100 * (n + length nodes) < length ps + 100 = omega (arith, many, low) in
    let may = root_follows ps per n number start link nodes (before ++ nodes) fits short so some (omega (arith, many, whole, is.1)) few (inl (many ∙ whole)) in
    subst (λ k. Stands ps per (n + k) (number + k + 1) (start + length (file_bytes nodes) + length (packet_bytes (root_packet (last_time 0 ps) (number + k) start link nodes))) (Some (start + length (file_bytes nodes))) []
    ((before ++ nodes) ++ root_packet (last_time 0 ps) (number + k) start link nodes ∷ [])) many
    (root_stands ps per n number start link nodes (before ++ nodes) fits short so some few (many ∙ whole) may)

-- the last group
group_last : (per : ℕ) (ps : List Packet) (n number start : ℕ) (link : Option ℕ) (before : List Packet) (m : ℕ) → AllByRecursion FitsPacket ps → length (file_bytes ps) < 2 ^ 63 → IsGroup per
    → Stands ps per n number start link [] before → 0 < m → m ≤ per → n + m ≤ node_count (node_entries 0 ps) → node_count (node_entries 0 ps) ≤ n + m
    → IsWhole ((before ++ group_nodes (last_time 0 ps) number (node_entries 0 ps) n m) ++ root_packet (last_time 0 ps) (number + m) start link (group_nodes (last_time 0 ps) number (node_entries 0 ps) n m) ∷ [])
group_last per ps n number start link before m fits short is s some most within done =
    let nodes = group_nodes (last_time 0 ps) number (node_entries 0 ps) n m in
    let last = root_packet (last_time 0 ps) (number + m) start link nodes in
    let all = bounds (length ps) in
    let low : 100 * (n + m) < length ps + 100 = omega (arith, within, count_is ps, all.1) in
    let many : length nodes ≡ m = nodes_length (last_time 0 ps) number (node_entries 0 ps) n m in
    let so = nodes_stand ps per n number start link before m fits short s most low in
    let datas : count_by is_data (before ++ nodes) ≡ length ps = sym (length-filter is_data (before ++ nodes)) ∙ ap (λ (qs : List Packet). length qs) so.datas in
    let covered : length ps ≤ 100 * (n + m) = omega (arith, done, count_is ps, all.0) in
    let named : all_named (before ++ nodes) ≡ true = named_all (before ++ nodes) (length ps) (n + m) datas (omega (arith, so.nodes, many)) covered in
    let few : 100 * (n + length nodes) < length ps + 100 = omega (arith, many, low) in
    let may = root_follows ps per n number start link nodes (before ++ nodes) fits short so (omega (arith, many, some)) (omega (arith, many, most, is.1)) few (inr named) in
    subst (λ k. IsWhole ((before ++ nodes) ++ root_packet (last_time 0 ps) (number + k) start link nodes ∷ [])) many (record {
      each = follows_more [] (before ++ nodes) (root_packet (last_time 0 ps) (number + length nodes) start link nodes) so.each may;
      closed = closed_last false (before ++ nodes) (root_packet (last_time 0 ps) (number + length nodes) start link nodes);
      named = named_all ((before ++ nodes) ++ root_packet (last_time 0 ps) (number + length nodes) start link nodes ∷ []) (length ps) (n + m)
          (omega (arith, datas, counted is_data (before ++ nodes) (root_packet (last_time 0 ps) (number + length nodes) start link nodes)))
          (omega (arith, so.nodes, many, counted is_node (before ++ nodes) (root_packet (last_time 0 ps) (number + length nodes) start link nodes))) covered;
      some = omega (arith, so.some, length-append (before ++ nodes) (root_packet (last_time 0 ps) (number + length nodes) start link nodes ∷ []));
      quiet = last_with None (before ++ nodes) (root_packet (last_time 0 ps) (number + length nodes) start link nodes);
    })

-- the group that comes next, and after it the others
pub groups_follow : (fuel per : ℕ) (ps : List Packet) (n number start : ℕ) (link : Option ℕ) (before : List Packet) → AllByRecursion FitsPacket ps → length (file_bytes ps) < 2 ^ 63 → IsGroup per
    → Stands ps per n number start link [] before → n < node_count (node_entries 0 ps) → node_count (node_entries 0 ps) ≤ n + fuel
    → IsWhole (before ++ groups fuel per (last_time 0 ps) number start link (node_entries 0 ps) n)
groups_follow zero per ps n number start link before fits short is s left fuel = absurd (omega (arith, left, fuel))
groups_follow (suc more) per ps n number start link before fits short is s left fuel =
    let counter = last_time 0 ps in
    let entries = node_entries 0 ps in
    let count = node_count entries in
    let m = min per (count - n) in
    let nodes = group_nodes counter number entries n m in
    let own = start + length (file_bytes nodes) in
    let last = root_packet counter (number + m) start link nodes in
    let ended = (before ++ nodes) ++ last ∷ [] in
    let next = own + length (packet_bytes last) in
    let rest = groups more per counter (number + m + 1) next (Some own) entries (n + m) in
    let size = next_size per n count m is.0 left refl in
    let step : groups (suc more) per counter number start link entries n ≡ (nodes ++ last ∷ []) ++ rest = ap (λ b. cond b ((nodes ++ last ∷ []) ++ rest) []) (lt-ltb n count left) in
    let joined : ended ++ rest ≡ before ++ groups (suc more) per counter number start link entries n =
    append_assoc (before ++ nodes) (last ∷ []) rest ∙ split_group before nodes last rest ∙ ap (λ (qs : List Packet). before ++ qs) (sym step) in
    subst (λ (qs : List Packet). IsWhole qs) joined (split_lt (n + m) count (nat_lt (n + m) count) refl
    (λ less. groups_follow more per ps (n + m) (number + m + 1) next (Some own) ended fits short is (group_full per ps n number start link before m fits short is s (size.3 less) less) less (omega (arith, fuel, size.0)))
    (λ done. subst (λ (qs : List Packet). IsWhole (ended ++ qs)) (sym (none_left more per counter (number + m + 1) next (Some own) entries (n + m) done))
    (subst (λ (qs : List Packet). IsWhole qs) (sym (append-nil ended)) (group_last per ps n number start link before m fits short is s size.0 size.1 size.2 done))))

-- a file without an index, and its index after it, are a file that is closed
pub index_closes : (per : ℕ) (ps : List Packet) → IsGroup per → IsFile ps → is_closed_file ps ≡ false → length (file_bytes ps) < 2 ^ 63 → IsFile (ps ++ index_of per ps) × (is_closed_file (ps ++ index_of per ps) ≡ true)
index_closes per ps is file unclosed short =
    let none : count_by is_index ps ≡ 0 = file.index (not_whole ps unclosed) in
    let fits = follows_fit [] ps file.each in
    let count = node_count (node_entries 0 ps) in
    let stands : Stands ps per 0 (next_sequence 0 ps) (length (file_bytes ps)) None [] ps = record {
      each = file.each;
      datas = all_data ps none;
      nodes = omega (arith, no_nodes ps none);
      names = no_names ps none;
      bytes = omega arith;
      low = omega arith;
      short = omega arith;
      fit = tt;
      grouped = (no_roots ps none, refl, no_group ps none);
      root = λ own. no_link_here 0 own ps (no_roots ps none);
      linked = λ own fine. fine;
      zeros = omega arith;
      time = refl;
      some = file.start;
      quiet = file.reports;
    } in
    let whole = groups_follow count per ps 0 (next_sequence 0 ps) (length (file_bytes ps)) None ps fits short is stands (omega (arith, count_is ps, file.start)) (omega arith) in (
      record { each = whole.each; start = whole.some; index = λ e. absurd (false≢true (sym e ∙ both (is_closed_file (ps ++ index_of per ps)) (all_named (ps ++ index_of per ps)) whole.closed whole.named)); reports = whole.quiet },
      whole.closed,
    )
  where
    both : (a b : Bool) → a ≡ true → b ≡ true → a && b ≡ true
    both a b at bt = rw (at, bt) refl
