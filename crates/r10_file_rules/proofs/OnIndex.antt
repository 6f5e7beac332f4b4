-- The index of a file's packets, with and without a packet more.
use Rattle.std.proofs.Common.{◌≡◌, ◌⊎◌, inl, inr, ◌==◌, Option, None, Some, is_some, not, ℕ, zero, suc, ◌+◌, ◌-◌, ◌*◌, ◌^◌, ◌<◌, ◌≤◌, Bool, true, false, cond, IsTrue, List, [], ◌∷◌, ◌++◌, length, take, drop, refl, sym, ap, subst, ◌∙◌, arith}
use Rattle.std.specs.Prelude.{count_by, filter, min, ◌↔◌, ◌&&◌, ◌||◌, MatchOption}
use Rattle.std.proofs.lemmas.Bool.{eqb-true, le-leb, leb-true, false≢true}
use Rattle.std.specs.List.{AllByRecursion}
use Rattle.std.proofs.lemmas.List.{length-append, length-drop, length-take, take_all, take_min, drop_min}
use Rattle.std.proofs.lemmas.List.Elements.{recursion_from_All, All-from_recursion, All-filter}
use Rattle.std.proofs.lemmas.List.Sums.{length-filter}
use Rattle.r10_count.specs.Count.{IsCount}
use Rattle.r10_indexbody.specs.Index.{FitsNode, FitsNodeBody, FitsRoot, FitsRootBody, node_body, root_body}
use Rattle.r10_indexbody.specs.declared.entry.NodeEntry.{NodeEntry}
use Rattle.r10_indexbody.specs.declared.entry.RootEntry.{RootEntry}
use Rattle.r10_indexbody.proofs.Nodes.{one_node_body}
use Rattle.r10_indexbody.proofs.Roots.{one_root_body}
use Rattle.r10_body.specs.Content.{Content, FitsContent, setup, time, event, uart, bus, arinc, discrete, message, node, root, report, body_of}
use Rattle.r10_body.specs.Packets.{Packet, FitsPacket, packet_body, packet_bytes, packet_entries, file_bytes}
use Rattle.r10_body.specs.Rules.{MayFollow, EachFollows, HasPlace, KeepsIndex, IsNextNode, IsNextRoot, is_time, is_index, is_report_packet, is_data, is_node, is_root, is_closed_file, all_named, has_whole_index, group_size, last_root, node_entry_of, node_entries, root_entry_of, last_time, unnamed}
use Rattle.r10_body.proofs.Groups.{none_unnamed, root_before, root_with, size_grows, size_of_node, size_of_root, size_stays, unnamed_with}
use Rattle.r10_body.proofs.Indexes.{Part, datum, node_here, root_here, part_of, counted, counted_first, counted_yes, counted_no, index_len, index_long, no_nodes, no_roots, not_closed, datas_yes, datas_no, entries_length}
use Rattle.r10_body.proofs.Rules.{bytes_more, follows_fit}
use Rattle.r10_index.specs.Book.{Book}
use Rattle.r10_index.specs.Counted.{IsBookOf, CountsEntriesUpTo}
use Rattle.r10_index.specs.Written.{names}
pub use Rattle.r10_index.proofs.FileWithIndex.{entries_fit}
use Rattle.r10_index.proofs.FileWithIndex.{part_fits, last_more, no_names, no_link_here, closed_last}
use Rattle.r10_index.proofs.Roots.{names_length}
use Rattle.r10_index.proofs.Sought.{entries_joined}
use Rattle.r10_packet_rules.specs.Facts.{AreFactsOf, kind_of}
use Rattle.r10_packet_rules.specs.declared.facts.Facts.{Facts}
use Rattle.r10_packet_rules.specs.declared.facts.PacketKind.TheVariants.{Node, Root}
use Rattle.r10_file_rules.specs.Index.{HasPlaceIn, IsIndexed, IsLastRoot, IsRootHere, link_at}
use Rattle.r10_file_rules.specs.Names.{root_at}
use Rattle.r10_file_rules.specs.declared.index.IndexTracks.{IndexTracks}
use Rattle.r10_file_rules.proofs.Named.{names_more}
use Rattle.r10_file_rules.proofs.Least.{index_packets}
use Rattle.r10_count.proofs.Lists.{all_more}
use Rattle.r10_body.proofs.Lengths.{packets_few}

-- ---- the next hundred

pub part_is : (n product start size : ℕ) (entries es : List NodeEntry) → es ≡ entries → product ≡ min (n * 100) (2 ^ 64 - 1) → start ≡ min product (length es) → size ≡ min (length (take (length es - start) (drop start es))) 100 → length es < 2 ^ 64
    → take size (take (length es - start) (drop start es)) ≡ take 100 (drop (100 * n) entries)
part_is n product start size entries es same product_is start_is size_is short =
    let place : start ≡ min (100 * n) (length es) = omega (arith, product_is, start_is, short) in
    let whole : take (length es - start) (drop start es) ≡ drop start es = take_all (length es - start) (drop start es) (omega (arith, length-drop start es)) in
    let least : size ≡ min 100 (length (drop start es)) = omega (arith, size_is, ap (λ (xs : List NodeEntry). length xs) whole) in
    ap (take size) whole ∙ ap (λ m. take m (drop start es)) least ∙ take_min 100 (drop start es)
    ∙ ap (take 100) (ap (λ m. drop m es) place ∙ drop_min (100 * n) es) ∙ ap (λ (xs : List NodeEntry). take 100 (drop (100 * n) xs)) same

-- ---- what a packet is

record IsA {A : Type 0} (make : List A → Content) (c : Content) : Type 0 where
  entries : List A
  is : c ≡ make entries

as_node : (c : Content) → Node ≡ kind_of c → IsA node c
as_node (setup text) e = absurd (cc)
as_node (time civil) e = absurd (cc)
as_node (event one) e = absurd (cc)
as_node (uart es) e = absurd (cc)
as_node (bus es) e = absurd (cc)
as_node (arinc es) e = absurd (cc)
as_node (discrete bits es) e = absurd (cc)
as_node (message es) e = absurd (cc)
as_node (node es) e = record { entries = es; is = refl }
as_node (root es) e = absurd (cc)
as_node (report loss) e = absurd (cc)

as_root : (c : Content) → Root ≡ kind_of c → IsA root c
as_root (setup text) e = absurd (cc)
as_root (time civil) e = absurd (cc)
as_root (event one) e = absurd (cc)
as_root (uart es) e = absurd (cc)
as_root (bus es) e = absurd (cc)
as_root (arinc es) e = absurd (cc)
as_root (discrete bits es) e = absurd (cc)
as_root (message es) e = absurd (cc)
as_root (node es) e = absurd (cc)
as_root (root es) e = record { entries = es; is = refl }
as_root (report loss) e = absurd (cc)

-- ---- entries

less_at : (test : Packet → Bool) (p : Packet) (ps : List Packet) (b : Bool) → test p ≡ b → length (file_bytes (filter test ps)) ≤ length (file_bytes ps) → length (file_bytes (filter test (p ∷ ps))) ≤ length (file_bytes (p ∷ ps))
less_at test p ps true is rest = rw is (omega (arith, rest, length-append (packet_bytes p) (file_bytes ps), length-append (packet_bytes p) (file_bytes (filter test ps))))
less_at test p ps false is rest = rw is (omega (arith, rest, length-append (packet_bytes p) (file_bytes ps)))

-- some of the packets have no more bytes than all
pub fewer : (test : Packet → Bool) (ps : List Packet) → length (file_bytes (filter test ps)) ≤ length (file_bytes ps)
fewer test [] = omega arith
fewer test (p ∷ ps) = less_at test p ps (test p) refl (fewer test ps)

-- what nodes say of the packets of a file has its fields in range
named_fit : (ps : List Packet) → EachFollows [] ps → length (file_bytes ps) < 2 ^ 63 → AllByRecursion FitsNode (node_entries 0 (filter is_data ps))
named_fit ps each short =
    let all = recursion_from_All FitsPacket (filter is_data ps) (All-filter is_data FitsPacket ps (All-from_recursion FitsPacket ps (follows_fit [] ps each))) in
    entries_fit 0 (filter is_data ps) all (omega (arith, short, fewer is_data ps))

-- ---- what is kept

pub pending_is : (t : IndexTracks) (ps : List Packet) → IsIndexed t ps → length (unnamed ps) ≡ t.pending
pending_is t ps ix = ap (λ (es : List RootEntry). length es) ix.loose ∙ names_length (last_time 0 ps) t.start t.pending

-- how many packets can be named
datas_are : (t : IndexTracks) (ps : List Packet) → IsIndexed t ps → length t.book.entries ≡ count_by is_data ps
datas_are t ps ix = ap (λ (es : List NodeEntry). length es) ix.named ∙ entries_length 0 (filter is_data ps) ∙ length-filter is_data ps

-- how many roots there are, where there are none and where there is one
no_root_is : (root : Option ℕ) (ps : List Packet) → IsLastRoot root ps → count_by is_root ps ≡ 0 → root ≡ None
no_root_is None ps link none = refl
no_root_is (Some offset) ps link none = absurd (omega (arith, link.0, none))

-- all nodes together name all packets, or not
pub all_is : (t : IndexTracks) (ps : List Packet) (b : Bool) → IsIndexed t ps → IsTrue b ↔ (length t.book.entries ≤ 100 * t.nodes) → b ≡ all_named ps
all_is t ps true ix test = sym (le-leb (count_by is_data ps) (100 * count_by is_node ps) (omega (arith, test.0 refl, datas_are t ps ix, ix.nodes)))
all_is t ps false ix test = sym (not_all (all_named ps) refl)
  where
    not_all : (c : Bool) → all_named ps ≡ c → all_named ps ≡ false
    not_all false e = e
    not_all true e = absurd (false≢true (test.1 (omega (arith, leb-true (count_by is_data ps) (100 * count_by is_node ps) e, datas_are t ps ix, ix.nodes))))

-- there is no index packet
pub none_is : (t : IndexTracks) (ps : List Packet) → IsIndexed t ps → (t.nodes ≡ 0) × (t.root ≡ None) → count_by is_index ps ≡ 0
none_is t ps ix none =
    let link : IsLastRoot None ps = subst (λ (o : Option ℕ). IsLastRoot o ps) none.1 ix.link in
    omega (arith, index_packets ps, ix.nodes, none.0, link)

pub is_none_then : (t : IndexTracks) (ps : List Packet) → IsIndexed t ps → count_by is_index ps ≡ 0 → (t.nodes ≡ 0) × (t.root ≡ None)
is_none_then t ps ix none = (omega (arith, index_packets ps, ix.nodes, none), no_root_is t.root ps ix.link (omega (arith, index_packets ps, none)))

-- whether there is a root
pub no_root_then : (root : Option ℕ) (b : Bool) → is_some root ≡ not b → b ≡ true → root ≡ None
no_root_then None b says none = refl
no_root_then (Some offset) true says none = absurd (false≢true (sym says))
no_root_then (Some offset) false says none = absurd (false≢true none)

pub no_root_says : (root : Option ℕ) (b : Bool) → is_some root ≡ not b → root ≡ None → b ≡ true
no_root_says offset true says none = refl
no_root_says offset false says none = absurd (false≢true (sym (ap (λ (o : Option ℕ). is_some o) none) ∙ says))

-- an index packet has the last time's counter
index_or_report : (p : Packet) → is_index p ≡ true → IsTrue (is_index p || is_report_packet p)
index_or_report p is = rw is refl

-- ---- a node

place_is : (root : Option ℕ) (pending group : ℕ) (ps : List Packet) → IsLastRoot root ps → group ≡ group_size ps → length (unnamed ps) ≡ pending → HasPlaceIn root pending group ↔ HasPlace ps
place_is None pending group ps link size many = (λ _ some. absurd (omega (arith, some, link)), λ _. tt)
place_is (Some offset) pending group ps link size many = (λ less some. omega (arith, less, size, many), λ place. omega (arith, place link.0, size, many))

node_from : (ps : List Packet) (p : Packet) (es : List NodeEntry) → p.content ≡ node es → HasPlace ps → IsNextNode ps es → KeepsIndex ps p
node_from ps p es e place next = rw e (place, next)

node_to : (ps : List Packet) (p : Packet) (es : List NodeEntry) → p.content ≡ node es → KeepsIndex ps p → HasPlace ps × IsNextNode ps es
node_to ps p es e keeps = rw e at keeps

pub keeps_node : (t : IndexTracks) (ps : List Packet) (p : Packet) (body : List ℕ) (b : Bool) → IsIndexed t ps → EachFollows [] ps → length (file_bytes ps) < 2 ^ 63
    → Node ≡ kind_of p.content → FitsPacket p → body ≡ packet_body p → IsTrue b ↔ (HasPlaceIn t.root t.pending t.group × (body ≡ node_body (take 100 (drop (100 * t.nodes) t.book.entries)))) → IsTrue b ↔ KeepsIndex ps p
keeps_node t ps p body b ix each short kind fits body_is test =
    let a = as_node p.content kind in
    let all = node_entries 0 (filter is_data ps) in
    let part = take 100 (drop (100 * t.nodes) t.book.entries) in
    let next : part ≡ take 100 (drop (100 * count_by is_node ps) all) =
    ap (λ n. take 100 (drop (100 * n) t.book.entries)) ix.nodes ∙ ap (λ (es : List NodeEntry). take 100 (drop (100 * count_by is_node ps) es)) ix.named in
    let part_fit : AllByRecursion FitsNode part = subst (λ (es : List NodeEntry). AllByRecursion FitsNode es) (sym next) (part_fits (100 * count_by is_node ps) all (named_fit ps each short)) in
    let own : FitsNodeBody a.entries = subst (λ (c : Content). FitsContent p.counter c) a.is fits.content in
    let spelled : body ≡ node_body a.entries = body_is ∙ ap (body_of p.counter) a.is in
    let place = place_is t.root t.pending t.group ps ix.link ix.group (pending_is t ps ix) in (
      λ yes. node_from ps p a.entries a.is (place.0 (test.0 yes).0) (one_node_body a.entries part own.fields part_fit (sym spelled ∙ (test.0 yes).1) ∙ next),
      λ keeps. let says = node_to ps p a.entries a.is keeps in test.1 (place.1 says.0, spelled ∙ ap node_body (says.1 ∙ sym next)),
    )

-- ---- a root

root_from : (ps : List Packet) (p : Packet) (es : List RootEntry) → p.content ≡ root es → IsNextRoot ps p es → KeepsIndex ps p
root_from ps p es e next = rw e next

root_to : (ps : List Packet) (p : Packet) (es : List RootEntry) → p.content ≡ root es → KeepsIndex ps p → IsNextRoot ps p es
root_to ps p es e keeps = rw e at keeps

names_fit : (counter end n : ℕ) → IsCount counter → end + 2028 * n < 2 ^ 64 → AllByRecursion FitsRoot (names counter end n)
names_fit counter end zero is small = tt
names_fit counter end (suc n) is small =
    all_more FitsRoot (names counter end n) (root_at counter (end + 2028 * n)) (names_fit counter end n is (omega (arith, small))) (record { counter = is; offset = omega (arith, small) })

-- where a root's last entry points
link_is : (root : Option ℕ) (ps : List Packet) (p : Packet) (clock counter bytes : ℕ) → IsLastRoot root ps → clock ≡ last_time 0 ps → counter ≡ p.counter → bytes ≡ length (file_bytes ps)
    → link_at clock counter root bytes ≡ last_root 0 (root_entry_of (length (file_bytes ps)) p) ps
link_is None ps p clock counter bytes link clock_is counter_is bytes_is =
    ap (λ n. root_at n bytes) counter_is ∙ ap (λ n. root_at p.counter n) bytes_is ∙ sym (no_link_here 0 (root_entry_of (length (file_bytes ps)) p) ps link)
link_is (Some offset) ps p clock counter bytes link clock_is counter_is bytes_is =
    ap (λ n. root_at n offset) clock_is ∙ sym (link.2 (root_entry_of (length (file_bytes ps)) p))

link_fits : (root : Option ℕ) (ps : List Packet) (clock counter bytes : ℕ) → IsLastRoot root ps → IsCount clock → IsCount counter → bytes < 2 ^ 63 → FitsRoot (link_at clock counter root bytes)
link_fits None ps clock counter bytes link clock_is counter_is short = record { counter = counter_is; offset = omega (arith, short) }
link_fits (Some offset) ps clock counter bytes link clock_is counter_is short = record { counter = clock_is; offset = omega (arith, link.1) }

group_is : (t : IndexTracks) (ps : List Packet) → IsIndexed t ps → (t.pending ≡ t.group) ⊎ (length t.book.entries ≤ 100 * t.nodes) → (length (unnamed ps) ≡ group_size ps) ⊎ (all_named ps ≡ true)
group_is t ps ix (inl whole) = inl (pending_is t ps ix ∙ whole ∙ ix.group)
group_is t ps ix (inr all) = inr (le-leb (count_by is_data ps) (100 * count_by is_node ps) (omega (arith, all, datas_are t ps ix, ix.nodes)))

group_of : (t : IndexTracks) (ps : List Packet) → IsIndexed t ps → (length (unnamed ps) ≡ group_size ps) ⊎ (all_named ps ≡ true) → (t.pending ≡ t.group) ⊎ (length t.book.entries ≤ 100 * t.nodes)
group_of t ps ix (inl whole) = inl (sym (pending_is t ps ix) ∙ whole ∙ sym ix.group)
group_of t ps ix (inr all) = inr (omega (arith, leb-true (count_by is_data ps) (100 * count_by is_node ps) all, datas_are t ps ix, ix.nodes))

pub keeps_root : (t : IndexTracks) (ps : List Packet) (p : Packet) (clock counter : ℕ) (body : List ℕ) (b : Bool) → IsIndexed t ps → EachFollows [] ps → length (file_bytes ps) < 2 ^ 63
    → clock ≡ last_time 0 ps → IsCount clock → counter ≡ p.counter → Root ≡ kind_of p.content → FitsPacket p → body ≡ packet_body p → (t.start + 2028 * t.pending < 2 ^ 64 → IsTrue b ↔ IsRootHere t clock counter body)
    → IsTrue b ↔ KeepsIndex ps p
keeps_root t ps p clock counter body b ix each short clock_is count counter_is kind fits body_is decides =
    let a = as_root p.content kind in
    let test = decides ix.low in
    let own : FitsRootBody a.entries = subst (λ (c : Content). FitsContent p.counter c) a.is fits.content in
    let spelled : body ≡ root_body a.entries = body_is ∙ ap (body_of p.counter) a.is in
    let last = last_root 0 (root_entry_of (length (file_bytes ps)) p) ps in
    let link = link_at clock counter t.root t.bytes in
    let here : List RootEntry = names clock t.start t.pending ++ link ∷ [] in
    let front : unnamed ps ≡ names clock t.start t.pending = ix.loose ∙ ap (λ n. names n t.start t.pending) (sym clock_is) in
    let reported : here ≡ unnamed ps ++ last ∷ [] =
    ap (λ (es : List RootEntry). es ++ link ∷ []) (sym front) ∙ ap (λ (e : RootEntry). unnamed ps ++ e ∷ []) (link_is t.root ps p clock counter t.bytes ix.link clock_is counter_is ix.bytes) in
    let size : length here ≡ t.pending + 1 = omega (arith, length-append (names clock t.start t.pending) (link ∷ []), names_length clock t.start t.pending) in
    let here_fit : AllByRecursion FitsRoot here = all_more FitsRoot (names clock t.start t.pending) link (names_fit clock t.start t.pending count ix.low)
    (link_fits t.root ps clock counter t.bytes ix.link count (subst IsCount (sym counter_is) fits.counter) (omega (arith, ix.bytes, short))) in (
      λ yes.
          let right = test.0 yes in
          root_from ps p a.entries a.is (
            (omega (arith, right.0.0, pending_is t ps ix), group_is t ps ix right.0.2),
            one_root_body a.entries here own.fields here_fit (sym spelled ∙ right.1) ∙ reported,
          ),
      λ keeps.
          let next = root_to ps p a.entries a.is keeps in
          let same : a.entries ≡ here = next.1 ∙ sym reported in
          test.1 (
            (omega (arith, next.0.0, pending_is t ps ix), omega (arith, own.counted, ap (λ (es : List RootEntry). length es) same, size), group_of t ps ix next.0.1),
            spelled ∙ ap root_body same,
          ),
    )

-- ---- a packet more

bytes_grown : (t : IndexTracks) (ps : List Packet) (p : Packet) (f : Facts) (bytes : ℕ) → IsIndexed t ps → AreFactsOf f p → length (file_bytes (ps ++ p ∷ [])) < 2 ^ 63 → bytes ≡ min (t.bytes + f.length) (2 ^ 64 - 1) → bytes ≡ length (file_bytes (ps ++ p ∷ []))
bytes_grown t ps p f bytes ix tells short is =
    let whole : length (file_bytes (ps ++ p ∷ [])) ≡ length (file_bytes ps) + length (packet_bytes p) = ap (λ (b : List ℕ). length b) (bytes_more ps p) ∙ length-append (file_bytes ps) (packet_bytes p) in
    omega (arith, is, ix.bytes, tells.length_is, whole, short)

-- nodes are fewer than bytes
few_nodes : (ps : List Packet) → count_by is_node ps ≤ length (file_bytes ps)
few_nodes ps = omega (arith, sym (length-filter is_node ps), packets_few (filter is_node ps), fewer is_node ps)

-- a node names some packets, of those that no node names yet a hundred, or all
node_size : (ps : List Packet) (p : Packet) (es : List NodeEntry) → MayFollow ps p → p.content ≡ node es
    → (0 < length es) × (length es ≡ min 100 (count_by is_data ps - 100 * count_by is_node ps)) × (length (packet_bytes p) ≡ 28 + 20 * length es)
node_size ps p es may e =
    let says = node_to ps p es e may.index in
    let own : FitsNodeBody es = subst (λ (c : Content). FitsContent p.counter c) e may.fits.content in
    let all = node_entries 0 (filter is_data ps) in
    let total : length all ≡ count_by is_data ps = entries_length 0 (filter is_data ps) ∙ length-filter is_data ps in
    let size : length es ≡ min 100 (count_by is_data ps - 100 * count_by is_node ps) =
    ap (λ (xs : List NodeEntry). length xs) says.1 ∙ length-take 100 (drop (100 * count_by is_node ps) all) ∙ ap (min 100) (length-drop (100 * count_by is_node ps) all ∙ ap (λ m. m - 100 * count_by is_node ps) total) in
    (own.some, size, long p es may e)
  where
    long : (q : Packet) (fs : List NodeEntry) → MayFollow ps q → q.content ≡ node fs → length (packet_bytes q) ≡ 28 + 20 * length fs
    long q fs follows is =
        let index : is_index q ≡ true = rw is refl in
        index_long q follows.checksums index ∙ ap index_len is

-- the place of a node more, and how many bytes there are then
node_sums : (bytes start size long nodes datas n : ℕ) → 0 < size → size ≡ min 100 (datas - 100 * nodes) → long ≡ 28 + 20 * size → 100 * nodes < datas + 100 → bytes ≡ start + 2028 * n
    → (bytes + long + 20 * (100 * (nodes + 1) - datas) ≡ start + 2028 * (n + 1)) × (100 * (nodes + 1) < datas + 100) × (start + 2028 * (n + 1) ≤ bytes + long + 1980)
node_sums bytes start size long nodes datas n some is whole few stands = (omega (arith, some, is, whole, few, stands), omega (arith, some, is, few), omega (arith, some, is, whole, few, stands))

-- where the nodes that stand last begin, with one more
start_is : (pending start bytes first : ℕ) (b : Bool) → pending == 0 ≡ b → first ≡ cond b bytes start → (0 < pending → bytes ≡ start + 2028 * pending) → bytes ≡ first + 2028 * pending
start_is pending start bytes first true none is full = omega (arith, eqb-true pending 0 none, is)
start_is pending start bytes first false none is full = some pending none is full
  where
    some : (n : ℕ) → n == 0 ≡ false → first ≡ start → (0 < n → bytes ≡ start + 2028 * n) → bytes ≡ first + 2028 * n
    some zero e same all = absurd (false≢true (sym e))
    some (suc n) e same all = omega (arith, same, all (omega arith))

same_names : (pending start bytes first clock : ℕ) (b : Bool) → pending == 0 ≡ b → first ≡ cond b bytes start → names clock start pending ≡ names clock first pending
same_names pending start bytes first clock true none is = ap (λ n. names clock start n) (eqb-true pending 0 none) ∙ sym (ap (λ n. names clock first n) (eqb-true pending 0 none))
same_names pending start bytes first clock false none is = ap (λ n. names clock n pending) (sym is)

node_link : (root : Option ℕ) (ps : List Packet) (p : Packet) → is_root p ≡ false → is_time p ≡ false → IsLastRoot root ps → IsLastRoot root (ps ++ p ∷ [])
node_link None ps p r untimed link = omega (arith, link, counted is_root ps p, counted_no is_root p r)
node_link (Some offset) ps p r untimed link =
    (omega (arith, link.0, counted is_root ps p), link.1, λ own. root_before own ps p r ∙ link.2 own ∙ ap (λ n. root_at n offset) (sym (last_more 0 ps p untimed)))

node_group : (root : Option ℕ) (group new : ℕ) (ps : List Packet) (p : Packet) → is_node p ≡ true → is_root p ≡ false → IsLastRoot root ps → group ≡ group_size ps
    → MatchOption root (new ≡ min (group + 1) (2 ^ 64 - 1)) (λ _. new ≡ group) → group_size (ps ++ p ∷ []) < 2 ^ 63 → new ≡ group_size (ps ++ p ∷ [])
node_group None group new ps p n r link is grown short = let one = size_grows ps p link in omega (arith, grown, is, one, size_of_node p n r, short)
node_group (Some offset) group new ps p n r link is grown short = grown ∙ is ∙ sym (size_stays ps p link.0)

size_few_at : (p : Packet) (ps : List Packet) (b : Bool) → is_root p ≡ b → group_size ps ≤ count_by is_node ps → group_size (p ∷ ps) ≤ count_by is_node (p ∷ ps)
size_few_at p ps true is rest = rw is (omega arith)
size_few_at p ps false is rest = rw is (omega (arith, rest, counted_first is_node p ps))

-- a group has no more nodes than there are
size_few : (ps : List Packet) → group_size ps ≤ count_by is_node ps
size_few [] = omega arith
size_few (p ∷ ps) = size_few_at p ps (is_root p) refl (size_few ps)

pub node_added : (t u : IndexTracks) (ps : List Packet) (p : Packet) (f : Facts) → IsIndexed t ps → AreFactsOf f p → MayFollow ps p → length (file_bytes (ps ++ p ∷ [])) < 2 ^ 63 → f.kind ≡ Node
    → u.bytes ≡ min (t.bytes + f.length) (2 ^ 64 - 1) → u.start ≡ cond (t.pending == 0) t.bytes t.start → MatchOption t.root (u.group ≡ min (t.group + 1) (2 ^ 64 - 1)) (λ _. u.group ≡ t.group)
    → u.pending ≡ min (t.pending + 1) (2 ^ 64 - 1) → u.nodes ≡ min (t.nodes + 1) (2 ^ 64 - 1) → u.closed ≡ false → (u.book ≡ t.book) × (u.end ≡ t.end) × (u.root ≡ t.root) → IsIndexed u (ps ++ p ∷ [])
node_added t u ps p f ix tells may short kind bytes_is start_at group_at pending_at nodes_at closed_is same =
    let a = as_node p.content (sym kind ∙ tells.kind) in
    let i : is_index p ≡ true = rw a.is refl in
    let n : is_node p ≡ true = rw a.is refl in
    let r : is_root p ≡ false = rw a.is refl in
    let untimed : is_time p ≡ false = rw a.is refl in
    let clock = last_time 0 ps in
    let clock_same : last_time 0 (ps ++ p ∷ []) ≡ clock = last_more 0 ps p untimed in
    let count_more : count_by is_node (ps ++ p ∷ []) ≡ count_by is_node ps + 1 = omega (arith, counted is_node ps p, counted_yes is_node p n) in
    let most : count_by is_node (ps ++ p ∷ []) ≤ length (file_bytes (ps ++ p ∷ [])) = few_nodes (ps ++ p ∷ []) in
    let whole : length (file_bytes (ps ++ p ∷ [])) ≡ length (file_bytes ps) + length (packet_bytes p) = ap (λ (b : List ℕ). length b) (bytes_more ps p) ∙ length-append (file_bytes ps) (packet_bytes p) in
    let size = node_size ps p a.entries may a.is in
    let bytes = bytes_grown t ps p f u.bytes ix tells short bytes_is in
    let nodes : u.nodes ≡ t.nodes + 1 = omega (arith, nodes_at, ix.nodes, count_more, most, short) in
    let entries : length u.book.entries ≡ count_by is_data ps = ap (λ (b : Book). length b.entries) same.0 ∙ datas_are t ps ix in
    let stands : t.bytes ≡ u.start + 2028 * t.pending = start_is t.pending t.start t.bytes u.start (t.pending == 0) refl start_at
    (λ some. omega (arith, ix.full some, size.0, size.1, datas_are t ps ix, ix.nodes)) in
    let sums = node_sums t.bytes u.start (length a.entries) (length (packet_bytes p)) t.nodes (count_by is_data ps) t.pending size.0 (size.1 ∙ ap (λ m. min 100 (count_by is_data ps - 100 * m)) (sym ix.nodes)) size.2
    (omega (arith, ix.few, datas_are t ps ix)) stands in
    let pending : u.pending ≡ t.pending + 1 = omega (arith, pending_at, stands, ix.bytes, whole, short) in
    let here : root_entry_of (length (file_bytes ps)) p ≡ root_at clock (u.start + 2028 * t.pending) = ap (λ m. root_at m (length (file_bytes ps))) (may.counters.1 (index_or_report p i)) ∙ ap (λ m. root_at clock m) (sym ix.bytes ∙ stands) in
    let loose : unnamed (ps ++ p ∷ []) ≡ names clock u.start (t.pending + 1) =
    unnamed_with ps p n ∙ ap (λ (es : List RootEntry). es ++ root_entry_of (length (file_bytes ps)) p ∷ []) (ix.loose ∙ same_names t.pending t.start t.bytes u.start clock (t.pending == 0) refl start_at)
    ∙ ap (λ (e : RootEntry). names clock u.start t.pending ++ e ∷ []) here ∙ sym (names_more clock u.start t.pending) in
    record {
      named = ap (λ (b : Book). b.entries) same.0 ∙ ix.named ∙ sym (ap (node_entries 0) (datas_no ps p i));
      counted = subst (λ (b : Book). CountsEntriesUpTo b.counted (filter is_data (ps ++ p ∷ []))) (sym same.0) (subst (λ (qs : List Packet). CountsEntriesUpTo t.book.counted qs) (sym (datas_no ps p i)) ix.counted);
      end = same.1 ∙ ix.end ∙ sym (ap (λ (qs : List Packet). length (file_bytes qs)) (datas_no ps p i));
      bytes = bytes;
      nodes = omega (arith, nodes, ix.nodes, count_more);
      group = node_group t.root t.group u.group ps p n r ix.link ix.group group_at (omega (arith, size_few (ps ++ p ∷ []), most, short));
      loose = loose ∙ ap (λ m. names m u.start (t.pending + 1)) (sym clock_same) ∙ ap (λ m. names (last_time 0 (ps ++ p ∷ [])) u.start m) (sym pending);
      full = λ some. omega (arith, sums.0, bytes, ix.bytes, whole, nodes, entries, pending);
      few = omega (arith, sums.1, nodes, entries);
      low = omega (arith, sums.2, pending, ix.bytes, whole, short);
      link = subst (λ (o : Option ℕ). IsLastRoot o (ps ++ p ∷ [])) (sym same.2) (node_link t.root ps p r untimed ix.link);
      closed = closed_is ∙ sym (closed_last false ps p ∙ r);
    }

root_group : (root : Option ℕ) (ps : List Packet) (p : Packet) → is_root p ≡ true → IsLastRoot root ps → group_size (ps ++ p ∷ []) ≡ group_size ps
root_group None ps p r link = omega (arith, size_grows ps p link, size_of_root p r)
root_group (Some offset) ps p r link = size_stays ps p link.0

pub root_added : (t u : IndexTracks) (ps : List Packet) (p : Packet) (f : Facts) (bytes : ℕ) → IsIndexed t ps → AreFactsOf f p → MayFollow ps p → length (file_bytes (ps ++ p ∷ [])) < 2 ^ 63 → f.kind ≡ Root
    → bytes ≡ min (t.bytes + f.length) (2 ^ 64 - 1) → u ≡ record t { bytes = bytes; pending = 0; root = Some t.bytes; closed = true } → IsIndexed u (ps ++ p ∷ [])
root_added t u ps p f bytes ix tells may short kind bytes_is is =
    let a = as_root p.content (sym kind ∙ tells.kind) in
    let i : is_index p ≡ true = rw a.is refl in
    let n : is_node p ≡ false = rw a.is refl in
    let r : is_root p ≡ true = rw a.is refl in
    let untimed : is_time p ≡ false = rw a.is refl in
    let new : IndexTracks = record t { bytes = bytes; pending = 0; root = Some t.bytes; closed = true } in
    let grown = bytes_grown t ps p f bytes ix tells short bytes_is in
    let whole : length (file_bytes (ps ++ p ∷ [])) ≡ length (file_bytes ps) + length (packet_bytes p) = ap (λ (b : List ℕ). length b) (bytes_more ps p) ∙ length-append (file_bytes ps) (packet_bytes p) in
    let so : IsIndexed new (ps ++ p ∷ []) = record {
      named = ix.named ∙ sym (ap (node_entries 0) (datas_no ps p i));
      counted = subst (λ (qs : List Packet). CountsEntriesUpTo t.book.counted qs) (sym (datas_no ps p i)) ix.counted;
      end = ix.end ∙ sym (ap (λ (qs : List Packet). length (file_bytes qs)) (datas_no ps p i));
      bytes = grown;
      nodes = omega (arith, ix.nodes, counted is_node ps p, counted_no is_node p n);
      group = ix.group ∙ sym (root_group t.root ps p r ix.link);
      loose = none_unnamed ps p n;
      full = λ some. absurd (omega (arith, some));
      few = ix.few;
      low = omega (arith, ix.low);
      link = (
        omega (arith, counted is_root ps p, counted_yes is_root p r),
        omega (arith, ix.bytes, whole, short),
        λ own. root_with own ps p r ∙ ap (λ m. root_at p.counter m) (sym ix.bytes) ∙ ap (λ m. root_at m t.bytes) (may.counters.1 (index_or_report p i) ∙ sym (last_more 0 ps p untimed)),
      );
      closed = sym (closed_last false ps p ∙ r);
    } in
    subst (λ (v : IndexTracks). IsIndexed v (ps ++ p ∷ [])) (sym is) so

-- a packet that is neither a node nor a root is none of the index
plain : (p : Packet) (f : Facts) → AreFactsOf f p → (f.kind ≡ Node → ⊥) → (f.kind ≡ Root → ⊥) → Part p → (is_index p ≡ false) × (is_node p ≡ false) × (is_root p ≡ false)
plain p f tells not_node not_root (datum i n r len) = (i, n, r)
plain p f tells not_node not_root (node_here es e i n r len) = absurd (not_node (tells.kind ∙ ap kind_of e))
plain p f tells not_node not_root (root_here es e i n r len) = absurd (not_root (tells.kind ∙ ap kind_of e))

-- and comes where there is none of it
pub datum_keeps : (ps : List Packet) (p : Packet) → is_node p ≡ false → is_root p ≡ false → KeepsIndex ps p ↔ (count_by is_index ps ≡ 0)
datum_keeps ps p n r = datum_at p.content refl where
  datum_at : (c : Content) → p.content ≡ c → KeepsIndex ps p ↔ (count_by is_index ps ≡ 0)
  datum_at (setup text) e = rw e (λ k. k, λ k. k)
  datum_at (time civil) e = rw e (λ k. k, λ k. k)
  datum_at (event one) e = rw e (λ k. k, λ k. k)
  datum_at (uart es) e = rw e (λ k. k, λ k. k)
  datum_at (bus es) e = rw e (λ k. k, λ k. k)
  datum_at (arinc es) e = rw e (λ k. k, λ k. k)
  datum_at (discrete bits es) e = rw e (λ k. k, λ k. k)
  datum_at (message es) e = rw e (λ k. k, λ k. k)
  datum_at (report loss) e = rw e (λ k. k, λ k. k)
  datum_at (node es) e = let yes : is_node p ≡ true = rw e refl in absurd (false≢true (sym n ∙ yes))
  datum_at (root es) e = let yes : is_root p ≡ true = rw e refl in absurd (false≢true (sym r ∙ yes))

pub keeps_datum : (t : IndexTracks) (ps : List Packet) (p : Packet) (f : Facts) (b : Bool) → AreFactsOf f p → (f.kind ≡ Node → ⊥) → (f.kind ≡ Root → ⊥) → IsTrue b ↔ (count_by is_index ps ≡ 0) → IsTrue b ↔ KeepsIndex ps p
keeps_datum t ps p f b tells not_node not_root test =
    let parts = plain p f tells not_node not_root (part_of p) in
    let keeps = datum_keeps ps p parts.1 parts.2 in
    (λ yes. keeps.1 (test.0 yes), λ k. test.1 (keeps.0 k))

datum_link : (root : Option ℕ) (ps : List Packet) (p : Packet) → count_by is_root ps ≡ 0 → is_root p ≡ false → IsLastRoot root ps → IsLastRoot root (ps ++ p ∷ [])
datum_link None ps p none r link = omega (arith, link, counted is_root ps p, counted_no is_root p r)
datum_link (Some offset) ps p none r link = absurd (omega (arith, link.0, none))

pub datum_added : (t u : IndexTracks) (ps : List Packet) (p : Packet) (f : Facts) (bytes : ℕ) → IsIndexed t ps → AreFactsOf f p → MayFollow ps p → length (file_bytes (ps ++ p ∷ [])) < 2 ^ 63 → (f.kind ≡ Node → ⊥) → (f.kind ≡ Root → ⊥)
    → u.book.entries ≡ t.book.entries ++ record { counter = f.counter; data_type = f.data_type; channel = f.channel; offset = t.end } ∷ []
    → ((packets : List Packet) (q : Packet) → IsBookOf t.book packets → record { counter = f.counter; data_type = f.data_type; channel = f.channel; offset = t.end } ≡ node_entry_of (length (file_bytes packets)) q
    → f.entries ≡ length (packet_entries q) → CountsEntriesUpTo u.book.counted (packets ++ q ∷ []))
    → u.end ≡ min (t.end + f.length) (2 ^ 64 - 1)
    → bytes ≡ min (t.bytes + f.length) (2 ^ 64 - 1) → u ≡ record t { book = u.book; end = u.end; bytes = bytes } → IsIndexed u (ps ++ p ∷ [])
datum_added t u ps p f bytes ix tells may short not_node not_root named_is counts end_is bytes_is is =
    let parts = plain p f tells not_node not_root (part_of p) in
    let none : count_by is_index ps ≡ 0 = (datum_keeps ps p parts.1 parts.2).0 may.index in
    let roots : count_by is_root ps ≡ 0 = no_roots ps none in
    let nodes : count_by is_node ps ≡ 0 = no_nodes ps none in
    let pending : t.pending ≡ 0 = omega (arith, pending_is t ps ix, ap (λ (es : List RootEntry). length es) (no_names ps none)) in
    let datas = filter is_data ps in
    let more : filter is_data (ps ++ p ∷ []) ≡ datas ++ p ∷ [] = datas_yes ps p parts.0 in
    let entry : record { counter = f.counter; data_type = f.data_type; channel = f.channel; offset = t.end } ≡ node_entry_of (length (file_bytes datas)) p = rw (tells.counter, tells.data_type, tells.channel, ix.end) refl in
    let none_first : 0 + length (file_bytes datas) ≡ length (file_bytes datas) = omega arith in
    let whole : length (file_bytes (datas ++ p ∷ [])) ≡ length (file_bytes datas) + length (packet_bytes p) = ap (λ (b : List ℕ). length b) (bytes_more datas p) ∙ length-append (file_bytes datas) (packet_bytes p) in
    let all : length (file_bytes (filter is_data (ps ++ p ∷ []))) ≡ length (file_bytes datas) + length (packet_bytes p) = ap (λ (qs : List Packet). length (file_bytes qs)) more ∙ whole in
    let clock = last_time 0 (ps ++ p ∷ []) in
    let new : IndexTracks = record t { book = u.book; end = u.end; bytes = bytes } in
    let so : IsIndexed new (ps ++ p ∷ []) = record {
      named = named_is ∙ ap (λ (es : List NodeEntry). es ++ record { counter = f.counter; data_type = f.data_type; channel = f.channel; offset = t.end } ∷ []) ix.named
          ∙ ap (λ (e : NodeEntry). node_entries 0 datas ++ e ∷ []) entry ∙ sym (ap (node_entries 0) more ∙ entries_joined 0 datas (p ∷ []) ∙ ap (λ n. node_entries 0 datas ++ node_entry_of n p ∷ []) none_first);
      counted = subst (λ (qs : List Packet). CountsEntriesUpTo u.book.counted qs) (sym more) (counts datas p (record { named = ix.named; counted = ix.counted }) entry tells.entries);
      end = omega (arith, end_is, ix.end, tells.length_is, all, fewer is_data (ps ++ p ∷ []), short);
      bytes = bytes_grown t ps p f bytes ix tells short bytes_is;
      nodes = omega (arith, ix.nodes, counted is_node ps p, counted_no is_node p parts.1);
      group = ix.group ∙ omega (arith, size_grows ps p roots, size_of_datum p parts.1 parts.2);
      loose = none_unnamed ps p parts.1 ∙ ap (λ m. names clock t.start m) (sym pending);
      full = λ some. absurd (omega (arith, some, pending));
      few = omega (arith, ix.nodes, nodes);
      low = ix.low;
      link = datum_link t.root ps p roots parts.2 ix.link;
      closed = ix.closed ∙ not_closed ps none ∙ sym (closed_last false ps p ∙ parts.2);
    } in
    subst (λ (v : IndexTracks). IsIndexed v (ps ++ p ∷ [])) (sym is) so
  where
    size_of_datum : (q : Packet) → is_node q ≡ false → is_root q ≡ false → group_size (q ∷ []) ≡ 0
    size_of_datum q n r = rw (r, n) refl

-- ---- the end of a file

-- a root stands at the end, and nodes name all packets or not
pub whole_is : (ps : List Packet) (closed named : Bool) → closed ≡ true → closed ≡ is_closed_file ps → named ≡ all_named ps → named ≡ has_whole_index ps
whole_is ps closed named shut is all = all ∙ sym (ap (λ b. b && all_named ps) (sym is ∙ shut))
