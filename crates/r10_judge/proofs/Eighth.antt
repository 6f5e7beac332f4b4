-- Index packets that break rule 8 and none below it.
use Rattle.std.proofs.Common.{◌≡◌, ℕ, zero, suc, ◌+◌, ◌*◌, ◌<◌, ◌≤◌, ◌⊎◌, inl, inr, Bool, true, false, None, List, [], ◌∷◌, ◌++◌, length, take, drop, refl, sym, ap, ◌∙◌, subst, arith, lit<, lit≤}
use Rattle.std.specs.Prelude.{count_by, filter}
use Rattle.std.specs.List.{AllByRecursion}
use Rattle.std.proofs.lemmas.List.{append-nil, length-append, length-drop, length-take}
use Rattle.std.proofs.lemmas.List.Sums.{length-filter}
use Rattle.r10_packet.specs.Header.{header_bytes}
use Rattle.r10_indexbody.specs.Index.{FitsNode}
use Rattle.r10_indexbody.specs.declared.entry.NodeEntry.{NodeEntry}
use Rattle.r10_indexbody.proofs.Nodes.{body-length as node_length}
use Rattle.r10_body.proofs.Lone.{packet-length}
use Rattle.r10_body.proofs.Recording.{setup-first, time-second, uart-third, node-fourth}
use Rattle.r10_body.specs.Content.{type_of}
use Rattle.r10_body.specs.Faults.{IsFollowedByFlagged, IsAtFault}
use Rattle.r10_body.specs.Packets.{Packet, FitsPacket, packet_bytes, packet_rest, file_bytes, file_entries}
use Rattle.r10_body.specs.Rules.{MayFollow, EachFollows, KeepsChecksums, KeepsStart, KeepsChannels, KeepsSequence, KeepsCounts, KeepsIndex, Rise, is_index, is_data, is_node, packet_on, is_entry_on, last_report, node_entries}
use Rattle.r10_body.specs.Vectors.{data_packets, data-len, a_node_packet}
use Rattle.r10_body.specs.declared.entry.Entry.{Entry}
use Rattle.r10_body.specs.declared.fault.FileFault.TheVariants.{Rule}
use Rattle.r10_packet_rules.proofs.Written.{packet_foreign}
use Rattle.r10_body.proofs.Indexes.{counted, entries_length, no_nodes}
use Rattle.r10_body.proofs.Lengths.{last_with}
use Rattle.r10_body.proofs.Rules.{follows_more, follows_fit, bytes_more, entries_more}
use Rattle.r10_body.proofs.Sentences.{rest_length}
use Rattle.r10_file_rules.proofs.OnIndex.{entries_fit}
use Rattle.r10_file_rules.specs.Broken as broken_later
use Rattle.r10_judge.specs.Judged.{KeepRules, BreaksIn, broken_rule, in_open_file, stopped_at}
use Rattle.r10_judge.specs.Copies.{copy, copies, node_of_99}
use Rattle.r10_judge.proofs.Answering.{no_report, reads_first}
use Rattle.r10_judge.proofs.Judging.{to_bytes, from_bytes}
use Rattle.r10_judge.proofs.Ending.{broken_at_fault}
use Rattle.std.proofs.lemmas.Bool.{false≢true}
use Rattle.r10_count.proofs.Lists.{all_joined, all_taken}

-- ---- a packet that breaks rule 8 and none below it

pub record KeepsBelow (before : List Packet) (p : Packet) : Type 0 where
  pub fits : FitsPacket p
  pub checksums : KeepsChecksums p
  pub start : KeepsStart before p
  pub channels : KeepsChannels before p
  pub sequence : KeepsSequence before p
  pub counts : KeepsCounts before p

least_eight : (closed : Bool) (before : List Packet) (p : Packet) (m : ℕ) → KeepsBelow before p → BreaksIn closed before p m → 8 ≤ m
least_eight closed before p m keeps (broken_rule (broken_later.start b)) = absurd (b keeps.start)
least_eight closed before p m keeps (broken_rule (broken_later.channels b)) = absurd (b keeps.channels)
least_eight closed before p m keeps (broken_rule (broken_later.sequence b)) = absurd (b keeps.sequence)
least_eight closed before p m keeps (broken_rule (broken_later.counts b)) = absurd (b keeps.counts)
least_eight closed before p m keeps (broken_rule (broken_later.index b)) = lit≤ tt
least_eight closed before p m keeps (broken_rule (broken_later.counters b)) = lit≤ tt
least_eight closed before p m keeps (broken_rule (broken_later.events b)) = lit≤ tt
least_eight closed before p m keeps (broken_rule (broken_later.reports b)) = lit≤ tt
least_eight closed before p m keeps (in_open_file index open_file) = lit≤ tt

at_eight : (closed : Bool) (before : List Packet) (p : Packet) (more : List ℕ) → KeepRules closed before → last_report before ≡ None → KeepsBelow before p → BreaksIn closed before p 8
    → IsAtFault (file_bytes before ++ (packet_bytes p ++ more)) closed (length (file_bytes before)) (Rule 8)
at_eight closed before p more rules quiet keeps breaks =
    let reads = λ (later : List ℕ). reads_first p (more ++ later) (keeps.fits, keeps.checksums) in
    broken_at_fault closed (stopped_at before 8) (file_bytes before ++ (packet_bytes p ++ more)) (record {
      packets = before;
      packet = packet_bytes p;
      more = more;
      bytes_are = refl;
      keep = rules;
      answered = no_report (last_report before) (λ loss. IsFollowedByFlagged loss (packet_bytes p)) quiet;
      foreign = packet_foreign p keeps.fits;
      number = 8;
      at_is = refl;
      broken = λ later. to_bytes closed before (packet_bytes p ++ (more ++ later)) p 8 (reads later) breaks;
      least = λ later m b. at_least m (from_bytes closed before (packet_bytes p ++ (more ++ later)) p m (reads later) b);
    })
  where
    at_least : (m : ℕ) → (m ≡ 11) ⊎ BreaksIn closed before p m → 8 ≤ m
    at_least m (inl is) = omega (arith, is)
    at_least m (inr b) = least_eight closed before p m keeps b

-- ---- many packets

-- what is known of a setup, a time and so many packets of one message
record Known (n : ℕ) (ps : List Packet) : Type 0 where
  pub each : EachFollows [] ps
  pub long : length ps ≡ 2 + n
  pub bytes : length (file_bytes ps) ≡ 68 + 44 * n
  pub fives : count_by (packet_on 5) ps ≡ n
  pub zeros : count_by (packet_on 0) ps ≡ 1
  pub index : count_by is_index ps ≡ 0
  pub datas : count_by is_data ps ≡ 2 + n
  pub types : AllByRecursion (λ q. q.channel ≡ 5 → type_of q.content ≡ 0x50) ps
  pub counts : AllByRecursion (λ e. e.count ≡ 1000) (file_entries ps)
  pub quiet : last_report ps ≡ None

-- entries at one count don't fall
filtered : (channel : ℕ) (es : List Entry) (e : Entry) (b : Bool) → is_entry_on channel e ≡ b → AllByRecursion (λ x. x.count ≡ 1000) (filter (is_entry_on channel) es) → e.count ≡ 1000
    → AllByRecursion (λ x. x.count ≡ 1000) (filter (is_entry_on channel) (e ∷ es))
filtered channel es e true is rest here = rw is (here, rest)
filtered channel es e false is rest here = rw is rest

all_filtered : (channel : ℕ) (es : List Entry) → AllByRecursion (λ x. x.count ≡ 1000) es → AllByRecursion (λ x. x.count ≡ 1000) (filter (is_entry_on channel) es)
all_filtered channel [] all = tt
all_filtered channel (e ∷ es) all = filtered channel es e (is_entry_on channel e) refl (all_filtered channel es all.1) all.0

level : (count : ℕ) (es : List Entry) → AllByRecursion (λ x. x.count ≡ 1000) es → count ≤ 1000 → Rise count es
level count [] all le = tt
level count (e ∷ es) all le = (omega (arith, all.0, le), level e.count es all.1 (omega (arith, all.0)))

-- the next one may follow
copy_may : (n : ℕ) (ps : List Packet) → n < 256 → Known n ps → MayFollow ps (copy n)
copy_may n ps lt k = record {
  fits = record { channel = lit< tt; sequence = omega (arith, lt); gap = tt; check = lit< tt; counter = lit< tt; content = (lit< tt, (record { count = lit< tt; sub = lit< tt; bytes = lit< tt }, tt)); short = lit≤ tt };
  checksums = λ _. refl;
  start = ((λ e. absurd (false≢true e), λ e. absurd (omega (arith, e, k.long))), λ e. absurd (omega (arith, e, k.long)));
  channels = ((λ e. absurd (false≢true e), λ e. absurd (omega (arith, e))), λ _. k.types, λ _. refl);
  sequence = omega (arith, k.fives, lt);
  counts = ((refl, tt), level 0 _ (all_joined (λ (x : Entry). x.count ≡ 1000) (filter (is_entry_on 5) (file_entries ps)) _ (all_filtered 5 (file_entries ps) k.counts) (refl, tt)) (omega arith), (lit≤ tt, tt));
  index = k.index;
  counters = (λ e. absurd (omega (arith, e, k.long)), λ e. absurd (false≢true e));
  events = tt;
  reports = (rw k.quiet refl, tt);
}

copy_long : (n : ℕ) → length (packet_bytes (copy n)) ≡ 44
copy_long n = let rest : length (packet_rest (copy n)) ≡ 20 = refl in omega (arith, packet-length (copy n), rest)

copy_more : (n : ℕ) (ps : List Packet) → n < 256 → Known n ps → Known (suc n) (ps ++ copy n ∷ [])
copy_more n ps lt k = record {
  each = follows_more [] ps (copy n) k.each (copy_may n ps lt k);
  long = omega (arith, k.long, length-append ps (copy n ∷ []));
  bytes = omega (arith, k.bytes, ap (λ (b : List ℕ). length b) (bytes_more ps (copy n)), length-append (file_bytes ps) (packet_bytes (copy n)), copy_long n);
  fives = omega (arith, k.fives, counted (packet_on 5) ps (copy n));
  zeros = omega (arith, k.zeros, counted (packet_on 0) ps (copy n));
  index = omega (arith, k.index, counted is_index ps (copy n));
  datas = omega (arith, k.datas, counted is_data ps (copy n));
  types = all_joined (λ (q : Packet). q.channel ≡ 5 → type_of q.content ≡ 0x50) ps (copy n ∷ []) k.types (λ _. refl, tt);
  counts = subst (λ (es : List Entry). AllByRecursion (λ e. e.count ≡ 1000) es) (sym (entries_more ps (copy n))) (all_joined (λ (e : Entry). e.count ≡ 1000) (file_entries ps) _ k.counts (refl, tt));
  quiet = last_with None ps (copy n);
}

known : (n : ℕ) → n ≤ 256 → Known n (copies n)
unfolding copies packet_bytes header_bytes
known zero le = record {
  each = (setup-first, (time-second, tt));
  long = refl;
  bytes = refl;
  fives = refl;
  zeros = refl;
  index = refl;
  datas = refl;
  types = (λ e. absurd (omega (arith, e)), (λ e. absurd (omega (arith, e)), tt));
  counts = (refl, tt);
  quiet = refl;
}
known (suc n) le = copy_more n (copies n) (omega (arith, le)) (known n (omega (arith, le)))

-- ---- a node of 99 entries

keeps_below : (n : ℕ) (ps : List Packet) → 98 ≤ n → n ≤ 256 → Known n ps → KeepsBelow ps (node_of_99 ps)
keeps_below n ps least most k =
    let p : Packet = node_of_99 ps in
    let entries = node_entries 0 ps in
    let size : length (take 99 entries) ≡ 99 = omega (arith, length-take 99 entries, entries_length 0 ps, k.long, least) in
    let fit = entries_fit 0 ps (follows_fit [] ps k.each) (omega (arith, k.bytes, most)) in
    record {
      fits = record {
        channel = lit< tt;
        sequence = lit< tt;
        gap = tt;
        check = lit< tt;
        counter = lit< tt;
        content = record { some = omega (arith, size); counted = omega (arith, size); fields = all_taken FitsNode 99 entries fit };
        short = omega (arith, rest_length p, node_length (take 99 entries), size);
      };
      checksums = λ _. refl;
      start = ((λ e. absurd (false≢true e), λ e. absurd (omega (arith, e, k.long))), λ e. absurd (omega (arith, e, k.long)));
      channels = ((λ _. refl, λ _. refl), λ lt. absurd (omega arith), λ _. refl);
      sequence = omega (arith, k.zeros);
      counts = (tt, subst (λ (es : List Entry). Rise 0 es) (sym (append-nil (filter (is_entry_on 0) (file_entries ps)))) (level 0 _ (all_filtered 0 (file_entries ps) k.counts) (omega arith)), tt);
    }

one_short : (n : ℕ) (ps : List Packet) → 98 ≤ n → Known n ps → KeepsIndex ps (node_of_99 ps) → ⊥
one_short n ps least k (place, entries) =
    let all = node_entries 0 (filter is_data ps) in
    let none : count_by is_node ps ≡ 0 = no_nodes ps k.index in
    let there : length all ≡ 2 + n = entries_length 0 (filter is_data ps) ∙ length-filter is_data ps ∙ k.datas in
    let next : length (take 100 (drop (100 * count_by is_node ps) all)) ≡ 100 =
    omega (arith, length-take 100 (drop (100 * count_by is_node ps) all), length-drop (100 * count_by is_node ps) all, there, none, least) in
    omega (arith, ap (λ (es : List NodeEntry). length es) entries, next, length-take 99 (node_entries 0 ps))

pub short_node : (n : ℕ) (closed : Bool) (more : List ℕ) → 98 ≤ n → n ≤ 256 → IsAtFault (file_bytes (copies n) ++ (packet_bytes (node_of_99 (copies n)) ++ more)) closed (68 + 44 * n) (Rule 8)
short_node n closed more least most =
    let k = known n most in
    let ps = copies n in
    subst (λ (offset : ℕ). IsAtFault (file_bytes ps ++ (packet_bytes (node_of_99 ps) ++ more)) closed offset (Rule 8)) k.bytes
    (at_eight closed ps (node_of_99 ps) more (record { strict = k.each; unclosed = λ _. k.index }) k.quiet (keeps_below n ps least most k) (broken_rule (broken_later.index (one_short n ps least k))))

-- ---- an index packet of an unclosed file

pub open_index : (more : List ℕ) → IsAtFault (file_bytes data_packets ++ (packet_bytes a_node_packet ++ more)) false 124 (Rule 8)
open_index more =
    let may = node-fourth in
    subst (λ (offset : ℕ). IsAtFault (file_bytes data_packets ++ (packet_bytes a_node_packet ++ more)) false offset (Rule 8)) data-len
    (at_eight false data_packets a_node_packet more (record { strict = (setup-first, (time-second, (uart-third, tt))); unclosed = λ _. refl }) refl
    (record { fits = may.fits; checksums = may.checksums; start = may.start; channels = may.channels; sequence = may.sequence; counts = may.counts }) (in_open_file refl refl))
