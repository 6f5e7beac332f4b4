-- A packet's entries have counts from its counter on, and at most 1,000,000 after it, so that a search reads each packet that has what is sought.
use Rattle.std.proofs.Common.{◌≡◌, ℕ, zero, suc, ◌+◌, ◌-◌, ◌<◌, ◌≤◌, Bool, true, leb, List, [], ◌∷◌, ◌++◌, length, take, get_or, refl, sym, ap, subst, ◌∙◌, arith, append_assoc}
use Rattle.std.specs.Prelude.{filter, Option}
use Rattle.std.specs.List.{AllByRecursion, Contains}
use Rattle.std.proofs.lemmas.Bool.{and_from, le-leb}
use Rattle.std.proofs.lemmas.List.{append-nil, length-append}
use Rattle.std.proofs.lemmas.List.Elements.{filter-append, All-contains, All-from_recursion, Contains-append_right}
use Rattle.r10_indexbody.specs.declared.entry.NodeEntry.{NodeEntry}
use Rattle.r10_body.specs.declared.entry.Entry.{Entry}
use Rattle.r10_body.specs.declared.entry.Timed.{Timed}
use Rattle.r10_body.specs.Content.{messages_of}
use Rattle.r10_body.specs.declared.gap.Gap.{Gap}
use Rattle.r10_body.specs.declared.gap.Gap.TheVariants.{Whole}
use Rattle.r10_body.specs.Packets.{Packet, packet_bytes, packet_entries, file_bytes, file_entries, with_gaps}
use Rattle.r10_body.specs.Rules.{MayFollow, EachFollows, Rise, is_entry_on, node_entry_of, node_entries}
use Rattle.r10_index.specs.Candidates.{is_sought, may_reach, may_hold_sought, candidates}

-- ---- counts of a packet

rise_behind : (count : ℕ) (front : List Entry) (e : Entry) (es : List Entry) → Rise count (front ++ e ∷ es) → Rise e.count es
rise_behind count [] e es rise = rise.1
rise_behind count (x ∷ front) e es rise = rise_behind x.count front e es rise.1

risen : (count : ℕ) (es : List Entry) (k : ℕ) (d : Entry) → Rise count es → k < length es → count ≤ (get_or es k d).count
risen count [] k d rise within = absurd (omega (arith, within))
risen count (e ∷ es) zero d rise within = rise.0
risen count (e ∷ es) (suc k) d rise within = omega (arith, rise.0, risen e.count es k d rise.1 (omega (arith, within)))

-- no entry is before the first, which has the counter
none_before : (counter : ℕ) (front es : List Entry) → AllByRecursion (λ (e : Entry). counter ≡ e.count) (take 1 es) → Rise 0 (front ++ es) → (k : ℕ) (d : Entry) → k < length es → counter ≤ (get_or es k d).count
none_before counter front [] first rise k d within = absurd (omega (arith, within))
none_before counter front (e ∷ es) first rise zero d within = omega (arith, first.0)
none_before counter front (e ∷ es) first rise (suc k) d within = omega (arith, first.0, risen e.count es k d (rise_behind 0 front e es rise) (omega (arith, within)))

all_on : (channel : ℕ) (gap : Gap) (ts : List Timed) (k : ℕ) (d : Entry) → k < length (with_gaps channel gap ts) → (get_or (with_gaps channel gap ts) k d).channel ≡ channel
all_on channel gap [] k d within = absurd (omega (arith, within))
all_on channel gap (t ∷ ts) zero d within = refl
all_on channel gap (t ∷ ts) (suc k) d within = all_on channel Whole ts k d (omega (arith, within))

-- ---- packets and their entries in an index

pub follows_at : (before ps : List Packet) (p : Packet) (behind : List Packet) → EachFollows before (ps ++ p ∷ behind) → MayFollow (before ++ ps) p
follows_at before [] p behind each = subst (λ (b : List Packet). MayFollow b p) (sym (append-nil before)) each.0
follows_at before (q ∷ ps) p behind each = subst (λ (b : List Packet). MayFollow b p) (append_assoc before (q ∷ []) ps) (follows_at (before ++ q ∷ []) ps p behind each.1)

pub entries_joined : (offset : ℕ) (ps qs : List Packet) → node_entries offset (ps ++ qs) ≡ node_entries offset ps ++ node_entries (offset + length (file_bytes ps)) qs
entries_joined offset [] qs = let same : offset ≡ offset + 0 = omega arith in ap (λ n. node_entries n qs) same
entries_joined offset (p ∷ ps) qs =
    let next : ℕ = offset + length (packet_bytes p) in
    let sum : next + length (file_bytes ps) ≡ offset + length (packet_bytes p ++ file_bytes ps) = omega (arith, length-append (packet_bytes p) (file_bytes ps)) in
    ap (λ (es : List NodeEntry). node_entry_of offset p ∷ es) (entries_joined next ps qs ∙ ap (λ n. node_entries next ps ++ node_entries n qs) sum)

pub entries_more : (ps : List Packet) (p : Packet) → node_entries 0 (ps ++ p ∷ []) ≡ node_entries 0 ps ++ node_entry_of (length (file_bytes ps)) p ∷ []
entries_more ps p =
    let start : 0 + length (file_bytes ps) ≡ length (file_bytes ps) = omega arith in
    entries_joined 0 ps (p ∷ []) ∙ ap (λ n. node_entries 0 ps ++ node_entry_of n p ∷ []) start

-- ---- what is sought is found

kept : {X : Type 0} (test : X → Bool) (xs : List X) (y : X) (ys : List X) → test y ≡ true → Contains (filter test (xs ++ y ∷ ys)) y
kept test xs y ys is =
    let here : filter test (y ∷ ys) ≡ y ∷ filter test ys = rw is refl in
    subst (λ zs. Contains zs y) (sym (filter-append test xs (y ∷ ys) ∙ ap (λ zs. filter test xs ++ zs) here)) (Contains-append_right (filter test xs) (y ∷ filter test ys) y (0, omega arith, refl))

pub packet_found : (before : List Packet) (p : Packet) (behind : List Packet) (e : Entry) (channel : Option ℕ) (from to : ℕ) → EachFollows [] (before ++ p ∷ behind)
    → Contains (packet_entries p) e → is_sought channel e.channel ≡ true → from ≤ e.count → e.count ≤ to
    → Contains (candidates channel from to (node_entries 0 (before ++ p ∷ behind))) (node_entry_of (length (file_bytes before)) p)
packet_found before p behind e channel from to each has sought low high =
    let may : MayFollow before p = follows_at [] before p behind each in
    let es = packet_entries p in
    let named : NodeEntry = node_entry_of (length (file_bytes before)) p in
    let at : get_or es has.0 e ≡ e = has.2 in
    let least : p.counter ≤ e.count =
    subst (λ (x : Entry). p.counter ≤ x.count) at (none_before p.counter (filter (is_entry_on p.channel) (file_entries before)) es may.counts.0 may.counts.1 has.0 e has.1) in
    let most : e.count ≤ p.counter + 1000000 = All-contains (λ (x : Entry). x.count ≤ p.counter + 1000000) es e (All-from_recursion (λ (x : Entry). x.count ≤ p.counter + 1000000) es may.counts.2) has in
    let own : e.channel ≡ p.channel = ap (λ (x : Entry). x.channel) (sym at) ∙ all_on p.channel p.gap (messages_of p.counter p.content) has.0 e has.1 in
    let reach : may_reach from to named ≡ true =
    and_from (leb (from - 1000000) p.counter) (leb p.counter to) (le-leb (from - 1000000) p.counter (omega (arith, low, most))) (le-leb p.counter to (omega (arith, high, least))) in
    let holds : may_hold_sought channel from to named ≡ true = and_from (is_sought channel p.channel) (may_reach from to named) (subst (λ c. is_sought channel c ≡ true) own sought) reach in
    let start : 0 + length (file_bytes before) ≡ length (file_bytes before) = omega arith in
    let rest : List NodeEntry = node_entries (0 + length (file_bytes before) + length (packet_bytes p)) behind in
    let joined : node_entries 0 (before ++ p ∷ behind) ≡ node_entries 0 before ++ named ∷ rest =
    entries_joined 0 before (p ∷ behind) ∙ ap (λ n. node_entries 0 before ++ node_entry_of n p ∷ rest) start in
    subst (λ (ns : List NodeEntry). Contains (candidates channel from to ns) named) (sym joined) (kept (may_hold_sought channel from to) (node_entries 0 before) named rest holds)
