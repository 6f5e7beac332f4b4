-- How long a file is: no longer than its cost.
use Rattle.std.proofs.Common.{◌≡◌, ℕ, ◌+◌, ◌*◌, ◌<◌, ◌≤◌, ◌⊎◌, inl, inr, Bool, true, false, ◌==◌, ◌||◌, IsTrue, cond, Option, None, Some, List, [], ◌∷◌, ◌++◌, length, map, take, refl, sym, ap, ◌∙◌, arith}
use Rattle.std.specs.Prelude.{count_by}
use Rattle.std.specs.List.{sum_by}
use Rattle.std.proofs.lemmas.Bool.{eqb-true, false_from_ne_true, false≢true}
use Rattle.std.proofs.lemmas.List.{length-append}
use Rattle.std.proofs.lemmas.List.Sums.{sum_by-append, sum_by-cons}
use Rattle.r10_packet.proofs.Lengths.{checksum_width}
use Rattle.r10_uart.specs.Uart.{uart_entry_size}
use Rattle.r10_uart.proofs.Bodies.{body-length as uart_length}
use Rattle.r10_b1553.specs.Bus.{bus_entry_size}
use Rattle.r10_b1553.proofs.Bodies.{body-length as bus_length}
use Rattle.r10_a429.proofs.Bodies.{body-length as arinc_length}
use Rattle.r10_discrete.proofs.Bodies.{body-length as discrete_length}
use Rattle.r10_message.specs.Message.{message_entry_size}
use Rattle.r10_message.proofs.Bodies.{body-length as message_length}
use Rattle.r10_body.proofs.Lone.{packet-length}
use Rattle.r10_body.specs.Content.{Content, setup, time, event, uart, bus, arinc, discrete, message, node, root, report, type_of, body_of, FitsContent, timed, messages_of}
use Rattle.r10_indexbody.specs.declared.loss.LossBody.{LossBody}
use Rattle.r10_body.specs.Cost.{each_file, message_cost, lost_cost, owed, entry_cost, file_cost}
use Rattle.r10_body.specs.Files.{FileSays}
use Rattle.r10_body.specs.Packets.{Packet, FitsPacket, packet_body, packet_bytes, packet_entries, with_gaps, file_bytes, file_entries}
use Rattle.r10_body.specs.Rules.{MayFollow, EachFollows, IsGapTold, EndsReports, is_setup_packet, is_time, is_event, is_index, is_report_packet, is_data, report_of, report_from, last_report}
use Rattle.r10_body.specs.declared.entry.Entry.{Entry}
use Rattle.r10_body.specs.declared.gap.Gap.{Gap}
use Rattle.r10_body.specs.declared.gap.Gap.TheVariants.{Whole, Lost}
use Rattle.r10_body.specs.declared.entry.Timed.{Timed}
use Rattle.r10_body.specs.declared.message.Message.TheVariants as messages
use Rattle.r10_body.proofs.Sentences.{rest_length}
use Rattle.r10_body.proofs.Sums.{same_sum}
use Rattle.r10_body.proofs.Indexes.{index_len, index_bytes, index_long, counted_first, sized, none_wide}

-- header, body, and at most filler and checksum
pub packet_short : (p : Packet) → length (packet_bytes p) ≤ length (packet_body p) + 31
packet_short p = omega (arith, packet-length p, rest_length p, checksum_width p.check)

-- ---- entries

-- a message costs as much as the bytes of its entry, but for one of filler
abbrev IsPaid : {E : Type 0} → (E → ℕ) → (E → Timed) → E → Type 0
IsPaid size said e = size e ≤ 1 + message_cost (said e).message

entries_paid : {E : Type 0} (size : E → ℕ) (said : E → Timed) (paid : (e : E) → IsPaid size said e) (es : List E) (channel : ℕ) (gap : Gap)
    → sum_by size es + 103 * length es ≤ sum_by entry_cost (with_gaps channel gap (map said es))
entries_paid size said paid [] channel gap = omega arith
entries_paid size said paid (e ∷ es) channel gap =
    let one : Entry = record { channel = channel; count = (said e).count; message = (said e).message; gap = gap } in
    let rest : List Entry = with_gaps channel Whole (map said es) in
    let more : sum_by size es + 103 * length es ≤ sum_by entry_cost rest = entries_paid size said paid es channel Whole in
    let sum : sum_by entry_cost (one ∷ rest) ≡ entry_cost one + sum_by entry_cost rest = sum_by-cons entry_cost one rest in
    let sizes : sum_by size (e ∷ es) ≡ size e + sum_by size es = sum_by-cons size e es in
    omega (arith, paid e)

-- and after a loss whose number is reported, what the report costs too
entries_lost : {E : Type 0} (size : E → ℕ) (said : E → Timed) (paid : (e : E) → IsPaid size said e) (es : List E) (channel : ℕ) (gap : Gap) → 0 < length es
    → sum_by size es + 103 * length es + lost_cost gap ≤ sum_by entry_cost (with_gaps channel gap (map said es))
entries_lost size said paid [] channel gap some = absurd (omega (arith, some))
entries_lost size said paid (e ∷ es) channel gap some =
    let one : Entry = record { channel = channel; count = (said e).count; message = (said e).message; gap = gap } in
    let rest : List Entry = with_gaps channel Whole (map said es) in
    let more : sum_by size es + 103 * length es ≤ sum_by entry_cost rest = entries_paid size said paid es channel Whole in
    let sum : sum_by entry_cost (one ∷ rest) ≡ entry_cost one + sum_by entry_cost rest = sum_by-cons entry_cost one rest in
    let sizes : sum_by size (e ∷ es) ≡ size e + sum_by size es = sum_by-cons size e es in
    omega (arith, paid e)

pub same_sizes : {E : Type 0} (n : ℕ) (es : List E) → sum_by (λ e. n) es ≡ n * length es
same_sizes n [] = omega arith
same_sizes n (e ∷ es) = omega (arith, same_sizes n es, sum_by-cons (λ e. n) e es)

last_of : (a b c d e : Bool) → (d ≡ true) ⊎ (e ≡ true) → IsTrue (a || b || c || d || e)
last_of true b c d e is = refl
last_of false true c d e is = refl
last_of false false true d e is = refl
last_of false false false true e is = refl
last_of false false false false e (inl is) = absurd (false≢true is)
last_of false false false false e (inr is) = is

-- ---- packets

content_covered : (c : Content) (counter channel : ℕ) (gap : Gap) → type_of c == 1 ≡ false → type_of c == 3 ≡ false → type_of c == 0 ≡ false → FitsContent counter c
    → length (body_of counter c) + 95 + lost_cost gap ≤ sum_by entry_cost (with_gaps channel gap (messages_of counter c))
content_covered (setup text) counter channel gap other plain said fits = absurd (let no : true ≡ false = other in cc)
content_covered (node es) counter channel gap other plain said fits = absurd (let no : true ≡ false = plain in cc)
content_covered (root es) counter channel gap other plain said fits = absurd (let no : true ≡ false = plain in cc)
content_covered (report loss) counter channel gap other plain said fits = absurd (let no : true ≡ false = said in cc)
content_covered (time civil) counter channel gap other plain said fits = omega arith
content_covered (event e) counter channel gap other plain said fits = omega arith
content_covered (uart es) counter channel gap other plain said fits =
    omega (arith, uart_length es, entries_lost uart_entry_size (λ e. timed e.count (messages.Uart e.message)) (λ e. omega arith) es channel gap fits.0, fits.0)
content_covered (bus es) counter channel gap other plain said fits =
    omega (arith, bus_length es, entries_lost bus_entry_size (λ e. timed e.count (messages.Bus1553 e.message)) (λ e. omega arith) es channel gap fits.some, fits.some)
content_covered (arinc es) counter channel gap other plain said fits =
    omega (arith, arinc_length counter es, same_sizes 8 es, entries_lost (λ e. 8) (λ e. timed e.count (messages.Arinc e.message)) (λ e. omega arith) es channel gap fits.some, fits.some)
content_covered (discrete bits es) counter channel gap other plain said fits =
    omega (arith, discrete_length bits es, same_sizes 12 es, entries_lost (λ e. 12) (λ e. timed e.count (messages.Discrete e.message)) (λ e. omega arith) es channel gap fits.some, fits.some)
content_covered (message es) counter channel gap other plain said fits =
    omega (arith, message_length es, entries_lost message_entry_size (λ e. timed e.count (messages.Message e.message)) (λ e. omega arith) es channel gap fits.some, fits.some)

-- there is a message where the packet is none of setup, index or report
pub some_messages : (counter : ℕ) (c : Content) → FitsContent counter c → (IsTrue (type_of c == 1 || type_of c == 3 || type_of c == 0) → ⊥) → 0 < length (messages_of counter c)
some_messages counter (time civil) fits other = omega arith
some_messages counter (event one) fits other = omega arith
some_messages counter (uart []) fits other = absurd (omega (arith, fits.0))
some_messages counter (uart (e ∷ es)) fits other = omega arith
some_messages counter (bus []) fits other = absurd (omega (arith, fits.some))
some_messages counter (bus (e ∷ es)) fits other = omega arith
some_messages counter (arinc []) fits other = absurd (omega (arith, fits.some))
some_messages counter (arinc (e ∷ es)) fits other = omega arith
some_messages counter (discrete bits []) fits other = absurd (omega (arith, fits.some))
some_messages counter (discrete bits (e ∷ es)) fits other = omega arith
some_messages counter (message []) fits other = absurd (omega (arith, fits.some))
some_messages counter (message (e ∷ es)) fits other = omega arith
some_messages counter c fits other = absurd (other refl)

-- a packet of messages leaves 64 bytes of its entries' cost to the index, and what a report before it costs
data_covered : (p : Packet) → FitsPacket p → is_setup_packet p ≡ false → is_index p ≡ false → is_report_packet p ≡ false → length (packet_bytes p) + 64 + lost_cost p.gap ≤ sum_by entry_cost (packet_entries p)
data_covered p fits other plain said = omega (arith, packet_short p, content_covered p.content p.counter p.channel p.gap other plain said fits.content)

owed_is : (reported : Option LossBody) (p : Packet) → IsGapTold reported p → owed reported ≤ lost_cost p.gap
owed_is None p reported = omega arith
owed_is (Some loss) p reported = let is : lost_cost p.gap ≡ 68 = ap lost_cost reported.1 in omega (arith, is)

owed_none : (reported : Option LossBody) (p : Packet) → IsGapTold reported p → p.gap ≡ Whole → owed reported ≡ 0
owed_none None p reported whole = refl
owed_none (Some loss) p reported whole = absurd (let no : Lost loss.lost ≡ Whole = sym reported.1 ∙ whole in cc)

-- a packet reports where it is a report
pub report_at : (p : Packet) (c : Content) → p.content ≡ c → (b : Bool) → (type_of c == 0) ≡ b → (owed (report_of p) ≡ cond b 68 0) × ((type_of c == 0) ≡ true → length (body_of p.counter c) ≡ 20)
report_at p (report loss) e b is = (rw (e, sym is) refl, λ _. refl)
report_at p c e b is = (rw (e, sym is) refl, λ yes. absurd (false≢true yes))

pub own_whole : (p : Packet) (before : List Packet) → MayFollow before p → (is_index p ≡ true) ⊎ (is_report_packet p ≡ true) → (p.gap ≡ Whole) × (p.check ≡ 0)
own_whole p before may (inl is) = let own : IsTrue (is_setup_packet p || is_time p || is_event p || is_index p || is_report_packet p) = last_of (is_setup_packet p) (is_time p) (is_event p) (is_index p) (is_report_packet p) (inl is) in (may.channels.2 own, may.checksums own)
own_whole p before may (inr is) = let own : IsTrue (is_setup_packet p || is_time p || is_event p || is_index p || is_report_packet p) = last_of (is_setup_packet p) (is_time p) (is_event p) (is_index p) (is_report_packet p) (inr is) in (may.channels.2 own, may.checksums own)

packet_covered : (before : List Packet) (p : Packet) (b c : Bool) → is_index p ≡ b → is_report_packet p ≡ c → MayFollow before p → is_setup_packet p ≡ false
    → length (packet_bytes p) + 64 * count_by is_data (p ∷ []) + owed (last_report before) ≤ sum_by entry_cost (packet_entries p) + index_len p.content + owed (report_of p) + 40 * count_by is_report_packet (p ∷ [])
packet_covered before p true c is said may other =
    let none : count_by is_data (p ∷ []) ≡ 0 = rw is refl in
    omega (arith, none, index_long p may.checksums is, owed_none (last_report before) p may.reports.0 (own_whole p before may (inl is)).0)
packet_covered before p false true is said may other =
    let one : count_by is_data (p ∷ []) ≡ 1 = rw is refl in
    let counts : count_by is_report_packet (p ∷ []) ≡ 1 = rw said refl in
    let own = own_whole p before may (inr said) in
    let at = report_at p p.content refl true said in
    omega (arith, one, counts, at.0, at.1 said, packet-length p, rest_length p, none_wide p.check own.1, owed_none (last_report before) p may.reports.0 own.0)
packet_covered before p false false is said may other =
    let one : count_by is_data (p ∷ []) ≡ 1 = rw is refl in
    omega (arith, one, data_covered p may.fits other is said, owed_is (last_report before) p may.reports.0)

-- ---- files

-- after the first packet there is no setup packet
pub not_setup : (before : List Packet) (p : Packet) → 0 < length before → MayFollow before p → is_setup_packet p ≡ false
not_setup before p some may = false_from_ne_true (is_setup_packet p) (λ h. let none : length before ≡ 0 = may.start.0.0 h in omega arith)

pub last_with : (reported : Option LossBody) (before : List Packet) (p : Packet) → report_from reported (before ++ p ∷ []) ≡ report_of p
last_with reported [] p = refl
last_with reported (q ∷ before) p = last_with (report_of q) before p

rest_covered : (before ps : List Packet) → 0 < length before → EachFollows before ps
    → length (file_bytes ps) + 64 * count_by is_data ps + owed (last_report before) ≤ sum_by entry_cost (file_entries ps) + index_bytes ps + owed (report_from (last_report before) ps) + 40 * count_by is_report_packet ps
rest_covered before [] some each = omega arith
rest_covered before (p ∷ ps) some each =
    let first = packet_covered before p (is_index p) (is_report_packet p) refl refl each.0 (not_setup before p some each.0) in
    let more : 0 < length (before ++ p ∷ []) = omega (arith, length-append before (p ∷ [])) in
    let rest = rest_covered (before ++ p ∷ []) ps more each.1 in
    let last : last_report (before ++ p ∷ []) ≡ report_of p = last_with None before p in
    let owes : owed (last_report (before ++ p ∷ [])) ≡ owed (report_of p) = ap owed last in
    let ends : owed (report_from (last_report (before ++ p ∷ [])) ps) ≡ owed (report_from (report_of p) ps) = ap (λ t. owed (report_from t ps)) last in
    let bytes : length (packet_bytes p ++ file_bytes ps) ≡ length (packet_bytes p) + length (file_bytes ps) = length-append (packet_bytes p) (file_bytes ps) in
    let sums : sum_by entry_cost (packet_entries p ++ file_entries ps) ≡ sum_by entry_cost (packet_entries p) + sum_by entry_cost (file_entries ps) = sum_by-append entry_cost (packet_entries p) (file_entries ps) in
    let longs : index_bytes (p ∷ ps) ≡ index_len p.content + index_bytes ps = sum_by-cons (λ (q : Packet). index_len q.content) p ps in
    omega (arith, first, rest, owes, ends, bytes, sums, longs, counted_first is_data p ps, counted_first is_report_packet p ps)

-- a report is no index packet
reports_named : (ps : List Packet) → count_by is_report_packet ps ≤ count_by is_data ps
reports_named [] = omega arith
reports_named (p ∷ ps) = omega (arith, one_named p (is_index p) (is_report_packet p) refl refl, reports_named ps, counted_first is_report_packet p ps, counted_first is_data p ps)
  where
    one_named : (q : Packet) (b c : Bool) → is_index q ≡ b → is_report_packet q ≡ c → count_by is_report_packet (q ∷ []) ≤ count_by is_data (q ∷ [])
    one_named q true true is said = absurd (let both : 3 ≡ 0 = sym (eqb-true (type_of q.content) 3 is) ∙ eqb-true (type_of q.content) 0 said in omega (arith, both))
    one_named q false true is said = rw (is, said) (omega arith)
    one_named q b false is said = let none : count_by is_report_packet (q ∷ []) ≡ 0 = rw said refl in omega (arith, none)

setup_short : (counter : ℕ) (c : Content) (text : List ℕ) → c ≡ setup text → length (body_of counter c) ≤ 4 + length text
setup_short counter c text is = rw is (omega arith)

pub content_is : (c : Content) (text : List ℕ) → c ∷ [] ≡ setup text ∷ [] → c ≡ setup text
content_is c text same = cc

-- the cost covers the packets
pub packets_covered : (ps : List Packet) (text : List ℕ) → EachFollows [] ps → EndsReports ps → map (λ p. p.content) (take 1 ps) ≡ setup text ∷ [] → length (file_bytes ps) ≤ each_file + length text + sum_by entry_cost (file_entries ps)
packets_covered [] text each ends says = omega arith
packets_covered (p ∷ ps) text each ends says =
    let is : p.content ≡ setup text = content_is p.content text says in
    let first : length (packet_bytes p) ≤ length text + 35 = omega (arith, packet_short p, setup_short p.counter p.content text is) in
    let rest = rest_covered (p ∷ []) ps (omega arith) each.1 in
    let index = sized (p ∷ ps) each in
    let longs : index_bytes (p ∷ ps) ≡ index_len p.content + index_bytes ps = sum_by-cons (λ (q : Packet). index_len q.content) p ps in
    let own : index_len p.content ≡ 0 = rw is refl in
    let datas : count_by is_data (p ∷ []) ≡ 1 = rw is refl in
    let done : owed (report_from (report_of p) ps) ≡ 0 = ap owed ends in
    let bytes : length (packet_bytes p ++ file_bytes ps) ≡ length (packet_bytes p) + length (file_bytes ps) = length-append (packet_bytes p) (file_bytes ps) in
    let sums : sum_by entry_cost (packet_entries p ++ file_entries ps) ≡ sum_by entry_cost (packet_entries p) + sum_by entry_cost (file_entries ps) = sum_by-append entry_cost (packet_entries p) (file_entries ps) in
    omega (arith, first, rest, index.0, index.1, longs, own, datas, done, reports_named ps, counted_first is_data p ps, bytes, sums)

pub file_covered : (bytes text : List ℕ) (entries : List Entry) (closed : Bool) → FileSays bytes text entries closed → length bytes ≤ file_cost text entries
file_covered bytes text entries closed says =
    let same : length bytes ≡ length (file_bytes says.0) = ap (λ (t : List ℕ). length t) says.1 in
    let covered : length (file_bytes says.0) ≤ each_file + length text + sum_by entry_cost (file_entries says.0) = packets_covered says.0 text says.2.file.each says.2.file.reports says.2.setup_is in
    let sums : sum_by entry_cost (file_entries says.0) ≡ sum_by entry_cost entries = same_sum entry_cost (file_entries says.0) entries says.2.entries_are in
    omega arith

pub packets_some : (ps : List Packet) → 0 < length ps → 0 < length (file_bytes ps)
packets_some [] some = absurd (omega arith)
packets_some (p ∷ ps) some = omega (arith, packet-length p, length-append (packet_bytes p) (file_bytes ps))

pub packets_few : (ps : List Packet) → length ps ≤ length (file_bytes ps)
packets_few [] = omega arith
packets_few (p ∷ ps) = omega (arith, packets_few ps, packet-length p, length-append (packet_bytes p) (file_bytes ps))

pub packet_long : (p : Packet) → 24 ≤ length (packet_bytes p)
packet_long p = omega (arith, packet-length p)

pub file_some : (bytes text : List ℕ) (entries : List Entry) (closed : Bool) → FileSays bytes text entries closed → 0 < length bytes
file_some bytes text entries closed says =
    let same : length bytes ≡ length (file_bytes says.0) = ap (λ (t : List ℕ). length t) says.1 in
    let two : 2 ≤ length says.0 = says.2.file.start in
    omega (arith, packets_some says.0 (omega arith))
