-- Bodies that are read back in one way only.
use Rattle.std.proofs.Common.{◌≡◌, ℕ, ◌+◌, ◌*◌, ◌/◌, ◌%◌, ◌^◌, ◌<◌, Bool, true, false, List, [], ◌++◌, length, drop, take, refl, sym, ap, subst, ◌∙◌, arith, append_assoc}
use Rattle.std.specs.List.{AllByRecursion, flat_map}
use Rattle.r10_count.specs.Bytes.{le_bytes, flag_at}
use Rattle.r10_count.specs.Count.{stamp}
use Rattle.r10_count.specs.Civil.{IsCivil}
use Rattle.r10_count.proofs.Fronts.{same_u16, same_u32, same_u64, same_stamp}
use Rattle.r10_count.specs.declared.civil.Parts.{Parts}
use Rattle.r10_count.specs.Padding.{padding}
use Rattle.r10_indexbody.specs.Loss.{loss_body, FitsLoss}
use Rattle.r10_indexbody.specs.declared.loss.LossBody.{LossBody}
use Rattle.r10_uart.proofs.Bodies.{one_uart_body}
use Rattle.r10_timebody.specs.Time.{two_packed_digits, digits_word, time_body}
use Rattle.r10_event.proofs.Events.{one_event_body}
use Rattle.r10_b1553.proofs.Bodies.{one_bus_body}
use Rattle.r10_a429.proofs.Bodies.{one_arinc_body}
use Rattle.r10_a429.specs.Arinc.{arinc_body, FitsArincBody}
use Rattle.r10_discrete.proofs.Bodies.{one_discrete_body}
use Rattle.r10_message.proofs.Bodies.{one_message_body}
use Rattle.r10_indexbody.specs.Index.{node_entry, root_entry}
use Rattle.r10_indexbody.proofs.Nodes.{one_node_body}
use Rattle.r10_indexbody.proofs.Roots.{one_root_body}
use Rattle.r10_body.specs.Content.{Content, setup, time, event, uart, bus, arinc, discrete, message, node, root, report, type_of, body_of, FitsContent}
use Rattle.r10_body.proofs.CivilParts.{in_range, day_below}
use Rattle.r10_count.proofs.Moments.{same_parts}

-- ---- time

-- a word of two numbers below 100
one_digits_word : (a b c d : ℕ) → a < 100 → b < 100 → c < 100 → d < 100 → digits_word a b ≡ digits_word c d → (a ≡ c) × (b ≡ d)
one_digits_word a b c d ha hb hc hd same =
    let whole : 256 * two_packed_digits a + two_packed_digits b ≡ 256 * two_packed_digits c + two_packed_digits d = (same_u16 (256 * two_packed_digits a + two_packed_digits b) (256 * two_packed_digits c + two_packed_digits d) [] [] (omega arith) (omega arith) same).0 in
    (omega arith, omega arith)

pub one_time_body : (p q : Parts) → IsCivil p → IsCivil q → time_body p ≡ time_body q → p ≡ q
one_time_body p q fp fq same =
    let ip = in_range p fp in
    let iq = in_range q fq in
    let seconds = one_digits_word p.second p.centi q.second q.centi (omega arith) (omega arith) (omega arith) (omega arith) (ap (λ b. take 2 (drop 4 b)) same) in
    let hours = one_digits_word p.hour p.minute q.hour q.minute (omega arith) (omega arith) (omega arith) (omega arith) (ap (λ b. take 2 (drop 6 b)) same) in
    let months = one_digits_word p.month p.day q.month q.day (omega arith) (day_below p ip) (omega arith) (day_below q iq) (ap (λ b. take 2 (drop 8 b)) same) in
    let years = one_digits_word (p.year / 100) (p.year % 100) (q.year / 100) (q.year % 100) (omega arith) (omega arith) (omega arith) (omega arith) (ap (λ b. take 2 (drop 10 b)) same) in
    same_parts p q (omega arith) months.0 months.1 hours.0 hours.1 seconds.0 seconds.1

-- ---- loss reports

pub one_loss_body : (a b : LossBody) → FitsLoss a → FitsLoss b → loss_body a ≡ loss_body b → a ≡ b
one_loss_body a b f g same =
    let channels = same_u16 a.channel b.channel (le_bytes 2 a.reserved ++ le_bytes 8 a.lost) (le_bytes 2 b.reserved ++ le_bytes 8 b.lost) f.channel g.channel (ap (drop 8) same) in
    let fields = same_u16 a.reserved b.reserved (le_bytes 8 a.lost) (le_bytes 8 b.lost) f.reserved g.reserved channels.1 in
    let lost = same_u64 a.lost b.lost [] [] f.lost g.lost fields.1 in
    ap (λ x. record a { channel = x }) channels.0 ∙ ap (λ x. record a { channel = b.channel; reserved = x }) fields.0 ∙ ap (λ x. record b { lost = x }) lost.0

-- ---- contents

-- contents of one type with one body, in packets of one counter, are one
pub one_content : (m n : ℕ) (c d : Content) → m ≡ n → FitsContent m c → FitsContent n d → type_of c ≡ type_of d → body_of m c ≡ body_of n d → c ≡ d
one_content m n (setup s) (setup t) counters f g k e = ap (λ x. setup x) (ap (drop 4) e)
one_content m n (time p) (time q) counters f g k e = ap (λ x. time x) (one_time_body p q f g e)
one_content m n (event p) (event q) counters f g k e = ap (λ x. event x) (one_event_body p q f g e)
one_content m n (uart es) (uart fs) counters f g k e = ap (λ x. uart x) (one_uart_body es fs f.1 g.1 e)
one_content m n (bus es) (bus fs) counters f g k e = ap (λ x. bus x) (one_bus_body es fs f.fields g.fields e)
one_content m n (arinc es) (arinc fs) counters f g k e =
    let fits : FitsArincBody m fs = subst (λ counter. FitsArincBody counter fs) (sym counters) g in
    let same : arinc_body m es ≡ arinc_body m fs = subst (λ counter. arinc_body m es ≡ arinc_body counter fs) (sym counters) e in
    ap (λ x. arinc x) (one_arinc_body m es fs f fits same)
one_content m n (discrete bits es) (discrete others fs) counters f g k e =
    let same = one_discrete_body bits others es fs f g e in
    ap (λ x. discrete x es) same.0 ∙ ap (λ x. discrete others x) same.1
one_content m n (message es) (message fs) counters f g k e = ap (λ x. message x) (one_message_body es fs f.fields g.fields e)
one_content m n (node es) (node fs) counters f g k e = ap (λ x. node x) (one_node_body es fs f.fields g.fields e)
one_content m n (root es) (root fs) counters f g k e = ap (λ x. root x) (one_root_body es fs f.fields g.fields e)
one_content m n (report a) (report b) counters f g k e = ap (λ x. report x) (one_loss_body a b f g e)
one_content m n (node es) (root fs) counters f g k e =
    let words = same_u32 (2147483648 + length es) (length fs) (flat_map node_entry es) (flat_map root_entry fs) (omega (arith, f.counted)) (omega (arith, g.counted)) e in
    absurd (omega (arith, words.0, g.counted))
one_content m n (root es) (node fs) counters f g k e =
    let words = same_u32 (length es) (2147483648 + length fs) (flat_map root_entry es) (flat_map node_entry fs) (omega (arith, f.counted)) (omega (arith, g.counted)) e in
    absurd (omega (arith, words.0, f.counted))
one_content m n c d counters f g k e = absurd (omega arith)
