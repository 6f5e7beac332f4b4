-- What messages come to is what a packet's entries come to.
use Rattle.std.proofs.Common.{◌≡◌, ◌↔◌, ℕ, ◌+◌, ◌*◌, ◌≤◌, Bool, true, false, ◌&&◌, IsTrue, List, [], ◌∷◌, length, map, refl, sym, subst, ap, ◌∙◌, Some, None, arith}
use Rattle.std.specs.Prelude.{nat_le}
use Rattle.std.specs.List.{AllByRecursion, fold, sum_by}
use Rattle.std.proofs.lemmas.Bool.{leb-true, le-leb}
use Rattle.std.proofs.lemmas.List.Sums.{sum_by-cons}
use Rattle.r10_uart.specs.Uart.{uart_entry_size}
use Rattle.r10_uart.proofs.Bodies.{body-length as uart_length}
use Rattle.r10_b1553.specs.Bus.{bus_entry_size}
use Rattle.r10_b1553.proofs.Bodies.{body-length as bus_length}
use Rattle.r10_a429.proofs.Bodies.{body-length as arinc_length}
use Rattle.r10_discrete.proofs.Bodies.{body-length as discrete_length}
use Rattle.r10_message.specs.Message.{message_entry_size}
use Rattle.r10_message.proofs.Bodies.{body-length as message_length}
use Rattle.r10_body.specs.Content.{Content, setup, time, event, uart, bus, arinc, discrete, message, node, root, report, type_of, body_of, timed, messages_of}
use Rattle.r10_body.specs.Cost.{plain_cost}
use Rattle.r10_body.specs.Gaps.{gap_of_flag}
use Rattle.r10_body.specs.Packets.{packet_bytes, with_gaps}
use Rattle.r10_body.specs.Rules.{Rise}
use Rattle.r10_body.specs.declared.entry.Timed.{Timed}
use Rattle.r10_body.specs.declared.gap.Gap.{Gap}
use Rattle.r10_body.specs.declared.gap.Gap.TheVariants.{Whole}
use Rattle.r10_body.specs.declared.message.Message.TheVariants as messages
use Rattle.r10_body.specs.Sequence.{last_count}
use Rattle.r10_count.specs.Bytes.{bit_of}
use Rattle.r10_packet.specs.declared.header.Header.{Header}
use Rattle.r10_body.proofs.Gaps.{flag_told}
use Rattle.r10_packet_rules.specs.Facts.{AreFactsOf, TellsCounts, kind_of}
use Rattle.r10_packet_rules.specs.Header.{packet_of}
use Rattle.r10_packet_rules.specs.declared.facts.PacketKind.{PacketKind}
use Rattle.r10_packet_rules.specs.Tally.{empty_tally, spread_behind, tally_of, timed_cost, with_message}
use Rattle.r10_packet_rules.specs.declared.facts.Spread.{Spread}
use Rattle.r10_packet_rules.specs.declared.tally.EntryTally.{EntryTally}
use Rattle.r10_body.proofs.Lengths.{same_sizes}

-- ---- numbers and costs

entries_from : (t : EntryTally) (ms : List Timed) (channel : ℕ) (gap : Gap) → (fold with_message t ms).entries ≡ t.entries + length (with_gaps channel gap ms)
entries_from t [] channel gap = omega arith
entries_from t (m ∷ ms) channel gap = omega (arith, entries_from (with_message t m) ms channel Whole)

pub entries_are : (ms : List Timed) (channel : ℕ) (gap : Gap) → (tally_of ms).entries ≡ length (with_gaps channel gap ms)
entries_are ms channel gap = omega (arith, entries_from empty_tally ms channel gap)

cost_from : (t : EntryTally) (ms : List Timed) (channel : ℕ) (gap : Gap) → (fold with_message t ms).cost ≡ t.cost + sum_by plain_cost (with_gaps channel gap ms)
cost_from t [] channel gap = omega arith
cost_from t (m ∷ ms) channel gap =
    omega (arith, cost_from (with_message t m) ms channel Whole, sum_by-cons plain_cost (record { channel = channel; count = m.count; message = m.message; gap = gap }) (with_gaps channel Whole ms))

pub cost_is : (ms : List Timed) (channel : ℕ) (gap : Gap) → (tally_of ms).cost ≡ sum_by plain_cost (with_gaps channel gap ms)
cost_is ms channel gap = omega (arith, cost_from empty_tally ms channel gap)

-- ---- counts

-- counts so far, and entries after them, come to these
pub record GoesOn (s t : Spread) (ms : List Timed) (channel : ℕ) (gap : Gap) : Type 0 where
  pub first : t.first ≡ s.first
  pub last : t.last ≡ last_count s.last (with_gaps channel gap ms)
  pub greatest : (bound : ℕ) → (t.greatest ≤ bound) ↔ ((s.greatest ≤ bound) × AllByRecursion (λ e. e.count ≤ bound) (with_gaps channel gap ms))
  pub rise : IsTrue t.rise ↔ (IsTrue s.rise × Rise s.last (with_gaps channel gap ms))

both_true : (a b : Bool) → IsTrue (a && b) → IsTrue a × IsTrue b
both_true true true h = (refl, refl)
both_true true false h = absurd (let no : false ≡ true = h in cc)
both_true false b h = absurd (let no : false ≡ true = h in cc)

true_both : (a b : Bool) → IsTrue a → IsTrue b → IsTrue (a && b)
true_both true true h g = refl
true_both true false h g = absurd (let no : false ≡ true = g in cc)
true_both false b h g = absurd (let no : false ≡ true = h in cc)

spread_from : (n cost : ℕ) (s : Spread) (ms : List Timed) (channel : ℕ) (gap : Gap)
    → (t : Spread) × ((fold with_message (record { entries = n; cost = cost; counts = Some s }) ms).counts ≡ Some t) × GoesOn s t ms channel gap
spread_from n cost s [] channel gap = (s, refl, record { first = refl; last = refl; greatest = λ bound. (λ h. (h, tt), λ h. h.0); rise = (λ h. (h, tt), λ h. h.0) })
spread_from n cost s (m ∷ ms) channel gap =
    let left = spread_from (n + 1) (cost + timed_cost m) (spread_behind (Some s) m.count) ms channel Whole in
    let on = left.2 in (
      left.0,
      left.1,
      record {
        first = on.first;
        last = on.last;
        greatest = λ bound. (
          λ h. (let x = (on.greatest bound).0 h in (omega (arith, x.0), (omega (arith, x.0), x.1))),
          λ h. (on.greatest bound).1 (omega (arith, h.0, h.1.0), h.1.1),
        );
        rise = (
          λ h. (let x = on.rise.0 h in let y = both_true s.rise (nat_le s.last m.count) x.0 in (y.0, (leb-true s.last m.count y.1, x.1))),
          λ h. on.rise.1 (true_both s.rise (nat_le s.last m.count) h.0 (le-leb s.last m.count h.1.0), h.1.1),
        );
      },
    )

pub counts_are : (ms : List Timed) (channel : ℕ) (gap : Gap) → TellsCounts (tally_of ms).counts (with_gaps channel gap ms)
counts_are [] channel gap = refl
counts_are (m ∷ ms) channel gap =
    let left = spread_from 1 (0 + timed_cost m) (spread_behind None m.count) ms channel Whole in
    let on = left.2 in
    let is : (tally_of (m ∷ ms)).counts ≡ Some left.0 = left.1 in
    rw is (record {
      first = ap (λ n. n ∷ []) (sym on.first);
      last = on.last ∙ sym (ap (λ n. last_count n (with_gaps channel gap (m ∷ ms))) on.first);
      greatest = on.greatest;
      rise = (
        λ h. (let x = on.rise.0 h in (omega (arith, on.first), x.1)),
        λ h. on.rise.1 (refl, h.1),
      );
    })

-- ---- the cost is bounded by the body

-- an entry costs at most so many times its bytes
abbrev IsCheap : {E : Type 0} → (E → ℕ) → (E → Timed) → E → Type 0
IsCheap size said e = timed_cost (said e) ≤ 29 * size e

entries_cheap : {E : Type 0} (size : E → ℕ) (said : E → Timed) (cheap : (e : E) → IsCheap size said e) (es : List E) → sum_by timed_cost (map said es) ≤ 29 * sum_by size es
entries_cheap size said cheap [] = omega arith
entries_cheap size said cheap (e ∷ es) =
    omega (arith, entries_cheap size said cheap es, sum_by-cons timed_cost (said e) (map said es), sum_by-cons size e es, cheap e)

pub content_cheap : (counter : ℕ) (c : Content) → sum_by timed_cost (messages_of counter c) ≤ 29 * length (body_of counter c)
content_cheap counter (setup text) = omega arith
content_cheap counter (time civil) = omega arith
content_cheap counter (event e) = omega arith
content_cheap counter (uart es) = omega (arith, uart_length es, entries_cheap uart_entry_size (λ e. timed e.count (messages.Uart e.message)) (λ e. omega arith) es)
content_cheap counter (bus es) = omega (arith, bus_length es, entries_cheap bus_entry_size (λ e. timed e.count (messages.Bus1553 e.message)) (λ e. omega arith) es)
content_cheap counter (arinc es) = omega (arith, arinc_length counter es, same_sizes 8 es, entries_cheap (λ e. 8) (λ e. timed e.count (messages.Arinc e.message)) (λ e. omega arith) es)
content_cheap counter (discrete bits es) = omega (arith, discrete_length bits es, same_sizes 12 es, entries_cheap (λ e. 12) (λ e. timed e.count (messages.Discrete e.message)) (λ e. omega arith) es)
content_cheap counter (message es) = omega (arith, message_length es, entries_cheap message_entry_size (λ e. timed e.count (messages.Message e.message)) (λ e. omega arith) es)
content_cheap counter (node es) = omega arith
content_cheap counter (root es) = omega arith
content_cheap counter (report loss) = omega arith

-- ---- all facts

pub facts_told : (h : Header) (kind : PacketKind) (t : EntryTally) (content : Content) → kind ≡ kind_of content → t ≡ tally_of (messages_of h.counter content)
    → h.data_type ≡ type_of content → h.packet_len ≡ length (packet_bytes (packet_of h content))
    → AreFactsOf (record { channel = h.channel; sequence = h.sequence; flagged = bit_of 4 h.flags; counter = h.counter; data_type = h.data_type; kind = kind; length = h.packet_len; entries = t.entries; cost = t.cost; counts = t.counts }) (packet_of h content)
facts_told h kind t content kinds sums type size =
    let ms = messages_of h.counter content in
    let gap = gap_of_flag (bit_of 4 h.flags) in
    record {
      channel = refl;
      sequence = refl;
      flagged = sym (flag_told (bit_of 4 h.flags));
      counter = refl;
      data_type = type;
      kind = kinds;
      length_is = size;
      entries = ap (λ (u : EntryTally). u.entries) sums ∙ entries_are ms h.channel gap;
      cost = ap (λ (u : EntryTally). u.cost) sums ∙ cost_is ms h.channel gap;
      counts = subst (λ (u : EntryTally). TellsCounts u.counts (with_gaps h.channel gap ms)) (sym sums) (counts_are ms h.channel gap);
    }
