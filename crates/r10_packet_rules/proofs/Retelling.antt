-- What a packet says to the rules, whatever number is reported of what was lost before it.
use Rattle.std.proofs.Common.{◌≡◌, ℕ, List, [], ◌∷◌, length, Option, Some, None, refl, subst, ◌∙◌, arith}
use Rattle.std.specs.List.{sum_by}
use Rattle.std.proofs.lemmas.List.Sums.{sum_by-cons}
use Rattle.r10_body.specs.Content.{messages_of}
use Rattle.r10_body.specs.Cost.{plain_cost}
use Rattle.r10_body.specs.Packets.{Packet, with_gaps}
use Rattle.r10_body.specs.declared.entry.Entry.{Entry}
use Rattle.r10_body.specs.declared.entry.Timed.{Timed}
use Rattle.r10_body.specs.declared.gap.Gap.{Gap}
use Rattle.r10_body.specs.declared.gap.Gap.TheVariants.{Whole}
use Rattle.r10_body.proofs.Lone.{packet-length}
use Rattle.r10_body.proofs.Retold.{IsRetold}
use Rattle.r10_packet_rules.specs.Facts.{AreFactsOf, TellsCounts}
use Rattle.r10_packet_rules.specs.declared.facts.Facts.{Facts}
use Rattle.r10_packet_rules.specs.declared.facts.Spread.{Spread}

long_retold : (channel : ℕ) (g h : Gap) (ts : List Timed) → length (with_gaps channel g ts) ≡ length (with_gaps channel h ts)
long_retold channel g h [] = refl
long_retold channel g h (t ∷ ts) = refl

cost_retold : (channel : ℕ) (g h : Gap) (ts : List Timed) → sum_by plain_cost (with_gaps channel g ts) ≡ sum_by plain_cost (with_gaps channel h ts)
cost_retold channel g h [] = refl
cost_retold channel g h (t ∷ ts) =
    let rest : List Entry = with_gaps channel Whole ts in
    let one : Entry = record { channel = channel; count = t.count; message = t.message; gap = g } in
    let other : Entry = record { channel = channel; count = t.count; message = t.message; gap = h } in
    omega (arith, sum_by-cons plain_cost one rest, sum_by-cons plain_cost other rest)

counts_retold : (o : Option Spread) (channel : ℕ) (g h : Gap) (ts : List Timed) → TellsCounts o (with_gaps channel g ts) → TellsCounts o (with_gaps channel h ts)
counts_retold o channel g h [] tells = tells
counts_retold None channel g h (t ∷ ts) tells = absurd (cc)
counts_retold (Some s) channel g h (t ∷ ts) tells = record { first = tells.first; last = tells.last; greatest = tells.greatest; rise = tells.rise }

pub facts_retold : (f : Facts) (p q : Packet) → IsRetold p q → AreFactsOf f p → AreFactsOf f q
facts_retold f p q same tells =
    let r : Packet = record p { gap = q.gap } in
    let ms : List Timed = messages_of p.counter p.content in
    let made : AreFactsOf f r = record {
      channel = tells.channel;
      sequence = tells.sequence;
      flagged = tells.flagged ∙ same.1;
      counter = tells.counter;
      data_type = tells.data_type;
      kind = tells.kind;
      length_is = omega (arith, tells.length_is, packet-length p, packet-length r);
      entries = tells.entries ∙ long_retold p.channel p.gap q.gap ms;
      cost = tells.cost ∙ cost_retold p.channel p.gap q.gap ms;
      counts = counts_retold f.counts p.channel p.gap q.gap ms tells.counts;
    } in
    subst (λ (x : Packet). AreFactsOf f x) same.0 made
