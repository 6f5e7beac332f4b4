use Rattle.std.proofs.Common.{refl, ap, Bool, ◌∙◌}
use Rattle.std.specs.Prelude.{cond}
use Rattle.r10_survey.proofs.Counting.{with_more}
use Rattle.r10_survey.proofs.channel.ChannelCount.with.Goals as goal

pub returns : goal.returns
returns c = λ own p so_far seen.
    with_more own p c.args.self.now _ c.args.seen.now so_far seen (record {
      data_type = refl;
      others = c.one_if.result;
      others_is = c.one_if.ensures;
      other_types = c.saturating_add.ensures;
      packets = c.saturating_add-2.ensures;
      bytes = c.saturating_add-3.ensures;
      entries = c.saturating_add-4.ensures;
      opaques = c.one_if-2.result;
      opaques_is = c.one_if-2.ensures;
      opaque = c.saturating_add-5.ensures;
      wrongs = c.one_if-3.result;
      wrongs_is = c.one_if-3.ensures;
      wrong_sums = c.saturating_add-6.ensures;
      lost = c.one_if-4.result;
      lost_is = c.one_if-4.ensures;
      losses = c.saturating_add-7.ensures;
      broken = c.one_if-5.result;
      broken_is = c.one_if-5.ensures ∙ ap (λ (b : Bool). cond b 1 0) c.is_gap-gap.ensures;
      gaps = c.saturating_add-8.ensures;
      sequence = refl;
      first = refl;
      last = refl;
    })
