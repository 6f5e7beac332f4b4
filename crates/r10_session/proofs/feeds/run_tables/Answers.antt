use denote.Param.Object.{read_made}
use mathlib.Core.Logic.{inl}
use Rattle.std.proofs.Common.{rules, arith, ◌≡◌, ◌∙◌, List, [], IsSomeAnd, refl, ap, subst}
use Rattle.std.proofs.lemmas.List.{nil_from_length}
use Rattle.r10_source.specs.declared.source.SourceItem.{SourceItem}
use Rattle.r10_session.specs.Turns.{turns_in}
use Rattle.r10_session.proofs.Coming.{all_came}
use Rattle.r10_session.proofs.Feeding.{all_paired, first_has, none_paired, one_paired, rest_are_apart, rest_have}
use Rattle.r10_session.proofs.Weaker.{ok_so}
use Rattle.r10_session.proofs.feeds.run_tables.Goals as goal
use Rattle.r10_session.proofs.feeds.run_tables.OwnLists.{own-1}

pub feed_of-requires-clause-there : goal.feed_of-requires-clause-there
feed_of-requires-clause-there g c = first_has _ _ _ c.in-Some.ensures.steps.0 _ c.loop-table.invariant.there

pub loop-table-init : goal.loop-table-init
loop-table-init g c =
    let all : c.into_iter-table-iterator.result.rest.items ≡ c.args.tables.items = search rules in
    record {
      named = c.requires.named;
      there = rw all c.requires.there;
      apart = rw all c.requires.apart;
      waits = λ specs fresh. (fresh, none_paired _ _ _ _ all c.new-feeds.ensures.items);
    }

pub loop-table-preserved : goal.loop-table-preserved
loop-table-preserved g c =
    let at = c.loop-table.invariant in
    let split = c.in-Some.ensures.steps.0 in
    let feed = c.feed_of.ensures in
    let left : c.in_ok-new.field-0.value.left.items ≡ c.in-Some.table.items = search rules in
    let given = read_made own-1 (own-1.entry (inl tt)) (inl tt) refl (List SourceItem) (λ j w. j.1.rest w) c.into_dyn_box.result.vtable c.into_dyn_box.result.value c.in_ok-new.field-0.value c.into_dyn_box.ensures.1 in
    let source = subst (λ (l : List SourceItem). IsSomeAnd c.feed_of.result.source (λ s. (own-1.entry s.vtable).1.rest s.value ≡ l)) (given ∙ ap turns_in left) feed.source in
    record {
      named = feed.named;
      there = rest_have _ _ _ split _ _ at.there at.apart feed.others;
      apart = rest_are_apart _ _ _ split at.apart;
      waits = λ specs fresh.
          let before = at.waits specs fresh in
          (feed.fresh specs before.0, rw c.in_ok-push.ensures.items (one_paired _ _ _ _ c.loop-table.feeds.items _ c.feed_of.result before.1 split (source, record { channel_is = feed.channel; unused = feed.unused specs before.0 })));
    }

pub returns-clause-feeds : goal.returns-clause-feeds
returns-clause-feeds g c specs fresh =
    let rest = c.loop-table.table-iterator.rest in
    let none : rest.items ≡ [] = nil_from_length rest.items (omega (arith, rest.ok.0, c.in-None.ensures.steps.0)) in
    let waits = all_paired _ _ _ _ (c.loop-table.invariant.waits specs fresh).1 none in
    ok_so c.run_to_end.result c.run_to_end.ensures.feeds (λ report feeds. (feeds.0, feeds.1, all_came specs feeds.0 _ _ _ _ _ waits feeds.2 (λ t f r wait come. (f.line, wait.1, come (turns_in t.items) wait.0))))
