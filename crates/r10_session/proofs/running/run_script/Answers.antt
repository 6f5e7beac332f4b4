use Rattle.std.proofs.Common.{◌≡◌, List, sym, ap, subst, ◌∙◌}
use Rattle.std.specs.List.{All}
use Rattle.r10_body.specs.declared.spec.ChannelSpec.{ChannelSpec}
use Rattle.r10_machine.specs.Config.{Config}
use Rattle.r10_medium.specs.MemoryDisk.{memory_disk}
use Rattle.r10_session.proofs.Lanes.{feeds_have, lanes_named, nothing_received, senders_fresh, senders_named, specs_are}
use Rattle.r10_session.proofs.Weaker.{ok_so}
use Rattle.r10_session.proofs.running.run_script.Goals as goal
use Rattle.r10_session.specs.Came.{CameOf}
use Rattle.r10_session.specs.Lanes.{HaveChannels, IsFresh}

pub recorder_of-requires-clause-specs : goal.recorder_of-requires-clause-specs
recorder_of-requires-clause-specs g c = specs_are _ _ _ c.in_ok-senders.ensures ∙ c.channels.ensures.value

pub recorder_of-requires-clause-received : goal.recorder_of-requires-clause-received
recorder_of-requires-clause-received g c = nothing_received _ _ _ c.in_ok-senders.ensures

pub run_between-requires-clause-lanes : goal.run_between-requires-clause-lanes
run_between-requires-clause-lanes g c κs within = rw (c.in_ok-gauged.ensures, c.in_ok-recorder.ensures.lanes) (lanes_named _ _ _ _ _ c.in_ok-senders.ensures c.channels.ensures.ids)

pub run_between-requires-clause-named : goal.run_between-requires-clause-named
run_between-requires-clause-named g c κs within = rw (c.in_ok-gauged.ensures, c.in_ok-recorder.ensures.lanes) (senders_named _ _ _ _ _ c.in_ok-senders.ensures c.channels.ensures.ids)

pub run_between-requires-clause-fresh : goal.run_between-requires-clause-fresh
run_between-requires-clause-fresh g c κs within =
    rw (c.in_ok-gauged.ensures) (subst (λ (l : List ChannelSpec). All (IsFresh l) c.in_ok-senders.senders.items) (c.channels.ensures.value ∙ sym (ap (λ (s : Config). s.channels) c.in_ok-recorder.ensures.config)) (senders_fresh _ _ _ _ _ c.in_ok-senders.ensures c.channels.ensures.ids))

pub run_between-requires-clause-there : goal.run_between-requires-clause-there
run_between-requires-clause-there g c κs within =
    feeds_have _ _ _ _ c.in_ok-senders.ensures (subst (λ (l : List ChannelSpec). HaveChannels l c.args.script.feeds.items) (sym c.channels.ensures.value) c.requires.feeds)

pub returns : goal.returns
returns g c =
    ok_so c.run_between.result c.run_between.ensures (λ left came. (
      c.in_ok-steps.steps.items,
      c.in_ok-steps.ensures,
      subst (λ (s : Config). CameOf s.channels c.in_ok-steps.steps.items c.args.script.feeds.items c.args.script.readers.items (memory_disk left.medium).blocks left.ended) c.in_ok-recorder.ensures.config (rw (c.in_ok-gauged.ensures) at came),
    ))
