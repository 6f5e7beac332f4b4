use Rattle.std.proofs.Common.{subst, sym}
use Rattle.std.specs.Prelude.{Option}
use Rattle.r10_body.proofs.Outcomes.{of_ok}
use Rattle.r10_file_rules.specs.Channels.{IsKeptOfChannel}
use Rattle.r10_file_rules.specs.declared.channels.ChannelTrack.{ChannelTrack}
use Rattle.r10_file_rules.proofs.OnChannels.{are_kept}
use Rattle.r10_file_rules.proofs.channels.ChannelTracks.add.Goals as goal

pub returns : goal.returns
returns c = λ packets p kept tells keeps.
    let updates = of_ok _ c.insert.result (c.insert.ensures.succeeds c.requires) c.insert.ensures.updates in
    let found : IsKeptOfChannel packets c.args.facts.now.channel c.find.result = subst (λ (o : Option ChannelTrack). IsKeptOfChannel packets c.args.facts.now.channel o) (sym c.find.ensures) (kept c.args.facts.now.channel) in
    are_kept packets p c.args.facts.now _ c.args.self.now.known c.insert.new.self updates.0 kept tells (c.track_with-track.ensures packets p found tells keeps)
