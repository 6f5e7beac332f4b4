use Rattle.std.proofs.Common.{◌≡◌, ◌∙◌, ◌<◌, ◌^◌, ◌++◌, ◌∷◌, [], List, ℕ, length, Some, None, sym, subst, ap}
use Rattle.r10_body.specs.Packets.{packet_bytes, file_bytes}
use Rattle.r10_packet_rules.proofs.Written.{packet_foreign}
use Rattle.r10_body.proofs.Rules.{bytes_more}
use Rattle.r10_judge.specs.Judged.{BreaksRuleOfFileFirst}
use Rattle.r10_judge.proofs.Judging.{some_stands, none_stands, stops_at, goes_on, reads_own}
use Rattle.r10_judge.proofs.judge.Judge.take_strict.Goals as goal
use Rattle.std.proofs.lemmas.Result.{on_ok_weaker}

pub returns-in-Some-clause-taken : goal.returns-in-Some-clause-taken
returns-in-Some-clause-taken c = λ before p goes sums reported answered tells body fits short.
    let first : BreaksRuleOfFileFirst c.args.self.now.closed goes.packets p (Some c.in-Some.rule) = subst (λ o. BreaksRuleOfFileFirst c.args.self.now.closed goes.packets p o) c.in-Some.is (c.rule.ensures goes.packets p goes.tracked fits sums reported tells body) in
    some_stands c.stop.new.self.broken _ c.args.self.now.closed c.stop.new.self.closed c.stop.new.self.tracks (before ++ packet_bytes p) (c.stop.ensures.broken goes.packets goes.tracked) c.stop.ensures.closed
    (stops_at c.args.self.now.closed c.args.self.now.tracks before p c.in-Some.rule goes fits sums answered first)

pub returns-in-None-clause-taken : goal.returns-in-None-clause-taken
returns-in-None-clause-taken c = λ before p goes sums reported answered tells body fits short.
    let first : BreaksRuleOfFileFirst c.args.self.now.closed goes.packets p None = subst (λ o. BreaksRuleOfFileFirst c.args.self.now.closed goes.packets p o) c.in-None.is (c.rule.ensures goes.packets p goes.tracked fits sums reported tells body) in
    let same : before ++ packet_bytes p ≡ file_bytes (goes.packets ++ p ∷ []) = ap (λ (l : List ℕ). l ++ packet_bytes p) goes.bytes_are ∙ sym (bytes_more goes.packets p) in
    on_ok_weaker c.add.result (λ added. none_stands c.args.self.now.broken c.args.self.now.closed c.add.new.self (before ++ packet_bytes p) c.requires
    (goes_on c.args.self.now.closed c.args.self.now.tracks c.add.new.self before (packet_bytes p) p goes (packet_foreign p fits) (reads_own p fits sums) first
    (added goes.packets p (record { tracked = goes.tracked; may = first.0; short = subst (λ (l : List ℕ). length l < 2 ^ 63) same short; tells = tells })))) c.add.ensures.added
