use Rattle.std.proofs.Common.{rules, ◌≡◌, [], ◌∷◌, ◌++◌}
use Rattle.r10_arguments.proofs.Giving.{one_more}
use Rattle.r10_arguments.proofs.options.front_options.Goals as goal

pub loop-first-preserved : goal.loop-first-preserved
loop-first-preserved c =
    let items : c.push.new.self.items ≡ c.loop-first.given.items ++ c.in-Some.first.found ∷ [] = search rules in
    rw items (one_more _ _ _ _ c.loop-first.given.items c.in-Some.first.found c.loop-first.invariant c.in-Some.ensures.stands)
