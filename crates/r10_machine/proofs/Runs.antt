-- Runs, one after another.
use Rattle.std.proofs.Common.{List, [], ◌∷◌, ◌++◌, subst}
use Rattle.r10_medium.specs.Disk.{Image}
use Rattle.r10_machine.specs.Config.{Config}
use Rattle.r10_machine.specs.Machine.{Machine}
use Rattle.r10_machine.specs.Step.{Run}
use Rattle.r10_machine.specs.declared.event.Event.{Event}
use Rattle.r10_machine.specs.declared.reply.Reply.{Reply}

pub joined : (s : Config) (old mid new : Machine) (es fs : List Event) (rs qs : List Reply) (is ks : List Image)
    → Run s old es rs is mid → Run s mid fs qs ks new → Run s old (es ++ fs) (rs ++ qs) (is ++ ks) new
joined s old mid new [] fs [] qs [] ks same run = subst (λ m. Run s m fs qs ks new) same run
joined s old mid new [] fs [] qs (i ∷ is) ks same run = absurd same
joined s old mid new [] fs (r ∷ rs) qs [] ks same run = absurd same
joined s old mid new [] fs (r ∷ rs) qs (i ∷ is) ks same run = absurd same
joined s old mid new (e ∷ es) fs [] qs [] ks same run = absurd same
joined s old mid new (e ∷ es) fs [] qs (i ∷ is) ks same run = absurd same
joined s old mid new (e ∷ es) fs (r ∷ rs) qs [] ks same run = absurd same
joined s old mid new (e ∷ es) fs (r ∷ rs) qs (i ∷ is) ks (next, step, says, rest) run =
    (next, step, says, joined s next mid new es fs rs qs is ks rest run)
