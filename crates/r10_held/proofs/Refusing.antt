-- What a refused call leaves, after another that only read.
use Rattle.std.proofs.Common.{◌≡◌, ◌≤◌, Option, None, sym, ◌∙◌, subst}
use Rattle.r10_body.specs.declared.refusal.Refusal.{Refusal}
use Rattle.r10_body.specs.declared.refusal.Refusal.TheVariants as refusals
use Rattle.r10_control.specs.Refused.{RefusesCall}
use Rattle.r10_refinement.specs.KeptState.{Kept}
use Rattle.r10_medium.specs.Disk.{Disk, Unchanged}
use Rattle.r10_medium.proofs.Failures.{rose_later}
use Rattle.r10_medium.proofs.PowerLoss.{unchanged_twice}

-- a call that only read, and then one that is refused, where what is lacking then was lacking before
pub refused_behind : {M : Type 0} (disk : M → Disk) (lacks lacked : Refusal → Type 0) (k later : Kept) (a b c : M) (r : Refusal) → ((x : Refusal) → lacks x → lacked x)
    → Unchanged (disk a) (disk b) → (disk a).failures ≤ (disk b).failures → (disk b).failures ≤ (disk c).failures
    → RefusesCall disk None lacks k later b c r → RefusesCall disk None lacked k later a c r
refused_behind disk lacks lacked k later a b c refusals.Failed then same up rose is = (then refusals.Failed is.0, unchanged_twice (disk a) (disk b) (disk c) same is.1, is.2)
refused_behind disk lacks lacked k later a b c refusals.NotMounted then same up rose is = (then refusals.NotMounted is.0, unchanged_twice (disk a) (disk b) (disk c) same is.1, is.2)
refused_behind disk lacks lacked k later a b c refusals.AlreadyMounted then same up rose is = (then refusals.AlreadyMounted is.0, unchanged_twice (disk a) (disk b) (disk c) same is.1, is.2)
refused_behind disk lacks lacked k later a b c refusals.Busy then same up rose is = (then refusals.Busy is.0, unchanged_twice (disk a) (disk b) (disk c) same is.1, is.2)
refused_behind disk lacks lacked k later a b c refusals.NotRecording then same up rose is = (then refusals.NotRecording is.0, unchanged_twice (disk a) (disk b) (disk c) same is.1, is.2)
refused_behind disk lacks lacked k later a b c refusals.NoSuchChannel then same up rose is = (then refusals.NoSuchChannel is.0, unchanged_twice (disk a) (disk b) (disk c) same is.1, is.2)
refused_behind disk lacks lacked k later a b c refusals.WrongKind then same up rose is = (then refusals.WrongKind is.0, unchanged_twice (disk a) (disk b) (disk c) same is.1, is.2)
refused_behind disk lacks lacked k later a b c refusals.BadMessage then same up rose is = (then refusals.BadMessage is.0, unchanged_twice (disk a) (disk b) (disk c) same is.1, is.2)
refused_behind disk lacks lacked k later a b c refusals.TooLong then same up rose is = (then refusals.TooLong is.0, unchanged_twice (disk a) (disk b) (disk c) same is.1, is.2)
refused_behind disk lacks lacked k later a b c refusals.CountRange then same up rose is = (then refusals.CountRange is.0, unchanged_twice (disk a) (disk b) (disk c) same is.1, is.2)
refused_behind disk lacks lacked k later a b c refusals.CountBack then same up rose is = (then refusals.CountBack is.0, unchanged_twice (disk a) (disk b) (disk c) same is.1, is.2)
refused_behind disk lacks lacked k later a b c refusals.Overflow then same up rose is = (then refusals.Overflow is.0, unchanged_twice (disk a) (disk b) (disk c) same is.1, is.2)
refused_behind disk lacks lacked k later a b c refusals.BadCivil then same up rose is = (then refusals.BadCivil is.0, unchanged_twice (disk a) (disk b) (disk c) same is.1, is.2)
refused_behind disk lacks lacked k later a b c refusals.NoTime then same up rose is = (then refusals.NoTime is.0, unchanged_twice (disk a) (disk b) (disk c) same is.1, is.2)
refused_behind disk lacks lacked k later a b c refusals.BadName then same up rose is = (then refusals.BadName is.0, unchanged_twice (disk a) (disk b) (disk c) same is.1, is.2)
refused_behind disk lacks lacked k later a b c refusals.NameTaken then same up rose is = (then refusals.NameTaken is.0, unchanged_twice (disk a) (disk b) (disk c) same is.1, is.2)
refused_behind disk lacks lacked k later a b c refusals.BadEvent then same up rose is = (then refusals.BadEvent is.0, unchanged_twice (disk a) (disk b) (disk c) same is.1, is.2)
refused_behind disk lacks lacked k later a b c refusals.Unsealed then same up rose is = (then refusals.Unsealed is.0, unchanged_twice (disk a) (disk b) (disk c) same is.1, is.2)
refused_behind disk lacks lacked k later a b c refusals.NoSuchFile then same up rose is = (then refusals.NoSuchFile is.0, unchanged_twice (disk a) (disk b) (disk c) same is.1, is.2)
refused_behind disk lacks lacked k later a b c refusals.Stale then same up rose is = (then refusals.Stale is.0, unchanged_twice (disk a) (disk b) (disk c) same is.1, is.2)
refused_behind disk lacks lacked k later a b c refusals.NoCursor then same up rose is = (then refusals.NoCursor is.0, unchanged_twice (disk a) (disk b) (disk c) same is.1, is.2)
refused_behind disk lacks lacked k later a b c refusals.Unread then same up rose is = (then refusals.Unread is.0, unchanged_twice (disk a) (disk b) (disk c) same is.1, is.2)
refused_behind disk lacks lacked k later a b c refusals.DirectoryFull then same up rose is = (then refusals.DirectoryFull is.0, unchanged_twice (disk a) (disk b) (disk c) same is.1, is.2)
refused_behind disk lacks lacked k later a b c refusals.MediumFull then same up rose is = (then refusals.MediumFull is.0, unchanged_twice (disk a) (disk b) (disk c) same is.1, is.2)
refused_behind disk lacks lacked k later a b c (refusals.BadDirectory n) then same up rose is = (then (refusals.BadDirectory n) is.0, unchanged_twice (disk a) (disk b) (disk c) same is.1, is.2)
refused_behind disk lacks lacked k later a b c (refusals.BadFile at fault) then same up rose is = (then (refusals.BadFile at fault) is.0, unchanged_twice (disk a) (disk b) (disk c) same is.1, is.2)
refused_behind disk lacks lacked k later a b c refusals.Medium then same up rose is = (rose_later (disk a).failures (disk b).failures (disk c).failures up rose is.0, is.1)
refused_behind disk lacks lacked k later a b c (refusals.Behind seen) then same up rose is = (then (refusals.Behind seen) is.0, unchanged_twice (disk a) (disk b) (disk c) same is.1, is.2)
refused_behind disk lacks lacked k later a b c refusals.OutOfMemory then same up rose is = (unchanged_twice (disk a) (disk b) (disk c) same is.0, is.1)

-- where no check refuses, the checks may be others that don't
pub other_checks : {M : Type 0} (disk : M → Disk) (o p : Option Refusal) (lacks : Refusal → Type 0) (k later : Kept) (a b : M) (r : Refusal) → o ≡ None → p ≡ None → RefusesCall disk o lacks k later a b r → RefusesCall disk p lacks k later a b r
other_checks disk o p lacks k later a b r none fine is = subst (λ (q : Option Refusal). RefusesCall disk q lacks k later a b r) (none ∙ sym fine) is

-- memory is refused, and no check refused
pub not_refused : {M : Type 0} (disk : M → Disk) (o : Option Refusal) (lacks : Refusal → Type 0) (k later : Kept) (a b : M) → o ≡ None → Unchanged (disk a) (disk b) → later ≡ k → RefusesCall disk o lacks k later a b refusals.OutOfMemory
not_refused disk o lacks k later a b none same kept = subst (λ (p : Option Refusal). RefusesCall disk p lacks k later a b refusals.OutOfMemory) (sym none) (same, kept)
