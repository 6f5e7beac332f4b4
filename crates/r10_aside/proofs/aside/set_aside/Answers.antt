use Rattle.std.proofs.Common.{◌≡◌, ℕ, List, length, None, Ok, Err, ap, subst, ◌∙◌}
use Rattle.r10_count.specs.Checks.{first_broken}
use Rattle.r10_medium.specs.declared.medium.MediumFault.{MediumFault}
use Rattle.r10_dirchain.specs.Checked.{IsCheckError}
use Rattle.r10_dirchain.specs.Mount.{mount_rules}
use Rattle.r10_dirchain.specs.declared.chain.ChainBlock.{ChainBlock}
use Rattle.r10_dirchain.specs.declared.read.ChainError.{ChainError}
use Rattle.r10_dirchain.specs.declared.read.ChainError.TheVariants.{Medium}
use Rattle.r10_dirchain.proofs.Unique.{one_directory}
use Rattle.r10_volume.specs.Mounting.{IsUsable}
use Rattle.r10_volume.proofs.Taken.{named_error, none_unusable, of_check}
use Rattle.r10_aside.specs.Aside.{SetsAsideLast}
use Rattle.r10_aside.proofs.Later.{done_later, done_nowhere, failed_later, of_chain}
use Rattle.r10_aside.proofs.aside.set_aside.Goals as goal

pub returns-in-Err-clause-does : goal.returns-in-Err-clause-does
returns-in-Err-clause-does g c = λ chain usable.
    done_nowhere chain (g.M.BlockMedium.disk c.args.medium.now) (g.M.BlockMedium.disk c.read_chain.new.medium) c.in-Err.error usable.directory c.in-Err.ensures.same

pub returns-in-Err-clause-fault : goal.returns-in-Err-clause-fault
returns-in-Err-clause-fault g c = of_chain c.args.reserved (g.M.BlockMedium.disk c.args.medium.now).blocks c.in-Err.error c.in-Err.ensures.bad

pub returns-in-Err-check-clause-fault : goal.returns-in-Err-check-clause-fault
returns-in-Err-check-clause-fault g c =
    of_check c.args.reserved (g.M.BlockMedium.disk c.args.medium.now).blocks c.in-Ok.directory c.in-Err-check.error c.in-Ok.ensures.read
    (subst (λ (k : ℕ). IsCheckError (mount_rules c.args.reserved k c.in-Ok.directory) c.in-Err-check.error) (c.blocks-2.ensures ∙ ap length c.in-Ok.ensures.same.reads) c.in-Err-check.ensures.fault)

pub returns-in-Err-clause-unusable : goal.returns-in-Err-clause-unusable
returns-in-Err-clause-unusable g c = λ n there.
    let image = (g.M.BlockMedium.disk c.args.medium.now).blocks in
    record {
      named = named_error c.args.reserved image c.in-Err.error (of_chain c.args.reserved image c.in-Err.error c.in-Err.ensures.bad) n there;
      same = c.in-Err.ensures.same;
    }

pub returns-in-Err-check-clause-does : goal.returns-in-Err-check-clause-does
returns-in-Err-check-clause-does g c = λ chain usable.
    done_nowhere chain (g.M.BlockMedium.disk c.args.medium.now) (g.M.BlockMedium.disk c.read_chain.new.medium) c.in-Err-check.error usable.directory c.in-Ok.ensures.same

pub returns-in-Err-check-clause-unusable : goal.returns-in-Err-check-clause-unusable
returns-in-Err-check-clause-unusable g c = λ n there.
    let image = (g.M.BlockMedium.disk c.args.medium.now).blocks in
    let is = of_check c.args.reserved image c.in-Ok.directory c.in-Err-check.error c.in-Ok.ensures.read
    (subst (λ (k : ℕ). IsCheckError (mount_rules c.args.reserved k c.in-Ok.directory) c.in-Err-check.error) (c.blocks-2.ensures ∙ ap length c.in-Ok.ensures.same.reads) c.in-Err-check.ensures.fault) in
    record { named = named_error c.args.reserved image c.in-Err-check.error is n there; same = c.in-Ok.ensures.same }

pub returns-in-Ok-close_as_it_is-clause-does : goal.returns-in-Ok-close_as_it_is-clause-does
returns-in-Ok-close_as_it_is-clause-does g c = λ chain usable.
    let old = g.M.BlockMedium.disk c.args.medium.now in
    let mid = g.M.BlockMedium.disk c.read_chain.new.medium in
    let new = g.M.BlockMedium.disk c.close_as_it_is.new.medium in
    let found = c.in-Ok.directory in
    let same : found ≡ chain = one_directory old.blocks found chain c.in-Ok.ensures.read usable.directory in
    done_later MediumFault ChainError chain old mid new c.in-Ok-close_as_it_is.was_open usable.directory c.in-Ok.ensures.same
    (subst (λ (l : List ChainBlock). SetsAsideLast {E = MediumFault} l mid new (Ok c.in-Ok-close_as_it_is.was_open)) same c.in-Ok-close_as_it_is.ensures.does)

pub returns-in-Ok-close_as_it_is-clause-unusable : goal.returns-in-Ok-close_as_it_is-clause-unusable
returns-in-Ok-close_as_it_is-clause-unusable g c = λ n there.
    let image = (g.M.BlockMedium.disk c.args.medium.now).blocks in
    let chain = c.in-Ok.directory in
    let usable : IsUsable c.args.reserved image chain = record {
      directory = c.in-Ok.ensures.read;
      rules = subst (λ (k : ℕ). first_broken (mount_rules c.args.reserved k chain) ≡ None) (c.blocks-2.ensures ∙ ap length c.in-Ok.ensures.same.reads) c.in_default.ensures.usable;
    } in
    absurd (none_unusable c.args.reserved image chain n usable there)

pub returns-clause-does : goal.returns-clause-does
returns-clause-does g c = λ chain usable.
    let old = g.M.BlockMedium.disk c.args.medium.now in
    let mid = g.M.BlockMedium.disk c.read_chain.new.medium in
    let new = g.M.BlockMedium.disk c.close_as_it_is.new.medium in
    let found = c.in-Ok.directory in
    let same : found ≡ chain = one_directory old.blocks found chain c.in-Ok.ensures.read usable.directory in
    failed_later chain old mid new c.in-Err-close_as_it_is.field-0 Medium usable.directory c.in-Ok.ensures.same
    (subst (λ (l : List ChainBlock). SetsAsideLast l mid new (Err c.in-Err-close_as_it_is.field-0)) same c.in-Err-close_as_it_is.ensures.does)

pub returns-clause-unusable : goal.returns-clause-unusable
returns-clause-unusable g c = λ n there.
    let image = (g.M.BlockMedium.disk c.args.medium.now).blocks in
    let chain = c.in-Ok.directory in
    let usable : IsUsable c.args.reserved image chain = record {
      directory = c.in-Ok.ensures.read;
      rules = subst (λ (k : ℕ). first_broken (mount_rules c.args.reserved k chain) ≡ None) (c.blocks-2.ensures ∙ ap length c.in-Ok.ensures.same.reads) c.in_default.ensures.usable;
    } in
    absurd (none_unusable c.args.reserved image chain n usable there)
