use Rattle.std.proofs.Common.{List, [], ◌∷◌, ◌∙◌, Ok, Err, ap, subst, rules}
use Rattle.r10_medium.proofs.PowerLoss.{settled_reads}
use Rattle.r10_dirchain.specs.Steps.{with_shutdown}
use Rattle.r10_dirchain.specs.declared.chain.ChainBlock.{ChainBlock}
use Rattle.r10_dirchain.specs.declared.chain.Directory.{Directory}
use Rattle.r10_dirchain.specs.declared.read.ChainError.{ChainError}
use Rattle.r10_dirchain.specs.declared.read.ChainError.TheVariants.{Medium}
use Rattle.r10_dirchain.specs.OnMedium.{Turns}
use Rattle.r10_dirchain.proofs.Unique.{one_directory}
use Rattle.r10_machine.specs.Says.{MediumSays}
use Rattle.r10_volume.proofs.Taken.{named_error, no_error, none_unusable, says_usable}
use Rattle.r10_volume.proofs.Turning.{directory_on, marked_rules, usable_on, held_on, kept_then, kept_unchanged, leaves_still, marked_later, marking, says_still, settled_still}
use Rattle.r10_volume.proofs.mounting.mount.Goals as goal

pub returns-in-Err-clause-usable : goal.returns-in-Err-clause-usable
returns-in-Err-clause-usable g c = no_error c.args.reserved (g.M.BlockMedium.disk c.args.medium.now).blocks c.in-Err.error c.in-Err.ensures.fault

pub returns-in-Err-clause-unusable : goal.returns-in-Err-clause-unusable
returns-in-Err-clause-unusable g c = λ n there.
    record { named = named_error c.args.reserved (g.M.BlockMedium.disk c.args.medium.now).blocks c.in-Err.error c.in-Err.ensures.fault n there; same = c.in-Err.ensures.same }

pub returns-in-Err-clause-files : goal.returns-in-Err-clause-files
returns-in-Err-clause-files g c =
    record {
      holds = λ s files says found e.
          let image = (g.M.BlockMedium.disk c.args.medium.now).blocks in
          no_error c.args.reserved image c.in-Err.error c.in-Err.ensures.fault says.chain (says_usable s c.args.reserved image files says e);
      says = search rules;
      bytes = λ s files says. kept_unchanged (g.M.BlockMedium.disk c.args.medium.now) (g.M.BlockMedium.disk c.usable_directory.new.medium) files c.in-Err.ensures.same;
      moments = search rules;
      settled = search rules;
    }

pub returns-in-Ok-set_shutdown-clause-usable : goal.returns-in-Ok-set_shutdown-clause-usable
returns-in-Ok-set_shutdown-clause-usable g c =
    λ chain there. c.in-Ok-set_shutdown.ensures.done ∙ ap (with_shutdown 0) (one_directory (g.M.BlockMedium.disk c.args.medium.now).blocks c.in-Ok.directory chain c.in-Ok.ensures.usable.directory there.directory)

pub returns-in-Ok-set_shutdown-clause-unusable : goal.returns-in-Ok-set_shutdown-clause-unusable
returns-in-Ok-set_shutdown-clause-unusable g c =
    λ n there. absurd (none_unusable c.args.reserved (g.M.BlockMedium.disk c.args.medium.now).blocks c.in-Ok.directory n c.in-Ok.ensures.usable there)

pub returns-in-Err-set_shutdown-clause-unusable : goal.returns-in-Err-set_shutdown-clause-unusable
returns-in-Err-set_shutdown-clause-unusable g c =
    λ n there. absurd (none_unusable c.args.reserved (g.M.BlockMedium.disk c.args.medium.now).blocks c.in-Ok.directory n c.in-Ok.ensures.usable there)

pub returns-in-Ok-set_shutdown-clause-directory : goal.returns-in-Ok-set_shutdown-clause-directory
returns-in-Ok-set_shutdown-clause-directory g c =
    let old = g.M.BlockMedium.disk c.args.medium.now in
    let new = g.M.BlockMedium.disk c.set_shutdown.new.medium in
    let chain = c.in-Ok.directory in
    let made = with_shutdown 0 chain in
    let is = c.in-Ok.ensures.usable.directory in
    let turns : Turns {T = Directory} {E = ChainError} chain made [] (1 ∷ []) old new (Ok c.set_shutdown.new.self) =
    marked_later chain 0 old (g.M.BlockMedium.disk c.usable_directory.new.medium) new (Ok c.in-Ok-set_shutdown.field-0) (Ok c.set_shutdown.new.self) c.in-Ok.ensures.same is c.in-Ok-set_shutdown.ensures.turns (λ P p. p) in
    record { directory = directory_on chain made c.set_shutdown.new.self old new (Ok c.set_shutdown.new.self) turns c.in-Ok-set_shutdown.ensures.done; synced = c.in-Ok-set_shutdown.ensures.durable }

pub returns-in-Ok-set_shutdown-clause-ready : goal.returns-in-Ok-set_shutdown-clause-ready
returns-in-Ok-set_shutdown-clause-ready g c =
    let old = g.M.BlockMedium.disk c.args.medium.now in
    let new = g.M.BlockMedium.disk c.set_shutdown.new.medium in
    let chain = c.in-Ok.directory in
    let made = with_shutdown 0 chain in
    let is = c.in-Ok.ensures.usable.directory in
    let turns : Turns {T = Directory} {E = ChainError} chain made [] (1 ∷ []) old new (Ok c.set_shutdown.new.self) =
    marked_later chain 0 old (g.M.BlockMedium.disk c.usable_directory.new.medium) new (Ok c.in-Ok-set_shutdown.field-0) (Ok c.set_shutdown.new.self) c.in-Ok.ensures.same is c.in-Ok-set_shutdown.ensures.turns (λ P p. p) in
    usable_on c.args.reserved chain made c.set_shutdown.new.self (1 ∷ []) old new (Ok c.set_shutdown.new.self) (marked_rules c.args.reserved 0 old.blocks chain c.in-Ok.ensures.usable) turns c.in-Ok-set_shutdown.ensures.done

pub returns-in-Ok-set_shutdown-clause-turns : goal.returns-in-Ok-set_shutdown-clause-turns
returns-in-Ok-set_shutdown-clause-turns g c =
    let old = g.M.BlockMedium.disk c.args.medium.now in
    let new = g.M.BlockMedium.disk c.set_shutdown.new.medium in
    let chain = c.in-Ok.directory in
    let made = with_shutdown 0 chain in
    let is = c.in-Ok.ensures.usable.directory in
    let turns : Turns {T = Directory} {E = ChainError} chain made [] (1 ∷ []) old new (Ok c.set_shutdown.new.self) =
    marked_later chain 0 old (g.M.BlockMedium.disk c.usable_directory.new.medium) new (Ok c.in-Ok-set_shutdown.field-0) (Ok c.set_shutdown.new.self) c.in-Ok.ensures.same is c.in-Ok-set_shutdown.ensures.turns (λ P p. p) in
    λ other there. subst (λ (l : List ChainBlock). Turns {T = Directory} {E = ChainError} l (with_shutdown 0 l) [] (1 ∷ []) old new (Ok c.set_shutdown.new.self)) (one_directory old.blocks chain other is there.directory) turns

pub returns-in-Ok-set_shutdown-clause-files : goal.returns-in-Ok-set_shutdown-clause-files
returns-in-Ok-set_shutdown-clause-files g c =
    let old = g.M.BlockMedium.disk c.args.medium.now in
    let new = g.M.BlockMedium.disk c.set_shutdown.new.medium in
    let chain = c.in-Ok.directory in
    let made = with_shutdown 0 chain in
    let is = c.in-Ok.ensures.usable.directory in
    let turns : Turns {T = Directory} {E = ChainError} chain made [] (1 ∷ []) old new (Ok c.set_shutdown.new.self) =
    marked_later chain 0 old (g.M.BlockMedium.disk c.usable_directory.new.medium) new (Ok c.in-Ok-set_shutdown.field-0) (Ok c.set_shutdown.new.self) c.in-Ok.ensures.same is c.in-Ok-set_shutdown.ensures.turns (λ P p. p) in
    record {
      holds = λ s files says found e. held_on s old new chain made c.set_shutdown.new.self files (Ok c.set_shutdown.new.self) (marking s old.blocks chain 0 files says is) found turns c.in-Ok-set_shutdown.ensures.done;
      says = λ s files says. says_still s old new chain made (1 ∷ []) files (Ok c.set_shutdown.new.self) (marking s old.blocks chain 0 files says is) turns;
      bytes = λ s files says. kept_then s old new chain made (1 ∷ []) files files (Ok c.set_shutdown.new.self) (marking s old.blocks chain 0 files says is) turns;
      moments = λ s files here. leaves_still s old new chain made (1 ∷ []) files (Ok c.set_shutdown.new.self) (marking s old.blocks chain 0 files (settled_reads (λ image. MediumSays s image files) old here) is) turns here;
      settled = λ s files says. settled_still s old new chain made (1 ∷ []) files (Ok c.set_shutdown.new.self) (marking s old.blocks chain 0 files says is) turns;
    }

pub returns-in-Err-set_shutdown-clause-turns : goal.returns-in-Err-set_shutdown-clause-turns
returns-in-Err-set_shutdown-clause-turns g c =
    let old = g.M.BlockMedium.disk c.args.medium.now in
    let new = g.M.BlockMedium.disk c.set_shutdown.new.medium in
    let chain = c.in-Ok.directory in
    let made = with_shutdown 0 chain in
    let is = c.in-Ok.ensures.usable.directory in
    let turns : Turns {T = Directory} {E = ChainError} chain made [] (1 ∷ []) old new (Err Medium) =
    marked_later chain 0 old (g.M.BlockMedium.disk c.usable_directory.new.medium) new (Err c.in-Err-set_shutdown.field-0) (Err Medium) c.in-Ok.ensures.same is c.in-Err-set_shutdown.ensures.turns (λ P p. tt) in
    λ other there. subst (λ (l : List ChainBlock). Turns {T = Directory} {E = ChainError} l (with_shutdown 0 l) [] (1 ∷ []) old new (Err Medium)) (one_directory old.blocks chain other is there.directory) turns

pub returns-in-Err-set_shutdown-clause-files : goal.returns-in-Err-set_shutdown-clause-files
returns-in-Err-set_shutdown-clause-files g c =
    let old = g.M.BlockMedium.disk c.args.medium.now in
    let new = g.M.BlockMedium.disk c.set_shutdown.new.medium in
    let chain = c.in-Ok.directory in
    let made = with_shutdown 0 chain in
    let is = c.in-Ok.ensures.usable.directory in
    let turns : Turns {T = Directory} {E = ChainError} chain made [] (1 ∷ []) old new (Err Medium) =
    marked_later chain 0 old (g.M.BlockMedium.disk c.usable_directory.new.medium) new (Err c.in-Err-set_shutdown.field-0) (Err Medium) c.in-Ok.ensures.same is c.in-Err-set_shutdown.ensures.turns (λ P p. tt) in
    record {
      holds = search rules;
      says = λ s files says. says_still s old new chain made (1 ∷ []) files (Err Medium) (marking s old.blocks chain 0 files says is) turns;
      bytes = λ s files says. kept_then s old new chain made (1 ∷ []) files files (Err Medium) (marking s old.blocks chain 0 files says is) turns;
      moments = λ s files here. leaves_still s old new chain made (1 ∷ []) files (Err Medium) (marking s old.blocks chain 0 files (settled_reads (λ image. MediumSays s image files) old here) is) turns here;
      settled = search rules;
    }
