use Rattle.std.proofs.Common.{sym}
use Rattle.r10_arguments.proofs.Giving.{first_alone, gives_first}
use Rattle.r10_arguments.proofs.Words.{all_behind}
use Rattle.r10_arguments.proofs.options.+gives_option.Goals as goal

pub returns-then-eq-2 : goal.returns-then-eq-2
returns-then-eq-2 t c =
    let left = rw (all_behind 1 c.args.given.now) at c.is_left_out.ensures in (
      λ yes. gives_first c.args.given.now _ c.args.option.now c.args.value.now c.in-len1-up.len_at_least (sym c.if-eq.ensures) (sym c.if-eq-2.ensures) (left.0 yes),
      λ gives. left.1 (first_alone c.args.given.now _ c.args.option.now c.args.value.now c.in-len1-up.len_at_least (sym c.if-eq.ensures) gives),
    )
