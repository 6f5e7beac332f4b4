use Rattle.std.proofs.Common.{Ok, sym, ap, ◌∙◌, subst}
use Rattle.std.specs.List.{All}
use Rattle.r10_dirblock.specs.declared.block.DirBlock.{DirBlock}
use Rattle.r10_dirblock.specs.Block.{IsBlock, FitsEntry, FitsHead}
use Rattle.r10_dirblock.proofs.BlockFields.{found, only, read_ok, read_err}
use Rattle.r10_dirblock.proofs.read.decode.Goals as goal

pub returns-in-Some-clause-only : goal.returns-in-Some-clause-only
returns-in-Some-clause-only c = λ d is.
    sym (read_err c.args.bytes.now c.in-Some.fault (sym c.first_fault.ensures ∙ c.in-Some.is)) ∙ only c.args.bytes.now d is

pub returns-in-None-clause-found : goal.returns-in-None-clause-found
returns-in-None-clause-found c =
    let fields = c.fields.ensures.fields in
    subst (IsBlock c.args.bytes.now) (sym fields)
    (found c.args.bytes.now c.told-bytes c.fits-bytes (sym c.first_fault.ensures ∙ c.in-None.is)
    (subst FitsHead fields c.fields.ensures.head)
    (subst (λ (d : DirBlock). All FitsEntry d.entries) fields c.fields.ensures.entries))

pub returns-in-None-clause-only : goal.returns-in-None-clause-only
returns-in-None-clause-only c = λ d is.
    ap (λ (b : DirBlock). Ok b) c.fields.ensures.fields
    ∙ sym (read_ok c.args.bytes.now (sym c.first_fault.ensures ∙ c.in-None.is)) ∙ only c.args.bytes.now d is
