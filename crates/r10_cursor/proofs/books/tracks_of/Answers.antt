use Rattle.std.proofs.Common.{ℕ, Bool, List, subst, sym, arith}
use Rattle.r10_medium.proofs.PowerLoss.{whole_reads}
use Rattle.r10_judge.specs.Files.{file_at}
use Rattle.r10_judge.specs.Judgements.{IsJudged}
use Rattle.r10_judge.specs.declared.judgement.Judgement.TheVariants.{Strict}
use Rattle.r10_judge.specs.Judged.{TracksStrictFile}
use Rattle.r10_cursor.specs.Files.{bytes_in}
use Rattle.r10_cursor.proofs.books.tracks_of.Goals as goal

pub returns-in-Ok-Strict-clause-kept : goal.returns-in-Ok-Strict-clause-kept
returns-in-Ok-Strict-clause-kept g c =
    let disk = g.M.BlockMedium.disk c.args.medium.now in
    let bytes = c.in-Some.ensures.bytes disk.blocks (whole_reads disk) (sym c.blocks-2.ensures) in
    let kept : IsJudged (file_at disk.blocks c.in-Some.extent) c.is_closed.result (Strict c.in-Ok-Strict.tracks) = subst (IsJudged (file_at disk.blocks c.in-Some.extent) c.is_closed.result) c.in-Ok-Strict.field-0-is c.in-Ok-Strict.ensures.judged in
    subst (λ (b : Bool). TracksStrictFile b c.in-Ok-Strict.tracks (bytes_in disk.blocks c.args.entry.now)) c.is_closed.ensures
    (subst (λ (l : List ℕ). TracksStrictFile c.is_closed.result c.in-Ok-Strict.tracks l) bytes kept)

pub returns-in-Ok-Strict-clause-vast : goal.returns-in-Ok-Strict-clause-vast
returns-in-Ok-Strict-clause-vast g c = λ more.
    let disk = g.M.BlockMedium.disk c.args.medium.now in
    absurd (omega (arith, more, c.in-Some.ensures.some disk.blocks (whole_reads disk) (sym c.blocks-2.ensures)))

pub returns-in-Ok-Faulty-clause-vast : goal.returns-in-Ok-Faulty-clause-vast
returns-in-Ok-Faulty-clause-vast g c = λ more.
    let disk = g.M.BlockMedium.disk c.args.medium.now in
    absurd (omega (arith, more, c.in-Some.ensures.some disk.blocks (whole_reads disk) (sym c.blocks-2.ensures)))

pub returns-in-Err-clause-vast : goal.returns-in-Err-clause-vast
returns-in-Err-clause-vast g c = λ more.
    let disk = g.M.BlockMedium.disk c.args.medium.now in
    absurd (omega (arith, more, c.in-Some.ensures.some disk.blocks (whole_reads disk) (sym c.blocks-2.ensures)))
