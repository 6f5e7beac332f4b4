use Rattle.std.proofs.Common.{◌∙◌, ◌++◌, take, ap}
use Rattle.r10_text.specs.Replies.{file_line, file_lines}
use Rattle.r10_text.proofs.Files.{lines_at}
use Rattle.r10_text.proofs.reply.file_lines.Goals as goal

pub loop-number-preserved : goal.loop-number-preserved
loop-number-preserved c =
    let before = file_lines 0 (take c.loop-number.number c.args.files.now) in
    rw (lines_at c.args.files.now c.loop-number.number c.index-files-number.result c.loop-number-test.true)
    (c.in_ok-push_str.ensures.bytes ∙ rw (c.loop-number.invariant) (ap (λ t. before ++ t) (c.deref.ensures ∙ c.in_ok-line.ensures ∙ ap (λ f. file_line c.loop-number.number f) c.index-files-number.is)))
