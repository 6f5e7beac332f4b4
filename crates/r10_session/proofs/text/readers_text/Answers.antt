use Rattle.std.proofs.Common.{◌∙◌, ◌++◌, take, ap}
use Rattle.std.proofs.lemmas.List.{get_or_default}
use Rattle.r10_session.specs.Text.{reader_line, reader_lines}
use Rattle.r10_session.specs.declared.ended.ReaderEnd.{ReaderEnd}
use Rattle.r10_session.specs.declared.ended.ReaderEnd.TheVariants as ends
use Rattle.r10_session.proofs.Numbered.{reader_at}
use Rattle.r10_session.proofs.text.readers_text.Goals as goal

pub loop-number-preserved : goal.loop-number-preserved
loop-number-preserved c =
    let readers = c.args.readers.now in
    let n = c.loop-number.number in
    let before = reader_lines 0 (take n readers) in
    rw (reader_at readers n (ends.Read 0) c.loop-number-test.true)
    (c.in_ok-push_str.ensures.bytes ∙ rw (c.loop-number.invariant) (ap (λ t. before ++ t) (c.deref.ensures ∙ c.in_ok-line.ensures ∙ ap (λ (r : ReaderEnd). reader_line n r) (get_or_default readers n _ (ends.Read 0) c.loop-number-test.true))))
