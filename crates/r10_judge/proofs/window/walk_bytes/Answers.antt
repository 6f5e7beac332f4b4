use Rattle.std.proofs.Common.{[], take, drop, sym}
use Rattle.std.proofs.lemmas.List.{take-append-drop}
use Rattle.r10_judge.proofs.window.walk_bytes.Goals as goal

pub returns-clause-walked : goal.returns-clause-walked
returns-clause-walked c =
    let taken = c.in_ok-taken in
    let n = taken.taken.length in
    let bytes = c.args.bytes.now in
    record {
      before = take n bytes;
      rest = drop n bytes;
      bytes_are = sym (take-append-drop n bytes);
      stands = taken.ensures.stands [] c.new-walk.ensures.stands;
      ends = taken.ensures.ends;
      answered = taken.ensures.answered;
    }
