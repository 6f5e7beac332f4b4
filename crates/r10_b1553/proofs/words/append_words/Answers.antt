use Rattle.std.proofs.Common.{rules, arith, length, ap, drop, length-append, length-drop}
use Rattle.r10_b1553.specs.Bus.{words_low_first}
use Rattle.r10_b1553.specs.Entry.{words-size}
use Rattle.r10_b1553.proofs.words.append_words.Goals as goal

pub returns-in-Err : goal.returns-in-Err
returns-in-Err c = record {
  written = tt;
  kept = search rules;
  full =
      let words = c.args.words.now in
      let left = drop c.loop-word.word-index words in
      let out = c.loop-word.out in
      omega (
        arith,
        c.in-Err.ensures.full,
        c.loop-word.invariant.capacity,
        c.loop-word-test.true,
        out.ok.0,
        ap length c.loop-word.invariant.written,
        length-append out.items (words_low_first left),
        length-append c.args.out.now.items (words_low_first words),
        words-size left,
        words-size words,
        length-drop c.loop-word.word-index words,
      );
  capacity = search rules;
}
