use Rattle.r10_b1553.proofs.Numbers.{all_words}
use Rattle.r10_b1553.proofs.words.words_of.Goals as goal

pub returns-clause-bytes : goal.returns-clause-bytes
returns-clause-bytes c = all_words c.args.bytes.now c.loop-word.rest.now c.loop-word.words.items c.requires c.in_default.ensures.none c.loop-word.invariant.bytes
