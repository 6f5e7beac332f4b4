use Rattle.std.proofs.Common.{rules, map, string_bytes}
use Rattle.r10_arguments.specs.FoundOptions.{found_words}
use Rattle.r10_arguments.specs.Options.{HasOnlyOptions}
use Rattle.r10_arguments.specs.Words.{OptionsOfPlay, play_options}
use Rattle.r10_arguments.proofs.OptionsByWords.{play_differs}
use Rattle.r10_arguments.proofs.asked.play_fault.Goals as goal

pub returns-clause-numbers : goal.returns-clause-numbers
returns-clause-numbers c = λ same.
    let given = map found_words c.in-Some.given.items in
    let only : HasOnlyOptions play_options (map string_bytes c.args.words.now) given = search rules in
    let other : OptionsOfPlay given c.args.play.now → ⊥ = search rules in
    play_differs (map string_bytes c.args.words.now) given c.args.play.now only other
