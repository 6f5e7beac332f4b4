use Rattle.std.proofs.Common.{refl}
use Rattle.r10_arguments.specs.Words.{format_options, play_options}
use Rattle.r10_arguments.proofs.OptionsByWords.{told_once}
use Rattle.r10_arguments.proofs.options.options_are_told.Goals as goal

pub returns-clause-format : goal.returns-clause-format
returns-clause-format c = λ words. told_once format_options words refl

pub returns-clause-play : goal.returns-clause-play
returns-clause-play c = λ words. told_once play_options words refl
