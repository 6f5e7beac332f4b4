use Rattle.std.proofs.Common.{rules, ◌≡◌, Ok}
use Rattle.r10_arguments.specs.declared.asked.Asked.TheVariants as asked
use Rattle.r10_command.proofs.Formats.{formats, plays, texts}
use Rattle.r10_command.proofs.command.perform.Goals as goal

pub returns-in_ok-write_medium-in-Ok-Format-clause-does :
    goal.returns-in_ok-write_medium-in-Ok-Format-clause-does
returns-in_ok-write_medium-in-Ok-Format-clause-does g c =
    let read = c.read_words.ensures in
    let is : c.read_words.result ≡ Ok (asked.Format c.in-Ok-Format.format) = search rules in
    formats _ _ _ _ c.read_words.result c.in-Ok-Format.format is read.sim read.image read.files read.check read.other c.in_ok-write_medium-in-Ok-Format.ensures.image

pub returns-in_ok-print_text-in-Ok-Text-clause-does :
    goal.returns-in_ok-print_text-in-Ok-Text-clause-does
returns-in_ok-print_text-in-Ok-Text-clause-does g c =
    let read = c.read_words.ensures in
    let is : c.read_words.result ≡ Ok (asked.Text c.in-Ok-Text.text) = search rules in
    texts _ _ _ _ c.read_words.result c.in-Ok-Text.text _ is read.sim read.image read.files read.check read.other c.in_ok-print_text-in-Ok-Text.ensures.text

pub returns-in_ok-play_input-in-Ok-Play-clause-does :
    goal.returns-in_ok-play_input-in-Ok-Play-clause-does
returns-in_ok-play_input-in-Ok-Play-clause-does g c =
    let read = c.read_words.ensures in
    let is : c.read_words.result ≡ Ok (asked.Play c.in-Ok-Play.play) = search rules in
    plays _ _ _ _ _ c.read_words.result c.in-Ok-Play.play is read.sim read.image read.files read.check read.other (rw c.selection.ensures at c.in_ok-play_input-in-Ok-Play.ensures.plays)
