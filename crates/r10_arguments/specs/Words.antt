-- What words ask for.
use Rattle.std.specs.Prelude.{◌≡◌, ◌⊎◌, ℕ, List, [], ◌∷◌, codes, drop, slice_index_or, string_bytes}
use Rattle.std.specs.List.{Contains}
use Rattle.std.specs.Fmt.{decimal}
use Rattle.r10_arguments.specs.Options.{BeginsWithOptions, GivesOption, GivesOr, HasOnlyOptions, OptionWords}
use Rattle.r10_arguments.specs.declared.asked.Asked.{Asked}
use Rattle.r10_arguments.specs.declared.asked.Asked.TheVariants.{Sim, Image, Files, Check, Play, Format, Text}
use Rattle.r10_arguments.specs.declared.asked.FormatWords.{FormatWords}
use Rattle.r10_arguments.specs.declared.asked.PlayWords.{PlayWords}

-- after the program's own name nothing, or the word `sim`
abbrev pub AsksSim : List (List ℕ) → Type 0
AsksSim [] = Unit {0}
AsksSim (name ∷ []) = Unit {0}
AsksSim (name ∷ word ∷ []) = word ≡ codes "sim"
AsksSim (name ∷ word ∷ other ∷ words) = ⊥

-- after the program's own name this word and `--image`
abbrev pub AsksImageOf : List ℕ → List (List ℕ) → Type 0
AsksImageOf command [] = ⊥
AsksImageOf command (name ∷ []) = ⊥
AsksImageOf command (name ∷ word ∷ []) = ⊥
AsksImageOf command (name ∷ word ∷ option ∷ []) = (word ≡ command) × (option ≡ codes "--image")
AsksImageOf command (name ∷ word ∷ option ∷ more ∷ words) = ⊥

-- after the program's own name `sim --image` alone
abbrev pub AsksImage : List (List ℕ) → Type 0
AsksImage words = AsksImageOf (codes "sim") words

-- after the program's own name this word alone
abbrev pub AsksOnly : List ℕ → List (List ℕ) → Type 0
AsksOnly command [] = ⊥
AsksOnly command (name ∷ []) = ⊥
AsksOnly command (name ∷ word ∷ []) = word ≡ command
AsksOnly command (name ∷ word ∷ other ∷ words) = ⊥

abbrev pub AsksFiles : List (List ℕ) → Type 0
AsksFiles words = AsksOnly (codes "files") words

abbrev pub AsksCheck : List (List ℕ) → Type 0
AsksCheck words = AsksOnly (codes "check") words

-- after the program's own name `run` alone
abbrev pub AsksRun : List (List ℕ) → Type 0
AsksRun words = AsksOnly (codes "run") words

-- after the program's own name `run --image` alone
abbrev pub AsksRunImage : List (List ℕ) → Type 0
AsksRunImage words = AsksImageOf (codes "run") words

-- the words are those of a command that reads a session script: its lines, or its medium's image
abbrev pub AsksSession : List (List ℕ) → Type 0
AsksSession words = AsksRun words ⊎ AsksRunImage words

abbrev pub word_at : List (List ℕ) → ℕ → List ℕ
word_at words i = slice_index_or words i []

-- the options that `format` knows
abbrev pub format_options : List (List ℕ)
format_options = codes "--blocks" ∷ codes "--directory" ∷ codes "--volume" ∷ []

-- the options give these values, numbers in decimal: each stands once
pub record OptionsOfFormat (given : List OptionWords) (format : FormatWords) : Type 0 where
  pub blocks : GivesOption given (codes "--blocks") (decimal format.blocks)
  pub directory : GivesOption given (codes "--directory") (decimal format.directory)
  pub volume : GivesOption given (codes "--volume") (string_bytes format.volume)

-- the options of `format`, and no other word
pub record GivesAll (words : List (List ℕ)) (format : FormatWords) : Type 0 where
  pub given : List OptionWords
  pub only : HasOnlyOptions format_options words given
  pub gives : OptionsOfFormat given format

-- what is stated of numbers that are spelled otherwise
abbrev pub numbers_fault : List ℕ
numbers_fault = codes "a number has neither a sign nor zeros before it"

-- the options that `play` knows
abbrev pub play_options : List (List ℕ)
play_options = codes "--file" ∷ codes "--channel" ∷ codes "--from" ∷ codes "--to" ∷ []

-- the options give these values, each standing at most once: the first file, all channels and all counts go without saying
pub record OptionsOfPlay (given : List OptionWords) (play : PlayWords) : Type 0 where
  pub file : GivesOr given (codes "--file") play.file 0
  pub channel : GivesOr given (codes "--channel") play.channel 0
  pub from : GivesOr given (codes "--from") play.from 0
  pub to : GivesOr given (codes "--to") play.to 281474976710655

-- the options of `play`, and no other word
pub record GivesSelection (words : List (List ℕ)) (play : PlayWords) : Type 0 where
  pub given : List OptionWords
  pub only : HasOnlyOptions play_options words given
  pub gives : OptionsOfPlay given play

-- the first word after the program's own name
abbrev pub AsksCommand : List ℕ → List (List ℕ) → Type 0
AsksCommand command words = word_at words 1 ≡ command

abbrev pub IsHelp : List ℕ → Type 0
IsHelp word = (word ≡ codes "-h") ⊎ (word ≡ codes "--help")

abbrev pub IsVersion : List ℕ → Type 0
IsVersion word = (word ≡ codes "-V") ⊎ (word ≡ codes "--version")

-- the commands without options that have values
abbrev pub plain_commands : List (List ℕ)
plain_commands = codes "sim" ∷ codes "run" ∷ codes "files" ∷ codes "check" ∷ []

-- the commands that write a medium's image, where `--image` asks for that
abbrev pub image_commands : List (List ℕ)
image_commands = codes "sim" ∷ codes "run" ∷ []

-- the commands that `help` explains, itself among them
abbrev pub commands : List (List ℕ)
commands = codes "format" ∷ codes "play" ∷ codes "help" ∷ plain_commands

-- after the program's own name `help`, alone or with one command
abbrev pub AsksHelpWord : List (List ℕ) → Type 0
AsksHelpWord [] = ⊥
AsksHelpWord (name ∷ []) = ⊥
AsksHelpWord (name ∷ word ∷ []) = word ≡ codes "help"
AsksHelpWord (name ∷ word ∷ command ∷ []) = (word ≡ codes "help") × Contains commands command
AsksHelpWord (name ∷ word ∷ command ∷ more ∷ words) = ⊥

-- after options of the command, each with its value, help is asked for
pub record AsksHelpBehind (known words : List (List ℕ)) : Type 0 where
  pub given : List OptionWords
  pub rest : List (List ℕ)
  pub begins : BeginsWithOptions known (drop 2 words) given rest
  pub asks : IsHelp (word_at rest 0)

-- The words ask for help or the version: `help`, or an option that asks, with nothing before it but a command and options of it.
pub data AsksText (words : List (List ℕ)) : Type 0 where
  by_word : AsksHelpWord words → AsksText words
  version : IsVersion (word_at words 1) → AsksText words
  help : IsHelp (word_at words 1) → AsksText words
  behind_plain : Contains plain_commands (word_at words 1) → IsHelp (word_at words 2) → AsksText words
  behind_image : Contains image_commands (word_at words 1) → word_at words 2 ≡ codes "--image" → IsHelp (word_at words 3)
      → AsksText words
  behind_format : AsksCommand (codes "format") words → AsksHelpBehind format_options words → AsksText words
  behind_play : AsksCommand (codes "play") words → AsksHelpBehind play_options words → AsksText words

-- a formatted medium or entries as the options say, each by its own command; or help or the version, where the words ask for that
abbrev pub AsksOther : List (List ℕ) → Asked → Type 0
AsksOther words Sim = ⊥
AsksOther words Image = ⊥
AsksOther words Files = ⊥
AsksOther words Check = ⊥
AsksOther words (Play play) = AsksCommand (codes "play") words × GivesSelection words play
AsksOther words (Format format) = AsksCommand (codes "format") words × GivesAll words format
AsksOther words (Text text) = AsksText words
