-- What a script's text is, as a caller of another language has it.
use Rattle.std.specs.Prelude.{◌≡◌, ℕ, List, length, Option, None, Some}
use Rattle.r10_machine.specs.Config.{Config}
use Rattle.r10_calls.specs.Copies.{copied}
use Rattle.r10_calls.specs.Opening.{IsSettings}
use Rattle.r10_calls.specs.declared.checking.ScriptOut.{ScriptOut}

abbrev pub script_out : Config → ScriptOut
script_out s = record { blocks = s.blocks; directory = s.directory; channels = length s.channels; line = 0; length = 0 }

abbrev pub line_number : Option ℕ → ℕ
line_number None = 0
line_number (Some line) = line

abbrev pub faulty_out : Option ℕ → ℕ → ScriptOut
faulty_out line length = record { blocks = 0; directory = 0; channels = 0; line = line_number line; length = length }

-- it is a script, of these settings
abbrev pub TellsSettings : List ℕ → ScriptOut → Type 0
TellsSettings text out = (s : Config) × IsSettings text s × (out ≡ script_out s)

-- so many bytes say what is wrong, and where; of them there is what fits
pub record TellsFault (out : ScriptOut) (before after : List ℕ) : Type 0 where
  pub line : Option ℕ
  pub said : List ℕ
  pub out_is : out ≡ faulty_out line (length said)
  pub text : after ≡ copied said before
