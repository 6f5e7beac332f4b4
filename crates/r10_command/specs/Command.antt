-- What a command does that did not fail.
use Rattle.std.specs.Prelude.{◌≡◌, ◌⊎◌, ℕ, List, Option, IfSome, codes}
use Rattle.std.specs.Io.KnownBytes.{Appends}
use Rattle.r10_arguments.specs.Words.{AsksSim, AsksImage, AsksFiles, AsksCheck, AsksCommand, AsksText, GivesAll, GivesSelection}
use Rattle.r10_arguments.specs.declared.asked.FormatWords.{FormatWords}
use Rattle.r10_arguments.specs.declared.asked.PlayWords.{PlayWords}
use Rattle.r10_images.specs.Image.{image_blocks}
use Rattle.r10_images.specs.Listing.{ListsFiles}
use Rattle.r10_images.specs.declared.listing.Outcome.{Outcome}
use Rattle.r10_images.specs.declared.listing.Outcome.TheVariants.{Done}
use Rattle.r10_playback.specs.Lines.{Plays}
use Rattle.r10_playback.specs.declared.selection.Selection.{Selection}
use Rattle.r10_playback.specs.Checked.{Checks}
use Rattle.r10_command.specs.Sim.{Simulates, WritesLeft}
use Rattle.r10_command.specs.Written.{WritesFormatted}

-- the words are those of a command that reads a script: a run, or its medium's image
abbrev pub AsksScript : List (List ℕ) → Type 0
AsksScript words = AsksSim words ⊎ AsksImage words

-- the words are those of a command that reads its input: a script, an image to be listed, a recording, or an image to be
-- played, whatever the options of `play`
abbrev pub AsksInput : List (List ℕ) → Type 0
AsksInput words = AsksScript words ⊎ (AsksFiles words ⊎ (AsksCheck words ⊎ AsksCommand (codes "play") words))

-- the words are those of `format`, with its options, and the image was written
abbrev pub Formats : List (List ℕ) → Option (List ℕ) → Option (List ℕ) → Type 0
Formats words old new = (format : FormatWords) × (AsksCommand (codes "format") words × GivesAll words format)
    × WritesFormatted format old new

-- the entries that the words ask for
abbrev pub selected : PlayWords → Selection
selected play = record { file = play.file; channel = play.channel; from = play.from; to = play.to }

-- the words are those of `play`, with its options, or some are left out, and the entries of the image were written, or why
-- there are none
abbrev pub PlaysBack : List (List ℕ) → Option (List ℕ) → Option (List ℕ) → Option (List ℕ) → Outcome → Type 0
PlaysBack words input old new outcome = (play : PlayWords) × (AsksCommand (codes "play") words × GivesSelection words play)
    × IfSome input (λ bytes. Plays (selected play) (image_blocks bytes) outcome old new)

-- the words ask for help or the version, and a text was written
abbrev pub WritesText : List (List ℕ) → Option (List ℕ) → Option (List ℕ) → Type 0
WritesText words old new = AsksText words × ((text : List ℕ) × Appends old new text)

-- The words are those of a call, the input is what the reader had left, and a writer that held `old` then held `new`.
pub record DoesCommand (words : List (List ℕ)) (input old new : Option (List ℕ)) (outcome : Outcome) : Type 0 where
  -- a run: the script that was read was played
  pub sim : AsksSim words → (outcome ≡ Done) × IfSome input (λ text. Simulates text old new)
  -- a run's medium: its image
  pub image : AsksImage words → (outcome ≡ Done) × IfSome input (λ text. WritesLeft text old new)
  -- a list: of the image that was read
  pub files : AsksFiles words → IfSome input (λ bytes. ListsFiles (image_blocks bytes) outcome old new)
  -- a verdict: on the recording that was read
  pub check : AsksCheck words → IfSome input (λ bytes. Checks bytes outcome old new)
  -- all else
  pub other : (AsksSim words → ⊥) → (AsksImage words → ⊥) → (AsksFiles words → ⊥) → (AsksCheck words → ⊥)
      → PlaysBack words input old new outcome ⊎ ((outcome ≡ Done) × (Formats words old new ⊎ WritesText words old new))
