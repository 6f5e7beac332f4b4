-- What is printed of the entries that are asked for.
use Rattle.std.specs.Prelude.{◌≡◌, ℕ, List, Option, codes}
use Rattle.std.specs.List.{flat_map}
use Rattle.std.specs.Io.KnownBytes.{Appends}
use Rattle.r10_medium.specs.Disk.{Image}
use Rattle.r10_body.specs.declared.entry.Entry.{Entry}
use Rattle.r10_images.specs.Faults.{IsLineFault}
use Rattle.r10_images.specs.Listing.{refusal_line}
use Rattle.r10_images.specs.declared.listing.Outcome.{Outcome}
use Rattle.r10_images.specs.declared.listing.Outcome.TheVariants.{Done, Refused}
use Rattle.r10_text.specs.Line.{entry_line}
use Rattle.r10_playback.specs.Played.{IsInstalment, IsPlayRefusal}
use Rattle.r10_playback.specs.declared.play.PlayStop.{PlayStop}
use Rattle.r10_playback.specs.declared.play.PlayStop.TheVariants as play_stops
use Rattle.r10_playback.specs.declared.selection.Selection.{Selection}
use Rattle.r10_playback.specs.declared.selection.PlayRefusal.{PlayRefusal}
use Rattle.r10_playback.specs.declared.selection.PlayRefusal.TheVariants as play_refusals

-- a line for each entry
abbrev pub entry_lines : List Entry → List ℕ
entry_lines entries = flat_map entry_line entries

-- a refusal's number, name and block; a file that isn't strict has words of its own
abbrev pub play_refusal_text : PlayRefusal → List ℕ
play_refusal_text play_refusals.CountRange = codes "refused 10 CountRange\n"
play_refusal_text (play_refusals.BadDirectory n) = refusal_line n
play_refusal_text play_refusals.NoSuchFile = codes "refused 19 NoSuchFile\n"
play_refusal_text play_refusals.NotStrict = codes "not strict\n"

-- the lines of the entries that are asked for, or why they are refused
abbrev pub Prints : Selection → Image → Outcome → List ℕ → Type 0
Prints s image Done text = (entries : List Entry) × IsInstalment image s entries × (text ≡ entry_lines entries)
Prints s image Refused text = (refusal : PlayRefusal) × IsPlayRefusal image s refusal × (text ≡ play_refusal_text refusal)

-- a replay that was not printed: the medium failed, memory was refused, or the writer failed
abbrev pub IsStopFault : PlayStop → Type 0
IsStopFault play_stops.Medium = Unit {0}
IsStopFault (play_stops.Output fault) = IsLineFault fault

-- a writer was given them
abbrev pub Plays : Selection → Image → Outcome → Option (List ℕ) → Option (List ℕ) → Type 0
Plays s image outcome old new = (text : List ℕ) × Prints s image outcome text × Appends old new text
