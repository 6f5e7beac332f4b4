-- What is done where the words ask for a formatted image, for a text, or for entries.
use Rattle.std.proofs.Common.{◌≡◌, ℕ, List, Option, codes, Result, Ok, IfOk, IfSome, String, Global, inl, inr, refl, subst}
use Rattle.std.specs.Io.KnownBytes.{Appends}
use Rattle.r10_arguments.specs.Words.{AsksSim, AsksImage, AsksFiles, AsksCheck, AsksCommand, AsksText, AsksOther, GivesAll, GivesSelection}
use Rattle.r10_arguments.specs.declared.asked.Asked.{Asked}
use Rattle.r10_arguments.specs.declared.asked.Asked.TheVariants as asked
use Rattle.r10_arguments.specs.declared.asked.FormatWords.{FormatWords}
use Rattle.r10_arguments.specs.declared.asked.PlayWords.{PlayWords}
use Rattle.r10_arguments.specs.declared.asked.WordsFault.{WordsFault}
use Rattle.r10_images.specs.Image.{image_blocks}
use Rattle.r10_images.specs.declared.listing.Outcome.{Outcome}
use Rattle.r10_images.specs.declared.listing.Outcome.TheVariants.{Done}
use Rattle.r10_playback.specs.Lines.{Plays}
use Rattle.r10_command.specs.Command.{DoesCommand, selected}
use Rattle.r10_command.specs.Written.{WritesFormatted}

not_sim : (r : Result Asked WordsFault) (f : FormatWords) → r ≡ Ok asked.Sim → r ≡ Ok (asked.Format f) → ⊥
not_sim r f a b = cc

not_image : (r : Result Asked WordsFault) (f : FormatWords) → r ≡ Ok asked.Image → r ≡ Ok (asked.Format f) → ⊥
not_image r f a b = cc

not_files : (r : Result Asked WordsFault) (f : FormatWords) → r ≡ Ok asked.Files → r ≡ Ok (asked.Format f) → ⊥
not_files r f a b = cc

not_check : (r : Result Asked WordsFault) (f : FormatWords) → r ≡ Ok asked.Check → r ≡ Ok (asked.Format f) → ⊥
not_check r f a b = cc

pub formats : (words : List (List ℕ)) (input old new : Option (List ℕ)) (r : Result Asked WordsFault) (f : FormatWords) → r ≡ Ok (asked.Format f)
    → (AsksSim words → r ≡ Ok asked.Sim) → (AsksImage words → r ≡ Ok asked.Image) → (AsksFiles words → r ≡ Ok asked.Files) → (AsksCheck words → r ≡ Ok asked.Check)
    → ((AsksSim words → ⊥) → (AsksImage words → ⊥) → (AsksFiles words → ⊥) → (AsksCheck words → ⊥) → IfOk r (AsksOther words))
    → WritesFormatted f old new → DoesCommand words input old new Done
formats words input old new r f is sim image files check other written = record {
  sim = λ asks. absurd (not_sim r f (sim asks) is);
  image = λ asks. absurd (not_image r f (image asks) is);
  files = λ asks. absurd (not_files r f (files asks) is);
  check = λ asks. absurd (not_check r f (check asks) is);
  other = λ no_sim no_image no_files no_check.
      let gives : AsksCommand (codes "format") words × GivesAll words f = subst (λ (s : Result Asked WordsFault). IfOk s (AsksOther words)) is (other no_sim no_image no_files no_check) in
      inr (refl, inl (f, gives, written));
}

not_sim_text : (r : Result Asked WordsFault) (text : String Global) → r ≡ Ok asked.Sim → r ≡ Ok (asked.Text text) → ⊥
not_sim_text r text a b = cc

not_image_text : (r : Result Asked WordsFault) (text : String Global) → r ≡ Ok asked.Image → r ≡ Ok (asked.Text text) → ⊥
not_image_text r text a b = cc

not_files_text : (r : Result Asked WordsFault) (text : String Global) → r ≡ Ok asked.Files → r ≡ Ok (asked.Text text) → ⊥
not_files_text r text a b = cc

not_check_text : (r : Result Asked WordsFault) (text : String Global) → r ≡ Ok asked.Check → r ≡ Ok (asked.Text text) → ⊥
not_check_text r text a b = cc

-- a text is written, where the words ask for one
pub texts : (words : List (List ℕ)) (input old new : Option (List ℕ)) (r : Result Asked WordsFault) (text : String Global) (said : List ℕ) → r ≡ Ok (asked.Text text)
    → (AsksSim words → r ≡ Ok asked.Sim) → (AsksImage words → r ≡ Ok asked.Image) → (AsksFiles words → r ≡ Ok asked.Files) → (AsksCheck words → r ≡ Ok asked.Check)
    → ((AsksSim words → ⊥) → (AsksImage words → ⊥) → (AsksFiles words → ⊥) → (AsksCheck words → ⊥) → IfOk r (AsksOther words))
    → Appends old new said → DoesCommand words input old new Done
texts words input old new r text said is sim image files check other written = record {
  sim = λ asks. absurd (not_sim_text r text (sim asks) is);
  image = λ asks. absurd (not_image_text r text (image asks) is);
  files = λ asks. absurd (not_files_text r text (files asks) is);
  check = λ asks. absurd (not_check_text r text (check asks) is);
  other = λ no_sim no_image no_files no_check.
      let asks : AsksText words = subst (λ (s : Result Asked WordsFault). IfOk s (AsksOther words)) is (other no_sim no_image no_files no_check) in
      inr (refl, inr (asks, (said, written)));
}

not_sim_play : (r : Result Asked WordsFault) (play : PlayWords) → r ≡ Ok asked.Sim → r ≡ Ok (asked.Play play) → ⊥
not_sim_play r play a b = cc

not_image_play : (r : Result Asked WordsFault) (play : PlayWords) → r ≡ Ok asked.Image → r ≡ Ok (asked.Play play) → ⊥
not_image_play r play a b = cc

not_files_play : (r : Result Asked WordsFault) (play : PlayWords) → r ≡ Ok asked.Files → r ≡ Ok (asked.Play play) → ⊥
not_files_play r play a b = cc

not_check_play : (r : Result Asked WordsFault) (play : PlayWords) → r ≡ Ok asked.Check → r ≡ Ok (asked.Play play) → ⊥
not_check_play r play a b = cc

-- entries are written, where the words ask for them
pub plays : (words : List (List ℕ)) (input old new : Option (List ℕ)) (outcome : Outcome) (r : Result Asked WordsFault) (play : PlayWords) → r ≡ Ok (asked.Play play)
    → (AsksSim words → r ≡ Ok asked.Sim) → (AsksImage words → r ≡ Ok asked.Image) → (AsksFiles words → r ≡ Ok asked.Files) → (AsksCheck words → r ≡ Ok asked.Check)
    → ((AsksSim words → ⊥) → (AsksImage words → ⊥) → (AsksFiles words → ⊥) → (AsksCheck words → ⊥) → IfOk r (AsksOther words))
    → IfSome input (λ bytes. Plays (selected play) (image_blocks bytes) outcome old new) → DoesCommand words input old new outcome
plays words input old new outcome r play is sim image files check other played = record {
  sim = λ asks. absurd (not_sim_play r play (sim asks) is);
  image = λ asks. absurd (not_image_play r play (image asks) is);
  files = λ asks. absurd (not_files_play r play (files asks) is);
  check = λ asks. absurd (not_check_play r play (check asks) is);
  other = λ no_sim no_image no_files no_check.
      let asks : AsksCommand (codes "play") words × GivesSelection words play = subst (λ (s : Result Asked WordsFault). IfOk s (AsksOther words)) is (other no_sim no_image no_files no_check) in
      inl (play, asks, played);
}
