-- What was written stays written, and what was read is all.
use Rattle.std.proofs.Common.{◌≡◌, ℕ, List, [], ◌++◌, take, Option, Some, None, IfSome, sym, ap, ◌∙◌}
use Rattle.std.specs.Io.KnownBytes.{Appends, Consumes, IsAtEnd, Keeps}
use Rattle.std.proofs.KnownBytes.{Consumes-all, Consumes-trans}
use Rattle.std.proofs.lemmas.List.{append-nil}
use Rattle.r10_images.specs.declared.listing.Outcome.{Outcome}
use Rattle.r10_checker.specs.Verdict.{IsVerdict}
use Rattle.r10_checker.specs.declared.check.Verdict.{Verdict}
use Rattle.r10_playback.specs.Checked.{Checks, PrintsVerdict}

appends_kept : (old now new : Option (List ℕ)) (text : List ℕ) → Appends old now text → Keeps now new → Appends old new text
appends_kept None now new text first second = tt
appends_kept (Some a) None new text first second = absurd first
appends_kept (Some a) (Some b) None text first second = absurd second
appends_kept (Some a) (Some b) (Some c) text first second = second ∙ first

pub checked_kept : (bytes : List ℕ) (verdict : Verdict) (outcome : Outcome) (old now new : Option (List ℕ)) → IsVerdict bytes verdict → PrintsVerdict verdict outcome old now → Keeps now new
    → Checks bytes outcome old new
checked_kept bytes verdict outcome old now new is prints kept = (verdict, is, prints.0, appends_kept old now new _ prints.1 kept)

-- a reader that gave nothing at its end has given all
pub whole_of : (old now new : Option (List ℕ)) (fed buffer : List ℕ) (n : ℕ) → n ≡ 0 → Consumes old now fed → Consumes now new (take n buffer) → IsAtEnd new → IfSome old (λ xs. fed ≡ xs)
whole_of old now new fed buffer n none given read end =
    Consumes-all old new (fed ++ take n buffer) [] fed (Consumes-trans old now new fed (take n buffer) given read) end
    (sym (ap (λ (m : ℕ). fed ++ take m buffer) none ∙ append-nil fed))
