-- Where a refusal says that a file isn't there.
use Rattle.std.proofs.Common.{◌≡◌, ◌≤◌, ◌⊎◌, ◌++◌, ℕ, Bool, true, false, Option, None, Some, List, ◌∷◌, [], length, refl, sym, ap, ◌∙◌, subst, inl, inr, ⊎_elim, arith}
use Rattle.std.specs.Prelude.{nat_lt}
use Rattle.std.proofs.lemmas.Bool.{ltb-false}
use Rattle.r10_body.specs.declared.refusal.Refusal.{Refusal}
use Rattle.r10_body.specs.declared.refusal.Refusal.TheVariants as refusals
use Rattle.r10_control.specs.Checks.{files_of, recorder_refusal}
use Rattle.r10_control.specs.Reading.{IsReadFileRefusal}
use Rattle.r10_control.specs.Refused.{RefusesCall}
use Rattle.r10_count.specs.Checks.{first_broken}
use Rattle.r10_dirchain.specs.Chain.{listed_files}
use Rattle.r10_machine.specs.Checks.{cursor_checks, mounted_checks}
use Rattle.r10_machine.specs.declared.event.Event.TheVariants as events
use Rattle.r10_refinement.specs.KeptState.{Kept, Work, mode_of, unmounted, idle, recording, failed}
use Rattle.r10_medium.specs.Disk.{Disk}
use Rattle.r10_held.specs.Auditing.{is_absence}

absence_is : (r : Refusal) → is_absence r ≡ true → (r ≡ refusals.NotMounted) ⊎ (r ≡ refusals.NoSuchFile)
absence_is refusals.Failed reported = absurd (cc)
absence_is refusals.NotMounted reported = inl refl
absence_is refusals.AlreadyMounted reported = absurd (cc)
absence_is refusals.Busy reported = absurd (cc)
absence_is refusals.NotRecording reported = absurd (cc)
absence_is refusals.NoSuchChannel reported = absurd (cc)
absence_is refusals.WrongKind reported = absurd (cc)
absence_is refusals.BadMessage reported = absurd (cc)
absence_is refusals.TooLong reported = absurd (cc)
absence_is refusals.CountRange reported = absurd (cc)
absence_is refusals.CountBack reported = absurd (cc)
absence_is refusals.Overflow reported = absurd (cc)
absence_is refusals.BadCivil reported = absurd (cc)
absence_is refusals.NoTime reported = absurd (cc)
absence_is refusals.BadName reported = absurd (cc)
absence_is refusals.NameTaken reported = absurd (cc)
absence_is refusals.BadEvent reported = absurd (cc)
absence_is refusals.Unsealed reported = absurd (cc)
absence_is refusals.NoSuchFile reported = inr refl
absence_is refusals.Stale reported = absurd (cc)
absence_is refusals.NoCursor reported = absurd (cc)
absence_is refusals.Unread reported = absurd (cc)
absence_is refusals.DirectoryFull reported = absurd (cc)
absence_is refusals.MediumFull reported = absurd (cc)
absence_is (refusals.BadDirectory n) reported = absurd (cc)
absence_is (refusals.BadFile at fault) reported = absurd (cc)
absence_is refusals.Medium reported = absurd (cc)
absence_is (refusals.Behind seen) reported = absurd (cc)
absence_is refusals.OutOfMemory reported = absurd (cc)

out_of_range : (r : Refusal) → Some refusals.CountRange ≡ Some r → is_absence r ≡ true → ⊥
out_of_range r is reported =
    let at : refusals.CountRange ≡ r = cc (is) in
    let no : is_absence refusals.CountRange ≡ true = subst (λ (x : Refusal). is_absence x ≡ true) (sym at) reported in
    absurd (cc (no))

-- of the checks of a range and of a file's number, the last is broken
last_check : (a b c : Bool) (r : Refusal) → first_broken ((a, refusals.CountRange) ∷ (b, refusals.CountRange) ∷ (c, refusals.NoSuchFile) ∷ []) ≡ Some r → is_absence r ≡ true → c ≡ false
last_check true true true r is reported = absurd (cc (is))
last_check true true false r is reported = refl
last_check true false c r is reported = absurd (out_of_range r is reported)
last_check false b c r is reported = absurd (out_of_range r is reported)

absent_checks : (work : Work) (file from to : ℕ) (r : Refusal) → first_broken (mounted_checks (mode_of work) ++ cursor_checks (length (files_of work)) file from to) ≡ Some r → is_absence r ≡ true → length (files_of work) ≤ file
absent_checks unmounted file from to r is reported = omega arith
absent_checks (idle chain) file from to r is reported =
    ltb-false file (length (listed_files chain)) (last_check (nat_lt from 281474976710656) (nat_lt to 281474976710656) (nat_lt file (length (listed_files chain))) r is reported)
absent_checks (recording chain o) file from to r is reported =
    ltb-false file (length (listed_files chain)) (last_check (nat_lt from 281474976710656) (nat_lt to 281474976710656) (nat_lt file (length (listed_files chain))) r is reported)
absent_checks failed file from to r is reported = omega arith

-- no file has its number
pub absent_so : {M : Type 0} (disk : M → Disk) (k later : Kept) (a b : M) (file : ℕ) (channels : List ℕ) (from to : ℕ) (r : Refusal) → is_absence r ≡ true
    → RefusesCall disk (recorder_refusal k (events.Cursor file channels from to)) (IsReadFileRefusal k.work (disk a).blocks file) k later a b r → length (files_of k.work) ≤ file
absent_so {M} disk k later a b file channels from to r reported is = by (recorder_refusal k (events.Cursor file channels from to)) refl is
  where
    by : (o : Option Refusal) → recorder_refusal k (events.Cursor file channels from to) ≡ o → RefusesCall disk o (IsReadFileRefusal k.work (disk a).blocks file) k later a b r → length (files_of k.work) ≤ file
    by (Some first) checks here = absent_checks k.work file from to r (checks ∙ ap (λ (x : Refusal). Some x) (sym here.0)) reported
    by None checks here = ⊎_elim (λ reported. other reported) (λ reported. number reported) (absence_is r reported)
      where
        moved : (x : Refusal) → r ≡ x → RefusesCall disk None (IsReadFileRefusal k.work (disk a).blocks file) k later a b x
        moved x at = subst (λ (y : Refusal). RefusesCall disk None (IsReadFileRefusal k.work (disk a).blocks file) k later a b y) at here

        other : r ≡ refusals.NotMounted → length (files_of k.work) ≤ file
        other at = absurd (moved refusals.NotMounted at).0

        number : r ≡ refusals.NoSuchFile → length (files_of k.work) ≤ file
        number at = (moved refusals.NoSuchFile at).0
