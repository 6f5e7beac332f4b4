-- Transcripts one after the other.
use Rattle.std.proofs.Common.{◌≡◌, ◌≤◌, ◌<◌, ◌+◌, ℕ, List, [], ◌∷◌, ◌++◌, length, take, drop, get_or, sym, ap, ◌∙◌, subst}
use Rattle.std.specs.List.{AllByRecursion}
use Rattle.std.proofs.lemmas.List.{append-nil, drop_more, take-append-drop, take_all, take_more}
use Rattle.r10_count.proofs.Lists.{all_more}
use Rattle.r10_body.specs.declared.refusal.Refusal.{Refusal}
use Rattle.r10_refinement.specs.KeptState.{Work}
use Rattle.r10_medium.specs.Disk.{Image}
use Rattle.r10_held.specs.Auditing.{AreAbsentOrRead, IsAbsentOrRead, IsAuditRefusal, IsFirstRefused}
use Rattle.r10_held.specs.Transcripts.{Agrees, AllAgree}
use Rattle.r10_held.specs.declared.transcript.Transcript.{Transcript}

split_at : {X : Type 0} (xs : List X) (i : ℕ) (d : X) → i < length xs → xs ≡ take i xs ++ get_or xs i d ∷ drop (i + 1) xs
split_at xs i d lt = sym (take-append-drop i xs) ∙ ap (λ (l : List _). take i xs ++ l) (drop_more xs i d lt)

-- one transcript more agrees
pub agree_further : (work : Work) (image : Image) (ts : List Transcript) (i : ℕ) (t : Transcript) → i < length ts → t ≡ get_or ts i t → AllAgree work image (take i ts) → Agrees work image t → AllAgree work image (take (i + 1) ts)
agree_further work image ts i t lt is all agrees =
    subst (AllAgree work image) (sym (take_more ts i t lt)) (all_more (Agrees work image) (take i ts) (get_or ts i t) all (subst (Agrees work image) is agrees))

-- the first that is refused
pub first_refused : (work : Work) (image : Image) (ts : List Transcript) (i : ℕ) (t : Transcript) (r : Refusal) → i < length ts → t ≡ get_or ts i t → AllAgree work image (take i ts) → IsAuditRefusal work image t.file r
    → IsFirstRefused work image ts r
first_refused work image ts i t r lt is all refused = record {
  front = take i ts;
  transcript = t;
  rest = drop (i + 1) ts;
  split = split_at ts i t lt ∙ ap (λ (x : Transcript). take i ts ++ x ∷ drop (i + 1) ts) (sym is);
  agree = all;
  refused = refused;
}

-- ---- files that aren't there, or are read

-- so it is of the file of each transcript
abbrev pub AllAbsentOrRead : Work → Image → List Transcript → Type 0
AllAbsentOrRead work image transcripts = AllByRecursion (λ (t : Transcript). IsAbsentOrRead work image t.file) transcripts

in_front : (work : Work) (image : Image) (front rest : List Transcript) → AllAbsentOrRead work image front → AreAbsentOrRead work image rest → AreAbsentOrRead work image (front ++ rest)
in_front work image [] rest all is = is
in_front work image (t ∷ front) rest all is = (all.0, λ agrees. in_front work image front rest all.1 is)

-- one transcript's file more
pub asked_further : (work : Work) (image : Image) (ts : List Transcript) (i : ℕ) (t : Transcript) → i < length ts → t ≡ get_or ts i t → AllAbsentOrRead work image (take i ts) → IsAbsentOrRead work image t.file → AllAbsentOrRead work image (take (i + 1) ts)
asked_further work image ts i t lt is all there =
    subst (AllAbsentOrRead work image) (sym (take_more ts i t lt))
    (all_more (λ (x : Transcript). IsAbsentOrRead work image x.file) (take i ts) (get_or ts i t) all (subst (λ (x : Transcript). IsAbsentOrRead work image x.file) is there))

-- up to one that doesn't agree
pub asked_until : (work : Work) (image : Image) (ts : List Transcript) (i : ℕ) (t : Transcript) → i < length ts → t ≡ get_or ts i t → AllAbsentOrRead work image (take i ts) → IsAbsentOrRead work image t.file → (Agrees work image t → ⊥) → AreAbsentOrRead work image ts
asked_until work image ts i t lt is all there other =
    subst (AreAbsentOrRead work image) (sym (split_at ts i t lt))
    (in_front work image (take i ts) (get_or ts i t ∷ drop (i + 1) ts) all
    (subst (λ (x : Transcript). IsAbsentOrRead work image x.file) is there, λ agrees. absurd (other (subst (Agrees work image) (sym is) agrees))))

-- to the last
pub asked_all : (work : Work) (image : Image) (ts : List Transcript) (i : ℕ) → length ts ≤ i → AllAbsentOrRead work image (take i ts) → AreAbsentOrRead work image ts
asked_all work image ts i long all =
    subst (AreAbsentOrRead work image) (append-nil ts) (in_front work image ts [] (subst (AllAbsentOrRead work image) (take_all i ts long) all) tt)
