-- Lists of samples, one sample longer.
use Rattle.std.proofs.Common.{◌≡◌, ℕ, ◌<◌, ◌≤◌, true, List, [], ◌∷◌, ◌++◌, length, drop, refl, sym, ap, ◌∙◌, arith, append_assoc}
use Rattle.std.proofs.lemmas.List.{append-nil}
use Rattle.std.specs.List.{AllByRecursion}
use Rattle.r10_count.proofs.Lists.{all_more}
use Rattle.r10_body.specs.declared.entry.Sample.{Sample}
use Rattle.r10_body.specs.declared.message.Kind.{Kind}
use Rattle.r10_builder.specs.Packing.{first_count, is_near, last_sample_count}
use Rattle.r10_builder.specs.Held.{NearFrom, RiseFrom}
use Rattle.r10_builder.specs.Spelled.{all_bytes, sample_bytes}

pub first_more : (samples : List Sample) (s : Sample) → 0 < length samples → first_count (samples ++ s ∷ []) ≡ first_count samples
first_more [] s lt = absurd (omega arith)
first_more (f ∷ samples) s lt = refl

pub last_more : (before : ℕ) (samples : List Sample) (s : Sample) → last_sample_count before (samples ++ s ∷ []) ≡ s.count
last_more before [] s = refl
last_more before (f ∷ samples) s = last_more f.count samples s

-- of samples there are, the last doesn't depend on what is before
pub last_any : (a b : ℕ) (samples : List Sample) → 0 < length samples → last_sample_count a samples ≡ last_sample_count b samples
last_any a b [] lt = absurd (omega arith)
last_any a b (f ∷ samples) lt = refl

pub rise_more : (before : ℕ) (samples : List Sample) (s : Sample) → RiseFrom before samples → last_sample_count before samples ≤ s.count → RiseFrom before (samples ++ s ∷ [])
rise_more before [] s rise le = (le, tt)
rise_more before (f ∷ samples) s rise le = (rise.0, rise_more f.count samples s rise.1 le)

pub near_more : (kind : Kind) (before : ℕ) (samples : List Sample) (s : Sample) → NearFrom kind before samples → is_near kind (last_sample_count before samples) s.count ≡ true → NearFrom kind before (samples ++ s ∷ [])
near_more kind before [] s near is = (is, tt)
near_more kind before (f ∷ samples) s near is = (near.0, near_more kind f.count samples s near.1 is)

pub bytes_more : (before : ℕ) (samples : List Sample) (s : Sample) → all_bytes before (samples ++ s ∷ []) ≡ all_bytes before samples ++ sample_bytes (last_sample_count before samples) s
bytes_more before [] s = append-nil (sample_bytes before s)
bytes_more before (f ∷ samples) s =
    ap (λ t. sample_bytes before f ++ t) (bytes_more f.count samples s)
    ∙ sym (append_assoc (sample_bytes before f) (all_bytes f.count samples) (sample_bytes (last_sample_count f.count samples) s))

pub plain_more : {A : Type 0} (P : A → Type 0) (xs : List A) (x : A) → 0 < length xs → AllByRecursion P (drop 1 xs) → P x → AllByRecursion P (drop 1 (xs ++ x ∷ []))
plain_more P [] x lt all here = absurd (omega arith)
plain_more P (y ∷ ys) x lt all here = all_more P ys x all here
