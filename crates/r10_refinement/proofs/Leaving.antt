-- Runs, and what a power loss at any moment of them leaves.
use Rattle.std.proofs.Common.{◌≡◌, ⊎_elim, inl, inr, ℕ, zero, suc, List, [], ◌∷◌, ◌++◌, length, take, refl, sym, ap, ◌∙◌, arith, slice_get, IsSomeAnd}
use Rattle.std.proofs.lemmas.List.{length-append, take-append-le, take_all}
use Rattle.r10_machine.specs.Config.{Config}
use Rattle.r10_machine.specs.Machine.{Machine}
use Rattle.r10_medium.specs.Disk.{Disk, Image, Unchanged}
use Rattle.r10_medium.specs.PowerLoss.{Leaves, Settled}
use Rattle.r10_medium.proofs.PowerLoss.{joined, settled_now, started, stayed, weakened}
use Rattle.r10_machine.specs.Says.{MediumSays}
use Rattle.r10_machine.specs.Step.{Run}
use Rattle.r10_machine.specs.declared.event.Event.{Event as EventValue}
use Rattle.r10_machine.specs.declared.reply.Reply.{Reply as ReplyValue}
use Rattle.r10_refinement.specs.PowerLossInCalls.{IsEither, IsLeft, Makes}

-- ---- lists

get_more : {A : Type 0} (xs : List A) (x : A) (P : A → Type 0) (n : ℕ) → IsSomeAnd (slice_get xs n) P → IsSomeAnd (slice_get (xs ++ x ∷ []) n) P
get_more [] x P n is = absurd is
get_more (y ∷ xs) x P zero is = is
get_more (y ∷ xs) x P (suc n) is = get_more xs x P n is

get_end : {A : Type 0} (xs : List A) (x : A) (P : A → Type 0) → P x → IsSomeAnd (slice_get (xs ++ x ∷ []) (length xs)) P
get_end [] x P is = is
get_end (y ∷ xs) x P is = get_end xs x P is

run_long : (s : Config) (old new : Machine) (es : List EventValue) (rs : List ReplyValue) (images : List Image) → Run s old es rs images new → length rs ≡ length es
run_long s old new [] [] [] run = refl
run_long s old new (e ∷ es) (r ∷ rs) (i ∷ images) (mid, step, says, rest) = omega (arith, run_long s mid new es rs images rest)
run_long s old new es rs images run = absurd run

-- ---- one event more

left_more : (s : Config) (m : Machine) (es : List EventValue) (rs : List ReplyValue) (event : EventValue) (reply : ReplyValue) (image : Image) → IsLeft s m es rs image → IsLeft s m (es ++ event ∷ []) (rs ++ reply ∷ []) image
left_more s m es rs event reply image left = record {
  done = left.done;
  reported = omega (arith, left.reported, length-append es (event ∷ []));
  answered = omega (arith, left.answered, length-append rs (reply ∷ []));
  images = left.images;
  at = left.at;
  run = rw (take-append-le left.done es (event ∷ []) left.reported, take-append-le left.done rs (reply ∷ []) left.answered) left.run;
  says = ⊎_elim (λ says. inl says) (λ next. inr (get_more es event (λ e. Makes s left.at e image) left.done next)) left.says;
}

left_next : (s : Config) (m mid : Machine) (es : List EventValue) (rs : List ReplyValue) (images : List Image) (event : EventValue) (reply : ReplyValue) (image : Image) → Run s m es rs images mid → IsEither s mid event image
    → IsLeft s m (es ++ event ∷ []) (rs ++ reply ∷ []) image
left_next s m mid es rs images event reply image run either =
    let long : length rs ≡ length es = run_long s m mid es rs images run in
    let front : take (length es) (es ++ event ∷ []) ≡ es = take-append-le (length es) es (event ∷ []) (omega arith) ∙ take_all (length es) es (omega arith) in
    let replied : take (length es) (rs ++ reply ∷ []) ≡ rs = take-append-le (length es) rs (reply ∷ []) (omega (arith, long)) ∙ ap (λ n. take n rs) (sym long) ∙ take_all (length rs) rs (omega arith) in
    record {
      done = length es;
      reported = omega (arith, length-append es (event ∷ []));
      answered = omega (arith, long, length-append rs (reply ∷ []));
      images = images;
      at = mid;
      run = rw (front, replied) run;
      says = ⊎_elim (λ says. inl says) (λ made. inr (get_end es event (λ e. Makes s mid e image) made)) either;
    }

-- ---- runs

pub leaves_begun : (s : Config) (m : Machine) (disk : Disk) → Settled (λ image. MediumSays s image m.files) disk → Leaves (IsLeft s m [] []) disk disk
leaves_begun s m disk settled = started (IsLeft s m [] []) disk (λ image may. record {
  done = 0;
  reported = omega arith;
  answered = omega arith;
  images = [];
  at = m;
  run = refl;
  says = inl (settled image may);
})

pub leaves_more : (s : Config) (m mid : Machine) (es : List EventValue) (rs : List ReplyValue) (images : List Image) (event : EventValue) (reply : ReplyValue) (old before now : Disk)
    → Run s m es rs images mid → Leaves (IsLeft s m es rs) old before → Leaves (IsEither s mid event) before now → Leaves (IsLeft s m (es ++ event ∷ []) (rs ++ reply ∷ [])) old now
leaves_more s m mid es rs images event reply old before now run first next =
    joined (IsLeft s m (es ++ event ∷ []) (rs ++ reply ∷ [])) old before now
    (weakened (IsLeft s m es rs) (IsLeft s m (es ++ event ∷ []) (rs ++ reply ∷ [])) old before (left_more s m es rs event reply) first)
    (weakened (IsEither s mid event) (IsLeft s m (es ++ event ∷ []) (rs ++ reply ∷ [])) before now (λ image either. left_next s m mid es rs images event reply image run either) next)

pub leaves_still : (s : Config) (m : Machine) (es : List EventValue) (rs : List ReplyValue) (event : EventValue) (reply : ReplyValue) (old before now : Disk)
    → Leaves (IsLeft s m es rs) old before → Unchanged before now → Leaves (IsLeft s m (es ++ event ∷ []) (rs ++ reply ∷ [])) old now
leaves_still s m es rs event reply old before now first same =
    let more = weakened (IsLeft s m es rs) (IsLeft s m (es ++ event ∷ []) (rs ++ reply ∷ [])) old before (left_more s m es rs event reply) first in
    joined (IsLeft s m (es ++ event ∷ []) (rs ++ reply ∷ [])) old before now more
    (stayed (IsLeft s m (es ++ event ∷ []) (rs ++ reply ∷ [])) before now same (settled_now (IsLeft s m (es ++ event ∷ []) (rs ++ reply ∷ [])) old before more))
