-- What offers and turns come to, one after the other.
use Rattle.std.proofs.Common.{◌≡◌, ℕ, ◌+◌, ◌-◌, ◌≤◌, Bool, true, false, cond, List, [], ◌∷◌, ◌++◌, map, is_ok, is_err, Option, Some, None, Result, Ok, Err, MatchOption, MatchResult, refl, sym, ap, subst, ◌∙◌, append_assoc, length-append, arith}
use Rattle.std.specs.List.{AllByRecursion}
use Rattle.std.proofs.lemmas.List.{append-nil, map-append}
use Rattle.std.proofs.lemmas.List.Sums.{sum_by-append, sum_by-cons}
use mir.Val.{bool_byte}
use Rattle.r10_count.specs.Checks.{first_broken}
use Rattle.r10_body.specs.declared.entry.Timed.{Timed}
use Rattle.r10_body.specs.declared.refusal.Refusal.{Refusal}
use Rattle.r10_body.specs.declared.refusal.Refusal.TheVariants.{Overflow}
use Rattle.r10_machine.specs.Checks.{offer_checks}
use Rattle.r10_machine.specs.Calls.{accepted, overflowed}
use Rattle.r10_machine.specs.Machine.{saturated}
use Rattle.r10_port.specs.Ends.{Sending, Offered, sent, with_losses}
use Rattle.r10_port.proofs.Offers.{offered_same}
use Rattle.r10_source.specs.declared.pump.Pumped.{Pumped}
use Rattle.r10_source.specs.declared.source.SourceItem.{SourceItem}
use Rattle.r10_source.specs.declared.source.SourceItem.TheVariants as brings
use Rattle.r10_source.specs.Pumps.{Tried, tries, counts, turn_of, OffersAll, PumpsSource, is_accepted, is_refused, is_overflow, missed_after, accepted_with, accepted_of}
use Rattle.std.proofs.lemmas.Option.{same_Some}

-- ---- one offer

abbrev pub missed_at : Sending → ℕ
missed_at port = port.lane.missed

none_of : (checks : List (Bool × Refusal)) (r : Refusal) → AllByRecursion (λ c. is_overflow c.1 ≡ false) checks → first_broken checks ≡ Some r → is_overflow r ≡ false
none_of [] r all is = absurd (cc)
none_of ((true, f) ∷ checks) r (here, all) is = none_of checks r all is
none_of ((false, f) ∷ checks) r (here, all) is = subst (λ (r : Refusal). is_overflow r ≡ false) (same_Some _ _ is) here

-- one more where the answer is such a refusal
abbrev more_if : ℕ → Bool → ℕ
more_if missed b = cond b (saturated (missed + 1)) missed

-- what one offer sends, and how many were lost then
abbrev pub Became : Sending → Timed → Result (Unit {0}) Refusal → Sending → Type 0
Became old item answer new = (sent new ≡ sent old ++ accepted_with (missed_at old) item answer) × (missed_at new ≡ missed_after (missed_at old) answer)

pub became : (old : Sending) (item : Timed) (answer : Result (Unit {0}) Refusal) (new : Sending) → Offered old item.count item.message answer new → Became old item answer new
became old item answer new offered = by (first_broken (offer_checks (Some old.lane) item.count item.message)) refl answer offered
  where
    stays : (r : Refusal) → is_overflow r ≡ false → new ≡ old → Became old item (Err r) new
    stays r other same = (ap sent same ∙ sym (append-nil (sent old)), ap missed_at same ∙ sym (ap (more_if (missed_at old)) other))

    by : (first : Option Refusal) → first_broken (offer_checks (Some old.lane) item.count item.message) ≡ first → (answer : Result (Unit {0}) Refusal)
        → MatchOption first
        (MatchResult answer
        (λ _. (new ≡ record old { lane = accepted item.count item.message old.lane; free = new.free }) × (old.free ≤ new.free + 1))
        (λ r. (r ≡ Overflow) × (old.free ≡ 0) × (new ≡ record old { lane = overflowed old.lane })))
        (λ r. (answer ≡ Err r) × (new ≡ old))
        → Became old item answer new
    by (Some r) is answer (refused, same) =
        subst (λ (a : Result (Unit {0}) Refusal). Became old item a new) (sym refused) (stays r (none_of (offer_checks (Some old.lane) item.count item.message) r (refl, (refl, (refl, (refl, (refl, tt))))) is) same)
    by None is (Ok x) (same, room) = (ap sent same, ap missed_at same)
    by None is (Err r) (overflow, full, same) = (
      ap sent same ∙ sym (append-nil (sent old)),
      ap missed_at same ∙ sym (ap (more_if (missed_at old)) (ap is_overflow overflow)),
    )

-- ---- offers

pub offers_join : (a b c : Sending) (xs ys : List Tried) → OffersAll a xs b → OffersAll b ys c → OffersAll a (xs ++ ys) c
offers_join a b c [] ys first second = subst (λ (p : Sending). OffersAll p ys c) first second
offers_join a b c (tries item answer ∷ xs) ys (next, offered, rest) second = (next, offered, offers_join next b c xs ys rest second)
offers_join a b c (counts n ∷ xs) ys first second = offers_join (with_losses n a) b c xs ys first second

pub offers_sent : (old new : Sending) (tried : List Tried) → OffersAll old tried new → sent new ≡ sent old ++ accepted_of (missed_at old) tried
offers_sent old new [] same = ap sent same ∙ sym (append-nil (sent old))
offers_sent old new (tries item answer ∷ tried) (next, offered, rest) =
    let one = became old item answer next offered in
    let more : sent next ++ accepted_of (missed_at next) tried ≡ (sent old ++ accepted_with (missed_at old) item answer) ++ accepted_of (missed_after (missed_at old) answer) tried =
    λ i. one.0 i ++ accepted_of (one.1 i) tried in
    offers_sent next new tried rest ∙ more ∙ append_assoc (sent old) (accepted_with (missed_at old) item answer) (accepted_of (missed_after (missed_at old) answer) tried)
offers_sent old new (counts n ∷ tried) all = offers_sent (with_losses n old) new tried all

pub offers_same : (old new : Sending) (tried : List Tried) → OffersAll old tried new → (new.ring ≡ old.ring) × (new.lane.spec ≡ old.lane.spec)
offers_same old new [] is = (ap (λ (p : Sending). p.ring) is, ap (λ (p : Sending). p.lane.spec) is)
offers_same old new (tries item answer ∷ tried) (next, offered, rest) =
    let one = offered_same old item.count item.message answer next offered in
    let others = offers_same next new tried rest in
    (others.0 ∙ one.0, others.1 ∙ one.1)
offers_same old new (counts n ∷ tried) all = offers_same (with_losses n old) new tried all

-- ---- turns

abbrev turns_of : List Tried → List SourceItem
turns_of tried = map turn_of tried

-- turns, and then more
pub pumps_join : (n m : ℕ) (a b c : List SourceItem) (p q r : Sending) (x y : Pumped) → PumpsSource n a b p q x → PumpsSource m b c q r y
    → PumpsSource (n + m) a c p r (record { accepted = x.accepted + y.accepted; refused = x.refused + y.refused; ended = y.ended })
pumps_join n m a b c p q r x y first second =
    let tried = first.tried ++ second.tried in
    let offers = offers_join p q r first.tried second.tried first.offers second.offers in
    record {
      tried = tried;
      given = first.given ∙ ap (λ (l : List SourceItem). turns_of first.tried ++ l) second.given ∙ sym (append_assoc (turns_of first.tried) (turns_of second.tried) c)
          ∙ ap (λ (l : List SourceItem). l ++ c) (sym (map-append turn_of first.tried second.tried));
      offers = offers;
      same = offers_same p r tried offers;
      sent = offers_sent p r tried offers;
      accepted = omega (arith, first.accepted, second.accepted, sum_by-append (λ (t : Tried). cond (is_accepted t) 1 0) first.tried second.tried);
      refused = omega (arith, first.refused, second.refused, sum_by-append (λ (t : Tried). cond (is_refused t) 1 0) first.tried second.tried);
      turns = omega (arith, first.turns, second.turns, length-append first.tried second.tried);
      ended = second.ended;
    }

-- more turns may be made
pub pumps_most : (n m : ℕ) (a b : List SourceItem) (p q : Sending) (x : Pumped) → n ≤ m → PumpsSource n a b p q x → PumpsSource m a b p q x
pumps_most n m a b p q x less pumps = record {
  tried = pumps.tried;
  given = pumps.given;
  offers = pumps.offers;
  same = pumps.same;
  sent = pumps.sent;
  accepted = pumps.accepted;
  refused = pumps.refused;
  turns = omega (arith, less, pumps.turns);
  ended = pumps.ended;
}

pub one_if : (b : Bool) → bool_byte b ≡ cond b 1 0
one_if true = refl
one_if false = refl

-- a turn with one
pub pumps_one : (item : Timed) (answer : Result (Unit {0}) Refusal) (after : List SourceItem) (p q : Sending) (taken : ℕ) → Offered p item.count item.message answer q → taken ≡ cond (is_ok answer) 1 0
    → PumpsSource 1 (brings.Message item ∷ after) after p q (record { accepted = taken; refused = 1 - taken; ended = false })
pumps_one item answer after p q taken offered is =
    let t : Tried = tries item answer in
    let offers : OffersAll p (t ∷ []) q = (q, offered, refl) in
    record {
      tried = t ∷ [];
      given = refl;
      offers = offers;
      same = offers_same p q (t ∷ []) offers;
      sent = offers_sent p q (t ∷ []) offers;
      accepted = omega (arith, is, sum_by-cons (λ (t : Tried). cond (is_accepted t) 1 0) t []);
      refused = omega (arith, is, others answer, sum_by-cons (λ (t : Tried). cond (is_refused t) 1 0) t []);
      turns = omega arith;
      ended = λ e. absurd (cc);
    }
  where
    others : (a : Result (Unit {0}) Refusal) → 1 - cond (is_ok a) 1 0 ≡ cond (is_err a) 1 0
    others (Ok x) = refl
    others (Err r) = refl

-- a turn with a loss
pub pumps_loss : (lost : ℕ) (after : List SourceItem) (p q : Sending) → q ≡ with_losses lost p → PumpsSource 1 (brings.Lost lost ∷ after) after p q (record { accepted = 0; refused = 0; ended = false })
pumps_loss lost after p q is = record {
  tried = counts lost ∷ [];
  given = refl;
  offers = is;
  same = (ap (λ (s : Sending). s.ring) is, ap (λ (s : Sending). s.lane.spec) is);
  sent = ap sent is ∙ sym (append-nil (sent p));
  accepted = refl;
  refused = refl;
  turns = omega arith;
  ended = λ e. absurd (cc);
}
