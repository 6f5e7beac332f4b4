-- What one exchange more asks of the message after it.
use Rattle.std.proofs.Common.{◌≡◌, ℕ, ◌+◌, ◌-◌, ◌^◌, Bool, true, false, ◌||◌, cond, List, [], ◌∷◌, ◌++◌, refl, ap, ◌∙◌, arith}
use Rattle.std.specs.List.{list_any, sum_by}
use Rattle.std.proofs.lemmas.List.Folds.{list_any-append}
use Rattle.std.proofs.lemmas.List.Sums.{sum_by-append, sum_by-cons}
use Rattle.r10_body.specs.declared.refusal.Refusal.TheVariants.{Overflow}
use Rattle.r10_machine.specs.Machine.{saturated}
use Rattle.r10_machine.specs.declared.event.Event.{Event}
use Rattle.r10_machine.specs.declared.event.Event.TheVariants.{Offer, Lose}
use Rattle.r10_machine.specs.declared.reply.Reply.{Reply}
use Rattle.r10_machine.specs.declared.reply.Reply.TheVariants.{Done, Refused}
use Rattle.r10_account.specs.Accepted.{Exchange, behind_last, was_accepted, lost_by, since_accepted, lost_since}
use Rattle.r10_account.proofs.Accounting.{is_loss, missed_behind}
use Rattle.r10_account.proofs.Numbers.{so_many, none_more}

same : (b : Bool) → (b || false) ≡ b
same true = refl
same false = refl

passes : (a b : Bool) → (a || (b || true)) ≡ true
passes true b = refl
passes false true = refl
passes false false = refl

behind_more : {X : Type 0} (test : X → Bool) (xs : List X) (x : X) → behind_last test (xs ++ x ∷ []) ≡ cond (test x) [] (behind_last test xs ++ x ∷ [])
behind_more test [] x = by (test x)
  where
    by : (b : Bool) → cond (b || false) [] (x ∷ []) ≡ cond b [] (x ∷ [])
    by true = refl
    by false = refl
behind_more {X} test (y ∷ ys) x =
    ap (λ (b : Bool). cond (test y || b) (behind_last test (ys ++ x ∷ [])) (y ∷ ys ++ x ∷ [])) (list_any-append test ys (x ∷ []))
    ∙ ap (λ (l : List X). cond (test y || (list_any test ys || (test x || false))) l (y ∷ ys ++ x ∷ [])) (behind_more test ys x)
    ∙ by (test x) (test y) (list_any test ys)
  where
    joined : (b : Bool) → cond b (behind_last test ys ++ x ∷ []) (y ∷ ys ++ x ∷ []) ≡ cond b (behind_last test ys) (y ∷ ys) ++ x ∷ []
    joined true = refl
    joined false = refl

    by : (c a b : Bool) → cond (a || (b || (c || false))) (cond c [] (behind_last test ys ++ x ∷ [])) (y ∷ ys ++ x ∷ []) ≡ cond c [] (cond (a || b) (behind_last test ys) (y ∷ ys) ++ x ∷ [])
    by true a b = ap (λ (p : Bool). cond p [] (y ∷ ys ++ x ∷ [])) (passes a b)
    by false a b = ap (λ (p : Bool). cond (a || p) (behind_last test ys ++ x ∷ []) (y ∷ ys ++ x ∷ [])) (same b) ∙ joined (a || b)

-- what is no loss loses none
no_loss : (channel : ℕ) (event : Event) (reply : Reply) → is_loss channel (event, reply) ≡ false → lost_by channel (event, reply) ≡ 0
no_loss channel (Offer id count message) (Refused Overflow) other = ap (λ (b : Bool). cond b 1 0) other
no_loss channel (Lose id lost) Done other = ap (λ (b : Bool). cond b lost 0) other
no_loss channel event reply other = refl

-- after a message that is accepted none is lost, and after one that is lost, or losses that are reported, so many more
pub lost_next : (channel missed : ℕ) (before : List Exchange) (x : Exchange) → lost_since channel missed (before ++ x ∷ []) ≡ missed_behind channel (lost_since channel missed before) x
lost_next channel missed before x =
    ap (λ (xs : List Exchange). saturated (sum_by (lost_by channel) xs + cond (list_any (was_accepted channel) (before ++ x ∷ [])) 0 missed)) (behind_more (was_accepted channel) before x)
    ∙ ap (λ (b : Bool). saturated (sum_by (lost_by channel) (cond (was_accepted channel x) [] (since_accepted channel before ++ x ∷ [])) + cond b 0 missed)) (list_any-append (was_accepted channel) before (x ∷ []))
    ∙ by (was_accepted channel x)
  where
    any : (b : Bool) → cond (b || true) 0 missed ≡ 0
    any true = refl
    any false = refl

    none : is_loss channel x ≡ false → lost_by channel x ≡ 0
    none other = no_loss channel x.0 x.1 other

    one : (b : Bool) (n k m : ℕ) → (b ≡ false → k ≡ 0) → saturated (n + k + m) ≡ cond b (saturated (saturated (n + m) + k)) (saturated (n + m))
    one true n k m zero = so_many n k m (2 ^ 64 - 1)
    one false n k m zero = none_more n k m (2 ^ 64 - 1) (zero refl)

    summed : sum_by (lost_by channel) (since_accepted channel before ++ x ∷ []) ≡ sum_by (lost_by channel) (since_accepted channel before) + lost_by channel x
    summed =
        let both = sum_by-append (lost_by channel) (since_accepted channel before) (x ∷ []) in
        let last = sum_by-cons (lost_by channel) x [] in
        omega (arith, both, last)

    by : (a : Bool) → saturated (sum_by (lost_by channel) (cond a [] (since_accepted channel before ++ x ∷ [])) + cond (list_any (was_accepted channel) before || (a || false)) 0 missed)
        ≡ cond a 0 (cond (is_loss channel x) (saturated (lost_since channel missed before + lost_by channel x)) (lost_since channel missed before))
    by true = ap (λ (n : ℕ). saturated (0 + n)) (any (list_any (was_accepted channel) before))
    by false =
        ap (λ (b : Bool). saturated (sum_by (lost_by channel) (since_accepted channel before ++ x ∷ []) + cond b 0 missed)) (same (list_any (was_accepted channel) before))
        ∙ ap (λ (n : ℕ). saturated (n + cond (list_any (was_accepted channel) before) 0 missed)) summed
        ∙ one (is_loss channel x) (sum_by (lost_by channel) (since_accepted channel before)) (lost_by channel x) (cond (list_any (was_accepted channel) before) 0 missed) none
