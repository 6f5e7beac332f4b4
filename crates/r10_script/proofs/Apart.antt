-- One feed more, of another channel than those before.
use Rattle.std.proofs.Common.{true≢false, ◌≡◌, ◌≤◌, ◌+◌, ◌==◌, ◌||◌, ℕ, Bool, true, false, cond, subst, List, [], ◌∷◌, ◌++◌, count_by, refl, arith}
use Rattle.std.specs.List.{list_any}
use Rattle.std.proofs.lemmas.Bool.{eqb-true}
use Rattle.std.proofs.lemmas.List.Sums.{sum_by-append}
use Rattle.r10_script.specs.Session.{AreApart}
use Rattle.r10_script.specs.declared.session.FeedTable.{FeedTable}

none_counted : (c : ℕ) (feeds : List FeedTable) → list_any (λ (f : FeedTable). f.channel == c) feeds ≡ false → count_by (λ (f : FeedTable). f.channel == c) feeds ≡ 0
none_counted c [] none = refl
none_counted c (f ∷ feeds) none = one (f.channel == c) refl none (λ rest. none_counted c feeds rest)
  where
    one : (b : Bool) → (f.channel == c) ≡ b → (f.channel == c || list_any (λ (f : FeedTable). f.channel == c) feeds) ≡ false
        → (list_any (λ (f : FeedTable). f.channel == c) feeds ≡ false → count_by (λ (f : FeedTable). f.channel == c) feeds ≡ 0) → count_by (λ (f : FeedTable). f.channel == c) (f ∷ feeds) ≡ 0
    one true is none others = absurd (true≢false (rw is at none))
    one false is none others = rw is (others (rw is at none))

one_counted : (c : ℕ) (feed : FeedTable) → count_by (λ (f : FeedTable). f.channel == c) (feed ∷ []) ≤ 1
one_counted c feed = one (feed.channel == c) refl
  where
    one : (b : Bool) → (feed.channel == c) ≡ b → count_by (λ (f : FeedTable). f.channel == c) (feed ∷ []) ≤ 1
    one true is = rw is (omega arith)
    one false is = rw is (omega arith)

pub apart_more : (feeds : List FeedTable) (feed : FeedTable) → AreApart feeds → list_any (λ (f : FeedTable). f.channel == feed.channel) feeds ≡ false → AreApart (feeds ++ feed ∷ [])
apart_more feeds feed apart none c = one (feed.channel == c) refl
  where
    sum : count_by (λ (f : FeedTable). f.channel == c) (feeds ++ feed ∷ []) ≡ count_by (λ (f : FeedTable). f.channel == c) feeds + count_by (λ (f : FeedTable). f.channel == c) (feed ∷ [])
    sum = sum_by-append (λ (f : FeedTable). cond (f.channel == c) 1 0) feeds (feed ∷ [])

    one : (b : Bool) → (feed.channel == c) ≡ b → count_by (λ (f : FeedTable). f.channel == c) (feeds ++ feed ∷ []) ≤ 1
    one true is =
        let same = eqb-true feed.channel c is in
        let no : list_any (λ (f : FeedTable). f.channel == c) feeds ≡ false = subst (λ (d : ℕ). list_any (λ (f : FeedTable). f.channel == d) feeds ≡ false) same none in
        omega (arith, sum, none_counted c feeds no, one_counted c feed)
    one false is =
        let zero : count_by (λ (f : FeedTable). f.channel == c) (feed ∷ []) ≡ 0 = rw is refl in
        omega (arith, sum, zero, apart c)
