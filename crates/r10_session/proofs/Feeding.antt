-- Feeds, one after the other.
use Rattle.std.proofs.Common.{◌≡◌, ◌==◌, ◌+◌, ◌<◌, ◌≤◌, ℕ, cond, Bool, true, false, true≢false, List, [], ◌∷◌, ◌++◌, count_by, get_or, append_assoc, refl, sym, ap, subst, ◌∙◌, arith}
use Rattle.std.specs.List.{All, AllByRecursion, AllZip, list_any, remove}
use Rattle.std.proofs.lemmas.Bool.{eq-eqb, eqb-true}
use Rattle.std.proofs.lemmas.List.{append-nil}
use Rattle.std.proofs.lemmas.List.Sums.{sum_by-cons}
use Rattle.r10_body.specs.declared.spec.ChannelSpec.{ChannelSpec}
use Rattle.r10_session.specs.declared.ends.Sender.{Sender}
use Rattle.r10_session.specs.Lanes.{HasSender, IsFresh}
use Rattle.r10_script.specs.Session.{AreApart}
use Rattle.r10_script.specs.declared.session.FeedTable.{FeedTable}

-- ---- tables of other channels

counted : (c : ℕ) (f : FeedTable) (tables : List FeedTable) → count_by (λ (g : FeedTable). g.channel == c) (f ∷ tables) ≡ cond (f.channel == c) 1 0 + count_by (λ (g : FeedTable). g.channel == c) tables
counted c f tables = sum_by-cons (λ (g : FeedTable). cond (g.channel == c) 1 0) f tables

none_counted : (c : ℕ) (tables : List FeedTable) → count_by (λ (f : FeedTable). f.channel == c) tables ≡ 0 → AllByRecursion (λ (f : FeedTable). (f.channel == c) ≡ false) tables
none_counted c [] none = tt
none_counted c (f ∷ tables) none = by (f.channel == c) refl (sym (counted c f tables) ∙ none) (λ later. none_counted c tables later)
  where
    by : (b : Bool) → (f.channel == c) ≡ b → (cond (f.channel == c) 1 0 + count_by (λ (g : FeedTable). g.channel == c) tables) ≡ 0 → (count_by (λ (g : FeedTable). g.channel == c) tables ≡ 0 → AllByRecursion (λ (g : FeedTable). (g.channel == c) ≡ false) tables)
        → AllByRecursion (λ (g : FeedTable). (g.channel == c) ≡ false) (f ∷ tables)
    by true is zero_all rest = let one : cond true 1 0 + count_by (λ (g : FeedTable). g.channel == c) tables ≡ 0 = rw is at zero_all in absurd (omega (arith, one))
    by false is zero_all rest = let others : cond false 1 0 + count_by (λ (g : FeedTable). g.channel == c) tables ≡ 0 = rw is at zero_all in (is, rest (omega (arith, others)))

-- those after the first are of other channels
pub others_apart : (t : FeedTable) (tables : List FeedTable) → AreApart (t ∷ tables) → AllByRecursion (λ (f : FeedTable). (f.channel == t.channel) ≡ false) tables
others_apart t tables apart =
    let all = counted t.channel t tables in
    let same : count_by (λ (g : FeedTable). g.channel == t.channel) (t ∷ tables) ≡ cond true 1 0 + count_by (λ (g : FeedTable). g.channel == t.channel) tables =
    all ∙ ap (λ (b : Bool). cond b 1 0 + count_by (λ (g : FeedTable). g.channel == t.channel) tables) (eq-eqb t.channel t.channel refl) in
    none_counted t.channel tables (omega (arith, same, apart t.channel))

pub rest_apart : (t : FeedTable) (tables : List FeedTable) → AreApart (t ∷ tables) → AreApart tables
rest_apart t tables apart c = omega (arith, counted c t tables, apart c)

-- where a sending end was taken, those of other channels are there still
pub still_have : (channel : ℕ) (old new : List Sender) (tables : List FeedTable) → ((other : ℕ) → (channel == other) ≡ false → HasSender old other → HasSender new other) → AllByRecursion (λ (f : FeedTable). (f.channel == channel) ≡ false) tables
    → AllByRecursion (λ (f : FeedTable). HasSender old f.channel) tables → AllByRecursion (λ (f : FeedTable). HasSender new f.channel) tables
still_have channel old new [] others apart have = tt
still_have channel old new (f ∷ tables) others apart have = (others f.channel (turned channel f.channel apart.0) have.0, still_have channel old new tables others apart.1 have.1)
  where
    turned : (a b : ℕ) → (b == a) ≡ false → (a == b) ≡ false
    turned a b differ = by (a == b) refl
      where
        by : (t : Bool) → (a == b) ≡ t → (a == b) ≡ false
        by true is = absurd (true≢false (sym (itself b a (sym (eqb-true a b is))) ∙ differ))
          where
            itself : (m n : ℕ) → m ≡ n → (m == n) ≡ true
            itself m n e = eq-eqb m n e
        by false is = is

module _ (before rest : List FeedTable) (t : FeedTable) (split : before ≡ t ∷ rest) where
  pub first_has : (senders : List Sender) → AllByRecursion (λ (f : FeedTable). HasSender senders f.channel) before → HasSender senders t.channel
  first_has senders have = (subst (λ (l : List FeedTable). AllByRecursion (λ (f : FeedTable). HasSender senders f.channel) l) split have).0

  pub rest_have : (old new : List Sender) → AllByRecursion (λ (f : FeedTable). HasSender old f.channel) before → AreApart before → ((other : ℕ) → (t.channel == other) ≡ false → HasSender old other → HasSender new other)
      → AllByRecursion (λ (f : FeedTable). HasSender new f.channel) rest
  rest_have old new have apart others =
      still_have t.channel old new rest others (others_apart t rest (subst (λ (l : List FeedTable). AreApart l) split apart)) (subst (λ (l : List FeedTable). AllByRecursion (λ (f : FeedTable). HasSender old f.channel) l) split have).1

  pub rest_are_apart : AreApart before → AreApart rest
  rest_are_apart apart = rest_apart t rest (subst (λ (l : List FeedTable). AreApart l) split apart)

-- ---- two lists, one after the other

-- whatever belongs to what is left of the first list, after these it is what belongs to all
abbrev pub PairedTo : {X Y : Type 0} → List X → List X → List Y → (X → Y → Type 0) → Type 0
PairedTo {X} {Y} xs left ys R = (more : List Y) → AllZip R left more → AllZip R xs (ys ++ more)

pub one_paired : {X Y : Type 0} (R : X → Y → Type 0) (xs before left : List X) (ys : List Y) (x : X) (y : Y) → PairedTo xs before ys R → before ≡ x ∷ left → R x y → PairedTo xs left (ys ++ y ∷ []) R
one_paired {X} {Y} R xs before left ys x y so split one more rest =
    subst (λ (l : List Y). AllZip R xs l) (sym (append_assoc ys (y ∷ []) more)) (so (y ∷ more) (subst (λ (l : List X). AllZip R l (y ∷ more)) (sym split) (one, rest)))

pub all_paired : {X Y : Type 0} (R : X → Y → Type 0) (xs left : List X) (ys : List Y) → PairedTo xs left ys R → left ≡ [] → AllZip R xs ys
all_paired {X} {Y} R xs left ys so none = subst (λ (l : List Y). AllZip R xs l) (append-nil ys) (so [] (subst (λ (l : List X). AllZip R l []) (sym none) tt))

pub none_paired : {X Y : Type 0} (R : X → Y → Type 0) (xs left : List X) (ys : List Y) → left ≡ xs → ys ≡ [] → PairedTo xs left ys R
none_paired {X} {Y} R xs left ys all none more rest = subst (λ (l : List Y). AllZip R xs (l ++ more)) (sym none) (subst (λ (l : List X). AllZip R l more) all rest)
