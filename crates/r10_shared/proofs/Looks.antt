-- What looks of a reader come to.
use Rattle.std.proofs.Common.{◌≡◌, ◌<◌, length, arith, ◌==◌, ◌||◌, ◌&&◌, ◌^◌, ◌-◌, ℕ, Bool, true, false, not, List, [], ◌∷◌, ◌++◌, flat_map, Result, refl, sym, ap, subst, ◌∙◌}
use Rattle.std.proofs.lemmas.List.{append-nil}
use Rattle.std.proofs.lemmas.List.Concat.{flat_map-append}
use Rattle.r10_body.specs.declared.refusal.Refusal.{Refusal}
use Rattle.std.specs.List.{AllByRecursion}
use Rattle.r10_shared.specs.WorkerCalls.{Asks, goes_on}
use Rattle.r10_shared.specs.Desk.{IsNoted, Worked}
use Rattle.r10_shared.specs.Watching.{EachLook, Follows, IsLook, IsWatching, Look, Watched, asked_in}
use Rattle.r10_shared.specs.Watching.Watched.{Announces, Ended, Reads, Shown, Sleeps}

looks_more : (looks : List Look) (l : Look) → asked_in (looks ++ l ∷ []) ≡ asked_in looks ++ l.asks
looks_more looks l = flat_map-append (λ (k : Look). k.asks) looks (l ∷ []) ∙ ap (λ (m : List Watched). asked_in looks ++ m) (append-nil l.asks)

each_more : (a b : ℕ) (looks : List Look) (l : Look) → EachLook a looks b → IsLook b l.shown true l.asks → EachLook a (looks ++ l ∷ []) l.shown
each_more a b [] l is next = (subst (λ (n : ℕ). IsLook n l.shown true l.asks) is next, refl)
each_more a b (k ∷ looks) l (first, all) next = (first, each_more k.shown b looks l all next)

follows_not : (due last : Bool) → due ≡ false → Follows due last (Sleeps ∷ []) true
follows_not true last is = absurd (cc)
follows_not false last is = (refl, refl)

follows_on : (due last : Bool) (answer : Result (Unit {0}) Refusal) (on : Bool) → due ≡ true → on ≡ (goes_on answer && not last) → Follows due last (Reads answer ∷ []) on
follows_on true last answer on is goes = (answer, refl, goes)
follows_on false last answer on is goes = absurd (cc)

-- an element of a list that has a place
pub some_element : {X : Type 0} (xs : List X) (i : ℕ) → i < length xs → X
some_element [] i inside = absurd (omega (arith, inside))
some_element (x ∷ xs) i inside = x

-- a reader that the gate let through, of which no more is noted than what it asked
pub worked_so : (answers : Bool → Type 0) (answer : Bool) → answers answer → answer ≡ true → (asks : List Watched) → IsWatching asks → Worked answers IsWatching IsNoted
worked_so answers true answered is asks watched = record { answer = true; answered = answered; asks = asks; as_wanted = watched; done = all_noted asks }
  where
    all_noted : (some : List Watched) → AllByRecursion IsNoted some
    all_noted [] = tt
    all_noted (ask ∷ some) = (tt, all_noted some)
worked_so answers false answered is asks watched = absurd (cc)

pub on_of : (b : Bool) → not b ≡ false → b ≡ true
on_of true is = refl
on_of false is = absurd (cc)

module _ {S : Type 0} (asked : S → List Watched → S → Type 0) where
  -- the reader has looked, and has seen so many commits
  abbrev pub HasLooked : S → S → ℕ → Type 0
  HasLooked old new seen = (looks : List Look) × asked old (asked_in looks) new × EachLook (2 ^ 64 - 1) looks seen

  pub looked_none : (old : S) → asked old [] old → HasLooked old old (2 ^ 64 - 1)
  looked_none old stays = ([], stays, refl)

  module _ (joins : (a b c : S) (xs ys : List Watched) → asked a xs b → asked b ys c → asked a (xs ++ ys) c) where
    pub looked_front : (a b c d : S) (last : Bool) (shown : ℕ) → asked a (Announces ∷ []) b → asked b (Ended last ∷ []) c → asked c (Shown shown ∷ []) d → asked a (Announces ∷ Ended last ∷ Shown shown ∷ []) d
    looked_front a b c d last shown one two three = joins a b d (Announces ∷ []) (Ended last ∷ Shown shown ∷ []) one (joins b c d (Ended last ∷ []) (Shown shown ∷ []) two three)

    pub looked_idle : (a d e : S) (last due : Bool) (shown seen : ℕ) → asked a (Announces ∷ Ended last ∷ Shown shown ∷ []) d → asked d (Sleeps ∷ []) e → due ≡ (last || not (shown == seen)) → due ≡ false → Asks asked (IsLook seen shown true) a e
    looked_idle a d e last due shown seen front then is none = (
      Announces ∷ Ended last ∷ Shown shown ∷ Sleeps ∷ [],
      joins a d e (Announces ∷ Ended last ∷ Shown shown ∷ []) (Sleeps ∷ []) front then,
      record { last = last; rest = Sleeps ∷ []; follows = follows_not (last || not (shown == seen)) last (sym is ∙ none); asks_are = refl },
    )

    pub looked_due : (a d e : S) (last due on : Bool) (shown seen : ℕ) (answer : Result (Unit {0}) Refusal) → asked a (Announces ∷ Ended last ∷ Shown shown ∷ []) d → asked d (Reads answer ∷ []) e → due ≡ (last || not (shown == seen)) → due ≡ true
        → on ≡ (goes_on answer && not last) → Asks asked (IsLook seen shown on) a e
    looked_due a d e last due on shown seen answer front then is some goes = (
      Announces ∷ Ended last ∷ Shown shown ∷ Reads answer ∷ [],
      joins a d e (Announces ∷ Ended last ∷ Shown shown ∷ []) (Reads answer ∷ []) front then,
      record { last = last; rest = Reads answer ∷ []; follows = follows_on (last || not (shown == seen)) last answer on (sym is ∙ some) goes; asks_are = refl },
    )

    pub looked_more : (a b c : S) (seen shown : ℕ) (on : Bool) → HasLooked a b seen → Asks asked (IsLook seen shown on) b c → on ≡ true → HasLooked a c shown
    looked_more a b c seen shown on (looks, first, each) (asks, then, is) goes =
        let l : Look = record { shown = shown; asks = asks } in (
          looks ++ l ∷ [],
          subst (λ (m : List Watched). asked a m c) (sym (looks_more looks l)) (joins a b c (asked_in looks) asks first then),
          each_more (2 ^ 64 - 1) seen looks l each (subst (λ (b : Bool). IsLook seen shown b asks) goes is),
        )

    pub looked_all : (a b c : S) (seen shown : ℕ) (on : Bool) → HasLooked a b seen → Asks asked (IsLook seen shown on) b c → on ≡ false → Asks asked IsWatching a c
    looked_all a b c seen shown on (looks, first, each) (asks, then, is) stops = (
      asked_in looks ++ asks,
      joins a b c (asked_in looks) asks first then,
      record {
        looks = looks;
        seen = seen;
        last = record { shown = shown; asks = asks };
        go_on = each;
        ends = subst (λ (b : Bool). IsLook seen shown b asks) stops is;
        asks_are = refl;
      },
    )
