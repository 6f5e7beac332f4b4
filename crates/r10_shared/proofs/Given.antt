-- What orders in turn come to.
use Rattle.std.proofs.Common.{inl, inr, ◌≡◌, ℕ, ◌+◌, ◌<◌, Bool, true, false, List, [], ◌∷◌, ◌++◌, length, drop, get_or, Result, refl, sym, ap, subst, ◌∙◌, append_assoc}
use Rattle.std.proofs.lemmas.List.{append-nil, drop_more}
use Rattle.r10_body.specs.declared.refusal.Refusal.{Refusal}
use Rattle.r10_machine.specs.declared.reply.Reply.{Reply}
use Rattle.r10_shared.specs.WorkerCalls.{Asks, goes_on}
use Rattle.r10_shared.specs.Giving.{Given, GivesInTurn}
use Rattle.r10_shared.specs.Giving.Given.{Gives, Wakes}
use Rattle.r10_shared.specs.declared.order.Order.{Order}

gives_on : (o : Order) (orders : List Order) (answer : Result Reply Refusal) (more : List Given) → goes_on answer ≡ true → GivesInTurn orders more → GivesInTurn (o ∷ orders) (Gives o answer ∷ Wakes ∷ more)
gives_on o orders answer more on rest = (refl, inl (on, rest))

gives_last : (o : Order) (orders : List Order) (answer : Result Reply Refusal) → goes_on answer ≡ false → GivesInTurn (o ∷ orders) (Gives o answer ∷ Wakes ∷ [])
gives_last o orders answer ends_it = (refl, inr (ends_it, refl))

module _ {S : Type 0} (asked : S → List Given → S → Type 0) where
  -- what was given so far, and then the rest of the orders in turn, is all of them in turn
  abbrev pub HasGiven : List Order → List Order → S → S → Type 0
  HasGiven all left old new = (asks : List Given) × asked old asks new × ((more : List Given) → GivesInTurn left more → GivesInTurn all (asks ++ more))

  pub given_none : (all left : List Order) (old : S) → asked old [] old → left ≡ all → HasGiven all left old old
  given_none all left old stays is = ([], stays, λ more gives. subst (λ (l : List Order). GivesInTurn l more) is gives)

  pub given_all : (all left : List Order) (old new : S) → HasGiven all left old new → left ≡ [] → Asks asked (GivesInTurn all) old new
  given_all all left old new (asks, first, so) none =
      (asks, first, subst (λ (l : List Given). GivesInTurn all l) (append-nil asks) (so [] (subst (λ (l : List Order). GivesInTurn l []) (sym none) tt)))

  module _ (joins : (a b c : S) (xs ys : List Given) → asked a xs b → asked b ys c → asked a (xs ++ ys) c) where
    pub given_on : (all left rest : List Order) (o : Order) (answer : Result Reply Refusal) (on : Bool) (a b c : S) → HasGiven all left a b → left ≡ o ∷ rest → asked b (Gives o answer ∷ Wakes ∷ []) c → on ≡ goes_on answer → on ≡ true → HasGiven all rest a c
    given_on all left rest o answer on a b c (asks, first, so) is then reported goes = (
      asks ++ (Gives o answer ∷ Wakes ∷ []),
      joins a b c asks (Gives o answer ∷ Wakes ∷ []) first then,
      λ more gives.
          subst (λ (l : List Given). GivesInTurn all l) (sym (append_assoc asks (Gives o answer ∷ Wakes ∷ []) more))
          (so (Gives o answer ∷ Wakes ∷ more) (subst (λ (l : List Order). GivesInTurn l (Gives o answer ∷ Wakes ∷ more)) (sym is) (gives_on o rest answer more (sym reported ∙ goes) gives))),
    )

    pub given_last : (all left rest : List Order) (o : Order) (answer : Result Reply Refusal) (on : Bool) (a b c : S) → HasGiven all left a b → left ≡ o ∷ rest → asked b (Gives o answer ∷ Wakes ∷ []) c → on ≡ goes_on answer → on ≡ false → Asks asked (GivesInTurn all) a c
    given_last all left rest o answer on a b c (asks, first, so) is then reported ends_it = (
      asks ++ (Gives o answer ∷ Wakes ∷ []),
      joins a b c asks (Gives o answer ∷ Wakes ∷ []) first then,
      so (Gives o answer ∷ Wakes ∷ []) (subst (λ (l : List Order). GivesInTurn l (Gives o answer ∷ Wakes ∷ [])) (sym is) (gives_last o rest answer (sym reported ∙ ends_it))),
    )

-- what is left begins with the next order
pub next_left : (orders : List Order) (at : ℕ) (o : Order) → at < length orders → o ≡ get_or orders at o → drop at orders ≡ o ∷ drop (at + 1) orders
next_left orders at o inside is = drop_more orders at o inside ∙ ap (λ (p : Order). p ∷ drop (at + 1) orders) (sym is)
