-- What turns and steps of a writer come to.
use Rattle.std.proofs.Common.{inl, inr, ◌≡◌, Bool, true, false, List, [], ◌∷◌, ◌++◌, flat_map, refl, sym, ap, subst, ◌∙◌}
use Rattle.std.specs.List.{AllByRecursion}
use Rattle.std.proofs.lemmas.List.{append-nil}
use Rattle.std.proofs.lemmas.List.Concat.{flat_map-append}
use Rattle.r10_machine.proofs.Growing.{all_joined}
use Rattle.r10_shared.specs.WorkerCalls.{Asks}
use Rattle.r10_shared.specs.Rounds.{IsWriterStep, IsTurn, IsWait, IsWriterRun, Turned, all_of, tells_of, turn_after}
use Rattle.r10_shared.specs.Rounds.Turned.{Announces, Goes, Looks, Sleeps}
use Rattle.r10_shared.specs.declared.rounds.Round.{Round}
use Rattle.r10_shared.specs.declared.rounds.Turn.{Turn}
use Rattle.r10_shared.specs.declared.rounds.Turn.TheVariants.{Moved, Idle, Over}

all_more : (steps : List (List Turned)) (step : List Turned) → all_of (steps ++ step ∷ []) ≡ all_of steps ++ step
all_more steps step = flat_map-append (λ (s : List Turned). s) steps (step ∷ []) ∙ ap (λ (l : List Turned). all_of steps ++ l) (append-nil step)

module _ {S : Type 0} (asked : S → List Turned → S → Type 0) where
  -- the writer has made steps, and goes on
  abbrev pub HasGone : S → S → Type 0
  HasGone old new = (steps : List (List Turned)) × asked old (all_of steps) new × AllByRecursion (IsWriterStep true) steps

  pub gone_none : (old : S) → asked old [] old → HasGone old old
  gone_none old stays = ([], stays, tt)

  module _ (joins : (a b c : S) (xs ys : List Turned) → asked a xs b → asked b ys c → asked a (xs ++ ys) c) where
    pub turned : (a b c d : S) (over : Bool) (round : Round) (turn : Turn) → asked a (Looks over ∷ []) b → asked b (Goes over round ∷ []) c → asked c (tells_of round) d → turn ≡ turn_after over round.turn → Asks asked (IsTurn turn) a d
    turned a b c d over round turn looks goes tells is =
        (Looks over ∷ Goes over round ∷ tells_of round, joins a b d (Looks over ∷ []) (Goes over round ∷ tells_of round) looks (joins b c d (Goes over round ∷ []) (tells_of round) goes tells), (over, round, refl, is))

    -- a wait whose turn moved something, one that slept, and one that ends the writer
    pub waits_moved : (a b c : S) (turn : Turn) → asked a (Announces ∷ []) b → Asks asked (IsTurn turn) b c → turn ≡ Moved → Asks asked (IsWait true) a c
    waits_moved a b c turn first (asks, then, is) moved = (Announces ∷ asks, joins a b c (Announces ∷ []) asks first then, (asks, inl (subst (λ (t : Turn). IsTurn t asks) moved is, refl)))

    pub waits_slept : (a b c d : S) (turn : Turn) → asked a (Announces ∷ []) b → Asks asked (IsTurn turn) b c → turn ≡ Idle → asked c (Sleeps ∷ []) d → Asks asked (IsWait true) a d
    waits_slept a b c d turn first (asks, then, is) idle last =
        ((Announces ∷ asks) ++ Sleeps ∷ [], joins a c d (Announces ∷ asks) (Sleeps ∷ []) (joins a b c (Announces ∷ []) asks first then) last, (asks, inr (subst (λ (t : Turn). IsTurn t asks) idle is, refl)))

    pub waits_over : (a b c : S) (turn : Turn) → asked a (Announces ∷ []) b → Asks asked (IsTurn turn) b c → turn ≡ Over → Asks asked (IsWait false) a c
    waits_over a b c turn first (asks, then, is) over = (Announces ∷ asks, joins a b c (Announces ∷ []) asks first then, (asks, subst (λ (t : Turn). IsTurn t asks) over is, refl))

    -- a turn, and then a wait
    pub steps_wait : (a b c : S) (turn : Turn) (on : Bool) → Asks asked (IsTurn turn) a b → turn ≡ Idle → Asks asked (IsWait on) b c → Asks asked (IsWriterStep on) a c
    steps_wait a b c turn true (asks, first, is) idle (more, then, waits) = (asks ++ more, joins a b c asks more first then, inr (asks, more, subst (λ (t : Turn). IsTurn t asks) idle is, waits, refl))
    steps_wait a b c turn false (asks, first, is) idle (more, then, waits) = (asks ++ more, joins a b c asks more first then, inr (asks, more, subst (λ (t : Turn). IsTurn t asks) idle is, waits, refl))

    pub gone_on : (a b c : S) (on : Bool) → HasGone a b → Asks asked (IsWriterStep on) b c → on ≡ true → HasGone a c
    gone_on a b c on (steps, first, all) (asks, then, is) goes = (
      steps ++ asks ∷ [],
      subst (λ (l : List Turned). asked a l c) (sym (all_more steps asks)) (joins a b c (all_of steps) asks first then),
      all_joined (IsWriterStep true) steps (asks ∷ []) all (subst (λ (b : Bool). IsWriterStep b asks) goes is, tt),
    )

    pub gone : (a b c : S) (on : Bool) → HasGone a b → Asks asked (IsWriterStep on) b c → on ≡ false → Asks asked IsWriterRun a c
    gone a b c on (steps, first, all) (asks, then, is) ends_it = (
      all_of steps ++ asks,
      joins a b c (all_of steps) asks first then,
      record { steps = steps; last = asks; go_on = all; ends = subst (λ (b : Bool). IsWriterStep b asks) ends_it is; asks_are = refl },
    )
