-- What pumps in turn come to.
use Rattle.std.proofs.Common.{◌&&◌, ◌||◌, length-append, ◌≡◌, ℕ, ◌+◌, ◌<◌, Bool, true, false, not, nat_lt, List, [], ◌∷◌, ◌++◌, length, Result, Ok, Err, refl, sym, ap, subst, ◌∙◌, arith, cond}
use Rattle.std.specs.List.{list_any, list_all}
use Rattle.std.proofs.lemmas.List.{append-nil}
use Rattle.std.proofs.lemmas.List.Folds.{list_any-append, list_all-append}
use Rattle.r10_body.specs.declared.refusal.Refusal.{Refusal}
use Rattle.r10_shared.specs.WorkerCalls.{Asks, ends, goes_on}
use Rattle.r10_shared.specs.Rounds.{ArePumps, Asked, IsRound, PublishesRound, came_to, committed, has_moved, pumps_from}
use Rattle.r10_shared.specs.Rounds.Asked.{Commits, Pumps}
use Rattle.r10_shared.specs.declared.rounds.Round.{Round}
use Rattle.r10_shared.specs.declared.rounds.Turn.{Turn}
use Rattle.r10_shared.specs.declared.rounds.Turn.TheVariants.{Moved, Idle, Over}

abbrev Answer : Type 0
Answer = Result ℕ Refusal

-- whether something moved, as a turn
abbrev pub turn_of : Bool → Turn
turn_of true = Moved
turn_of false = Idle

pumps_more : (place : ℕ) (answers : List Answer) (a : Answer) (n : ℕ) → n ≡ place + length answers → pumps_from place (answers ++ a ∷ []) ≡ pumps_from place answers ++ Pumps n 64 a ∷ []
pumps_more place [] a n is = ap (λ (m : ℕ). Pumps m 64 a ∷ []) (omega (arith, is))
pumps_more place (b ∷ answers) a n is = ap (λ (l : List Asked). Pumps place 64 b ∷ l) (pumps_more (place + 1) answers a n (omega (arith, is)))

moved_of : (n : ℕ) (b : Bool) → cond b Moved Idle ≡ Moved → b ≡ true
moved_of n true is = refl
moved_of n false is = absurd (cc)

not_moved : (b : Bool) → cond b Over Idle ≡ Moved → ⊥
not_moved true is = cc
not_moved false is = cc

idle_of : (b : Bool) → cond b Moved Idle ≡ Idle → b ≡ false
idle_of true is = absurd (cc)
idle_of false is = refl

idle_end : (b : Bool) → cond b Over Idle ≡ Idle → b ≡ false
idle_end true is = absurd (cc)
idle_end false is = refl

over_end : (b : Bool) → cond b Over Idle ≡ Over → b ≡ true
over_end true is = refl
over_end false is = absurd (cc)

not_over : (b : Bool) → cond b Moved Idle ≡ Over → ⊥
not_over true is = cc
not_over false is = cc

came_moved : (a : Answer) → came_to a ≡ Moved → (goes_on a ≡ true) × (has_moved a ≡ true)
came_moved (Ok n) is = (refl, moved_of n (nat_lt 0 n) is)
came_moved (Err r) is = absurd (not_moved (ends r) is)

came_idle : (a : Answer) → came_to a ≡ Idle → (goes_on a ≡ true) × (has_moved a ≡ false)
came_idle (Ok n) is = (refl, idle_of (nat_lt 0 n) is)
came_idle (Err r) is = (ap not (idle_end (ends r) is), refl)

came_over : (a : Answer) → came_to a ≡ Over → (r : Refusal) × (a ≡ Err r) × (ends r ≡ true)
came_over (Ok n) is = absurd (not_over (nat_lt 0 n) is)
came_over (Err r) is = (r, refl, over_end (ends r) is)

all_more : (answers : List Answer) (a : Answer) → list_all goes_on answers ≡ true → goes_on a ≡ true → list_all goes_on (answers ++ a ∷ []) ≡ true
all_more answers a on goes = rw (list_all-append goes_on answers (a ∷ []), on, goes) refl

or_true : (b c : Bool) → c ≡ true → (b || (c || false)) ≡ true
or_true true c is = refl
or_true false c is = rw is refl

or_false : (b c : Bool) → c ≡ false → (b || (c || false)) ≡ b
or_false true c is = refl
or_false false c is = rw is refl

any_true : (answers : List Answer) (a : Answer) → has_moved a ≡ true → list_any has_moved (answers ++ a ∷ []) ≡ true
any_true answers a moves = list_any-append has_moved answers (a ∷ []) ∙ or_true (list_any has_moved answers) (has_moved a) moves

any_same : (answers : List Answer) (a : Answer) → has_moved a ≡ false → list_any has_moved (answers ++ a ∷ []) ≡ list_any has_moved answers
any_same answers a none = list_any-append has_moved answers (a ∷ []) ∙ or_false (list_any has_moved answers) (has_moved a) none

-- what so many pumps come to, of which none ended the round
pub pumps_of : (channels : ℕ) (answers : List Answer) (moved : Bool) → length answers ≡ channels → list_all goes_on answers ≡ true → list_any has_moved answers ≡ moved → ArePumps channels answers (turn_of moved)
pumps_of channels answers true many on is = (many, on, is)
pumps_of channels answers false many on is = (many, on, is)

shows_moved : (last : Bool) (answer : Result (Unit {0}) Refusal) (round : Round) → round ≡ committed Moved answer → PublishesRound last Moved (Commits answer ∷ []) round
shows_moved true answer round is = (answer, refl, is)
shows_moved false answer round is = (answer, refl, is)

module _ {S : Type 0} (asked : S → List Asked → S → Type 0) where
  -- so many channels were pumped, and none of them ended the round
  abbrev pub HasPumped : S → S → ℕ → Turn → Type 0
  HasPumped old new place turn = (answers : List Answer) × asked old (pumps_from 0 answers) new × (length answers ≡ place) × (list_all goes_on answers ≡ true) × (turn ≡ turn_of (list_any has_moved answers))

  pub pumped_none : (old : S) → asked old [] old → HasPumped old old 0 Idle
  pumped_none old stays = ([], stays, refl, refl, refl)

  module _ (joins : (a b c : S) (xs ys : List Asked) → asked a xs b → asked b ys c → asked a (xs ++ ys) c) where
    one_more : (old mid new : S) (answers : List Answer) (a : Answer) (place : ℕ) → asked old (pumps_from 0 answers) mid → length answers ≡ place → asked mid (Pumps place 64 a ∷ []) new → asked old (pumps_from 0 (answers ++ a ∷ [])) new
    one_more old mid new answers a place first at then =
        subst (λ (l : List Asked). asked old l new) (sym (pumps_more 0 answers a place (omega (arith, at)))) (joins old mid new (pumps_from 0 answers) (Pumps place 64 a ∷ []) first then)

    pub pumped_moved : (old mid new : S) (place : ℕ) (turn : Turn) → HasPumped old mid place turn → (a : Answer) → asked mid (Pumps place 64 a ∷ []) new → came_to a ≡ Moved → HasPumped old new (place + 1) Moved
    pumped_moved old mid new place turn (answers, first, at, on, was) a then is = (
      answers ++ a ∷ [],
      one_more old mid new answers a place first at then,
      omega (arith, length-append answers (a ∷ []), at),
      all_more answers a on (came_moved a is).0,
      ap turn_of (sym (any_true answers a (came_moved a is).1)),
    )

    pub pumped_idle : (old mid new : S) (place : ℕ) (turn : Turn) → HasPumped old mid place turn → (a : Answer) → asked mid (Pumps place 64 a ∷ []) new → came_to a ≡ Idle → HasPumped old new (place + 1) turn
    pumped_idle old mid new place turn (answers, first, at, on, was) a then is = (
      answers ++ a ∷ [],
      one_more old mid new answers a place first at then,
      omega (arith, length-append answers (a ∷ []), at),
      all_more answers a on (came_idle a is).0,
      was ∙ ap turn_of (sym (any_same answers a (came_idle a is).1)),
    )

    pub pumped_over : (old mid new : S) (place channels : ℕ) (turn : Turn) → HasPumped old mid place turn → place < channels → (a : Answer) → asked mid (Pumps place 64 a ∷ []) new → came_to a ≡ Over
        → (answers : List Answer) × asked old (pumps_from 0 answers) new × ArePumps channels answers Over
    pumped_over old mid new place channels turn (answers, first, at, on, was) inside a then is =
        let (r, refused, ends_it) = came_over a is in (
          answers ++ a ∷ [],
          one_more old mid new answers a place first at then,
          (answers, r, ap (λ (b : Answer). answers ++ b ∷ []) refused, on, omega (arith, at, inside), ends_it),
        )

  pub pumped_all : (old new : S) (place channels : ℕ) (turn : Turn) → HasPumped old new place turn → place ≡ channels → (answers : List Answer) × asked old (pumps_from 0 answers) new × ArePumps channels answers turn
  pumped_all old new place channels turn (answers, first, at, on, was) all = (
    answers,
    first,
    subst (λ (t : Turn). ArePumps channels answers t) (sym was) (pumps_of channels answers (list_any has_moved answers) (at ∙ all) on refl),
  )

  -- the pumps of a round, and what it shows after them
  module _ (joins : (a b c : S) (xs ys : List Asked) → asked a xs b → asked b ys c → asked a (xs ++ ys) c) where
    pub round_of : (old mid new : S) (channels : ℕ) (last : Bool) (turn : Turn) (shows : List Asked) (round : Round) → (answers : List Answer) × asked old (pumps_from 0 answers) mid × ArePumps channels answers turn → PublishesRound last turn shows round → asked mid shows new
        → Asks asked (IsRound channels last round) old new
    round_of old mid new channels last turn shows round (answers, first, pumps) so then = (
      pumps_from 0 answers ++ shows,
      joins old mid new (pumps_from 0 answers) shows first then,
      record { answers = answers; turn = turn; pumps = pumps; shows = shows; shows_are = so; asks_are = refl },
    )

    -- it shows nothing
    pub round_silent : (old new : S) (channels : ℕ) (last : Bool) (turn : Turn) (round : Round) → (answers : List Answer) × asked old (pumps_from 0 answers) new × ArePumps channels answers turn → PublishesRound last turn [] round
        → Asks asked (IsRound channels last round) old new
    round_silent old new channels last turn round (answers, first, pumps) so = (
      pumps_from 0 answers,
      first,
      record { answers = answers; turn = turn; pumps = pumps; shows = []; shows_are = so; asks_are = sym (append-nil (pumps_from 0 answers)) },
    )

    -- it commits
    pub round_moved : (old mid new : S) (channels : ℕ) (last : Bool) (turn : Turn) (round : Round) → (answers : List Answer) × asked old (pumps_from 0 answers) mid × ArePumps channels answers turn → turn ≡ Moved
        → (answer : Result (Unit {0}) Refusal) × asked mid (Commits answer ∷ []) new × (round ≡ committed turn answer) → Asks asked (IsRound channels last round) old new
    round_moved old mid new channels last turn round pumps is (answer, then, so) =
        round_of old mid new channels last turn (Commits answer ∷ []) round pumps (subst (λ (t : Turn). PublishesRound last t (Commits answer ∷ []) round) (sym is) (shows_moved last answer round (so ∙ ap (λ (u : Turn). committed u answer) is))) then

    pub round_last : (old mid new : S) (channels : ℕ) (last : Bool) (turn : Turn) (round : Round) → (answers : List Answer) × asked old (pumps_from 0 answers) mid × ArePumps channels answers turn → turn ≡ Idle → last ≡ true
        → (answer : Result (Unit {0}) Refusal) × asked mid (Commits answer ∷ []) new × (round ≡ committed turn answer) → Asks asked (IsRound channels last round) old new
    round_last old mid new channels last turn round pumps is at_last (answer, then, so) =
        round_of old mid new channels last turn (Commits answer ∷ []) round pumps (rw (at_last, is) (answer, refl, so ∙ ap (λ (u : Turn). committed u answer) is)) then
