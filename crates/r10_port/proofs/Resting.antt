-- What is moved out of a lane whose ends are in one thread.
use Rattle.std.proofs.Common.{◌≡◌, ℕ, ◌+◌, List, [], ◌∷◌, ◌++◌, length, take, min, refl, sym, ap, subst, arith, length-append, append_assoc, ◌∙◌}
use Rattle.std.proofs.Math.Seq.{take-append_seam}
use Rattle.std.proofs.lemmas.List.{append-nil, take_min}
use Rattle.r10_body.specs.declared.entry.Sample.{Sample}
use Rattle.r10_port.specs.declared.item.Item.{Item}
use Rattle.r10_port.specs.declared.item.Item.TheVariants.{Entry}
use Rattle.r10_port.specs.Items.{samples}
use Rattle.r10_port.specs.Ends.{Receiving, TookReceived}
use Rattle.r10_port.specs.Laws.{port_took_joins, port_took_stays}

-- so many were moved after what was there before, and what is known to come is the rest
pub record Moves (old now : Receiving) (before after : List Sample) (counter : ℕ) : Type 0 where
  pub moved : List Sample
  pub took : TookReceived old moved now
  pub behind : after ≡ before ++ moved
  pub others : moved ++ samples now.ahead ≡ samples old.ahead
  pub number : length moved ≡ counter

pub moves_none : (old : Receiving) (before : List Sample) → Moves old old before before 0
moves_none old before = record {
  moved = [];
  took = port_took_stays old;
  behind = sym (append-nil before);
  others = refl;
  number = refl;
}

pub moves_more : (old now new : Receiving) (before after more : List Sample) (counter : ℕ) (x : Sample) → Moves old now before after counter → TookReceived now (x ∷ []) new → now.ahead ≡ Entry x ∷ new.ahead → more ≡ after ++ x ∷ []
    → Moves old new before more (counter + 1)
moves_more old now new before after more counter x moves took ahead pushed = record {
  moved = moves.moved ++ x ∷ [];
  took = port_took_joins old now new moves.moved (x ∷ []) moves.took took;
  behind = pushed ∙ ap (λ (l : List Sample). l ++ x ∷ []) moves.behind ∙ append_assoc before moves.moved (x ∷ []);
  others = append_assoc moves.moved (x ∷ []) (samples new.ahead) ∙ ap (λ (l : List Item). moves.moved ++ samples l) (sym ahead) ∙ moves.others;
  number = omega (arith, length-append moves.moved (x ∷ []), moves.number);
}

-- as many as there is room for
pub moves_all : (old first now : Receiving) (before after waits : List Sample) (counter room : ℕ) → Moves first now before after counter → TookReceived old [] first → samples first.ahead ≡ waits → counter ≡ min (length waits) room
    → (TookReceived old (take room waits) now) × (after ≡ before ++ take room waits)
moves_all old first now before after waits counter room moves looked known least =
    let all : moves.moved ++ samples now.ahead ≡ waits = moves.others ∙ known in
    let few : length moves.moved ≡ min room (length waits) = omega (arith, moves.number, least) in
    let taken : take room waits ≡ moves.moved = sym (take_min room waits) ∙ ap (λ (n : ℕ). take n waits) (sym few) ∙ ap (take (length moves.moved)) (sym all) ∙ take-append_seam moves.moved (samples now.ahead) in (
      subst (λ (l : List Sample). TookReceived old l now) (sym taken) (port_took_joins old first now [] moves.moved looked moves.took),
      moves.behind ∙ ap (λ (l : List Sample). before ++ l) (sym taken),
    )
