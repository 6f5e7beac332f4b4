-- What is taken joins over calls.
use Rattle.std.proofs.Common.{◌≡◌, ◌≤◌, List, [], ◌++◌, Option, Some, None, refl, sym, ap, ◌∙◌, append_assoc, arith, subst}
use Rattle.std.proofs.lemmas.List.{append-nil}
use Rattle.r10_body.specs.declared.entry.Sample.{Sample}
use Rattle.r10_body.specs.declared.spec.ChannelSpec.{ChannelSpec}
use Rattle.r10_lane.specs.Lanes.{Gives}
use Rattle.r10_lane.specs.Laws.{gives_both, gives_none, gives_up_to}
use Rattle.r10_port.specs.Ends.{Receiving, TookReceived, reached_by_outlet}

pub port_took_joins : (a b c : Receiving) (xs ys : List Sample) → TookReceived a xs b → TookReceived b ys c
    → TookReceived a (xs ++ ys) c
port_took_joins a b c xs ys first second = record {
  same = (second.same.0 ∙ first.same.0, second.same.1 ∙ first.same.1);
  received = second.received ∙ ap (λ (l : List Sample). l ++ ys) first.received ∙ append_assoc a.received xs ys;
  gives = gives_both a.spec (reached_by_outlet a) (reached_by_outlet b) (reached_by_outlet c) xs ys first.gives
      (subst (λ (s : ChannelSpec). Gives s (reached_by_outlet b) ys (reached_by_outlet c)) first.same.1 second.gives);
  rises = omega (arith, first.rises, second.rises);
  room = λ none. ap (λ (l : List Sample). l ++ ys) (first.room none) ∙ second.room (ap (λ s. s.capacity) first.same.1 ∙ none);
}

pub port_took_nothing : (a b c : Receiving) (xs : List Sample) → TookReceived a xs b → TookReceived b [] c → TookReceived a xs c
port_took_nothing a b c xs first second = record {
  same = (second.same.0 ∙ first.same.0, second.same.1 ∙ first.same.1);
  received = second.received ∙ append-nil b.received ∙ first.received;
  gives = gives_up_to a.spec (reached_by_outlet a) (reached_by_outlet b) (reached_by_outlet c) xs second.rises first.gives;
  rises = omega (arith, first.rises, second.rises);
  room = first.room;
}

pub port_took_stays : (a : Receiving) → TookReceived a [] a
port_took_stays a = record {
  same = (refl, refl);
  received = sym (append-nil a.received);
  gives = gives_none a.spec (reached_by_outlet a) (reached_by_outlet a) (omega arith);
  rises = omega arith;
  room = λ none. refl;
}

pub port_took_keeps_spec : (a b : Receiving) (xs : List Sample) → TookReceived a xs b → b.spec ≡ a.spec
port_took_keeps_spec a b xs took = took.same.1

pub port_took_rises : (a b : Receiving) (xs : List Sample) → TookReceived a xs b → reached_by_outlet a ≤ reached_by_outlet b
port_took_rises a b xs took = took.rises

pub port_took_gives : (a b : Receiving) (xs : List Sample) → TookReceived a xs b
    → Gives a.spec (reached_by_outlet a) xs (reached_by_outlet b)
port_took_gives a b xs took = took.gives

-- this end is never known to be quiet
pub never_quiet : (a b : Receiving) (xs waiting : List Sample) → TookReceived a xs b
    → ◌≡◌ {A = Option (List Sample)} None (Some waiting) → (rest : List Sample) × ◌≡◌ {A = Option (List Sample)} None (Some rest)
    × (waiting ≡ xs ++ rest)
never_quiet a b xs waiting took e = absurd (cc)
