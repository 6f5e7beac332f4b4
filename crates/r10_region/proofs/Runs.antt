-- A run grows.
use Rattle.std.proofs.Common.{◌≡◌, ℕ, true, List, [], ◌∷◌, ◌++◌, refl, sym, ap, subst, arith, ◌∙◌, ◌≤◌, length, drop}
use Rattle.std.proofs.lemmas.List.{append_assoc, length-append, length-drop, nil_from_length}
use mathlib.Core.List.{IsPrefix}
use Rattle.rtrb.specs.Ring.{SameConsumer}
use Rattle.rtrb.specs.declared.consumer.Consumer.{Consumer}
use Rattle.r10_region.proofs.Lines.{ring_on}
use Rattle.r10_region.specs.Joining.{JoinsMore, TakesOneWrite}
use Rattle.rtrb.specs.Ring.{known_items}
use Rattle.r10_region.specs.Orders.{HasSameTurn, IsSameEnd, taken}
use Rattle.r10_region.specs.Runs.{joins, run_length_with, put_in_run, AllJoin, grown_by_all, put_all_in_run}
use Rattle.r10_region.specs.declared.operation.Operation.{Operation as OperationValue}
use Rattle.r10_region.specs.declared.orders.Orders.{Orders as OrdersValue}

pub consumer_on : {T A P : Type 0} (a b c : Consumer T A P) → SameConsumer a b → SameConsumer b c → SameConsumer a c
consumer_on a b c p q = (ring_on a.end b.end c.end p.0 q.0, q.1 ∙ p.1)

turn_on : (a b c : OrdersValue) → HasSameTurn a b → HasSameTurn b c → HasSameTurn a c
turn_on a b c p q = record { ahead = q.ahead ∙ p.ahead; done = q.done ∙ p.done; first = q.first ∙ p.first; was = q.was ∙ p.was }

pub end_on : (a b c : OrdersValue) → IsSameEnd a b → IsSameEnd b c → IsSameEnd a c
end_on a b c p q = record { ring = consumer_on a.ring b.ring c.ring p.ring q.ring; turn = turn_on a b c p.turn q.turn; links = q.links ∙ p.links; news = q.news ∙ p.news; spares = q.spares ∙ p.spares; room = q.room ∙ p.room }

pub all_join_more : (first count most : ℕ) (ops : List OperationValue) (op : OperationValue) → AllJoin first count most ops → joins first (grown_by_all first ops count) most op ≡ true
    → AllJoin first count most (ops ++ op ∷ [])
all_join_more first count most [] op all is = (is, tt)
all_join_more first count most (o ∷ ops) op all is = (all.0, all_join_more first (run_length_with first o count) most ops op all.1 is)

pub grown_by_more : (first count : ℕ) (ops : List OperationValue) (op : OperationValue) → grown_by_all first (ops ++ op ∷ []) count ≡ run_length_with first op (grown_by_all first ops count)
grown_by_more first count [] op = refl
grown_by_more first count (o ∷ ops) op = grown_by_more first (run_length_with first o count) ops op

pub put_more : (first : ℕ) (ops : List OperationValue) (op : OperationValue) (run : List ℕ) → put_all_in_run first (ops ++ op ∷ []) run ≡ put_in_run first op (put_all_in_run first ops run)
put_more first [] op run = refl
put_more first (o ∷ ops) op run = put_more first ops op (put_in_run first o run)

-- one more joins
pub joins_on : (first most : ℕ) (old mid new : OrdersValue) (before between after : List ℕ) (count blocks : ℕ) → JoinsMore first most old mid before between count → IsSameEnd mid new
    → TakesOneWrite first count most mid new between after blocks → JoinsMore first most old new before after blocks
joins_on first most old mid new before between after count blocks j same t = record {
  queue = end_on old mid new j.queue same;
  ops = j.ops ++ t.op ∷ [];
  takes = record {
    more = t.takes.one_more ∙ ap (λ (xs : List OperationValue). xs ++ t.op ∷ []) j.takes.more ∙ append_assoc (taken old) j.ops (t.op ∷ []);
    known = j.takes.known ∙ ap (λ (xs : List OperationValue). j.ops ++ xs) t.takes.known ∙ sym (append_assoc j.ops (t.op ∷ []) (known_items new.ring));
  };
  all_join = all_join_more first 1 most j.ops t.op j.all_join (subst (λ (n : ℕ). joins first n most t.op ≡ true) j.blocks_are t.joins);
  blocks_are = t.blocks_are ∙ ap (run_length_with first t.op) j.blocks_are ∙ sym (grown_by_more first 1 j.ops t.op);
  lent = t.lent ∙ ap (put_in_run first t.op) j.lent ∙ sym (put_more first j.ops t.op before);
}

pub as_long : (xs rest bytes : List ℕ) → length xs ≡ 512 → 512 ≤ length bytes → rest ≡ drop 512 bytes → length (xs ++ rest) ≡ length bytes
as_long xs rest bytes size long is = omega (arith, size, long, length-append xs rest, ap length is, length-drop 512 bytes)
