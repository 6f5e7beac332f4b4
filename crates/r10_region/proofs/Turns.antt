-- Which ring is in hand.
use Rattle.std.proofs.Common.{◌≡◌, ◌≢◌, ◌⊎◌, inl, inr, ℕ, ◌<◌, Bool, true, false, List, [], ◌∷◌, ◌++◌, length, Option, None, Some, MatchBool, refl, sym, ap, subst, arith, ◌∙◌}
use Rattle.std.proofs.lemmas.Bool.{true≢false}
use Rattle.std.proofs.lemmas.List.{append-nil, append_assoc}
use Rattle.rtrb.specs.Ring.{sent, received, known_items, IsPair}
use Rattle.r10_region.proofs.Lines.{linked_at, ring_is, told_before_append, told_before_more}
use Rattle.r10_region.specs.Ahead.{links_ahead}
use Rattle.r10_region.specs.Links.{RingName, last_name, name_of, told_before, AreLinked}
use Rattle.r10_region.specs.Orders.{taken, all_handed_out, no_order, no_run, order_out, written_bytes}
use Rattle.r10_region.specs.Orders.{Hands, HandsMore, HandsNext, HandsNextRun, HandsNone, HasAhead, HasHandedAll, IsSameEnd, IsSameQueueEnd, IsTied, LineLooked, LooksAtLine}
use Rattle.r10_region.specs.declared.operation.Operation.TheVariants.{Write, Sync}
use Rattle.r10_region.specs.declared.orders.OrderOut.{OrderOut}
use Rattle.r10_region.specs.declared.orders.RunOut.{RunOut}
use Rattle.r10_region.specs.declared.ahead.Ahead.{Ahead}
use Rattle.r10_region.specs.declared.line.Line.{Line as LineValue}
use Rattle.r10_region.specs.declared.link.Link.{Link}
use Rattle.r10_region.specs.declared.operation.Operation.{Operation as OperationValue}
use Rattle.r10_region.specs.declared.orders.Orders.{Orders as OrdersValue}

pub some_known : {X : Type 0} (xs : List X) (n : ℕ) → n ≡ length xs → 0 < n → xs ≢ []
some_known xs n e lt is = omega (arith, e, lt, ap length is)

pub on_false : (A B : Type 0) (b : Bool) → MatchBool b A B → b ≡ false → B
on_false A B true m e = absurd (true≢false e)
on_false A B false m e = m

is_there : {X : Type 0} → Option X → Bool
is_there None = false
is_there (Some x) = true

pub not_some : {X : Type 0} (o : Option X) (x : X) → o ≡ None → o ≡ Some x → ⊥
unfolding is_there
not_some o x e f = true≢false (ap is_there (sym f ∙ e))

-- the ring in hand had all that was put into it before the ring ahead was begun
pub moved_same : (done links : List Link) (was : Link) (ops known now : List OperationValue) → links ≡ done ++ was ∷ [] → now ≡ [] → known ≡ [] → ops ++ known ≡ sent was.before
    → told_before links ++ now ≡ told_before done ++ ops
moved_same done links was ops known now is none out all =
    let all_out : ops ≡ sent was.before = sym (append-nil ops) ∙ ap (λ (xs : List OperationValue). ops ++ xs) (sym out) ∙ all in
    ap (λ (xs : List OperationValue). told_before links ++ xs) none ∙ append-nil (told_before links) ∙ ap told_before is ∙ told_before_more done was
    ∙ ap (λ (xs : List OperationValue). told_before done ++ xs) (sym all_out)

-- the links that were taken out, where one is ahead
pub with_ahead : (o : OrdersValue) (a : Ahead) → o.ahead ≡ Some a → received o.links ≡ received o.done.value ++ a.was.value ∷ []
with_ahead o a e = o.taken ∙ ap (λ (x : Option Ahead). received o.done.value ++ links_ahead x) e

-- and where none is
pub with_none : (o : OrdersValue) → o.ahead ≡ None → received o.links ≡ received o.done.value
with_none o e = o.taken ∙ ap (λ (x : Option Ahead). received o.done.value ++ links_ahead x) e ∙ append-nil (received o.done.value)

pub queue_on : (a b c : OrdersValue) → IsSameQueueEnd a b → IsSameQueueEnd b c → IsSameQueueEnd a c
queue_on a b c p q = record { links = q.links ∙ p.links; first = q.first ∙ p.first; was = q.was ∙ p.was; news = q.news ∙ p.news; spares = q.spares ∙ p.spares; room = q.room ∙ p.room }

-- they stay tied
pub tied_on : (l m : LineValue) (a b : OrdersValue) → IsTied l a → LineLooked l m → IsSameQueueEnd a b → IsTied m b
tied_on l m a b t p q = record {
  links = p.links ∙ t.links ∙ sym q.links;
  first = ap (λ (s : _). name_of s.value.end) p.first ∙ t.first ∙ ap (λ (s : _). name_of s.value.end) (sym q.first);
}

-- what is on the way while links are taken out
pub record Goes (l m : LineValue) (old new : OrdersValue) (n : ℕ) : Type 0 where
  pub line : LineLooked l m
  pub queue : IsSameQueueEnd old new
  pub same : all_handed_out new ≡ all_handed_out old
  pub none : new.ahead ≡ None
  pub all : received new.links ++ known_items new.links ≡ sent m.links
  pub left : length (known_items new.links) ≡ n

more_after : (links done known : List Link) (was : Link) (ops here last : List OperationValue) → links ≡ (done ++ was ∷ []) ++ known → ops ++ here ≡ sent was.before
    → told_before links ++ last ≡ (told_before done ++ ops) ++ (here ++ (told_before known ++ last))
more_after links done known was ops here last is all =
    let front = told_before (done ++ was ∷ []) in
    ap (λ (ls : List Link). told_before ls ++ last) is ∙ ap (λ (xs : List OperationValue). xs ++ last) (told_before_append (done ++ was ∷ []) known)
    ∙ append_assoc front (told_before known) last
    ∙ ap (λ (xs : List OperationValue). xs ++ (told_before known ++ last)) (told_before_more done was ∙ ap (λ (xs : List OperationValue). told_before done ++ xs) (sym all) ∙ sym (append_assoc (told_before done) ops here))
    ∙ append_assoc (told_before done ++ ops) here (told_before known ++ last)

-- the ring in hand has more, and another one is ahead
pub reached_more : (l m : LineValue) (old new : OrdersValue) (known : List Link) → LineLooked l m → IsSameQueueEnd old new → all_handed_out new ≡ all_handed_out old → received new.links ++ known ≡ sent m.links
    → HasAhead new → LooksAtLine l m old new
reached_more l m old new known line queue same all has = record {
  line = line;
  queue = queue;
  same = same;
  more = told_before known ++ sent m.ring;
  all = more_after (sent m.links) (received new.done.value) known has.one.was.value (taken new) (known_items new.ring) (sent m.ring)
      (sym all ∙ ap (λ (ls : List Link). ls ++ known) (with_ahead new has.one has.ahead)) has.fifo;
  none = λ e. absurd (has.some e);
}

-- the link that comes next has the other end of the ring in hand
pub next_ring : (m : LineValue) (o : OrdersValue) (l : Link) (known : List Link) → IsTied m o → o.ahead ≡ None → received o.links ++ known_items o.links ≡ sent m.links → known_items o.links ≡ l ∷ known
    → name_of l.before.end ≡ name_of o.ring.end
next_ring m o l known t none all is =
    let links = received o.done.value in
    linked_at (name_of m.first.value.end) links known l (subst (AreLinked (name_of m.first.value.end))
    (sym all ∙ ap (λ (ls : List Link). ls ++ known_items o.links) (with_none o none) ∙ ap (λ (ls : List Link). links ++ ls) is) m.linked)
    ∙ ap (λ (n : RingName). last_name n links) t.first ∙ sym o.at

-- one link was taken out, after which all are still there
pub popped_all : (old new known later all : List Link) (l : Link) → new ≡ old ++ l ∷ [] → known ≡ l ∷ later → old ++ known ≡ all → new ++ later ≡ all
popped_all old new known later all l out is e =
    ap (λ (ls : List Link). ls ++ later) out ∙ append_assoc old (l ∷ []) later ∙ ap (λ (ls : List Link). old ++ ls) (sym is) ∙ e

-- ---- what was handed out

pub end_queue : (a b : OrdersValue) → IsSameEnd a b → IsSameQueueEnd a b
end_queue a b q = record { links = ap (λ (c : _). name_of c.end) q.links; first = q.turn.first; was = q.turn.was; news = q.news; spares = q.spares; room = q.room }

handed_on : (a b : OrdersValue) (ops : List OperationValue) → IsSameEnd a b → taken b ≡ taken a ++ ops → all_handed_out b ≡ all_handed_out a ++ ops
handed_on a b ops q is =
    ap (λ (d : _). told_before (received d.value) ++ taken b) q.turn.done ∙ ap (λ (xs : List OperationValue). told_before (received a.done.value) ++ xs) is
    ∙ sym (append_assoc (told_before (received a.done.value)) (taken a) ops)

handed_still : (a b : OrdersValue) → IsSameEnd a b → taken b ≡ taken a → all_handed_out b ≡ all_handed_out a
handed_still a b q is =
    ap (λ (d : _). told_before (received d.value) ++ taken b) q.turn.done ∙ ap (λ (xs : List OperationValue). told_before (received a.done.value) ++ xs) is

module _ (wanted more : List OperationValue) (old mid new : OrdersValue) (same : all_handed_out mid ≡ all_handed_out old) (all : wanted ≡ all_handed_out mid ++ (known_items mid.ring ++ more)) (q : IsSameEnd mid new) where
  hands_more : (ops : List OperationValue) → taken new ≡ taken mid ++ ops → known_items mid.ring ≡ ops ++ known_items new.ring → HandsMore ops wanted old new
  hands_more ops is known = let on = handed_on mid new ops q is in let rest = known_items new.ring ++ more in record {
    more = on ∙ ap (λ (xs : List OperationValue). xs ++ ops) same;
    rest = rest;
    next = all ∙ ap (λ (k : List OperationValue). all_handed_out mid ++ (k ++ more)) known
        ∙ ap (λ (xs : List OperationValue). all_handed_out mid ++ xs) (append_assoc ops (known_items new.ring) more) ∙ sym (append_assoc (all_handed_out mid) ops rest)
        ∙ ap (λ (xs : List OperationValue). xs ++ rest) (sym on);
  }

  handed_all : {Out : Type 0} (none_is out : Out) (before after : List ℕ) → (known_items mid.ring ≡ [] → more ≡ []) → HandsNone none_is mid new out before after
      → HasHandedAll none_is wanted old new out before after
  handed_all none_is out before after none h = let still = handed_still mid new q h.has.no_more in record {
    no_more = still ∙ same;
    all = all ∙ ap (λ (k : List OperationValue). all_handed_out mid ++ (k ++ more)) h.has.none ∙ ap (λ (xs : List OperationValue). all_handed_out mid ++ xs) (none h.has.none) ∙ append-nil (all_handed_out mid) ∙ sym still;
    reported = h.reported;
    lent = h.lent;
  }

  pub order_next : (out : OrderOut) (before after : List ℕ) → (known_items mid.ring ≡ [] → more ≡ [])
      → ((op : OperationValue) × Hands op mid new out before after) ⊎ HandsNone no_order mid new out before after
      → ((op : OperationValue) × HandsMore (op ∷ []) wanted old new × (out ≡ order_out op) × (after ≡ written_bytes op before)) ⊎ HasHandedAll no_order wanted old new out before after
  order_next out before after none (inl (op, h)) = inl (op, hands_more (op ∷ []) h.takes.one_more h.takes.known, h.reported, h.lent)
  order_next out before after none (inr h) = inr (handed_all no_order out before after none h)

  pub run_next : (out : RunOut) (before after : List ℕ) → (known_items mid.ring ≡ [] → more ≡ []) → HandsNext mid new out before after → HandsNextRun wanted old new out before after
  run_next out before after none (HandsNext.run first bytes ops takes is) = HandsNextRun.run first bytes ops (hands_more (Write first bytes ∷ ops) takes.more takes.known) is
  run_next out before after none (HandsNext.sync takes reported lent) = HandsNextRun.sync (hands_more (Sync ∷ []) takes.one_more takes.known) reported lent
  run_next out before after none (HandsNext.none h) = HandsNextRun.none (handed_all no_run out before after none h)
