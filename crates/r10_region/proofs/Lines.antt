-- A line goes on in a further ring.
use Rattle.std.proofs.Common.{◌≡◌, ℕ, Bool, List, [], ◌∷◌, ◌++◌, length, take, Some, inl, inr, refl, sym, ap, subst, arith, ◌∙◌, ◌<◌}
use Rattle.std.proofs.lemmas.List.{append-nil, append_assoc, get_or_append_left, length_push, take-append-le}
use Rattle.std.proofs.lemmas.Option.{get_or_from_slice_get, same_Some, slice_get-get_or, slice_get_within}
use Rattle.std.proofs.Math.Seq.{take-append_seam}
use Rattle.std.specs.List.{slice_get}
use Rattle.std.specs.declared.alloc.Global.{Global}
use Rattle.std.proofs.lemmas.Bool.{cases_lt}
use Rattle.rtrb.specs.Ends.{SameRing}
use Rattle.rtrb.specs.Ring.{sent, known_free, SameProducer, SameConsumer}
use Rattle.rtrb.specs.declared.end.End.{End}
use Rattle.rtrb.specs.declared.producer.Producer.{Producer}
use Rattle.r10_region.specs.Line.{KeepsLine}
use Rattle.r10_region.specs.Links.{RingName, last_name, name_of, told_before, AreLinked}
use Rattle.r10_region.specs.declared.operation.Operation.{Operation as OperationValue}
use Rattle.r10_region.specs.declared.link.Link.{Link}
use Rattle.r10_region.specs.declared.line.Line.{Line as LineValue}

pub told_before_more : (links : List Link) (l : Link) → told_before (links ++ l ∷ []) ≡ told_before links ++ sent l.before
told_before_more [] l = append-nil (sent l.before)
told_before_more (m ∷ links) l =
    ap (λ (xs : List OperationValue). sent m.before ++ xs) (told_before_more links l) ∙ sym (append_assoc (sent m.before) (told_before links) (sent l.before))

pub told_anew : (old mid new : List Link) (l : Link) (ring now : List OperationValue) (op : OperationValue) → new ≡ mid ++ l ∷ [] → mid ≡ old → sent l.before ≡ ring → now ≡ op ∷ []
    → told_before new ++ now ≡ (told_before old ++ ring) ++ op ∷ []
told_anew old mid new l ring now op out same before is =
    ap (λ (xs : List OperationValue). told_before new ++ xs) is
    ∙ ap (λ (ls : List Link). told_before ls ++ op ∷ []) (out ∙ ap (λ (ls : List Link). ls ++ l ∷ []) same)
    ∙ ap (λ (xs : List OperationValue). xs ++ op ∷ []) (told_before_more old l)
    ∙ ap (λ (xs : List OperationValue). (told_before old ++ xs) ++ op ∷ []) before

pub out_on : (new mid old : List Link) (l : Link) → new ≡ mid ++ l ∷ [] → mid ≡ old → new ≡ old ++ l ∷ []
out_on new mid old l out same = out ∙ ap (λ (ls : List Link). ls ++ l ∷ []) same

module _ {T A P : Type 0} where
  pub ring_on : (a b c : End T A P) → SameRing a b → SameRing b c → SameRing a c
  ring_on a b c p q = (q.0 ∙ p.0, q.1 ∙ p.1, q.2 ∙ p.2, q.3 ∙ p.3)

  pub ring_back : (a b c : End T A P) → SameRing a b → SameRing a c → SameRing b c
  ring_back a b c p q = (q.0 ∙ sym p.0, q.1 ∙ sym p.1, q.2 ∙ sym p.2, q.3 ∙ sym p.3)

  pub producer_on : (a b c : Producer T A P) → SameProducer a b → SameProducer b c → SameProducer a c
  producer_on a b c p q = (ring_on a.end b.end c.end p.0 q.0, q.1 ∙ p.1)

-- the ring in use was looked at, and has no place
pub keeps_behind : (reported : Bool) (old mid new : LineValue) → mid.links ≡ old.links → mid.spares ≡ old.spares → mid.first ≡ old.first → SameProducer old.ring mid.ring → sent mid.ring ≡ sent old.ring → known_free old.ring ≡ 0
    → KeepsLine reported mid new → KeepsLine reported old new
keeps_behind reported old mid new links spares first ring same none k = record {
  links = subst (λ (p : _). SameProducer p new.links) links k.links;
  ring = elim k.ring [
    | inl keeps ↦ inl (record { out = keeps.out ∙ ap sent links; ring = producer_on old.ring mid.ring new.ring ring keeps.ring })
    | inr begins ↦ inr (record {
      link = begins.link;
      out = begins.out ∙ ap (λ p. sent p ++ begins.link ∷ []) links;
      before = begins.before ∙ same;
      pair = begins.pair;
      fresh = begins.fresh;
    })
  ];
  places = omega (arith, none);
  full = λ e. (none, (k.full e).1);
  spares = subst (λ (c : _). SameConsumer c new.spares) spares k.spares;
  first = k.first ∙ first;
  no_spare = k.no_spare;
}

pub none_of : (n : ℕ) → (0 < n → ⊥) → n ≡ 0
none_of n f = elim (cases_lt 0 n) [
  | inl less ↦ absurd (f less)
  | inr more ↦ omega (arith, more)
]

-- ---- names of rings

module _ {T P : Type 0} where
  -- the same ring has the same name
  pub name_is : (a b : End T Global P) → SameRing a b → name_of b ≡ name_of a
  name_is a b s = rw (s.0, s.1, s.2, s.3) refl

  pub ring_is : (a b : End T Global P) → name_of a ≡ name_of b → SameRing a b
  ring_is a b e = (ap (λ (n : RingName). n.words) (sym e), ap (λ (n : RingName). n.slots) (sym e), ap (λ (n : RingName). n.names) (sym e), ap (λ (n : RingName). n.heap) (sym e))

pub last_name_more : (first : RingName) (links : List Link) (l : Link) → last_name first (links ++ l ∷ []) ≡ name_of l.next.end
last_name_more first [] l = refl
last_name_more first (m ∷ links) l = last_name_more (name_of m.next.end) links l

-- read at a place of a list of which one more is the last
pub get_last : {X : Type 0} (xs : List X) (x y : X) (rest : List X) → slice_get (xs ++ x ∷ rest) (length xs) ≡ Some y → y ≡ x
get_last [] x y rest e = sym (same_Some x y e)
get_last (z ∷ xs) x y rest e = get_last xs x y rest e

pub get_front : {X : Type 0} (xs ys : List X) (i : ℕ) (x : X) → i < length xs → slice_get (xs ++ ys) i ≡ Some x → slice_get xs i ≡ Some x
get_front xs ys i x less at =
    slice_get-get_or xs i x less ∙ ap (λ (y : _). Some y) (sym (get_or_append_left xs ys x i less) ∙ get_or_from_slice_get (xs ++ ys) i x x at)

pub get_seam : {X : Type 0} (xs : List X) (x : X) (rest : List X) → slice_get (xs ++ x ∷ rest) (length xs) ≡ Some x
get_seam [] x rest = refl
get_seam (z ∷ xs) x rest = get_seam xs x rest

-- one more
pub linked_more : (first : RingName) (links : List Link) (l : Link) → AreLinked first links → name_of l.before.end ≡ last_name first links → AreLinked first (links ++ l ∷ [])
linked_more first links l are is i m at = elim (cases_lt i (length links)) [
  | inl less ↦ are i m (get_front links (l ∷ []) i m less at) ∙ ap (last_name first) (sym (take-append-le i links (l ∷ []) (omega (arith, less))))
  | inr more ↦
      let here : i ≡ length links = omega (arith, more, slice_get_within (links ++ l ∷ []) i m at, length_push links l) in
      let same : m ≡ l = get_last links l m [] (subst (λ (k : ℕ). slice_get (links ++ l ∷ []) k ≡ Some m) here at) in
      ap (λ (x : Link). name_of x.before.end) same ∙ is ∙ ap (last_name first) (sym (ap (λ (k : ℕ). take k (links ++ l ∷ [])) here ∙ take-append_seam links (l ∷ [])))
]

-- the first of those that come after some
pub linked_at : (first : RingName) (links rest : List Link) (l : Link) → AreLinked first (links ++ l ∷ rest) → name_of l.before.end ≡ last_name first links
linked_at first links rest l are = are (length links) l (get_seam links l rest) ∙ ap (last_name first) (take-append_seam links (l ∷ rest))

pub told_before_append : (links rest : List Link) → told_before (links ++ rest) ≡ told_before links ++ told_before rest
told_before_append [] rest = refl
told_before_append (l ∷ links) rest = ap (λ (xs : List OperationValue). sent l.before ++ xs) (told_before_append links rest) ∙ sym (append_assoc (sent l.before) (told_before links) (told_before rest))

pub linked_anew : (first : RingName) (old mid new : List Link) (l : Link) → new ≡ mid ++ l ∷ [] → mid ≡ old → AreLinked first old → name_of l.before.end ≡ last_name first old → AreLinked first new
linked_anew first old mid new l out same are is = subst (AreLinked first) (sym (out_on new mid old l out same)) (linked_more first old l are is)

pub last_anew : (first ring : RingName) (old mid new : List Link) (l : Link) → new ≡ mid ++ l ∷ [] → mid ≡ old → ring ≡ name_of l.next.end → ring ≡ last_name first new
last_anew first ring old mid new l out same is = is ∙ sym (ap (last_name first) (out_on new mid old l out same) ∙ last_name_more first old l)
