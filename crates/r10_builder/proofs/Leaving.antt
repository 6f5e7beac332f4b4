-- What a call on the builders leaves open, and so which packets it closes.
use Rattle.std.proofs.Common.{◌≡◌, ℕ, zero, suc, ◌+◌, ◌<◌, Bool, true, false, cond, List, [], ◌∷◌, ◌++◌, length, find, drop, get_or, map, set, take, None, Some, Option, Ok, Err, Result, refl, sym, ap, subst, ◌∙◌, arith}
use Rattle.std.specs.Prelude.{IfNone, IfOk, IfSome, IsTrue, MatchOption, MatchResult, OnErr}
use Rattle.std.specs.List.{AllByRecursion, position}
use Rattle.std.proofs.lemmas.Bool.{eq-eqb, eqb-true, ne_eqb}
use Rattle.std.proofs.lemmas.List.{map-append}
use Rattle.std.proofs.lemmas.List.Elements.{filter-append}
use Rattle.r10_body.specs.Files.{on_channel}
use Rattle.r10_body.specs.Rules.{is_entry_on}
use Rattle.r10_body.specs.declared.entry.Entry.{Entry}
use Rattle.r10_body.specs.declared.entry.Sample.{Sample}
use Rattle.r10_body.specs.declared.spec.ChannelSpec.{ChannelSpec}
use Rattle.r10_builder.specs.Grows.{BuildersAreApart, is_open_builder}
use Rattle.r10_builder.specs.LeftOpen.{ChangesFirst, LeavesOpen, LeavesOpenUpTo, TakesIntoBuilder, closing, filled_up, next_open, open_in, sample_of_entry, still_open, with_taken}
use Rattle.r10_builder.specs.Packing.{entry_on, reason}
use Rattle.r10_builder.specs.Settings.{AreChannelSettings, is_of, is_old, specs_of}
use Rattle.r10_builder.specs.State.{BuilderState, HandsOut, Pushed}
use Rattle.r10_builder.specs.declared.closed.Closed.{Closed}
use Rattle.r10_builder.specs.declared.closed.Reason.{Reason}
use Rattle.r10_builder.proofs.First.{place_found, place_split}
use Rattle.r10_builder.proofs.Places.{are_apart, not_first}

both : {A : Type 0} {x y : A} {xs ys : List A} → x ≡ y → xs ≡ ys → x ∷ xs ≡ y ∷ ys
both {A} {x} {y} {xs} {ys} head tail = ap (λ (z : A). z ∷ xs) head ∙ ap (λ (zs : List A). y ∷ zs) tail

head_of : {A : Type 0} {x y : A} {xs ys : List A} → x ∷ xs ≡ y ∷ ys → x ≡ y
head_of {A} {x} e = ap (λ (l : List A). get_or l 0 x) e

tail_of : {A : Type 0} {x y : A} {xs ys : List A} → x ∷ xs ≡ y ∷ ys → xs ≡ ys
tail_of {A} e = ap (λ (l : List A). drop 1 l) e

-- ---- one builder

pub changes_at : (test : BuilderState → Bool) (Change : BuilderState → BuilderState → Type 0) (builders : List BuilderState) (i : ℕ) (old new : BuilderState) → position test builders ≡ Some i → old ≡ get_or builders i old
    → new.spec ≡ old.spec → Change old new → ChangesFirst test Change builders (set builders i new)
changes_at test Change builders i old new place here same change =
    let split = place_split test builders i old new place in
    record {
      before = split.before;
      was = old;
      later = new;
      behind = split.behind;
      old_are = split.was ∙ ap (λ (b : BuilderState). split.before ++ b ∷ split.behind) (sym here);
      new_are = split.now;
      first = split.others;
      passes = ap test here ∙ (place_found test builders i old place).passes;
      spec = same;
      changed = change;
    }

-- one that holds what it held
still_at : (builders : List BuilderState) (i : ℕ) (d new : BuilderState) → new.samples ≡ (get_or builders i d).samples → open_in (set builders i new) ≡ open_in builders
still_at [] i d new same = refl
still_at (b ∷ builders) zero d new same = ap (λ (l : List Sample). l ∷ open_in builders) same
still_at (b ∷ builders) (suc i) d new same = ap (λ (ls : List (List Sample)). b.samples ∷ ls) (still_at builders i d new same)

pub still_there : (builders : List BuilderState) (i : ℕ) (old new : BuilderState) → old ≡ get_or builders i old → new.samples ≡ old.samples → LeavesOpen still_open builders (set builders i new)
still_there builders i old new here same = still_at builders i old new (same ∙ ap (λ (b : BuilderState). b.samples) here)

-- something is handed out
pub first_closed : (Q R : Type 0) (test : BuilderState → Bool) (builders : List BuilderState) (i : ℕ) (old new : BuilderState) (why : Reason) (result : Option Closed) → position test builders ≡ Some i → old ≡ get_or builders i old
    → new.spec ≡ old.spec → MatchOption result (Q × (new ≡ old)) (λ closed. R × HandsOut old why closed [] new)
    → IfSome result (λ closed. ChangesFirst test (λ was later. HandsOut was why closed [] later) builders (set builders i new))
first_closed Q R test builders i old new why None place here same out = tt
first_closed Q R test builders i old new why (Some closed) place here same out =
    changes_at test (λ was later. HandsOut was why closed [] later) builders i old new place here same out.1

-- and of the one that handed it out nothing is left
emptied : (test : BuilderState → Bool) (why : Reason) (closed : Closed) (old new : List BuilderState) → ChangesFirst test (λ was later. HandsOut was why closed [] later) old new → ChangesFirst test (λ was later. later.samples ≡ []) old new
emptied test why closed old new c = record {
  before = c.before;
  was = c.was;
  later = c.later;
  behind = c.behind;
  old_are = c.old_are;
  new_are = c.new_are;
  first = c.first;
  passes = c.passes;
  spec = c.spec;
  changed = c.changed.2;
}

pub handed_first : (X : Closed → Type 0) (test : BuilderState → Bool) (why : Reason) (old new : List BuilderState) (result : Option Closed) → MatchOption result (find test old ≡ None) X → IfNone result (new ≡ old)
    → IfSome result (λ closed. ChangesFirst test (λ was later. HandsOut was why closed [] later) old new)
    → MatchOption result ((new ≡ old) × (find test old ≡ None)) (λ closed. ChangesFirst test (λ was later. later.samples ≡ []) old new)
handed_first X test why old new None none stays closes = (stays, none)
handed_first X test why old new (Some closed) none stays closes = emptied test why closed old new closes

-- ---- a sample

next_is : (old new : BuilderState) (s : Sample) (closed : Option Closed) → Pushed old s closed new → new.samples ≡ next_open (reason old.spec old.samples s) old.samples s
next_is old new s None pushed = pushed.1 ∙ ap (λ (o : Option Reason). next_open o old.samples s) (sym pushed.0)
next_is old new s (Some closed) pushed = pushed.1.2 ∙ ap (λ (o : Option Reason). next_open o old.samples s) (sym pushed.0)

on_own : (channel id : ℕ) (s : Sample) → id ≡ channel → on_channel id (entry_on channel s ∷ []) ≡ entry_on channel s ∷ []
on_own channel id s same = rw (eq-eqb channel id (sym same)) refl

on_none : (channel id : ℕ) (s : Sample) → (id ≡ channel → ⊥) → on_channel id (entry_on channel s ∷ []) ≡ []
on_none channel id s apart = rw (ne_eqb channel id (λ same. apart (sym same))) refl

taken_own : (b : BuilderState) (channel : ℕ) (s : Sample) → b.spec.id ≡ channel → with_taken (entry_on channel s ∷ []) b ≡ next_open (reason b.spec b.samples s) b.samples s
taken_own b channel s same = ap (λ (es : List Entry). filled_up b.spec b.samples (map sample_of_entry es)) (on_own channel b.spec.id s same)

taken_other : (b : BuilderState) (channel : ℕ) (s : Sample) → (b.spec.id ≡ channel → ⊥) → with_taken (entry_on channel s ∷ []) b ≡ b.samples
taken_other b channel s apart = ap (λ (es : List Entry). filled_up b.spec b.samples (map sample_of_entry es)) (on_none channel b.spec.id s apart)

others_stay : (builders : List BuilderState) (channel id : ℕ) (s : Sample) → id ≡ channel → AllByRecursion (λ (c : BuilderState). c.spec.id ≡ id → ⊥) builders → open_in builders ≡ map (with_taken (entry_on channel s ∷ [])) builders
others_stay [] channel id s same apart = refl
others_stay (b ∷ builders) channel id s same apart = both (sym (taken_other b channel s (λ on. apart.0 (on ∙ sym same)))) (others_stay builders channel id s same apart.1)

one_left : (builders : List BuilderState) (i : ℕ) (d new : BuilderState) (channel : ℕ) (s : Sample) → i < length builders → BuildersAreApart builders → (get_or builders i d).spec.id ≡ channel
    → new.samples ≡ next_open (reason (get_or builders i d).spec (get_or builders i d).samples s) (get_or builders i d).samples s → open_in (set builders i new) ≡ map (with_taken (entry_on channel s ∷ [])) builders
one_left [] i d new channel s lt apart on is = absurd (omega arith)
one_left (b ∷ builders) zero d new channel s lt apart on is = both (is ∙ sym (taken_own b channel s on)) (others_stay builders channel b.spec.id s on apart.0)
one_left (b ∷ builders) (suc i) d new channel s lt apart on is =
    both (sym (taken_other b channel s (λ same. not_first b d builders i (omega arith) apart.0 (on ∙ sym same)))) (one_left builders i d new channel s (omega arith) apart.1 on is)

pub taken_there : (builders : List BuilderState) (channel i : ℕ) (old new : BuilderState) (s : Sample) (closed : Option Closed) → position (is_of channel) builders ≡ Some i → old ≡ get_or builders i old → AreChannelSettings 0 (specs_of builders)
    → new.spec ≡ old.spec → Pushed old s closed new → TakesIntoBuilder channel s closed builders (set builders i new)
taken_there builders channel i old new s closed place here are same pushed =
    let at = place_found (is_of channel) builders i old place in
    record {
      one = changes_at (is_of channel) (λ was later. Pushed was s closed later) builders i old new place here same pushed;
      leaves = one_left builders i old new channel s at.within (are_apart 0 builders are) (eqb-true _ channel at.passes)
          (subst (λ (b : BuilderState). new.samples ≡ next_open (reason b.spec b.samples s) b.samples s) here (next_is old new s closed pushed));
    }

pub takes_one : {E : Type 0} (builders : List BuilderState) (channel i : ℕ) (old new : BuilderState) (s : Sample) (result : Result (Option Closed) E) → position (is_of channel) builders ≡ Some i → old ≡ get_or builders i old → AreChannelSettings 0 (specs_of builders)
    → new.spec ≡ old.spec → MatchResult result (λ closed. Pushed old s closed new) (λ _. new.samples ≡ old.samples)
    → MatchResult result (λ closed. TakesIntoBuilder channel s closed builders (set builders i new)) (λ _. LeavesOpen still_open builders (set builders i new))
takes_one builders channel i old new s (Ok closed) place here are same pushed = taken_there builders channel i old new s closed place here are same pushed
takes_one builders channel i old new s (Err e) place here are same pushed = still_there builders i old new here pushed

pub joins_one : {E : Type 0} (builders : List BuilderState) (channel i : ℕ) (old new : BuilderState) (s : Sample) (result : Result Bool E) → position (is_of channel) builders ≡ Some i → old ≡ get_or builders i old → AreChannelSettings 0 (specs_of builders)
    → new.spec ≡ old.spec → IfOk result (λ joined. IsTrue joined → Pushed old s None new) → OnErr result (new.samples ≡ old.samples)
    → MatchResult result (λ joined. IsTrue joined → TakesIntoBuilder channel s None builders (set builders i new)) (λ _. LeavesOpen still_open builders (set builders i new))
joins_one builders channel i old new s (Ok joined) place here are same pushed kept = λ yes. taken_there builders channel i old new s None place here are same (pushed yes)
joins_one builders channel i old new s (Err e) place here are same pushed kept = still_there builders i old new here kept

-- ---- some first channels, and all

-- a test of what is open, which nothing passes where nothing is
pub record TellsOpen (test : BuilderState → Bool) : Type 0 where
  pub same : (b c : BuilderState) → b.samples ≡ c.samples → test b ≡ test c
  pub none : (b : BuilderState) → b.samples ≡ [] → test b ≡ false

pub open_tells : TellsOpen is_open_builder
open_tells = record { same = λ b c e. rw e refl; none = λ b e. rw e refl }

pub old_tells : (now : ℕ) → TellsOpen (is_old now)
old_tells now = record { same = λ b c e. rw e refl; none = λ b e. rw e refl }

none_passes_at : (test : BuilderState → Bool) (b : BuilderState) (builders : List BuilderState) (t : Bool) → test b ≡ t → find test (b ∷ builders) ≡ None → (test b ≡ false) × (find test builders ≡ None)
none_passes_at test b builders true h none = absurd (let some : Some b ≡ None = rw h at none in cc)
none_passes_at test b builders false h none = (h, rw h at none)

none_passes : (test : BuilderState → Bool) (b : BuilderState) (builders : List BuilderState) → find test (b ∷ builders) ≡ None → (test b ≡ false) × (find test builders ≡ None)
none_passes test b builders none = none_passes_at test b builders (test b) refl none

closed_here : (test : BuilderState → Bool) (b : BuilderState) → test b ≡ true → [] ≡ closing test b
closed_here test b h = rw h refl

left_here : (test : BuilderState → Bool) (b : BuilderState) → test b ≡ false → b.samples ≡ closing test b
left_here test b h = rw h refl

module _ {test : BuilderState → Bool} (tells : TellsOpen test) where
  left_fails_at : (b c : BuilderState) (t : Bool) → test b ≡ t → c.samples ≡ cond t [] b.samples → test c ≡ false
  left_fails_at b c true h e = tells.none c e
  left_fails_at b c false h e = tells.same c b e ∙ h

  left_fails : (b c : BuilderState) → c.samples ≡ closing test b → test c ≡ false
  left_fails b c e = left_fails_at b c (test b) refl e

  -- what is open of one that does not pass is what is left of the one that was there
  left_still : (b c : BuilderState) → c.samples ≡ b.samples → test c ≡ false → c.samples ≡ closing test b
  left_still b c e fails = e ∙ left_here test b (tells.same b c (sym e) ∙ fails)

  close_next : (xs before behind : List BuilderState) (was later : BuilderState) (n : ℕ) → open_in (before ++ was ∷ behind) ≡ map (closing test) (take n xs) ++ open_in (drop n xs)
      → find test before ≡ None → test was ≡ true → later.samples ≡ [] → LeavesOpenUpTo (closing test) xs (before ++ later ∷ behind)
  close_next [] [] behind was later zero e none passes empty = absurd (cc)
  close_next [] [] behind was later (suc n) e none passes empty = absurd (cc)
  close_next [] (b ∷ before) behind was later zero e none passes empty = absurd (cc)
  close_next [] (b ∷ before) behind was later (suc n) e none passes empty = absurd (cc)
  close_next (x ∷ xs) [] behind was later zero e none passes empty =
      (suc zero, both (empty ∙ closed_here test x (tells.same x was (sym (head_of e)) ∙ passes)) (tail_of e))
  close_next (x ∷ xs) [] behind was later (suc n) e none passes empty = absurd (let no : false ≡ true = sym (left_fails x was (head_of e)) ∙ passes in cc)
  close_next (x ∷ xs) (b ∷ before) behind was later zero e none passes empty =
      let fails = none_passes test b before none in
      let (m, more) = close_next xs before behind was later zero (tail_of e) fails.1 passes empty in
      (suc m, both (left_still x b (head_of e) fails.0) more)
  close_next (x ∷ xs) (b ∷ before) behind was later (suc n) e none passes empty =
      let fails = none_passes test b before none in
      let (m, more) = close_next xs before behind was later n (tail_of e) fails.1 passes empty in
      (suc m, both (head_of e) more)

  close_all : (xs ys : List BuilderState) (n : ℕ) → open_in ys ≡ map (closing test) (take n xs) ++ open_in (drop n xs) → find test ys ≡ None → LeavesOpen (closing test) xs ys
  close_all [] ys zero e none = e
  close_all [] ys (suc n) e none = e
  close_all (x ∷ xs) [] zero e none = absurd (cc)
  close_all (x ∷ xs) [] (suc n) e none = absurd (cc)
  close_all (x ∷ xs) (y ∷ ys) zero e none =
      let fails = none_passes test y ys none in
      both (left_still x y (head_of e) fails.0) (close_all xs ys zero (tail_of e) fails.1)
  close_all (x ∷ xs) (y ∷ ys) (suc n) e none =
      let fails = none_passes test y ys none in
      both (head_of e) (close_all xs ys n (tail_of e) fails.1)

  -- one more is closed
  pub closes_next : (xs ys zs : List BuilderState) → LeavesOpenUpTo (closing test) xs ys → ChangesFirst test (λ was later. later.samples ≡ []) ys zs → LeavesOpenUpTo (closing test) xs zs
  closes_next xs ys zs so_far c =
      let (n, e) = so_far in
      subst (λ (l : List BuilderState). LeavesOpenUpTo (closing test) xs l) (sym c.new_are)
      (close_next xs c.before c.behind c.was c.later n (ap open_in (sym c.old_are) ∙ e) c.first c.passes c.changed)

  -- and where no other passes, all are
  pub closes_all : (xs ys : List BuilderState) → LeavesOpenUpTo (closing test) xs ys → find test ys ≡ None → LeavesOpen (closing test) xs ys
  closes_all xs ys so_far none =
      let (n, e) = so_far in
      close_all xs ys n e none

pub none_closed : (left : BuilderState → List Sample) (xs : List BuilderState) → LeavesOpenUpTo left xs xs
none_closed left [] = (zero, refl)
none_closed left (x ∷ xs) = (zero, refl)

-- the same is open
pub still_up_to : (left : BuilderState → List Sample) (xs ys zs : List BuilderState) → LeavesOpenUpTo left xs ys → LeavesOpen still_open ys zs → LeavesOpenUpTo left xs zs
still_up_to left xs ys zs so_far same =
    let (n, e) = so_far in
    (n, same ∙ e)

-- ---- one call after another

-- what a call leaves of a builder follows from its channel and what is open there
pub same_left : (left : BuilderState → List Sample) → ((b c : BuilderState) → b.spec ≡ c.spec → b.samples ≡ c.samples → left b ≡ left c) → (xs ys : List BuilderState)
    → specs_of ys ≡ specs_of xs → LeavesOpen still_open xs ys → map left ys ≡ map left xs
same_left left same [] [] specs opens = refl
same_left left same [] (y ∷ ys) specs opens = absurd (cc)
same_left left same (x ∷ xs) [] specs opens = absurd (cc)
same_left left same (x ∷ xs) (y ∷ ys) specs opens = both (same y x (head_of specs) (head_of opens)) (same_left left same xs ys (tail_of specs) (tail_of opens))

closing_same : (test : BuilderState → Bool) → TellsOpen test → (b c : BuilderState) → b.spec ≡ c.spec → b.samples ≡ c.samples → closing test b ≡ closing test c
closing_same test tells b c spec same = ap (λ (t : Bool). cond t [] b.samples) (tells.same b c same) ∙ ap (λ (l : List Sample). cond (test c) [] l) same

pub then_closing : (test : BuilderState → Bool) → TellsOpen test → (xs ys zs : List BuilderState) → specs_of ys ≡ specs_of xs → LeavesOpen still_open xs ys → LeavesOpen (closing test) ys zs → LeavesOpen (closing test) xs zs
then_closing test tells xs ys zs specs opens closes = closes ∙ same_left (closing test) (closing_same test tells) xs ys specs opens

filled_more : (spec : ChannelSpec) (samples xs ys : List Sample) → filled_up spec (filled_up spec samples xs) ys ≡ filled_up spec samples (xs ++ ys)
filled_more spec samples [] ys = refl
filled_more spec samples (s ∷ xs) ys = filled_more spec (next_open (reason spec samples s) samples s) xs ys

samples_of_both : (id : ℕ) (xs ys : List Entry) → map sample_of_entry (on_channel id xs) ++ map sample_of_entry (on_channel id ys) ≡ map sample_of_entry (on_channel id (xs ++ ys))
samples_of_both id xs ys = sym (ap (λ (es : List Entry). map sample_of_entry es) (filter-append (is_entry_on id) xs ys) ∙ map-append sample_of_entry (on_channel id xs) (on_channel id ys))

two_taken : (xs ys : List Entry) (b c : BuilderState) → c.spec ≡ b.spec → c.samples ≡ with_taken xs b → with_taken ys c ≡ with_taken (xs ++ ys) b
two_taken xs ys b c spec samples =
    ap (λ (s : ChannelSpec). filled_up s c.samples (map sample_of_entry (on_channel s.id ys))) spec
    ∙ ap (λ (l : List Sample). filled_up b.spec l (map sample_of_entry (on_channel b.spec.id ys))) samples
    ∙ filled_more b.spec b.samples (map sample_of_entry (on_channel b.spec.id xs)) (map sample_of_entry (on_channel b.spec.id ys))
    ∙ ap (λ (l : List Sample). filled_up b.spec b.samples l) (samples_of_both b.spec.id xs ys)

all_taken : (xs ys : List Entry) (old new : List BuilderState) → specs_of new ≡ specs_of old → LeavesOpen (with_taken xs) old new → map (with_taken ys) new ≡ map (with_taken (xs ++ ys)) old
all_taken xs ys [] [] specs opens = refl
all_taken xs ys [] (c ∷ new) specs opens = absurd (cc)
all_taken xs ys (b ∷ old) [] specs opens = absurd (cc)
all_taken xs ys (b ∷ old) (c ∷ new) specs opens = both (two_taken xs ys b c (head_of specs) (head_of opens)) (all_taken xs ys old new (tail_of specs) (tail_of opens))

-- entries were taken, and then others
pub then_taken : (xs ys : List Entry) (old new later : List BuilderState) → specs_of new ≡ specs_of old → LeavesOpen (with_taken xs) old new → LeavesOpen (with_taken ys) new later → LeavesOpen (with_taken (xs ++ ys)) old later
then_taken xs ys old new later specs one two = two ∙ all_taken xs ys old new specs one

taken_same : (more : List Entry) (b c : BuilderState) → b.spec ≡ c.spec → b.samples ≡ c.samples → with_taken more b ≡ with_taken more c
taken_same more b c spec samples = ap (λ (s : ChannelSpec). filled_up s b.samples (map sample_of_entry (on_channel s.id more))) spec ∙ ap (λ (l : List Sample). filled_up c.spec l (map sample_of_entry (on_channel c.spec.id more))) samples

pub still_then_taken : (more : List Entry) (xs ys zs : List BuilderState) → specs_of ys ≡ specs_of xs → LeavesOpen still_open xs ys → LeavesOpen (with_taken more) ys zs → LeavesOpen (with_taken more) xs zs
still_then_taken more xs ys zs specs opens taken = taken ∙ same_left (with_taken more) (taken_same more) xs ys specs opens
