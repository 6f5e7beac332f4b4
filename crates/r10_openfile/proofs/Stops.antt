-- What a stop moved, as the machine's stop.
use Rattle.std.proofs.Common.{◌≡◌, ◌⊎◌, inl, inr, ℕ, zero, suc, ◌+◌, ◌-◌, ◌<◌, ◌≤◌, Bool, true, false, cond, ◌==◌, List, [], ◌∷◌, ◌++◌, length, take, map, count_by, find, Option, Some, None, refl, sym, ap, ◌∙◌, subst, arith, append_assoc, length-append}
use Rattle.std.specs.Prelude.{IsSomeAnd, slice_get}
use Rattle.std.specs.List.{AllByRecursion, flat_map}
use Rattle.std.proofs.lemmas.Bool.{eq-eqb, eqb-true}
use Rattle.std.proofs.lemmas.List.{append-nil}
use Rattle.std.proofs.lemmas.List.Sums.{sum_by-append, sum_by-cons}
use Rattle.r10_body.specs.Cost.{entry_cost}
use Rattle.r10_body.specs.Rules.{is_entry_on}
use Rattle.r10_body.specs.declared.entry.Entry.{Entry}
use Rattle.r10_body.specs.declared.entry.Sample.{Sample}
use Rattle.r10_body.specs.declared.spec.ChannelSpec.{ChannelSpec}
use Rattle.r10_builder.specs.Packing.{entry_on}
use Rattle.r10_packetout.specs.Carries.{Recording}
use Rattle.r10_machine.specs.Calls.{all_waiting, front_of, lanes_without, without}
use Rattle.r10_machine.specs.Config.{Config}
use Rattle.r10_machine.specs.Machine.{File, Lane, lane_in}
use Rattle.r10_machine.specs.Room.{TakesIn, area}
use Rattle.r10_mux.specs.declared.fault.Full.{Full}
use Rattle.r10_machine.specs.Step.{LanesAfter}
use Rattle.r10_machine.specs.declared.event.Event.TheVariants as events
use Rattle.r10_openfile.specs.Machines.{StopMovesAll, HasWaiting}
use Rattle.r10_openfile.specs.Pumping.{PumpEnds, SampleLacks, entries_on}
use Rattle.r10_openfile.specs.Stopping.{OthersGoOn, GoesThrough, Part, entries_of, most_of, samples_on}
use Rattle.r10_openfile.proofs.AllLanes.{none_of as none_of_lanes}
use Rattle.r10_openfile.proofs.Fitting.{asked, take_front, takes_in, why_ended}

-- ---- the front of a channel

front_is : (lanes : List Lane) (p : Part) → HasWaiting lanes p → front_of (lane_in p.channel lanes) ≡ take (most_of (map (λ (l : Lane). l.spec) lanes) p.channel) (entries_on p.channel (p.samples ++ p.rest))
front_is [] p waits = refl
front_is (x ∷ lanes) p waits = by (x.spec.id == p.channel) refl (front_is lanes p waits.1)
  where
    by : (t : Bool) → (x.spec.id == p.channel) ≡ t → front_of (lane_in p.channel lanes) ≡ take (most_of (map (λ (l : Lane). l.spec) lanes) p.channel) (entries_on p.channel (p.samples ++ p.rest))
        → front_of (cond t (Some x) (lane_in p.channel lanes)) ≡ take (elim (cond t (Some x.spec) (find (λ spec. spec.id == p.channel) (map (λ (l : Lane). l.spec) lanes))) [ None ↦ 0 | Some spec ↦ spec.capacity ]) (entries_on p.channel (p.samples ++ p.rest))
    by true is rest =
        let same : x.spec.id ≡ p.channel = eqb-true x.spec.id p.channel is in
        ap (λ (c : ℕ). take x.spec.capacity (entries_on c x.waiting)) same ∙ ap (λ (xs : List Sample). take x.spec.capacity (entries_on p.channel xs)) (waits.0 same)
    by false is rest = rest

-- ---- up to the first that has no room

-- what the machine says of the entry that comes next
abbrev Why : Config → File → Recording → Entry → Type 0
Why s f r e = area s f < r.cost + entry_cost e

first_of_two : (P : Entry → Type 0) (xs ys : List Entry) → IsSomeAnd (slice_get xs 0) P → IsSomeAnd (slice_get (xs ++ ys) 0) P
first_of_two P [] ys is = absurd is
first_of_two P (x ∷ xs) ys is = is

pub none_of : (parts : List Part) → AllByRecursion (λ (q : Part). q.samples ≡ []) parts → entries_of parts ≡ []
none_of [] none = refl
none_of (p ∷ parts) none = rw (none.0, none_of parts none.1) refl

split_parts : (s : Config) (f : File) (r : Recording) (lanes : List Lane) (parts : List Part) → AllByRecursion (HasWaiting lanes) parts
    → AllByRecursion (λ (p : Part). length p.samples ≤ most_of (map (λ (l : Lane). l.spec) lanes) p.channel) parts → GoesThrough (most_of (map (λ (l : Lane). l.spec) lanes)) r (area s f) parts
    → (back : List Entry) × (flat_map (λ c. front_of (lane_in c lanes)) (map (λ (p : Part). p.channel) parts) ≡ entries_of parts ++ back) × ((back ≡ []) ⊎ IsSomeAnd (slice_get back 0) (Why s f r))
split_parts s f r lanes [] waits within through = ([], refl, inl refl)
split_parts s f r lanes (p ∷ parts) waits within through =
    by p.full through.0 through.1 (split_parts s f r lanes parts waits.1 within.1)
  where
    most : ℕ
    most = most_of (map (λ (l : Lane). l.spec) lanes) p.channel

    own : List Entry
    own = entries_on p.channel p.samples

    left : List Entry
    left = take (most - length p.samples) (entries_on p.channel p.rest)

    others : List Entry
    others = flat_map (λ c. front_of (lane_in c lanes)) (map (λ (q : Part). q.channel) parts)

    here : front_of (lane_in p.channel lanes) ≡ own ++ left
    here = front_is lanes p waits.0 ∙ asked p.channel most p.samples p.rest within.0

    whole : (later : List Entry) → left ≡ [] → others ≡ entries_of parts ++ later → front_of (lane_in p.channel lanes) ++ others ≡ (own ++ entries_of parts) ++ later
    whole later none rest =
        ap (λ (es : List Entry). es ++ others) (here ∙ ap (λ (es : List Entry). own ++ es) none ∙ append-nil own) ∙ ap (λ (es : List Entry). own ++ es) rest ∙ sym (append_assoc own (entries_of parts) later)

    cut : AllByRecursion (λ (q : Part). q.samples ≡ []) parts → front_of (lane_in p.channel lanes) ++ others ≡ (own ++ entries_of parts) ++ (left ++ others)
    cut none =
        ap (λ (es : List Entry). es ++ others) here ∙ append_assoc own left others ∙ ap (λ (es : List Entry). es ++ (left ++ others)) (sym (append-nil own) ∙ ap (λ (es : List Entry). own ++ es) (sym (none_of parts none)))

    no_lack : (o : List Sample) (full : Full) → IsSomeAnd (slice_get o 0) (SampleLacks r p.channel (area s f) full) → length p.samples < most → p.rest ≡ o → left ≡ [] → ⊥
    no_lack [] full lacks less is none = lacks
    no_lack (x ∷ o) full lacks less is none =
        let some : most - length p.samples ≡ suc (most - length p.samples - 1) = omega (arith, less) in
        omega (arith, ap (λ (es : List Entry). length es) (ap (λ (xs : List Sample). take (suc (most - length p.samples - 1)) (entries_on p.channel xs)) (sym is) ∙ ap (λ (k : ℕ). take k (entries_on p.channel p.rest)) (sym some) ∙ none))

    by : (ended : Option Full) → PumpEnds r p.channel (area s f) most (length p.samples) p.rest ended → OthersGoOn ended (GoesThrough (most_of (map (λ (l : Lane). l.spec) lanes)) r (area s f) parts) parts
        → (GoesThrough (most_of (map (λ (l : Lane). l.spec) lanes)) r (area s f) parts → (back : List Entry) × (others ≡ entries_of parts ++ back) × ((back ≡ []) ⊎ IsSomeAnd (slice_get back 0) (Why s f r)))
        → (back : List Entry) × (front_of (lane_in p.channel lanes) ++ others ≡ (own ++ entries_of parts) ++ back) × ((back ≡ []) ⊎ IsSomeAnd (slice_get back 0) (Why s f r))
    by None ends on rest =
        let (later, split, why) = rest on in
        (later, whole later (nothing (most - length p.samples) refl) split, why)
      where
        nothing : (k : ℕ) → most - length p.samples ≡ k → take k (entries_on p.channel p.rest) ≡ []
        nothing zero is = refl
        nothing (suc k) is = ap (λ (xs : List Sample). take (suc k) (entries_on p.channel xs)) (ends (omega (arith, is)))
    by (Some ended) ends on rest =
        (left ++ others, cut on, inr (lacks_on (why_ended s f r p.channel most (length p.samples) p.rest (Some ended) within.0 ends)))
      where
        lacks_on : (left ≡ []) ⊎ IsSomeAnd (slice_get left 0) (Why s f r) → IsSomeAnd (slice_get (left ++ others) 0) (Why s f r)
        lacks_on (inl none) = absurd (no_lack p.rest ended ends.1 ends.0 refl none)
        lacks_on (inr lacks) = first_of_two (Why s f r) left others lacks

-- ---- a stop

pub stop_takes_in : (s : Config) (f : File) (lanes : List Lane) (parts : List Part) (n : ℕ) (r : Recording) → StopMovesAll s f lanes parts n r
    → TakesIn s f (all_waiting lanes) n × (take n (all_waiting lanes) ≡ entries_of parts)
stop_takes_in s f lanes parts n r moved =
    let front : List Entry = entries_of parts in
    let (back, split, why) = split_parts s f r lanes parts moved.waits moved.within moved.through in
    let all : all_waiting lanes ≡ front ++ back = ap (flat_map (λ c. front_of (lane_in c lanes))) (sym moved.order_is) ∙ split in (
      subst (λ (es : List Entry). TakesIn s f es n) (sym all) (subst (λ (k : ℕ). TakesIn s f (front ++ back) k) (sym moved.number)
          (takes_in s f front back r.cost moved.cost (λ some. moved.fits (omega (arith, some, moved.number))) why)),
      ap (take n) all ∙ ap (λ (k : ℕ). take k (front ++ back)) moved.number ∙ take_front front back,
    )

-- ---- what each lane gave

on_one : (channel other : ℕ) (samples : List Sample) (t u : Bool) → (other == channel) ≡ t → (channel == other) ≡ u → count_by (is_entry_on channel) (entries_on other samples) ≡ length (cond u samples [])
on_one channel other samples true false is differs = absurd (no (sym (eq-eqb channel other (sym (eqb-true other channel is))) ∙ differs))
  where
    no : true ≡ false → ⊥
    no e = cc
on_one channel other samples false true differs is = absurd (no (sym (eq-eqb other channel (sym (eqb-true channel other is))) ∙ differs))
  where
    no : true ≡ false → ⊥
    no e = cc
on_one channel other [] true true is same = refl
on_one channel other [] false false is same = refl
on_one channel other (x ∷ samples) true true is same =
    let weight : Entry → ℕ = λ e. cond (e.channel == channel) 1 0 in
    let one : weight (entry_on other x) ≡ 1 = ap (λ (t : Bool). cond t 1 0) is in
    omega (arith, sum_by-cons weight (entry_on other x) (entries_on other samples), one, on_one channel other samples true true is same)
on_one channel other (x ∷ samples) false false is same =
    let weight : Entry → ℕ = λ e. cond (e.channel == channel) 1 0 in
    let one : weight (entry_on other x) ≡ 0 = ap (λ (t : Bool). cond t 1 0) is in
    omega (arith, sum_by-cons weight (entry_on other x) (entries_on other samples), one, on_one channel other samples false false is same)

gave : (channel : ℕ) (parts : List Part) → count_by (is_entry_on channel) (entries_of parts) ≡ length (samples_on channel parts)
gave channel [] = refl
gave channel (p ∷ parts) =
    let weight : Entry → ℕ = λ e. cond (e.channel == channel) 1 0 in
    omega (
      arith,
      sum_by-append weight (entries_on p.channel p.samples) (entries_of parts),
      on_one channel p.channel p.samples (p.channel == channel) (channel == p.channel) refl refl,
      length-append (cond (channel == p.channel) p.samples []) (samples_on channel parts),
      gave channel parts,
    )

pub lanes_left : (lanes : List Lane) (parts : List Part) → lanes_without (entries_of parts) lanes ≡ map (λ (lane : Lane). without (length (samples_on lane.spec.id parts)) lane) lanes
lanes_left [] parts = refl
lanes_left (x ∷ lanes) parts = rw (gave x.spec.id parts, lanes_left lanes parts) refl

-- ---- a failure

pub few_on : (specs : List ChannelSpec) (parts : List Part) (channel : ℕ) → count_by (λ c. c == channel) (map (λ (p : Part). p.channel) parts) ≤ 1 → AllByRecursion (λ (p : Part). length p.samples ≤ most_of specs p.channel) parts
    → length (samples_on channel parts) ≤ most_of specs channel
few_on specs [] channel once within = omega arith
few_on specs (p ∷ parts) channel once within =
    by (p.channel == channel) refl (channel == p.channel) refl
    (omega (arith, once, sum_by-cons (λ (c : ℕ). cond (c == channel) 1 0) p.channel (map (λ (q : Part). q.channel) parts)))
    (λ fewer. few_on specs parts channel fewer within.1)
  where
    no : true ≡ false → ⊥
    no e = cc

    by : (t : Bool) → (p.channel == channel) ≡ t → (u : Bool) → (channel == p.channel) ≡ u → cond t 1 0 + count_by (λ c. c == channel) (map (λ (q : Part). q.channel) parts) ≤ 1
        → (count_by (λ c. c == channel) (map (λ (q : Part). q.channel) parts) ≤ 1 → length (samples_on channel parts) ≤ most_of specs channel) → length (cond u p.samples [] ++ samples_on channel parts) ≤ most_of specs channel
    by true is true same once rest =
        let none : samples_on channel parts ≡ [] = none_of_lanes channel parts (omega (arith, once)) in
        let all : p.samples ++ samples_on channel parts ≡ p.samples = ap (λ (xs : List Sample). p.samples ++ xs) none ∙ append-nil p.samples in
        let own : length p.samples ≤ most_of specs channel = subst (λ (c : ℕ). length p.samples ≤ most_of specs c) (eqb-true p.channel channel is) within.0 in
        omega (arith, own, ap (λ (xs : List Sample). length xs) all)
    by true is false same once rest = absurd (no (sym (eq-eqb channel p.channel (sym (eqb-true p.channel channel is))) ∙ same))
    by false is true same once rest = absurd (no (sym (eq-eqb p.channel channel (sym (eqb-true channel p.channel same))) ∙ is))
    by false is false same once rest = rest (omega (arith, once))

pub stop_fails : (parts : List Part) (lanes : List Lane) → AllByRecursion (λ (lane : Lane). length (samples_on lane.spec.id parts) ≤ lane.spec.capacity) lanes
    → LanesAfter events.Stop lanes lanes (map (λ (lane : Lane). without (length (samples_on lane.spec.id parts)) lane) lanes)
stop_fails parts [] few = tt
stop_fails parts (x ∷ lanes) few = ((length (samples_on x.spec.id parts), few.0, refl), stop_fails parts lanes few.1)
