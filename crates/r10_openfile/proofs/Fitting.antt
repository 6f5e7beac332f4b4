-- Entries of which the first fit into a file's area, and the next has no room.
use Rattle.std.proofs.Common.{◌≡◌, ◌⊎◌, inl, inr, ℕ, zero, suc, ◌+◌, ◌-◌, ◌<◌, ◌≤◌, Bool, true, false, List, [], ◌∷◌, ◌++◌, length, take, drop, map, min, nat_le, Option, Some, None, refl, sym, ap, ◌∙◌, subst, arith, slice_get, length-append, cond, ◌==◌}
use Rattle.std.specs.Prelude.{IsSomeAnd, IfSome}
use Rattle.std.proofs.lemmas.Bool.{cases_lt, leb-true, le-leb}
use Rattle.std.proofs.lemmas.List.{append-nil, length-map, map-append, nil_from_length}
use Rattle.std.proofs.lemmas.List.Sums.{sum_by-cons}
use Rattle.std.specs.List.{sum_by}
use Rattle.r10_body.specs.Cost.{entry_cost}
use Rattle.r10_body.specs.declared.entry.Entry.{Entry}
use Rattle.r10_body.specs.declared.entry.Sample.{Sample}
use Rattle.r10_builder.specs.Packing.{entry_on}
use Rattle.r10_packetout.specs.Carries.{Recording}
use Rattle.r10_machine.specs.Calls.{Pumps, without}
use Rattle.r10_machine.specs.Config.{Config}
use Rattle.r10_machine.specs.Machine.{File, Lane, Machine, change_first, is_channel, last_file, lane_of, waiting_entries, with_entries, with_lane, with_last}
use Rattle.r10_machine.specs.Room.{TakesIn, area, cost_of, fitting, room_for}
use Rattle.r10_machine.specs.Step.{Lacks, LanesAfter, entry_has_room, has_room, needed}
use Rattle.r10_machine.specs.declared.event.Event.{Event as EventValue}
use Rattle.r10_machine.specs.declared.event.Event.TheVariants as events
use Rattle.r10_mux.specs.declared.fault.Full.{Full}
use Rattle.r10_mux.specs.declared.fault.Full.TheVariants as lacking
use Rattle.r10_openfile.specs.Pumping.{PumpEnds, SampleLacks, entries_on}
use Rattle.r10_openfile.specs.Machines.{IsPumpedInto, refusal_of_full}
use Rattle.r10_machine.proofs.Recording.{fitting_short}

-- ---- how many fit

no_more : (spent room : ℕ) → room < spent → nat_le spent room ≡ false
no_more spent room lt = by (nat_le spent room) refl
  where
    by : (b : Bool) → nat_le spent room ≡ b → nat_le spent room ≡ false
    by true is = absurd (omega (arith, lt, leb-true spent room is))
    by false is = is

-- those that cost no more than there is room for fit
front_fits : (room spent : ℕ) (xs ys : List Entry) → spent + sum_by entry_cost xs ≤ room → length xs ≤ fitting room spent (xs ++ ys)
front_fits room spent [] ys le = omega arith
front_fits room spent (x ∷ xs) ys le =
    let sum : sum_by entry_cost (x ∷ xs) ≡ entry_cost x + sum_by entry_cost xs = sum_by-cons entry_cost x xs in
    rw (le-leb (spent + entry_cost x) room (omega (arith, le, sum))) (omega (arith, front_fits room (spent + entry_cost x) xs ys (omega (arith, le, sum))))

-- and no more, where the next costs too much
next_stops : (room spent : ℕ) (xs : List Entry) (y : Entry) (ys : List Entry) → room < spent + sum_by entry_cost xs + entry_cost y → fitting room spent (xs ++ y ∷ ys) ≤ length xs
next_stops room spent [] y ys lt = let none : nat_le (spent + entry_cost y) room ≡ false = no_more (spent + entry_cost y) room (omega (arith, lt)) in rw none (omega arith)
next_stops room spent (x ∷ xs) y ys lt = by (nat_le (spent + entry_cost x) room) refl (next_stops room (spent + entry_cost x) xs y ys (omega (arith, lt, sum_by-cons entry_cost x xs)))
  where
    by : (b : Bool) → nat_le (spent + entry_cost x) room ≡ b → fitting room (spent + entry_cost x) (xs ++ y ∷ ys) ≤ length xs → fitting room spent (x ∷ xs ++ y ∷ ys) ≤ suc (length xs)
    by true is rest = rw is (omega (arith, rest))
    by false is rest = rw is (omega arith)

pub take_front : {X : Type 0} (xs ys : List X) → take (length xs) (xs ++ ys) ≡ xs
take_front [] ys = refl
take_front (x ∷ xs) ys = ap (λ (l : List _). x ∷ l) (take_front xs ys)

pub drop_front : {X : Type 0} (xs ys : List X) → drop (length xs) (xs ++ ys) ≡ ys
drop_front [] ys = refl
drop_front (x ∷ xs) ys = drop_front xs ys

-- ---- what goes in

-- The first go in, where they have room, and where nothing is after them or what comes next costs too much.
pub takes_in : (s : Config) (f : File) (front back : List Entry) (cost : ℕ) → cost ≡ cost_of f + sum_by entry_cost front → (0 < length front → cost ≤ area s f)
    → (back ≡ []) ⊎ IsSomeAnd (slice_get back 0) (λ e. area s f < cost + entry_cost e) → TakesIn s f (front ++ back) (length front)
takes_in s f front back cost is room why = omega (arith, within front is room, most back why)
  where
    within : (xs : List Entry) → cost ≡ cost_of f + sum_by entry_cost xs → (0 < length xs → cost ≤ area s f) → length xs ≤ fitting (area s f) (cost_of f) (xs ++ back)
    within [] is room = omega arith
    within (x ∷ xs) is room = front_fits (area s f) (cost_of f) (x ∷ xs) back (omega (arith, is, room (omega arith)))

    most : (back : List Entry) → (back ≡ []) ⊎ IsSomeAnd (slice_get back 0) (λ e. area s f < cost + entry_cost e) → room_for s f (front ++ back) ≤ length front
    most [] why = omega (arith, fitting_short (area s f) (cost_of f) (front ++ []), ap (λ (es : List Entry). length es) (append-nil front))
    most (e ∷ back) (inl none) = absurd (omega (arith, ap (λ (es : List Entry). length es) none))
    most (e ∷ back) (inr much) = next_stops (area s f) (cost_of f) front e back (omega (arith, is, much))

-- ---- of a lane

-- of the first that wait, at most so many, these are the front
pub asked : (channel most : ℕ) (xs ys : List Sample) → length xs ≤ most → take most (map (entry_on channel) (xs ++ ys)) ≡ entries_on channel xs ++ take (most - length xs) (entries_on channel ys)
asked channel most [] ys le = ap (λ (n : ℕ). take n (entries_on channel ys)) (omega arith)
asked channel zero (x ∷ xs) ys le = absurd (omega (arith, le))
asked channel (suc most) (x ∷ xs) ys le =
    let same : suc most - suc (length xs) ≡ most - length xs = omega arith in
    rw same (ap (λ (es : List Entry). entry_on channel x ∷ es) (asked channel most xs ys (omega (arith, le))))

-- why it ended, in the machine's words
pub why_ended : (s : Config) (f : File) (r : Recording) (channel most n : ℕ) (rest : List Sample) (ended : Option Full) → n ≤ most → PumpEnds r channel (area s f) most n rest ended
    → (take (most - n) (entries_on channel rest) ≡ []) ⊎ IsSomeAnd (slice_get (take (most - n) (entries_on channel rest)) 0) (λ e. area s f < r.cost + entry_cost e)
why_ended s f r channel most n rest None le ends = inl (none (most - n) refl rest ends)
  where
    none : (k : ℕ) → most - n ≡ k → (rest : List Sample) → (n < most → rest ≡ []) → take k (entries_on channel rest) ≡ []
    none zero is rest ends = refl
    none (suc k) is rest ends = ap (λ (xs : List Sample). take (suc k) (entries_on channel xs)) (ends (omega (arith, is)))
why_ended s f r channel most n [] (Some ended) le (lt, ends) = absurd ends
why_ended s f r channel most n (x ∷ rest) (Some lacking.Medium) le (lt, ends) =
    let some : most - n ≡ suc (most - n - 1) = omega (arith, lt) in
    rw some (inr (omega (arith, ends)))

-- what a pump moved is what the machine's pump takes in, and what it leaves
pub moved_in : (s : Config) (f : File) (lane : Lane) (most n : ℕ) (samples rest : List Sample) (ended : Option Full) (r : Recording) → IsPumpedInto s f lane most n samples rest ended r
    → TakesIn s f (take most (waiting_entries lane)) n × (take n (waiting_entries lane) ≡ entries_on lane.spec.id samples) × (drop n lane.waiting ≡ rest)
moved_in s f lane most n samples rest ended r moved =
    let id : ℕ = lane.spec.id in
    let front : List Entry = entries_on id samples in
    let back : List Entry = take (most - length samples) (entries_on id rest) in
    let le : length samples ≤ most = omega (arith, moved.number, moved.within) in
    let number : n ≡ length front = moved.number ∙ sym (length-map samples (entry_on id)) in
    let all : take most (waiting_entries lane) ≡ front ++ back = ap (λ (xs : List Sample). take most (map (entry_on id) xs)) moved.waits ∙ asked id most samples rest le in
    let ends : PumpEnds r id (area s f) most (length samples) rest ended = subst (λ (k : ℕ). PumpEnds r id (area s f) most k rest ended) moved.number moved.ends in
    let goes : TakesIn s f (front ++ back) (length front) =
    takes_in s f front back r.cost moved.cost (λ some. moved.fits (omega (arith, some, number))) (why_ended s f r id most (length samples) rest ended le ends) in (
      subst (λ (es : List Entry). TakesIn s f es n) (sym all) (subst (λ (k : ℕ). TakesIn s f (front ++ back) k) (sym number) goes),
      subst (λ (k : ℕ). take k (waiting_entries lane) ≡ front) (sym number)
          (ap (take (length front)) (ap (map (entry_on id)) moved.waits ∙ map-append (entry_on id) samples rest) ∙ take_front front (entries_on id rest)),
      subst (λ (k : ℕ). drop k lane.waiting ≡ rest) (sym moved.number) (ap (drop (length samples)) moved.waits ∙ drop_front samples rest),
    )

-- where nothing was moved, though nothing kept the next out, none is asked for or nothing waits
none_asked : (channel most : ℕ) (xs : List Sample) → (0 < most → xs ≡ []) → length (take most (entries_on channel xs)) ≡ 0
none_asked channel zero xs none = refl
none_asked channel (suc most) xs none = ap (λ (ys : List Sample). length (take (suc most) (entries_on channel ys))) (none (omega arith))

some_moved : (s : Config) (f : File) (lane : Lane) (most n k : ℕ) (samples rest : List Sample) (ended : Option Full) (r : Recording) → IsPumpedInto s f lane most n samples rest ended r → n ≡ k → (n ≡ 0 → ended ≡ None)
    → 0 < length (take most (waiting_entries lane)) → 0 < n
some_moved s f lane most n (suc k) samples rest ended r moved is some asked = omega (arith, is)
some_moved s f lane most n zero (x ∷ samples) rest ended r moved is some asked = omega (arith, is, moved.number)
some_moved s f lane most n zero [] rest ended r moved is some asked =
    let ends : n < most → rest ≡ [] = subst (PumpEnds r lane.spec.id (area s f) most n rest) (some is) moved.ends in
    let all : length (take most (waiting_entries lane)) ≡ 0 = ap (λ (xs : List Sample). length (take most (map (entry_on lane.spec.id) xs))) moved.waits ∙ none_asked lane.spec.id most rest (λ lt. ends (omega (arith, lt, is))) in
    omega (arith, asked, all)

pub pumps_in : (s : Config) (m : Machine) (f : File) (channel : ℕ) (lane : Lane) (most n : ℕ) (samples rest : List Sample) (ended : Option Full) (r : Recording) → lane_of channel m ≡ Some lane → last_file m ≡ Some f
    → IsPumpedInto s f lane most n samples rest ended r → (n ≡ 0 → ended ≡ None)
    → Pumps s m channel most n (with_last (with_entries (entries_on lane.spec.id samples)) (with_lane channel (without n) m))
pumps_in s m f channel lane most n samples rest ended r there last moved some =
    let goes : TakesIn s f (take most (waiting_entries lane)) n × (take n (waiting_entries lane) ≡ entries_on lane.spec.id samples) × (drop n lane.waiting ≡ rest) = moved_in s f lane most n samples rest ended r moved in
    rw (there, last) (goes.0, some_moved s f lane most n n samples rest ended r moved refl some, ap (λ (es : List Entry). with_last (with_entries es) (with_lane channel (without n) m)) (sym goes.1))

-- ---- a larger number asked for

pub more_asked : (waits : Option (List Sample)) (samples rest : List Sample) (r : Recording) (channel room most larger n : ℕ) (ended : Option Full) → IfSome waits (λ waiting. waiting ≡ samples ++ rest)
    → IfSome waits (λ waiting. most ≡ min larger (length waiting)) → most ≤ larger → n ≡ length samples → PumpEnds r channel room most n rest ended
    → (later : List Sample) × IfSome waits (λ waiting. waiting ≡ samples ++ later) × PumpEnds r channel room larger n later ended
more_asked None samples rest r channel room most larger n None waits least le number ends = ([], tt, λ lt. refl)
more_asked None samples rest r channel room most larger n (Some ended) waits least le number ends = (rest, tt, (omega (arith, le, ends.0), ends.1))
more_asked (Some waiting) samples rest r channel room most larger n (Some ended) waits least le number ends = (rest, waits, (omega (arith, le, ends.0), ends.1))
more_asked (Some waiting) samples rest r channel room most larger n None waits least le number ends = (rest, waits, λ lt. by (cases_lt n most) lt)
  where
    length_is : length waiting ≡ length samples + length rest
    length_is = ap (λ (xs : List Sample). length xs) waits ∙ length-append samples rest

    by : (n < most) ⊎ (most ≤ n) → n < larger → rest ≡ []
    by (inl less) lt = ends less
    by (inr more) lt = nil_from_length rest (omega (arith, more, lt, least, number, length_is))

-- ---- a first sample without room

lacks_at : (s : Config) (m : Machine) (f : File) (channel most k : ℕ) (lane : Lane) (waiting : List Sample) (ended : Full) (r : Recording) → lane_of channel m ≡ Some lane → last_file m ≡ Some f
    → lane.waiting ≡ waiting → most ≡ suc k → r.cost ≡ cost_of f → IsSomeAnd (slice_get waiting 0) (SampleLacks r lane.spec.id (area s f) ended) → Lacks s m (events.Pump channel most) (refusal_of_full ended)
lacks_at s m f channel most k lane [] ended r there last waits some cost lacks = absurd lacks
lacks_at s m f channel most k lane (x ∷ waiting) lacking.Medium r there last waits some cost lacks =
    rw (has_room, entry_has_room, needed, there, last, waits, some) (no_more (cost_of f + entry_cost (entry_on lane.spec.id x)) (area s f) (omega (arith, cost, lacks)))

pub lacks_first : (s : Config) (m : Machine) (f : File) (channel : ℕ) (lane : Lane) (most : ℕ) (samples rest : List Sample) (ended : Full) (r : Recording) → lane_of channel m ≡ Some lane → last_file m ≡ Some f
    → IsPumpedInto s f lane most 0 samples rest (Some ended) r → Lacks s m (events.Pump channel most) (refusal_of_full ended)
lacks_first s m f channel lane zero samples rest ended r there last moved = absurd (omega (arith, moved.ends.0))
lacks_first s m f channel lane (suc most) (x ∷ samples) rest ended r there last moved = absurd (omega (arith, moved.number))
lacks_first s m f channel lane (suc most) [] rest ended r there last moved =
    lacks_at s m f channel (suc most) most lane rest ended r there last moved.waits refl (omega (arith, moved.cost)) moved.ends.1

-- ---- a failure

pub still_there : (event : EventValue) (lanes : List Lane) → LanesAfter event lanes lanes lanes
still_there event [] = tt
still_there event (x ∷ xs) = ((0, omega arith, refl), still_there event xs)

pub pump_fails : (channel most n : ℕ) (lanes : List Lane) → n ≤ most → LanesAfter (events.Pump channel most) lanes lanes (change_first (is_channel channel) (without n) lanes)
pump_fails channel most n [] le = tt
pump_fails channel most n (x ∷ xs) le = by (x.spec.id == channel) refl (pump_fails channel most n xs le)
  where
    by : (b : Bool) → (x.spec.id == channel) ≡ b → LanesAfter (events.Pump channel most) xs xs (change_first (is_channel channel) (without n) xs)
        → LanesAfter (events.Pump channel most) (x ∷ xs) (x ∷ xs) (cond b (without n x ∷ xs) (x ∷ change_first (is_channel channel) (without n) xs))
    by true same rest = ((n, rw same le, refl), still_there (events.Pump channel most) xs)
    by false same rest = ((0, omega arith, refl), rest)
