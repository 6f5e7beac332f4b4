-- What is taken joins over calls.
use Rattle.std.proofs.Common.{◌≡◌, ◌≤◌, ℕ, List, [], ◌∷◌, ◌++◌, Some, refl, sym, ap, subst, ◌∙◌, append_assoc, arith}
use Rattle.std.specs.List.{AllByRecursion}
use Rattle.r10_count.specs.Count.{IsCount}
use Rattle.r10_body.specs.Gaps.{IsSoundGap}
use Rattle.r10_body.specs.declared.entry.Sample.{Sample}
use Rattle.r10_body.specs.declared.spec.ChannelSpec.{ChannelSpec}
use Rattle.r10_machine.specs.Machine.{Lane}
use Rattle.r10_machine.specs.SoundParts.{Climbs}
use Rattle.r10_lane.specs.Lanes.{Gives, IsMessageTaken, TookWaiting, counts_of, reached}

-- ---- what may be taken

all_both : {A : Type 0} (P : A → Type 0) (xs ys : List A) → AllByRecursion P xs → AllByRecursion P ys → AllByRecursion P (xs ++ ys)
all_both P [] ys first second = second
all_both P (x ∷ xs) ys (here, first) second = (here, all_both P xs ys first second)

climbs_from : (low lower : ℕ) (ys : List Sample) (high : ℕ) → lower ≤ low → Climbs low (counts_of ys) high
    → Climbs lower (counts_of ys) high
climbs_from low lower [] high less climbs = omega (arith, less, climbs)
climbs_from low lower (y ∷ ys) high less (first, climbs) = (omega (arith, less, first), climbs)

climbs_both : (low mid high : ℕ) (xs ys : List Sample) → Climbs low (counts_of xs) mid → Climbs mid (counts_of ys) high
    → Climbs low (counts_of (xs ++ ys)) high
climbs_both low mid high [] ys first second = climbs_from mid low ys high first second
climbs_both low mid high (x ∷ xs) ys (here, first) second = (here, climbs_both x.count mid high xs ys first second)

climbs_to : (low : ℕ) (xs : List Sample) (high higher : ℕ) → high ≤ higher → Climbs low (counts_of xs) high
    → Climbs low (counts_of xs) higher
climbs_to low [] high higher less climbs = omega (arith, less, climbs)
climbs_to low (x ∷ xs) high higher less (first, climbs) = (first, climbs_to x.count xs high higher less climbs)

pub gives_both : (spec : ChannelSpec) (low mid high : ℕ) (xs ys : List Sample) → Gives spec low xs mid → Gives spec mid ys high
    → Gives spec low (xs ++ ys) high
gives_both spec low mid high xs ys first second = record {
  passes = all_both (IsMessageTaken spec) xs ys first.passes second.passes;
  gaps = all_both (λ (x : Sample). IsSoundGap x.gap) xs ys first.gaps second.gaps;
  counts = all_both (λ (x : Sample). IsCount x.count) xs ys first.counts second.counts;
  climbs = climbs_both low mid high xs ys first.climbs second.climbs;
}

pub gives_up_to : (spec : ChannelSpec) (low high higher : ℕ) (xs : List Sample) → high ≤ higher → Gives spec low xs high
    → Gives spec low xs higher
gives_up_to spec low high higher xs less gives = record {
  passes = gives.passes;
  gaps = gives.gaps;
  counts = gives.counts;
  climbs = climbs_to low xs high higher less gives.climbs;
}

pub gives_none : (spec : ChannelSpec) (low high : ℕ) → low ≤ high → Gives spec low [] high
gives_none spec low high less = record { passes = tt; gaps = tt; counts = tt; climbs = less }

-- ---- a lane of one thread

pub lane_took_joins : (a b c : Lane) (xs ys : List Sample) → TookWaiting a xs b → TookWaiting b ys c → TookWaiting a (xs ++ ys) c
lane_took_joins a b c xs ys first second = record {
  front = first.front ∙ ap (λ (l : List Sample). xs ++ l) second.front ∙ sym (append_assoc xs ys c.waiting);
  others = second.others ∙ ap (λ (l : Lane). record l { waiting = c.waiting }) first.others;
  gives = gives_both a.spec (reached a) (reached b) (reached c) xs ys first.gives
      (subst (λ (s : ChannelSpec). Gives s (reached b) ys (reached c)) (ap (λ (l : Lane). l.spec) first.others) second.gives);
  rises = omega (arith, first.rises, second.rises);
}

pub lane_took_nothing : (a b c : Lane) (xs : List Sample) → TookWaiting a xs b → TookWaiting b [] c → TookWaiting a xs c
lane_took_nothing a b c xs first second = record {
  front = first.front ∙ ap (λ (l : List Sample). xs ++ l) second.front;
  others = second.others ∙ ap (λ (l : Lane). record l { waiting = c.waiting }) first.others;
  gives = gives_up_to a.spec (reached a) (reached b) (reached c) xs second.rises first.gives;
  rises = omega (arith, first.rises, second.rises);
}

pub lane_took_stays : (a : Lane) → TookWaiting a [] a
lane_took_stays a = record {
  front = refl;
  others = refl;
  gives = gives_none a.spec (reached a) (reached a) (omega arith);
  rises = omega arith;
}

pub lane_took_keeps_spec : (a b : Lane) (xs : List Sample) → TookWaiting a xs b → b.spec ≡ a.spec
lane_took_keeps_spec a b xs took = ap (λ (l : Lane). l.spec) took.others

pub lane_took_rises : (a b : Lane) (xs : List Sample) → TookWaiting a xs b → reached a ≤ reached b
lane_took_rises a b xs took = took.rises

pub lane_took_gives : (a b : Lane) (xs : List Sample) → TookWaiting a xs b → Gives a.spec (reached a) xs (reached b)
lane_took_gives a b xs took = took.gives

pub lane_took_stays_quiet : (a b : Lane) (xs waiting : List Sample) → TookWaiting a xs b → Some a.waiting ≡ Some waiting
    → (rest : List Sample) × (Some b.waiting ≡ Some rest) × (waiting ≡ xs ++ rest)
lane_took_stays_quiet a b xs waiting took quiet = (b.waiting, refl, sym (some_is a.waiting waiting quiet) ∙ took.front)
  where
    some_is : (u v : List Sample) → Some u ≡ Some v → u ≡ v
    some_is u v e = cc
