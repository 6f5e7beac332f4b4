-- A lane that gives nothing.
use Rattle.std.proofs.Common.{subst, ◌≡◌, ◌≤◌, ◌-◌, ◌^◌, ℕ, List, [], ◌++◌, Option, Some, refl, sym, ap, ◌∙◌, arith}
use Rattle.r10_body.specs.declared.entry.Sample.{Sample}
use Rattle.r10_body.specs.declared.spec.ChannelSpec.{ChannelSpec}
use Rattle.r10_lane.specs.Lanes.{Gives}
use Rattle.r10_lane.specs.Laws.{gives_none}

-- nothing was taken, and the lane stays
abbrev pub GaveNothing : ChannelSpec → List Sample → ChannelSpec → Type 0
GaveNothing old samples new = (samples ≡ []) × (new ≡ old)

-- every count has been reached: of 48 bits, the greatest
abbrev pub all_counts : ChannelSpec → ℕ
all_counts lane = 2 ^ 48 - 1

pub gave_joins : (a b c : ChannelSpec) (xs ys : List Sample) → GaveNothing a xs b → GaveNothing b ys c → GaveNothing a (xs ++ ys) c
gave_joins a b c xs ys first second = (ap (λ (l : List Sample). l ++ ys) first.0 ∙ second.0, second.1 ∙ first.1)

pub gave_nothing : (a b c : ChannelSpec) (xs : List Sample) → GaveNothing a xs b → GaveNothing b [] c → GaveNothing a xs c
gave_nothing a b c xs first second = (first.0, second.1 ∙ first.1)

pub gave_stays : (a : ChannelSpec) → GaveNothing a [] a
gave_stays a = (refl, refl)

pub gave_keeps_spec : (a b : ChannelSpec) (xs : List Sample) → GaveNothing a xs b → b ≡ a
gave_keeps_spec a b xs gave = gave.1

pub gave_rises : (a b : ChannelSpec) (xs : List Sample) → GaveNothing a xs b → all_counts a ≤ all_counts b
gave_rises a b xs gave = omega arith

pub gave_gives : (a b : ChannelSpec) (xs : List Sample) → GaveNothing a xs b → Gives a (all_counts a) xs (all_counts b)
gave_gives a b xs gave = subst (λ (l : List Sample). Gives a (all_counts a) l (all_counts b)) (sym gave.0)
    (gives_none a (all_counts a) (all_counts b) (omega arith))

pub gave_stays_quiet : (a b : ChannelSpec) (xs waiting : List Sample) → GaveNothing a xs b
    → ◌≡◌ {A = Option (List Sample)} (Some []) (Some waiting) → (rest : List Sample)
    × ◌≡◌ {A = Option (List Sample)} (Some []) (Some rest) × (waiting ≡ xs ++ rest)
gave_stays_quiet a b xs waiting gave quiet = ([], refl, sym (none waiting quiet) ∙ sym (ap (λ (l : List Sample). l ++ []) gave.0))
  where
    none : (ys : List Sample) → ◌≡◌ {A = Option (List Sample)} (Some []) (Some ys) → [] ≡ ys
    none ys e = cc
