-- Which packets a call closes: what it leaves in the open packet of each channel.
use Rattle.std.specs.Prelude.{◌≡◌, ℕ, Bool, true, cond, List, [], ◌∷◌, ◌++◌, drop, find, map, take, Option, None, Some, Result}
use Rattle.std.specs.Prelude.{MatchResult}
use Rattle.r10_body.specs.Files.{on_channel}
use Rattle.r10_body.specs.declared.entry.Entry.{Entry}
use Rattle.r10_body.specs.declared.entry.Sample.{Sample}
use Rattle.r10_body.specs.declared.spec.ChannelSpec.{ChannelSpec}
use Rattle.r10_builder.specs.Packing.{entry_on, reason}
use Rattle.r10_builder.specs.Settings.{is_of}
use Rattle.r10_builder.specs.State.{BuilderState, Pushed}
use Rattle.r10_builder.specs.declared.closed.Closed.{Closed}
use Rattle.r10_builder.specs.declared.closed.Reason.{Reason}

-- ---- all channels

-- what is in the open packets, channel by channel
abbrev pub open_in : List BuilderState → List (List Sample)
open_in builders = map (λ (b : BuilderState). b.samples) builders

-- this is left in the open packet of each channel; what else was in it was closed
abbrev pub LeavesOpen : (BuilderState → List Sample) → List BuilderState → List BuilderState → Type 0
LeavesOpen left old new = open_in new ≡ map left old

-- the same of some first channels; on the others all is open that was
abbrev pub LeavesOpenUpTo : (BuilderState → List Sample) → List BuilderState → List BuilderState → Type 0
LeavesOpenUpTo left old new = (n : ℕ) × (open_in new ≡ map left (take n old) ++ open_in (drop n old))

-- all that was in it
abbrev pub still_open : BuilderState → List Sample
still_open b = b.samples

-- nothing where the builder passes, else all that was in it
abbrev pub closing : (BuilderState → Bool) → BuilderState → List Sample
closing test b = cond (test b) [] b.samples

-- what passes is closed, and nothing else; where the call failed, the same of some first channels
abbrev pub Closes : {T E : Type 0} → (BuilderState → Bool) → List BuilderState → List BuilderState → Result T E → Type 0
Closes test old new result =
    MatchResult result (λ _. LeavesOpen (closing test) old new) (λ _. LeavesOpenUpTo (closing test) old new)

-- ---- samples that are taken

-- a sample goes after those of the open packet; or those are closed for a reason, and it begins the next packet
abbrev pub next_open : Option Reason → List Sample → Sample → List Sample
next_open None samples s = samples ++ s ∷ []
next_open (Some why) samples s = s ∷ []

-- samples go so into the packets of a channel, one after the other
abbrev pub filled_up : ChannelSpec → List Sample → List Sample → List Sample
filled_up spec samples [] = samples
filled_up spec samples (s ∷ more) = filled_up spec (next_open (reason spec samples s) samples s) more

abbrev pub sample_of_entry : Entry → Sample
sample_of_entry e = record { count = e.count; message = e.message; gap = e.gap }

-- entries go so into the packets of their channels
abbrev pub with_taken : List Entry → BuilderState → List Sample
with_taken more b = filled_up b.spec b.samples (map sample_of_entry (on_channel b.spec.id more))

-- ---- one builder

-- The first builder that passes changed so. Its channel is the same, and all other builders are as they were.
pub record ChangesFirst (test : BuilderState → Bool) (Change : BuilderState → BuilderState → Type 0)
    (old new : List BuilderState) : Type 0 where
  pub before : List BuilderState
  pub was : BuilderState
  pub later : BuilderState
  pub behind : List BuilderState
  pub old_are : old ≡ before ++ was ∷ behind
  pub new_are : new ≡ before ++ later ∷ behind
  pub first : find test before ≡ None
  pub passes : test was ≡ true
  pub spec : later.spec ≡ was.spec
  pub changed : Change was later

-- A sample went into the builder of its channel, and what it closed there was handed out.
-- On all other channels nothing was closed.
pub record TakesIntoBuilder (channel : ℕ) (s : Sample) (closed : Option Closed) (old new : List BuilderState) : Type 0 where
  pub one : ChangesFirst (is_of channel) (λ was later. Pushed was s closed later) old new
  pub leaves : LeavesOpen (with_taken (entry_on channel s ∷ [])) old new
