-- A builder after a lane.
use Rattle.std.specs.Prelude.{◌≡◌, ◌≤◌, ℕ}
use Rattle.r10_body.specs.declared.spec.ChannelSpec.{ChannelSpec}
use Rattle.r10_builder.specs.Packing.{last_sample_count}
use Rattle.r10_builder.specs.State.{BuilderState, HasRoomForTwo}

-- a builder of this channel that asks for no memory, and that takes what comes at this count or later
pub record IsBehind (spec : ChannelSpec) (count : ℕ) (builder : BuilderState) : Type 0 where
  pub same : builder.spec ≡ spec
  pub later : last_sample_count 0 builder.samples ≤ count
  pub ready : HasRoomForTwo builder
