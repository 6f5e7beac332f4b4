-- The channels' numbers, when entries are taken in.
use Rattle.std.specs.Prelude.{◌≡◌, ℕ, ◌+◌, List, [], ◌∷◌, length}
use Rattle.r10_body.specs.Files.{on_channel}
use Rattle.r10_body.specs.declared.entry.Entry.{Entry}
use Rattle.r10_body.specs.declared.spec.ChannelSpec.{ChannelSpec}
use Rattle.r10_machine.specs.Machine.{saturated}

-- of each channel as many were taken in as before, and these
abbrev pub AreGrown : List Entry → List ChannelSpec → List ℕ → List ℕ → Type 0
AreGrown more [] [] [] = Unit {0}
AreGrown more (spec ∷ specs) (t ∷ taken) (u ∷ grown) = (u ≡ saturated (t + length (on_channel spec.id more)))
    × AreGrown more specs taken grown
AreGrown more specs taken grown = ⊥
