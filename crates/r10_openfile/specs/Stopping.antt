-- What a stop moves from all lanes, channel by channel.
use Rattle.std.specs.Prelude.{◌≡◌, ℕ, ◌+◌, ◌-◌, ◌*◌, ◌^◌, ◌<◌, ◌≤◌, ◌==◌, cond, List, [], ◌∷◌, ◌++◌, find, length, map, min}
use Rattle.std.specs.Prelude.{Option, None, Some, IfSome}
use Rattle.std.specs.List.{AllByRecursion, flat_map, sum_by}
use Rattle.r10_medium.specs.Disk.{Disk, Image, Rose}
use Rattle.r10_blockout.specs.Output.{first_of}
use Rattle.r10_body.specs.Packets.{file_bytes}
use Rattle.r10_body.specs.declared.entry.Entry.{Entry}
use Rattle.r10_body.specs.declared.entry.Sample.{Sample}
use Rattle.r10_body.specs.declared.spec.ChannelSpec.{ChannelSpec}
use Rattle.r10_machine.specs.declared.mode.Stopped.{Stopped}
use Rattle.r10_packetout.specs.Carries.{Records, Recording}
use Rattle.r10_mux.specs.Writes.{Writes}
use Rattle.r10_mux.specs.declared.fault.Full.{Full}
use Rattle.r10_openfile.specs.Pumping.{PumpEnds, EndsBy, HasBuilder, MovesSamples, TakenIn, entries_on}

-- ---- lanes

-- how many samples a stop may take from a channel: as many as its lane has room for
abbrev pub most_of : List ChannelSpec → ℕ → ℕ
most_of specs channel = elim (find (λ spec. spec.id == channel) specs) [ None ↦ 0 | Some spec ↦ spec.capacity ]

-- and from all channels
abbrev pub room_of : List ChannelSpec → List ℕ → ℕ
room_of specs order = sum_by (most_of specs) order

-- no two are of one channel
abbrev pub ChannelsAreApart : List ChannelSpec → Type 0
ChannelsAreApart [] = Unit {0}
ChannelsAreApart (spec ∷ specs) = AllByRecursion (λ (other : ChannelSpec). other.id ≡ spec.id → ⊥) specs × ChannelsAreApart specs

-- on the channel of each lane no entry is later than what the lane has reached
abbrev pub AllEnd : {Lane : Type 0} → (Lane → ChannelSpec) → (Lane → ℕ) → List Lane → List Entry → Type 0
AllEnd spec_of reached lanes entries = AllByRecursion (λ lane. EndsBy (spec_of lane).id (reached lane) entries) lanes

-- the file goes on with samples of all lanes, each of a channel of its own, in an area that lies on the medium after the
-- file's first block
pub record IsOpenToAll {Lane : Type 0} (spec_of : Lane → ChannelSpec) (reached : Lane → ℕ) (r : Recording) (image : Image)
    (lanes : List Lane) (area : ℕ) : Type 0 where
  pub text : List ℕ
  pub entries : List Entry
  pub carries : Records r image text entries
  pub ends : AllEnd spec_of reached lanes entries
  pub builders : AllByRecursion (λ spec. HasBuilder spec r.builders) (map spec_of lanes)
  pub apart : ChannelsAreApart (map spec_of lanes)
  pub within : 512 * first_of r.out.blocks + area ≤ 512 * length image
  pub small : area < 2 ^ 63

-- ---- what was moved

-- of a channel: these samples were moved, the rest waits after them, and what the next one has no room in, where that ended all
pub record Part : Type 0 where
  pub channel : ℕ
  pub samples : List Sample
  pub rest : List Sample
  pub full : Option Full

abbrev pub entries_of : List Part → List Entry
entries_of parts = flat_map (λ p. entries_on p.channel p.samples) parts

abbrev pub samples_on : ℕ → List Part → List Sample
samples_on channel parts = flat_map (λ p. cond (channel == p.channel) p.samples []) parts

-- each lane gave the samples of its channel, and no others
abbrev pub TookAll : {Lane : Type 0} → (Lane → List Sample → Lane → Type 0) → (Lane → ChannelSpec) → List Part → List Lane
    → List Lane → Type 0
TookAll took spec_of parts [] [] = Unit {0}
TookAll took spec_of parts (a ∷ lanes) (b ∷ lanes') = took a (samples_on (spec_of a).id parts) b
    × TookAll took spec_of parts lanes lanes'
TookAll took spec_of parts lanes lanes' = ⊥

-- the samples and the rest of a part are all that waited in its channel's lane, where that is quiet
abbrev pub TellsWaiting : {Lane : Type 0} → (Lane → Option (List Sample)) → (Lane → ChannelSpec) → List Lane → Part → Type 0
TellsWaiting quiet spec_of lanes p = AllByRecursion (λ lane. (spec_of lane).id ≡ p.channel
    → IfSome (quiet lane) (λ waiting. waiting ≡ p.samples ++ p.rest)) lanes

-- the others go on, or nothing was taken of them where a sample had no room
abbrev pub OthersGoOn : Option Full → Type 0 → List Part → Type 0
OthersGoOn None others parts = others
OthersGoOn (Some full) others parts = AllByRecursion (λ q. q.samples ≡ []) parts

-- channel by channel all went in that may, up to the first sample that has no room; after it none did
abbrev pub GoesThrough : (ℕ → ℕ) → Recording → ℕ → List Part → Type 0
GoesThrough most r area [] = Unit {0}
GoesThrough most r area (p ∷ parts) = PumpEnds r p.channel area (most p.channel) (length p.samples) p.rest p.full
    × OthersGoOn p.full (GoesThrough most r area parts) parts

-- From all lanes, in the order of these channels, so many samples of each were taken, no more of a channel than may be, so
-- many in all, and so many are left. They were taken into the file, which has room for them.
pub record PumpsAll {Lane : Type 0} (took : Lane → List Sample → Lane → Type 0) (quiet : Lane → Option (List Sample))
    (reached : Lane → ℕ) (spec_of : Lane → ChannelSpec) (order shares : List ℕ) (area : ℕ)
    (lanes lanes' : List Lane) (old : Recording) (before : Disk) (new : Recording) (after : Disk) (stopped : Stopped) : Type 0 where
  pub parts : List Part
  pub order_is : map (λ p. p.channel) parts ≡ order
  pub shares_are : map (λ p. length p.samples) parts ≡ shares
  pub taken : TookAll took spec_of parts lanes lanes'
  pub tells : AllByRecursion (TellsWaiting quiet spec_of lanes) parts
  pub within : AllByRecursion (λ p. length p.samples ≤ most_of (map spec_of lanes) p.channel) parts
  pub number : stopped.taken ≡ length (entries_of parts)
  pub left : stopped.left ≡ min (sum_by (λ p. length p.rest) parts) (2 ^ 64 - 1)
  pub fits : 0 < stopped.taken → new.cost ≤ area
  pub taken_in : TakenIn (AllEnd spec_of reached lanes) (AllEnd spec_of reached lanes') (entries_of parts) old before new after
  pub through : GoesThrough (most_of (map spec_of lanes)) new area parts

-- The medium failed, and these samples had been taken from the lanes, no more of a channel than may be: what was shown of the
-- file stays shown.
pub record FailsAll {Lane : Type 0} (took : Lane → List Sample → Lane → Type 0) (reached : Lane → ℕ) (spec_of : Lane → ChannelSpec)
    (order : List ℕ) (lanes lanes' : List Lane) (old : Recording) (before after : Disk) : Type 0 where
  pub parts : List Part
  pub taken : TookAll took spec_of parts lanes lanes'
  pub within : AllByRecursion (λ p. length p.samples ≤ most_of (map spec_of lanes) p.channel) parts
  pub later : List ℕ
  pub order_is : map (λ p. p.channel) parts ++ later ≡ order
  pub writes : (text : List ℕ) (entries : List Entry) (carried : Records old before.blocks text entries)
      → AllEnd spec_of reached lanes entries → Writes (first_of old.out.blocks) (file_bytes carried.packets) before after
  pub rose : Rose before.failures after.failures

-- ---- one channel of them

-- samples were moved, and so many are left
abbrev pub MovesLeaving : {Lane : Type 0} → (Lane → List Sample → Lane → Type 0) → (Lane → Option (List Sample)) → (Lane → ℕ) → ℕ
    → ℕ → ℕ → Lane → Lane → Recording → Disk → Recording → Disk → ℕ → Option Full → ℕ → Type 0
MovesLeaving took quiet reached channel most area lane lane' old before new after n full left =
    (moves : MovesSamples took quiet reached channel most area lane lane' old before new after n full) × (left ≡ length moves.rest)

-- the lanes of a channel gave these samples, and the others none
abbrev pub OneTook : {Lane : Type 0} → (Lane → List Sample → Lane → Type 0) → (Lane → ChannelSpec) → ℕ → List Sample → List Lane
    → List Lane → Type 0
OneTook took spec_of channel samples [] [] = Unit {0}
OneTook took spec_of channel samples (a ∷ lanes) (b ∷ lanes') = took a (cond ((spec_of a).id == channel) samples []) b
    × OneTook took spec_of channel samples lanes lanes'
OneTook took spec_of channel samples lanes lanes' = ⊥

-- from a channel's lane these samples were taken, at most so many, and so many are left
pub record PumpsOne {Lane : Type 0} (took : Lane → List Sample → Lane → Type 0) (quiet : Lane → Option (List Sample))
    (reached : Lane → ℕ) (spec_of : Lane → ChannelSpec) (channel most area : ℕ)
    (lanes lanes' : List Lane) (old : Recording) (before : Disk) (new : Recording) (after : Disk) (n left : ℕ)
    (full : Option Full) : Type 0 where
  pub samples : List Sample
  pub rest : List Sample
  pub taken : OneTook took spec_of channel samples lanes lanes'
  pub tells : TellsWaiting quiet spec_of lanes (record { channel = channel; samples = samples; rest = rest; full = full })
  pub number : n ≡ length samples
  pub left_is : left ≡ length rest
  pub within : n ≤ most
  pub fits : 0 < n → new.cost ≤ area
  pub taken_in : TakenIn (AllEnd spec_of reached lanes) (AllEnd spec_of reached lanes')
      (entries_on channel samples) old before new after
  pub ends : PumpEnds new channel area most n rest full

pub record FailsOne {Lane : Type 0} (took : Lane → List Sample → Lane → Type 0) (reached : Lane → ℕ) (spec_of : Lane → ChannelSpec)
    (channel most : ℕ) (lanes lanes' : List Lane) (old : Recording) (before after : Disk) : Type 0 where
  pub samples : List Sample
  pub taken : OneTook took spec_of channel samples lanes lanes'
  pub within : length samples ≤ most
  pub writes : (text : List ℕ) (entries : List Entry) (carried : Records old before.blocks text entries)
      → AllEnd spec_of reached lanes entries → Writes (first_of old.out.blocks) (file_bytes carried.packets) before after
  pub rose : Rose before.failures after.failures
