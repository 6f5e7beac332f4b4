-- What the calls of a file ask for.
use Rattle.std.specs.Prelude.{◌≡◌, ◌==◌, ◌+◌, ◌*◌, ◌<◌, ◌≤◌, ℕ, true, List, [], ◌∷◌, count_by, length, map}
use Rattle.std.specs.List.{All}
use Rattle.r10_blockout.specs.Output.{HasRoomOnMedium, first_of}
use Rattle.r10_body.specs.Cost.{file_cost}
use Rattle.r10_body.specs.Limits.{longest_text}
use Rattle.r10_body.specs.declared.entry.Entry.{Entry}
use Rattle.r10_body.specs.declared.spec.ChannelSpec.{ChannelSpec}
use Rattle.r10_builder.specs.Grows.{HasNoneOf, all_held}
use Rattle.r10_builder.specs.Settings.{AreChannelSettings, specs_of}
use Rattle.r10_builder.specs.State.{BuilderState}
use Rattle.r10_count.specs.Names.{is_name}
use Rattle.r10_count.specs.declared.civil.Parts.{Parts}
use Rattle.r10_dirblock.specs.Block.{has_room_for_size}
use Rattle.r10_dirblock.specs.declared.entry.Entry.{Entry as DirectoryEntry}
use Rattle.r10_dirchain.specs.Chain.{IsDirectory, listed_files}
use Rattle.r10_dirchain.specs.OnMedium.{HasNext}
use Rattle.r10_dirchain.specs.Steps.{blocks_with_one_more}
use Rattle.r10_dirchain.specs.declared.chain.ChainBlock.{ChainBlock}
use Rattle.r10_machine.specs.Config.{Config}
use Rattle.r10_machine.specs.EventChecks.{most_files}
use Rattle.r10_medium.specs.Disk.{Image}
use Rattle.r10_packetout.specs.Carries.{Records, Recording, time_entry_at}
use Rattle.r10_openfile.specs.Pumping.{IsOpenTo, IsReadyFor, packets_at_most}
use Rattle.r10_openfile.specs.Stopping.{IsOpenToAll, room_of}
use Rattle.r10_volume.specs.Listing.{is_last_closed}
use Rattle.r10_volume.specs.Mounting.{IsUsable}

-- they are within limits, hold nothing, and have no channel of times or events
pub record AreNew (s : Config) (builders : List BuilderState) : Type 0 where
  pub times : HasNoneOf s.time builders
  pub events : HasNoneOf s.event builders
  pub settings : AreChannelSettings 0 (specs_of builders)
  pub none : all_held builders ≡ []

-- after the files that a directory lists, which are closed, there is a place for one more, of this name and with this setup text
pub record MayBegin (s : Config) (image : Image) (chain : List ChainBlock) (builders : List BuilderState)
    (called text : List ℕ) : Type 0 where
  pub size : length image ≡ s.blocks
  pub usable : IsUsable s.directory image chain
  pub sealed : is_last_closed (listed_files chain) ≡ true
  pub few : length (listed_files chain) < most_files s
  pub fresh : AreNew s builders
  pub name : is_name called ≡ true
  pub short : length text ≤ longest_text

-- from this block on there is room for a setup text and a time
pub record MayPutFirst (s : Config) (image : Image) (builders : List BuilderState) (first : ℕ) (text : List ℕ) (count : ℕ)
    (civil : Parts) : Type 0 where
  pub fresh : AreNew s builders
  pub short : length text ≤ longest_text
  pub room : 512 * first + file_cost text (time_entry_at s.time count civil ∷ []) ≤ 512 * length image

-- the file carries something after the blocks of a directory, which has a place and memory for an entry more
pub record MayBeListed (r : Recording) (image : Image) (chain : List ChainBlock) (e : DirectoryEntry)
    (room reserved : ℕ) : Type 0 where
  pub inside : HasRoomOnMedium r.out.blocks 0 (length image)
  pub carries : (text : List ℕ) × (entries : List Entry) × Records r image text entries
  pub stands : IsDirectory image chain
  pub below : All (λ (b : ChainBlock). b.number < first_of r.out.blocks) chain
  pub next : HasNext image chain × (blocks_with_one_more chain ≤ reserved)
  pub entry : has_room_for_size e ≡ true
  pub ready : length chain < room

-- the file goes on with samples of a lane, and has memory for so many
pub record MayPump (r : Recording) (image : Image) (spec : ChannelSpec) (reached area most : ℕ) : Type 0 where
  pub goes : IsOpenTo r image spec reached area
  pub ready : IsReadyFor r (packets_at_most r.cost area most)

-- the file goes on with samples of all lanes, and has memory for as many as they have room for; the order names no channel
-- twice, and there is a place for what is noted of each
pub record MayStop {Lane : Type 0} (spec_of : Lane → ChannelSpec) (reached : Lane → ℕ) (r : Recording) (image : Image)
    (lanes : List Lane) (order noted : List ℕ) (area : ℕ) : Type 0 where
  pub shares : length noted ≡ length order
  pub goes : IsOpenToAll spec_of reached r image lanes area
  pub once : (channel : ℕ) → count_by (λ c. c == channel) order ≤ 1
  pub ready : IsReadyFor r (packets_at_most r.cost area (room_of (map spec_of lanes) order))
