-- A file that begins after those that a directory lists.
use Rattle.std.specs.Prelude.{◌≡◌, ℕ, ◌+◌, Bool, true, false, List, [], ◌∷◌, ◌++◌, length, nat_le}
use Rattle.r10_body.specs.Cost.{entry_cost, file_cost}
use Rattle.r10_body.specs.Packets.{file_bytes}
use Rattle.r10_builder.specs.State.{BuilderState}
use Rattle.r10_builder.specs.Settings.{specs_of}
use Rattle.r10_packetout.specs.Carries.{time_entry_at}
use Rattle.r10_count.specs.declared.civil.Parts.{Parts}
use Rattle.r10_dirblock.specs.declared.entry.Entry.{Entry as DirectoryEntry}
use Rattle.r10_builder.specs.Grows.{all_held}
use Rattle.r10_machine.specs.Calls.{empty_file, shown_whole}
use Rattle.r10_machine.specs.Config.{Config}
use Rattle.r10_machine.specs.Machine.{File, with_entries}
use Rattle.r10_machine.specs.Room.{area_from}
use Rattle.r10_medium.specs.Disk.{Rose}
use Rattle.r10_mux.specs.Begun.{first_packets}
use Rattle.r10_volume.specs.Listing.{block_behind}
use Rattle.r10_openfile.specs.declared.fault.BeginFault.{BeginFault}
use Rattle.r10_openfile.specs.declared.fault.BeginFault.TheVariants.{Full, Memory, Medium}

-- a setup text and a time have room after the files that are listed
abbrev pub begins_within : Config → List DirectoryEntry → List ℕ → ℕ → Parts → Bool
begins_within s entries text count civil = nat_le (file_cost text [] + entry_cost (time_entry_at s.time count civil))
    (area_from s (block_behind s.directory entries))

-- the file that begins after these: it shows a setup text and a time, a packet each
abbrev pub begun_file : Config → List File → List ℕ → List ℕ → ℕ → Parts → File
begun_file s files name text count civil =
    shown_whole (length (file_bytes (first_packets s.time text count civil)))
    (with_entries (time_entry_at s.time count civil ∷ []) (empty_file s files name text))

-- builders of the same channels, which hold what these held
pub record AreGivenBack (builders back : List BuilderState) : Type 0 where
  pub specs : specs_of back ≡ specs_of builders
  pub held : all_held back ≡ all_held builders

-- why no file was begun, where there is room for it or not: it lacks room, or memory, and nothing has changed; or the medium failed
abbrev pub OpenFileNotBegun : {M : Type 0} → Bool → M → M → List BuilderState → ℕ → ℕ → BeginFault → Type 0
OpenFileNotBegun room medium medium' builders failures failures' (Full back) = (room ≡ false) × AreGivenBack builders back
    × (medium' ≡ medium)
OpenFileNotBegun room medium medium' builders failures failures' (Memory back) = (room ≡ true) × AreGivenBack builders back
    × (medium' ≡ medium)
OpenFileNotBegun room medium medium' builders failures failures' (Medium fault) = (room ≡ true) × Rose failures failures'

-- after these files one more is listed, from this block on
pub record IsListedBehind (old new : List DirectoryEntry) (first : ℕ) : Type 0 where
  pub entry : DirectoryEntry
  pub behind : new ≡ old ++ entry ∷ []
  pub place : entry.first_block ≡ first
