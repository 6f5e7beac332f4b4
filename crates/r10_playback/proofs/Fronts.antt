-- The packets of a file in front of its index are shown, and have all its entries.
use Rattle.std.proofs.Common.{◌≡◌, ℕ, List, [], ◌++◌, ap, subst, ◌∙◌}
use Rattle.std.specs.Prelude.{filter}
use Rattle.r10_medium.specs.Disk.{Image}
use Rattle.r10_blockout.specs.Blocks.{bytes_from}
use Rattle.r10_cursor.specs.Shown.{NodeEntry, ShowsPackets}
use Rattle.r10_body.specs.Packets.{Packet, file_bytes}
use Rattle.r10_body.specs.Rules.{EachFollows, is_data, node_entries}
use Rattle.r10_cursor.proofs.BeforeIndex.{bytes_front, data_first, follows_front, shows_front}
pub use Rattle.r10_cursor.proofs.Said.{data_entries as same_entries}

pub shown : (image : Image) (first size : ℕ) (all : List Packet) (named : List NodeEntry) → bytes_from image first size ≡ file_bytes all → EachFollows [] all → named ≡ node_entries 0 (filter is_data all)
    → ShowsPackets image first named (filter is_data all)
shown image first size all named is each names =
    let front = filter is_data all in
    let split = data_first all each in
    let index = split.0 in
    let parts : bytes_from image first size ≡ file_bytes front ++ file_bytes index = is ∙ ap file_bytes split.1 ∙ bytes_front front index in
    record {
      shows = shows_front image first size (file_bytes front) (file_bytes index) parts;
      each = follows_front [] front index (subst (EachFollows []) split.1 each);
      named_as = names;
    }
