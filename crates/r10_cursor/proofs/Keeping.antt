-- What is kept of a file that was judged, against what the medium shows of it.
use Rattle.std.proofs.Common.{◌≡◌, ℕ, ◌<◌, List, [], ◌++◌, length, sym, ap, subst, ◌∙◌, arith}
use Rattle.std.specs.Prelude.{filter}
use Rattle.std.proofs.lemmas.List.{length-append}
use Rattle.r10_medium.specs.Disk.{Image}
use Rattle.r10_dirblock.specs.declared.entry.Entry.{Entry as DirectoryEntry}
use Rattle.r10_indexbody.specs.declared.entry.NodeEntry.{NodeEntry}
use Rattle.r10_body.specs.Packets.{Packet, file_bytes}
use Rattle.r10_body.specs.Rules.{EachFollows, is_data, node_entries}
use Rattle.r10_body.proofs.Injective.{one_file}
use Rattle.r10_cursor.specs.Shown.{ShowsPackets}
use Rattle.r10_cursor.specs.Files.{HasDataPackets, bytes_in}
use Rattle.r10_cursor.proofs.BeforeIndex.{data_first, follows_front, shows_front, bytes_front}

-- a file's packets are one list
pub one_reading : (bytes : List ℕ) (packets all : List Packet) → bytes ≡ file_bytes all → EachFollows [] all → HasDataPackets bytes packets → packets ≡ filter is_data all
one_reading bytes packets all is each has =
    has.packets_are ∙ ap (filter is_data) (one_file [] has.all all has.each each (sym has.bytes_are ∙ is))

-- of a file that was judged, the medium shows the packets of data, and its book names them
pub book_shown : (image : Image) (e : DirectoryEntry) (all : List Packet) (named : List NodeEntry) → bytes_in image e ≡ file_bytes all → EachFollows [] all → named ≡ node_entries 0 (filter is_data all)
    → ShowsPackets image e.first_block named (filter is_data all)
book_shown image e all named is each names =
    let front = filter is_data all in
    let split = data_first all each in
    let index = split.0 in
    let parts : bytes_in image e ≡ file_bytes front ++ file_bytes index = is ∙ ap file_bytes split.1 ∙ bytes_front front index in
    record {
      shows = shows_front image e.first_block e.size (file_bytes front) (file_bytes index) parts;
      each = follows_front [] front index (subst (EachFollows []) split.1 each);
      named_as = names;
    }

-- and these are no more bytes
pub data_short : (all : List Packet) (n : ℕ) → EachFollows [] all → length (file_bytes all) < n → length (file_bytes (filter is_data all)) < n
data_short all n each short =
    let split = data_first all each in
    omega (arith, short, ap (λ (l : List ℕ). length l) (ap file_bytes split.1 ∙ bytes_front (filter is_data all) split.0), length-append (file_bytes (filter is_data all)) (file_bytes split.0))
