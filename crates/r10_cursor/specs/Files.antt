-- The files of a medium by number: those of its directory, the last of which may be one that is written.
use Rattle.std.specs.Prelude.{◌≡◌, ℕ, List, [], take, filter, slice_get, Option, Some, None}
use Rattle.r10_medium.specs.Disk.{Image}
use Rattle.r10_blockout.specs.Blocks.{bytes_from}
use Rattle.r10_dirblock.specs.declared.entry.Entry.{Entry as DirectoryEntry}
use Rattle.r10_dirchain.specs.Chain.{listed_files}
use Rattle.r10_dirchain.specs.declared.chain.ChainBlock.{ChainBlock}
use Rattle.r10_indexbody.specs.declared.entry.NodeEntry.{NodeEntry}
use Rattle.r10_body.specs.Packets.{Packet, file_bytes}
use Rattle.r10_body.specs.Rules.{EachFollows, is_data}
use Rattle.r10_index.specs.Book.{Book}
use Rattle.r10_index.specs.Counted.{BeginsWith}
use Rattle.r10_cursor.specs.Shown.{ShowsPackets}
use Rattle.r10_cursor.specs.declared.written.Written.{Written}

-- a file's bytes, by its directory entry
abbrev pub bytes_in : Image → DirectoryEntry → List ℕ
bytes_in image e = bytes_from image e.first_block e.size

-- all but the file that is written, and those after it
abbrev pub finished : Option Written → List DirectoryEntry → List DirectoryEntry
finished None entries = entries
finished (Some w) entries = take w.file entries

-- the directory's entry of a file that isn't being written, by the file's number
abbrev pub finished_file : Option Written → List ChainBlock → ℕ → Option DirectoryEntry
finished_file written chain file = slice_get (finished written (listed_files chain)) file

-- a file's packets but for those of its index, as its bytes have them
pub record HasDataPackets (bytes : List ℕ) (packets : List Packet) : Type 0 where
  pub all : List Packet
  pub bytes_are : bytes ≡ file_bytes all
  pub each : EachFollows [] all
  pub packets_are : packets ≡ filter is_data all

-- the medium shows these packets of a file, whose first block this is, and a book has them first
pub record IsShownWith (image : Image) (first : ℕ) (named : List NodeEntry) (book : Book) (packets : List Packet) : Type 0 where
  pub shown : ShowsPackets image first named packets
  pub begins : BeginsWith book packets

-- the medium shows these packets of a file
pub data ShowsFile (image : Image) (chain : List ChainBlock) (written : Option Written) (file : ℕ)
    (packets : List Packet) : Type 0 where
  in_writing : (w : Written) → written ≡ Some w → w.file ≡ file → IsShownWith image w.first w.named.now w.book.now packets
      → ShowsFile image chain written file packets
  in_directory : (e : DirectoryEntry) → finished_file written chain file ≡ Some e → HasDataPackets (bytes_in image e) packets
      → ShowsFile image chain written file packets
