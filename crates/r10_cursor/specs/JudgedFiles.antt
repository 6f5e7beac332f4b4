-- What is kept of files that were judged.
use Rattle.std.specs.Prelude.{◌≡◌, ◌≢◌, ℕ, ◌^◌, ◌<◌, List, [], ◌∷◌, ◌++◌, length, filter, slice_get, Option, Some, IfSome}
use Rattle.std.specs.Prelude.{IsSomeAnd}
use Rattle.std.specs.List.{AllByRecursion}
use Rattle.r10_medium.specs.Disk.{Image}
use Rattle.r10_dirblock.specs.Block.{is_closed}
use Rattle.r10_dirblock.specs.declared.entry.Entry.{Entry as DirectoryEntry}
use Rattle.r10_dirchain.specs.declared.chain.ChainBlock.{ChainBlock}
use Rattle.r10_body.specs.Packets.{Packet, file_bytes}
use Rattle.r10_body.specs.Rules.{is_data}
use Rattle.r10_index.specs.Counted.{IsBookOf}
pub use Rattle.r10_judge.specs.Judged.{SaysClosed}
use Rattle.r10_judge.specs.Judged.{TracksStrictFile, IsTracked}
use Rattle.r10_cursor.specs.Files.{IsShownWith, bytes_in, finished_file}
use Rattle.r10_cursor.specs.declared.books.Books.{Books}
use Rattle.r10_cursor.specs.declared.judged_file.JudgedFile.{JudgedFile}
use Rattle.r10_cursor.specs.declared.written.Written.{Written}
use Rattle.r10_cursor.specs.declared.written.Shown.{Shown}

-- it is kept of the packets of a strict file, which the medium shows with the first block and the closing of this directory entry
pub record IsUnder (image : Image) (e : DirectoryEntry) (k : JudgedFile) : Type 0 where
  pub first : k.first ≡ e.first_block
  pub is_kept : TracksStrictFile (is_closed e) k.tracks (bytes_in image e)

-- and of the entry of the file's number
abbrev pub IsOf : Image → List ChainBlock → Option Written → JudgedFile → Type 0
IsOf image chain written k = IsSomeAnd (finished_file written chain k.file) (λ e. IsUnder image e k)

-- of the file that is written, the medium shows packets, these are what nodes say of them, and the book has them first
abbrev pub IsWrittenFile : Image → Option Written → Type 0
IsWrittenFile image written = IfSome written (λ w. (packets : List Packet)
    × IsShownWith image w.first w.named.now w.book.now packets × (length (file_bytes packets) < 2 ^ 63))

-- where the file is the one that is written, what is reported of it is what the medium shows
abbrev pub IsToldRight : Image → Option Written → ℕ → Type 0
IsToldRight image written file = IsSomeAnd written (λ w. w.file ≡ file) → IsWrittenFile image written

-- what a reader keeps of the files that it has judged is what the medium shows of them
abbrev pub HasJudged : Image → List ChainBlock → Option Written → Books → Type 0
HasJudged image chain written books = AllByRecursion (IsOf image chain written) books.kept.items

-- and so is what is reported of the file that is written
pub record Knows (image : Image) (chain : List ChainBlock) (written : Option Written) (books : Books) : Type 0 where
  pub judged : HasJudged image chain written books
  pub writing : IsWrittenFile image written

-- a file was judged, whose number and directory entry these are, and what is kept of it stands after the others
pub record IsAdded (image : Image) (file : ℕ) (e : DirectoryEntry) (old new : List JudgedFile) : Type 0 where
  pub kept : JudgedFile
  pub behind : new ≡ old ++ kept ∷ []
  pub number : kept.file ≡ file
  pub is_under : IsUnder image e kept

-- the file is there: the one that is written, or a strict one with the closing of its directory entry
pub data IsRead (image : Image) (chain : List ChainBlock) (written : Option Written) (file : ℕ) : Type 0 where
  is_written : (w : Written) → written ≡ Some w → w.file ≡ file → IsRead image chain written file
  is_strict : (e : DirectoryEntry) → finished_file written chain file ≡ Some e → SaysClosed (bytes_in image e) (is_closed e)
      → IsRead image chain written file

-- the file is the one that is written, or what is kept at a place is kept of it
pub data IsLearned (image : Image) (chain : List ChainBlock) (written : Option Written) (file : ℕ) (books : List JudgedFile)
    (place : ℕ) : Type 0 where
  by_telling : (w : Written) → written ≡ Some w → w.file ≡ file → IsLearned image chain written file books place
  by_judging : (e : DirectoryEntry) (k : JudgedFile) → IfSome written (λ w. w.file ≢ file)
      → finished_file written chain file ≡ Some e → slice_get books place ≡ Some k → IsUnder image e k
      → IsLearned image chain written file books place

-- where the packets stand of a file that was judged, and what nodes say of them
pub record IsBook (k : JudgedFile) (shown : Shown) : Type 0 where
  pub first : shown.first ≡ k.first
  pub named : shown.named.now ≡ shown.book.now.entries
  pub book : (packets : List Packet) → IsTracked k.tracks packets → IsBookOf shown.book.now (filter is_data packets)

-- the file is there, and this tells where packets of it stand that the medium shows, fewer than 2^63 bytes
pub record HasPlaces (image : Image) (chain : List ChainBlock) (written : Option Written) (file : ℕ) (shown : Shown) : Type 0 where
  pub read : IsRead image chain written file
  pub packets : List Packet
  pub is_shown : IsShownWith image shown.first shown.named.now shown.book.now packets
  pub short : length (file_bytes packets) < 2 ^ 63
