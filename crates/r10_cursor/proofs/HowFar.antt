-- How far cursors have come in the files that a medium shows.
use Rattle.std.proofs.Common.{◌≡◌, ℕ, zero, suc, ◌≤◌, ◌<◌, List, [], ◌∷◌, ◌++◌, take, Option, None, Some, IsSomeAnd, refl, sym, ap, subst, ◌∙◌, arith}
use Rattle.std.specs.Prelude.{IfSome, filter, slice_get}
use Rattle.std.proofs.lemmas.List.{length-append, take-append-le, take-take}
use Rattle.std.proofs.lemmas.List.Elements.{filter-append}
use Rattle.r10_medium.specs.Disk.{Image}
use Rattle.r10_blockout.specs.Blocks.{bytes_from}
use Rattle.r10_body.specs.Packets.{Packet, file_bytes, file_entries}
use Rattle.r10_body.specs.Rules.{EachFollows, is_data}
use Rattle.r10_machine.specs.Cuts.{Agree}
use Rattle.r10_dirblock.specs.declared.entry.Entry.{Entry as DirectoryEntry}
use Rattle.r10_dirchain.specs.Chain.{IsDirectory, listed_files}
use Rattle.r10_dirchain.specs.declared.chain.ChainBlock.{ChainBlock}
use Rattle.r10_machine.specs.Config.{Config}
use Rattle.r10_machine.specs.Machine.{File, Cursor as MachineCursor, cursor_at, shown_entries}
use Rattle.r10_machine.specs.Says.{MediumSays}
use Rattle.r10_cursor.specs.Files.{HasDataPackets, ShowsFile, in_writing, in_directory, bytes_in, finished_file}
use Rattle.r10_cursor.specs.Held.{IsCovered, IsHeldFile}
use Rattle.r10_cursor.specs.declared.cursor.Cursor.{Cursor}
use Rattle.r10_cursor.specs.declared.written.Written.{Written}
use Rattle.r10_cursor.proofs.Said.{listed_by, says_each, same_bytes, found_entry}
use Rattle.r10_cursor.specs.Read.{IsReadTo, HasRead, HaveRead, ShowsMore, ShowMore, KeepsShown, KeepsBytes, GrowsShown, bytes_shown}
use Rattle.r10_cursor.specs.Staying.{NoneShrinks}
use Rattle.r10_cursor.specs.RepresentedCursors.{SlotStandsFor, SlotsStandFor, slot_at}
use Rattle.r10_cursor.proofs.AlikeFronts.{shown_front, one_had}

-- ---- a file that goes on

covered_more : (packets more : List Packet) (f g : File) (count n : ℕ) → f.shown ≤ g.shown → take f.shown g.entries ≡ shown_entries f → IsCovered packets f count n → IsCovered (packets ++ more) g count n
covered_more packets more f g count n less same covered =
    let front : take count packets ≡ take count (packets ++ more) = sym (take-append-le count packets more covered.within) in
    let first : take n f.entries ≡ take n g.entries =
    sym (take-take n f.shown f.entries covered.inside) ∙ sym (ap (take n) same) ∙ take-take n f.shown g.entries covered.inside in
    record {
      within = omega (arith, covered.within, length-append packets more);
      inside = omega (arith, covered.inside, less);
      agree = subst (λ (l : List Packet). Agree (file_entries l) (take n g.entries)) front (subst (Agree (file_entries (take count packets))) first covered.agree);
    }

read_still : (old new : Image) (f g : File) (count n : ℕ) (qs : List Packet) → KeepsShown old new f g → bytes_shown new g ≡ file_bytes qs → EachFollows [] qs → IsReadTo old f count n → IsReadTo new g count n
read_still old new f g count n qs keeps whole follow read =
    let has = read.has in
    let here : bytes_from new g.first_block f.size ≡ file_bytes has.all = ap (λ (k : ℕ). bytes_from new k f.size) keeps.more.first ∙ keeps.bytes ∙ has.bytes_are in
    let more = shown_front new g.first_block f.size g.size has.all qs keeps.size here whole has.each follow in
    let front : filter is_data qs ≡ read.packets ++ filter is_data more.0 =
    ap (filter is_data) more.1 ∙ filter-append is_data has.all more.0 ∙ ap (λ (l : List Packet). l ++ filter is_data more.0) (sym has.packets_are) in
    record {
      packets = filter is_data qs;
      has = record { all = qs; bytes_are = whole; each = follow; packets_are = refl };
      covered = subst (λ (l : List Packet). IsCovered l g count n) (sym front) (covered_more read.packets (filter is_data more.0) f g count n keeps.more.shown keeps.more.entries read.covered);
    }

-- ---- all files

record IsFollowed (old new : Image) (f : File) (later : List File) (k : ℕ) : Type 0 where
  file : File
  at : slice_get later k ≡ Some file
  keeps : KeepsShown old new f file

followed : (old new : Image) (files later : List File) (k : ℕ) (f : File) → GrowsShown old new files later → slice_get files k ≡ Some f → IsFollowed old new f later k
followed old new [] later k f grown at = absurd (cc (at))
followed old new (g ∷ files) [] k f grown at = absurd grown
followed old new (g ∷ files) (h ∷ later) zero f grown at =
    let same : g ≡ f = cc (at) in
    record { file = h; at = refl; keeps = subst (λ (x : File). KeepsShown old new x h) same grown.0 }
followed old new (g ∷ files) (h ∷ later) (suc k) f grown at =
    let rest = followed old new files later k f grown.1 at in
    record { file = rest.file; at = rest.at; keeps = rest.keeps }

-- what the medium says of a file, as packets
pub said_packets : (s : Config) (image : Image) (files : List File) (k : ℕ) (f : File) → MediumSays s image files → slice_get files k ≡ Some f → (qs : List Packet) × (bytes_shown image f ≡ file_bytes qs) × EachFollows [] qs
said_packets s image files k f says at =
    let listed = listed_by image (listed_files says.chain) files k f says.each at in
    let said = listed.2.says.says in
    (said.0, said.1, said.2.file.each)

file_still : (s : Config) (old new : Image) (files later : List File) (k count n : ℕ) → GrowsShown old new files later → MediumSays s new later → IsSomeAnd (slice_get files k) (λ f. IsReadTo old f count n)
    → IsSomeAnd (slice_get later k) (λ f. IsReadTo new f count n)
file_still s old new files later k count n grown says read = by (slice_get files k) refl read
  where
    by : (o : Option File) → slice_get files k ≡ o → IsSomeAnd o (λ f. IsReadTo old f count n) → IsSomeAnd (slice_get later k) (λ f. IsReadTo new f count n)
    by None at none = absurd none
    by (Some f) at one =
        let next = followed old new files later k f grown at in
        let reported = said_packets s new later k next.file says next.at in
        subst (λ (o : Option File). IsSomeAnd o (λ g. IsReadTo new g count n)) (sym next.at) (read_still old new f next.file count n reported.0 next.keeps reported.1 reported.2 one)

cursor_still : (s : Config) (old new : Image) (files later : List File) (generation : ℕ) (slot : Option Cursor) (cursor : Option MachineCursor) → GrowsShown old new files later → MediumSays s new later
    → HasRead old files generation slot cursor → HasRead new later generation slot cursor
cursor_still s old new files later generation (Some c) (Some m) grown says read = λ now. file_still s old new files later c.file c.reading.covered m.covered grown says (read now)
cursor_still s old new files later generation (Some c) None grown says read = tt
cursor_still s old new files later generation None cursor grown says read = tt

pub grown : (s : Config) (old new : Image) (files later : List File) (generation : ℕ) (slots : List (Option Cursor)) (cursors : List (Option MachineCursor)) → HaveRead old files generation slots cursors
    → GrowsShown old new files later → MediumSays s new later → HaveRead new later generation slots cursors
grown s old new files later generation slots cursors read grows says = record {
  each = λ id. cursor_still s old new files later generation (slot_at slots id) (cursor_at cursors id) grows says (read.each id);
}

-- ---- a new generation

past : (image : Image) (files : List File) (before generation : ℕ) (slot : Option Cursor) (cursor : Option MachineCursor) → SlotStandsFor slot cursor → IfSome cursor (λ m. m.generation ≤ before) → before < generation
    → HasRead image files generation slot cursor
past image files before generation (Some c) (Some m) stands earlier later = λ now. absurd (omega (arith, now, stands.generation, earlier, later))
past image files before generation (Some c) None stands earlier later = tt
past image files before generation None cursor stands earlier later = tt

pub begun_anew : (image : Image) (files : List File) (before generation : ℕ) (slots : List (Option Cursor)) (cursors : List (Option MachineCursor)) → SlotsStandFor slots cursors
    → ((id : ℕ) → IfSome (cursor_at cursors id) (λ m. m.generation ≤ before)) → before < generation → HaveRead image files generation slots cursors
begun_anew image files before generation slots cursors stand earlier later = record {
  each = λ id. past image files before generation (slot_at slots id) (cursor_at cursors id) (stand.each id) (earlier id) later;
}

pub none_stand : SlotsStandFor [] []
none_stand = record { each = λ id. tt }

-- ---- what is shown stays

pub still : (f : File) → ShowsMore f f
still f = record { first = refl; shown = omega arith; entries = refl }

pub same : (image : Image) (files : List File) → GrowsShown image image files files
same image [] = tt
same image (f ∷ files) = (record { more = still f; size = omega arith; bytes = refl }, same image files)

-- where files show more, of no fewer bytes, and the image keeps the bytes
pub grows : (old new : Image) (files later : List File) → ShowMore files later → NoneShrinks files later → KeepsBytes old new files → GrowsShown old new files later
grows old new [] later more none bytes = tt
grows old new (f ∷ files) [] more none bytes = absurd more
grows old new (f ∷ files) (g ∷ later) more none bytes = (record { more = more.0; size = none.0; bytes = bytes.0 }, grows old new files later more.1 none.1 bytes.1)

-- ---- the packets by which a file is read

pub covered_so : (image : Image) (f : File) (count n : ℕ) (packets : List Packet) → HasDataPackets (bytes_shown image f) packets → IsReadTo image f count n → HasDataPackets (bytes_shown image f) packets × IsCovered packets f count n
covered_so image f count n packets has read =
    (has, subst (λ (l : List Packet). IsCovered l f count n) (one_had (bytes_shown image f) read.packets packets read.has has) read.covered)

pub listed : (s : Config) (image : Image) (machine : List File) (chain : List ChainBlock) (written : Option Written) (file : ℕ) (f : File) (count n : ℕ) → MediumSays s image machine → IsDirectory image chain
    → IfSome written (λ w. file < w.file) → slice_get machine file ≡ Some f → (held : IsHeldFile image chain written file f) → IsReadTo image f count n
    → HasDataPackets (bytes_shown image f) held.packets × IsCovered held.packets f count n
listed s image machine chain written file f count n says directory before at held read = covered_so image f count n held.packets (by held.shows) read
  where
    one : (e d : DirectoryEntry) → finished_file written chain file ≡ Some e → finished_file written chain file ≡ Some d → e ≡ d
    one e d first second = let both : Some e ≡ Some d = sym first ∙ second in cc

    by : ShowsFile image chain written file held.packets → HasDataPackets (bytes_shown image f) held.packets
    by (in_writing w is number shows) = absurd (omega (arith, number, (let less : IfSome (Some w) (λ (w : Written). file < w.file) = subst (λ (o : Option Written). IfSome o (λ w. file < w.file)) is before in less)))
    by (in_directory e found has) =
        let entry = listed_by image (listed_files chain) machine file f (says_each s image machine chain says directory) at in
        let here : e ≡ entry.0 = one e entry.0 found (found_entry written chain file entry.0 before entry.1) in
        subst (λ (l : List ℕ). HasDataPackets l held.packets) (ap (bytes_in image) here ∙ sym (same_bytes image entry.0 f entry.2.lists)) has
