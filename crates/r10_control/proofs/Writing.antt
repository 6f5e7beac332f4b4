-- The packets that are shown of the file that is recorded, and how far a cursor has come in them.
use Rattle.std.proofs.Common.{◌≡◌, ℕ, zero, suc, ◌^◌, ◌≤◌, List, [], ◌∷◌, length, take, drop, Some, sym, ap, subst, ◌∙◌, arith}
use Rattle.std.specs.Prelude.{slice_get}
use Rattle.std.specs.List.{AllByRecursion}
use Rattle.std.proofs.lemmas.List.{take-append-drop}
use Rattle.r10_medium.specs.Disk.{Image, IsWhole}
use Rattle.r10_blockout.specs.Blocks.{Shows, bytes_from}
use Rattle.r10_blockout.specs.Output.{first_of}
use Rattle.r10_blockout.proofs.Showing.{shown_length}
use Rattle.r10_body.specs.Packets.{file_bytes, file_entries}
use Rattle.r10_body.specs.Rules.{EachFollows}
use Rattle.r10_body.specs.declared.entry.Entry.{Entry}
use Rattle.r10_machine.specs.Cuts.{Agree}
use Rattle.r10_dirblock.specs.declared.entry.Entry.{Entry as DirectoryEntry}
use Rattle.r10_dirchain.specs.Chain.{listed_files}
use Rattle.r10_dirchain.specs.declared.chain.ChainBlock.{ChainBlock}
use Rattle.r10_volume.specs.Holding.{IsCarried, IsWritten, OpenState}
use Rattle.r10_volume.proofs.Carried.{carried_of}
use Rattle.r10_machine.specs.Config.{Config}
use Rattle.r10_machine.specs.Machine.{File, shown_entries}
use Rattle.r10_machine.specs.Sound.{IsEntry}
use Rattle.r10_index.specs.Counted.{IsBookOf, CountsEntriesUpTo}
use Rattle.r10_cursor.specs.Held.{IsCovered, IsHeldFile}
use Rattle.r10_cursor.specs.JudgedFiles.{IsWrittenFile}
use Rattle.r10_cursor.specs.declared.written.Written.{Written}
use Rattle.r10_cursor.proofs.BeforeIndex.{follows_front}
use Rattle.r10_cursor.proofs.Said.{written_held}
use Rattle.r10_cursor.proofs.AlikeFronts.{named_first, one_shown, plain}
use Rattle.r10_cursor.proofs.HowFar.{covered_so}
use Rattle.r10_cursor.specs.Files.{HasDataPackets, IsShownWith, ShowsFile, in_writing, in_directory}
use Rattle.r10_cursor.specs.Read.{IsReadTo, bytes_shown}
use Rattle.r10_cursor.specs.Shown.{ShowsPackets}
use Rattle.r10_control.specs.Reading.{IsToldOf}

pub shown : (image : Image) (o : OpenState) (text : List ℕ) (entries : List Entry) (w : Written) (is : IsCarried image o text entries) → IsToldOf o w → IsShownWith image w.first w.named.now w.book.now (take o.shown is.carries.packets)
shown image o text entries w is reported =
    let packets = is.carries.packets in
    let front = take o.shown packets in
    let has = is.carries.has in
    let book : IsBookOf w.book.now packets = record { named = reported.entries ∙ has.named; counted = subst (λ (numbers : List ℕ). CountsEntriesUpTo numbers packets) (sym reported.counted) has.counted } in
    record {
      shown = record {
        shows = subst (λ (n : ℕ). Shows image n (file_bytes front)) (sym reported.first) is.stands;
        each = follows_front [] front (drop o.shown packets) (subst (EachFollows []) (sym (take-append-drop o.shown packets)) is.carries.says.packed.growing.each);
        named_as = reported.named ∙ ap (take o.shown) has.named ∙ named_first o.shown 0 packets;
      };
      begins = (drop o.shown packets, subst (IsBookOf w.book.now) (sym (take-append-drop o.shown packets)) book);
    }

pub is_shown : (image : Image) (o : OpenState) (text : List ℕ) (entries : List Entry) (w : Written) → IsCarried image o text entries → IsToldOf o w → IsWhole image → length image ≤ 2 ^ 53 → IsWrittenFile image (Some w)
is_shown image o text entries w is reported whole few =
    let front = take o.shown is.carries.packets in
    (front, shown image o text entries w is reported, omega (arith, shown_length image (first_of o.recording.out.blocks) (file_bytes front) whole is.stands, few))

pub is_held : (s : Config) (image : Image) (chain : List ChainBlock) (o : OpenState) (f : File) (w : Written) → IsWritten s image o f → IsToldOf o w → AllByRecursion (IsEntry s) f.entries → IsHeldFile image chain (Some w) w.file f
is_held s image chain o f w is reported entries =
    let packets = is.carries.packets in
    let agree : Agree (file_entries (take o.shown packets)) (shown_entries f) = subst (λ (n : ℕ). Agree (file_entries (take n packets)) (shown_entries f)) is.shown is.cut.agree in
    written_held s image chain w (take o.shown packets) f (shown image o f.setup f.entries w (carried_of s image o f is) reported) agree is.cut.inside entries

-- ---- how far

pub written : (s : Config) (image : Image) (chain : List ChainBlock) (o : OpenState) (f : File) (w : Written) (count n : ℕ) → IsWritten s image o f → IsToldOf o w → (held : IsHeldFile image chain (Some w) w.file f)
    → IsReadTo image f count n → HasDataPackets (bytes_shown image f) held.packets × IsCovered held.packets f count n
written s image chain o f w count n is reported held read = covered_so image f count n held.packets (by held.shows) read
  where
    had : HasDataPackets (bytes_shown image f) (take o.shown is.carries.packets)
    had =
        let packets = is.carries.packets in
        let long : length (file_bytes (take o.shown packets)) ≡ f.size = sym (is.cut.size_is ∙ ap (λ (k : ℕ). length (file_bytes (take k packets))) is.shown) in
        let shows = (shown image o f.setup f.entries w (carried_of s image o f is) reported).shown in
        record {
          all = take o.shown packets;
          bytes_are = ap (λ (k : ℕ). bytes_from image f.first_block k) (sym long) ∙ is.stands;
          each = shows.each;
          packets_are = sym (plain o.shown packets is.carries.says.packed.growing.unindexed);
        }

    by : ShowsFile image chain (Some w) w.file held.packets → HasDataPackets (bytes_shown image f) held.packets
    by (in_writing v same number shows) =
        let here : v ≡ w = cc (same) in
        let known : ShowsPackets image w.first w.named.now held.packets = subst (λ (x : Written). ShowsPackets image x.first x.named.now held.packets) here shows.shown in
        subst (HasDataPackets (bytes_shown image f)) (one_shown image w.first w.named.now (take o.shown is.carries.packets) held.packets (shown image o f.setup f.entries w (carried_of s image o f is) reported).shown known) had
    by (in_directory e found has) = absurd (beyond w.file (listed_files chain) e found)
      where
        beyond : (k : ℕ) (entries : List DirectoryEntry) (e : DirectoryEntry) → slice_get (take k entries) k ≡ Some e → ⊥
        beyond zero entries e found = absurd (cc (found))
        beyond (suc k) [] e found = absurd (cc (found))
        beyond (suc k) (x ∷ entries) e found = beyond k entries e found
