-- Files that a medium says, and what is read of them.
use Rattle.std.proofs.Common.{◌≡◌, ℕ, zero, suc, ◌<◌, ◌≤◌, Bool, true, false, List, [], ◌∷◌, ◌++◌, length, Option, Some, None, refl, sym, ap, subst, ◌∙◌, arith}
use Rattle.std.specs.Prelude.{filter, IfSome, slice_get}
use Rattle.std.specs.List.{AllByRecursion}
use Rattle.std.proofs.lemmas.List.{take_all}
use Rattle.r10_medium.specs.Disk.{Image}
use Rattle.r10_blockout.specs.Blocks.{bytes_from}
use Rattle.r10_dirblock.specs.Block.{is_closed}
use Rattle.r10_dirblock.specs.declared.entry.Entry.{Entry as DirectoryEntry}
use Rattle.r10_dirchain.specs.Chain.{IsDirectory, listed_files}
use Rattle.r10_dirchain.specs.declared.chain.ChainBlock.{ChainBlock}
use Rattle.r10_dirchain.proofs.Unique.{one_directory}
use Rattle.r10_body.specs.Content.{Content, node, root, report}
use Rattle.r10_body.specs.Faults.{IsAtFault}
use Rattle.r10_body.specs.Files.{on_channel}
use Rattle.r10_body.specs.Packets.{Packet, packet_entries, file_entries}
use Rattle.r10_body.specs.Rules.{is_data, is_index}
use Rattle.r10_body.specs.declared.entry.Entry.{Entry}
use Rattle.r10_body.specs.declared.fault.FileFault.{FileFault}
use Rattle.r10_body.proofs.Injective.{one_file}
use Rattle.r10_judge.specs.Judged.{SaysClosed}
use Rattle.r10_judge.proofs.Places.{strict_apart}
use Rattle.r10_machine.specs.Cuts.{Agree}
use Rattle.r10_machine.specs.Config.{Config}
use Rattle.r10_machine.specs.Machine.{File, shown_entries}
use Rattle.r10_machine.specs.Finding.{ticks_of}
use Rattle.r10_machine.specs.Says.{IsFound, Lists, MediumSays, SaysEach, SaysFile}
use Rattle.r10_machine.specs.Sound.{IsEntry}
use Rattle.r10_cursor.specs.Files.{IsShownWith, in_writing, in_directory, bytes_in, finished_file}
use Rattle.r10_cursor.specs.Held.{IsHeldFile}
use Rattle.r10_cursor.specs.declared.written.Written.{Written}
use Rattle.r10_cursor.proofs.Clipping.{among_first}
use Rattle.r10_cursor.proofs.Times.{same_ticks}

-- ---- the file of an entry, and the entry of a file

pub record IsSaid (image : Image) (e : DirectoryEntry) (f : File) : Type 0 where
  pub lists : Lists f e
  pub says : SaysFile image f

said_by : (image : Image) (entries : List DirectoryEntry) (fs : List File) (k : ℕ) (e : DirectoryEntry) → SaysEach image entries fs → slice_get entries k ≡ Some e → (f : File) × IsSaid image e f
said_by image [] fs k e each at = absurd (cc (at))
said_by image (d ∷ entries) [] k e each at = absurd each
said_by image (d ∷ entries) (f ∷ fs) zero e each at =
    let same : d ≡ e = cc (at) in
    (f, subst (λ (x : DirectoryEntry). IsSaid image x f) same (record { lists = each.0; says = each.1 }))
said_by image (d ∷ entries) (f ∷ fs) (suc k) e each at = said_by image entries fs k e each.2 at

pub listed_by : (image : Image) (entries : List DirectoryEntry) (fs : List File) (k : ℕ) (f : File) → SaysEach image entries fs → slice_get fs k ≡ Some f → (e : DirectoryEntry) × (slice_get entries k ≡ Some e) × IsSaid image e f
listed_by image entries [] k f each at = absurd (cc (at))
listed_by image [] (g ∷ fs) k f each at = absurd each
listed_by image (e ∷ entries) (g ∷ fs) zero f each at =
    let same : g ≡ f = cc (at) in
    (e, refl, subst (IsSaid image e) same (record { lists = each.0; says = each.1 }))
listed_by image (e ∷ entries) (g ∷ fs) (suc k) f each at = listed_by image entries fs k f each.2 at

-- the medium's directory is the one that is known
pub says_each : (s : Config) (image : Image) (fs : List File) (chain : List ChainBlock) → MediumSays s image fs → IsDirectory image chain → SaysEach image (listed_files chain) fs
says_each s image fs chain says directory = subst (λ (c : List ChainBlock). SaysEach image (listed_files c) fs) (one_directory image says.chain chain says.directory directory) says.each

-- the bytes by the entry are those by the file
pub same_bytes : (image : Image) (e : DirectoryEntry) (f : File) → Lists f e → bytes_from image f.first_block f.size ≡ bytes_in image e
same_bytes image e f lists = ap (λ (n : ℕ). bytes_from image n f.size) (sym lists.first_block) ∙ ap (bytes_from image e.first_block) (sym lists.size)

pub not_at_fault : (s : Config) (image : Image) (fs : List File) (chain : List ChainBlock) (file : ℕ) (e : DirectoryEntry) (offset : ℕ) (fault : FileFault) → MediumSays s image fs → IsDirectory image chain
    → slice_get (listed_files chain) file ≡ Some e → IsAtFault (bytes_in image e) (is_closed e) offset fault → ⊥
not_at_fault s image fs chain file e offset fault says directory at wrong =
    let said = said_by image (listed_files chain) fs file e (says_each s image fs chain says directory) at in
    let f = said.0 in
    let is = said.1 in
    let strict : SaysClosed (bytes_in image e) f.closed = subst (λ (l : List ℕ). SaysClosed l f.closed) (same_bytes image e f is.lists) (f.setup, shown_entries f, is.says.says) in
    strict_apart (bytes_in image e) (is_closed e) offset fault wrong (subst (λ (b : Bool). SaysClosed (bytes_in image e) b) (sym is.lists.closed) strict)

-- ---- a file's packets without its index

pub no_entries : (p : Packet) → is_index p ≡ true → packet_entries p ≡ []
no_entries p i = by p.content refl
  where
    unlike : false ≡ true → ⊥
    unlike e = cc

    by : (c : Content) → p.content ≡ c → packet_entries p ≡ []
    by (report loss) e = rw e refl
    by (node es) e = rw e refl
    by (root es) e = rw e refl
    by c e = (let bad : is_index p ≡ false = rw e refl in absurd (unlike (sym bad ∙ i)))

pub data_entries : (ps : List Packet) → file_entries (filter is_data ps) ≡ file_entries ps
data_entries [] = refl
data_entries (p ∷ ps) = by (is_index p) refl (data_entries ps)
  where
    by : (b : Bool) → is_index p ≡ b → file_entries (filter is_data ps) ≡ file_entries ps → file_entries (filter is_data (p ∷ ps)) ≡ file_entries (p ∷ ps)
    by true i rest = rw i (rest ∙ ap (λ (es : List Entry). es ++ file_entries ps) (sym (no_entries p i)))
    by false i rest = rw i (ap (λ (es : List Entry). packet_entries p ++ es) rest)

-- ---- what is held

-- the file of a number, and its directory entry, where it isn't being written
pub found_entry : (written : Option Written) (chain : List ChainBlock) (file : ℕ) (e : DirectoryEntry) → IfSome written (λ w. file < w.file) → slice_get (listed_files chain) file ≡ Some e → finished_file written chain file ≡ Some e
found_entry None chain file e before at = at
found_entry (Some w) chain file e before at = among_first (listed_files chain) w.file file before ∙ at

-- a file that is stated is held, where its packets have its times
held_by : (image : Image) (chain : List ChainBlock) (written : Option Written) (file : ℕ) (e : DirectoryEntry) (f : File) → finished_file written chain file ≡ Some e → (is : IsSaid image e f) → f.shown ≤ length f.entries
    → ticks_of (file_entries is.says.says.0) ≡ ticks_of (shown_entries f) → IsHeldFile image chain written file f
held_by image chain written file e f found is inside ticks =
    let packets = is.says.says.0 in
    let say = is.says.says.2 in
    let same = data_entries packets in
    record {
      packets = filter is_data packets;
      shows = in_directory e found (record { all = packets; bytes_are = sym (same_bytes image e f is.lists) ∙ is.says.says.1; each = say.file.each; packets_are = refl });
      inside = inside;
      agree = record { on = λ c. ap (on_channel c) same ∙ say.entries_are c };
      ticks = ap ticks_of same ∙ ticks;
    }

pub found_held : (s : Config) (image : Image) (fs : List File) (chain : List ChainBlock) (written : Option Written) (file : ℕ) (f : File) → MediumSays s image fs → IsDirectory image chain
    → IfSome written (λ w. file < w.file) → slice_get fs file ≡ Some f → IsFound image f → IsHeldFile image chain written file f
found_held s image fs chain written file f says directory before at is =
    let listed = listed_by image (listed_files chain) fs file f (says_each s image fs chain says directory) at in
    let e = listed.0 in
    let said = listed.2 in
    let all = said.says.says.0 in
    let one : is.packets ≡ all = one_file [] is.packets all is.each said.says.says.2.file.each (sym is.bytes_are ∙ said.says.says.1) in
    let whole : shown_entries f ≡ f.entries = take_all f.shown f.entries (omega (arith, is.shown)) in
    held_by image chain written file e f (found_entry written chain file e before listed.1) said (omega (arith, is.shown)) (ap ticks_of (sym (whole ∙ is.entries_are ∙ ap file_entries one)))

pub own_held : (s : Config) (image : Image) (fs : List File) (chain : List ChainBlock) (written : Option Written) (file : ℕ) (f : File) → MediumSays s image fs → IsDirectory image chain
    → IfSome written (λ w. file < w.file) → slice_get fs file ≡ Some f → f.shown ≤ length f.entries → AllByRecursion (IsEntry s) f.entries → IsHeldFile image chain written file f
own_held s image fs chain written file f says directory before at inside entries =
    let listed = listed_by image (listed_files chain) fs file f (says_each s image fs chain says directory) at in
    let e = listed.0 in
    let said = listed.2 in
    held_by image chain written file e f (found_entry written chain file e before listed.1) said inside (same_ticks s (file_entries said.says.says.0) f.shown f.entries (record { on = said.says.says.2.entries_are }) entries)

pub written_held : (s : Config) (image : Image) (chain : List ChainBlock) (w : Written) (packets : List Packet) (f : File) → IsShownWith image w.first w.named.now w.book.now packets → Agree (file_entries packets) (shown_entries f)
    → f.shown ≤ length f.entries → AllByRecursion (IsEntry s) f.entries → IsHeldFile image chain (Some w) w.file f
written_held s image chain w packets f shown agree inside entries = record {
  packets = packets;
  shows = in_writing w refl refl shown;
  inside = inside;
  agree = agree;
  ticks = same_ticks s (file_entries packets) f.shown f.entries agree entries;
}
