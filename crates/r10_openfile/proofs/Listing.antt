-- A file that was written after all others is listed.
use Rattle.std.proofs.Common.{◌≡◌, ℕ, ◌+◌, ◌*◌, ◌/◌, ◌<◌, ◌≤◌, Bool, true, false, ◌&&◌, List, [], ◌∷◌, ◌++◌, length, take, Option, None, Some, refl, sym, ap, subst, ◌∙◌, arith, length-append}
use Rattle.std.specs.Prelude.{slice_set, nat_lt, nat_le, ◌==◌, IsSomeAnd, if◌then◌else◌}
use Rattle.std.specs.List.{All}
use Rattle.std.proofs.lemmas.Bool.{eq-eqb, lt-ltb, le-leb, false≢true}
use Rattle.std.proofs.lemmas.List.{append-nil, length-set, take_all}
use Rattle.std.proofs.lemmas.List.Elements.{All-nil, All-cons}
use Rattle.r10_count.specs.Checks.{first_broken}
use Rattle.r10_medium.specs.Disk.{Image, IsWhole}
use Rattle.r10_blockout.specs.Blocks.{Shows, bytes_from}
use Rattle.r10_blockout.proofs.Showing.{shown_length}
use Rattle.r10_body.specs.Files.{FileSays, on_channel}
use Rattle.r10_body.specs.Packets.{Packet, file_bytes, file_entries}
use Rattle.r10_body.specs.Rules.{EndsReports}
use Rattle.r10_body.specs.declared.entry.Entry.{Entry}
use Rattle.r10_packetout.specs.Carries.{Recording}
use Rattle.r10_packetout.proofs.Closing.{has_length}
use Rattle.r10_machine.specs.Cuts.{Agree}
use Rattle.r10_dirblock.specs.declared.entry.Entry.{Entry as DirectoryEntry}
use Rattle.r10_dirchain.specs.Chain.{at, listed_files}
use Rattle.r10_dirchain.specs.Mount.{blocks_in, mount_rules, stands}
use Rattle.r10_dirchain.specs.OnMedium.{Turned}
use Rattle.r10_dirchain.specs.Steps.{added, extended, with_entry_more, last_block, last_is_full, last_place, next_directory_block, next_number, spare}
use Rattle.r10_dirchain.specs.declared.chain.ChainBlock.{ChainBlock}
use Rattle.r10_dirchain.proofs.Directories.{some_block}
use Rattle.r10_dirchain.proofs.FileLists.{files-added}
use Rattle.r10_dirchain.proofs.RulesAsFacts.{usable_of}
use Rattle.r10_dirchain.proofs.Staying.{usable-added}
use Rattle.r10_dirchain.proofs.Unique.{one_directory}
use Rattle.r10_dirchain.proofs.Usable.{placed}
use Rattle.r10_volume.specs.Holding.{HoldsFiles, IsWritten, OpenState}
use Rattle.r10_volume.proofs.OtherFilesStay.{found_stays}
use Rattle.r10_body.proofs.Lengths.{file_some}
use Rattle.r10_machine.specs.Checks.{is_sealed}
use Rattle.r10_machine.specs.Config.{Config}
use Rattle.r10_machine.specs.Machine.{File, shown_entries}
use Rattle.r10_machine.specs.Room.{blocks_of}
use Rattle.r10_machine.proofs.Said.{directory_keeps, directory_turns, one_more_said}
use Rattle.r10_machine.specs.EventChecks.{most_files}
use Rattle.r10_machine.specs.Says.{IsFound, Lists, MediumSays, SaysEach, SaysFile}
use Rattle.r10_openfile.specs.Begun.{IsBegun}
use Rattle.r10_openfile.proofs.BehindAll.{held_mounts, stand_from}
use Rattle.r10_openfile.proofs.BackToBack.{all_closed, behind_all, bytes_behind, each_length}
use Rattle.r10_openfile.proofs.Ends.{all_with}
use Rattle.r10_machine.proofs.Growing.{append_last}

longer : (chain : List ChainBlock) (i : ℕ) (b c : ChainBlock) → length (slice_set chain i b ++ c ∷ []) ≡ length chain + 1
longer chain i b c = omega (arith, length-append (slice_set chain i b) (c ∷ []), length-set chain i b)

extended_longer : (e : DirectoryEntry) (chain : List ChainBlock) → length chain < length (extended e chain)
extended_longer e chain =
    let b : ChainBlock = record { number = (at chain (last_place chain)).number; block = record (last_block chain).block { forward = next_number chain } } in
    omega (arith, longer chain (last_place chain) b (next_directory_block e chain))

-- the blocks that are written are reserved ones
pub written_reserved : (reserved blocks : ℕ) (e : DirectoryEntry) (chain : List ChainBlock) → 0 < length chain → first_broken (mount_rules reserved blocks chain) ≡ None → first_broken (mount_rules reserved blocks (added e chain)) ≡ None
    → All (λ (n : ℕ). n ≤ reserved) ((last_block chain).number ∷ spare chain)
written_reserved reserved blocks e chain some mounts made =
    let last = placed reserved 1 chain (usable_of reserved blocks chain mounts).placed (last_place chain) (omega (arith, some)) in
    All-cons (λ (n : ℕ). n ≤ reserved) (last_block chain).number (spare chain) (omega (arith, last.0, last.1)) (by (last_is_full chain) made)
  where
    by : (b : Bool) → first_broken (mount_rules reserved blocks (if b then extended e chain else with_entry_more e chain)) ≡ None → All (λ (n : ℕ). n ≤ reserved) (if b then next_number chain ∷ [] else [])
    by false made = All-nil (λ (n : ℕ). n ≤ reserved)
    by true made =
        let next = placed reserved 1 (extended e chain) (usable_of reserved blocks (extended e chain) made).placed (length chain) (extended_longer e chain) in
        All-cons (λ (n : ℕ). n ≤ reserved) (next_number chain) [] (omega (arith, next.1)) (All-nil (λ (n : ℕ). n ≤ reserved))

-- and none of them is block 0
pub written_some : (reserved blocks : ℕ) (chain : List ChainBlock) → 0 < length chain → first_broken (mount_rules reserved blocks chain) ≡ None → All (λ (n : ℕ). 1 ≤ n) ((last_block chain).number ∷ spare chain)
written_some reserved blocks chain some mounts =
    let last = placed reserved 1 chain (usable_of reserved blocks chain mounts).placed (last_place chain) (omega (arith, some)) in
    All-cons (λ (n : ℕ). 1 ≤ n) (last_block chain).number (spare chain) (omega (arith, last.0)) (by (last_is_full chain))
  where
    by : (b : Bool) → All (λ (n : ℕ). 1 ≤ n) (if b then next_number chain ∷ [] else [])
    by false = All-nil (λ (n : ℕ). 1 ≤ n)
    by true = All-cons (λ (n : ℕ). 1 ≤ n) (next_number chain) [] (omega arith) (All-nil (λ (n : ℕ). 1 ≤ n))

module _ (s : Config) (old : Image) (chain : List ChainBlock) (files : List File) (r : Recording) (f : File) (e : DirectoryEntry) (whole : IsWhole old) (held : HoldsFiles s old chain None files) (begun : IsBegun s old files r f)
    (closed : is_sealed files ≡ true) (few : length files < most_files s) (lists : Lists f e) where
  mounts : first_broken (mount_rules s.directory s.blocks chain) ≡ None
  mounts = held_mounts s old chain files held.says held.directory

  each : SaysEach old (listed_files chain) files
  each = subst (λ (c : List ChainBlock). SaysEach old (listed_files c) files) (one_directory old held.says.chain chain held.says.directory held.directory) held.says.each

  abbrev bytes : List ℕ
  bytes = file_bytes begun.carries.packets

  long : length bytes ≡ f.size
  long = begun.carries.has.bytes.size ∙ sym begun.size

  some : 0 < f.size
  some = omega (arith, long, file_some bytes f.setup f.entries false begun.says)

  place : f.first_block ≡ s.directory + 1 + blocks_in (listed_files chain)
  place = omega (arith, begun.place, behind_all s old s.blocks None (listed_files chain) files (stand_from s chain mounts) each)

  inside : f.first_block + blocks_of f.size ≤ length old
  inside = omega (arith, some, long, shown_length old f.first_block bytes whole begun.shows)

  its_bytes : bytes_from old f.first_block f.size ≡ bytes
  its_bytes = ap (bytes_from old f.first_block) (sym long) ∙ begun.shows

  all_shown : shown_entries f ≡ f.entries
  all_shown = take_all f.shown f.entries (omega (arith, begun.whole))

  said : SaysFile old f
  said = record {
    inside = inside;
    says = subst (λ (b : Bool). FileSays (bytes_from old f.first_block f.size) f.setup (shown_entries f) b) (sym begun.unclosed)
        (subst (λ (es : List Entry). FileSays (bytes_from old f.first_block f.size) f.setup es false) (sym all_shown)
        (subst (λ (l : List ℕ). FileSays l f.setup f.entries false) (sym its_bytes) begun.says));
  }

  here : stands s.blocks (s.directory + 1 + blocks_in (listed_files chain)) e ≡ true
  here =
      let n = s.directory + 1 + blocks_in (listed_files chain) in
      four (e.first_block == n) (nat_lt 0 e.size) (e.block_count == (e.size + 511) / 512) (nat_le (n + e.block_count) s.blocks)
      (eq-eqb e.first_block n (omega (arith, lists.first_block, place)))
      (lt-ltb 0 e.size (omega (arith, lists.size, some)))
      (eq-eqb e.block_count ((e.size + 511) / 512) (lists.block_count ∙ ap blocks_of (sym lists.size)))
      (le-leb (n + e.block_count) s.blocks (omega (arith, lists.block_count, place, inside, held.says.blocks)))
    where
      four : (a b c d : Bool) → a ≡ true → b ≡ true → c ≡ true → d ≡ true → (a && b && c && d) ≡ true
      four a b c d x y z w = rw (x, y, z, w) refl

  pub mounts_made : first_broken (mount_rules s.directory s.blocks (added e chain)) ≡ None
  mounts_made =
      usable-added s.directory s.blocks e old chain held.directory mounts (all_closed old None (listed_files chain) files each (usable_of s.directory s.blocks chain mounts).closed closed)
      (omega (arith, few, each_length old (listed_files chain) files each)) here

  pub reserved : All (λ (n : ℕ). n ≤ s.directory) ((last_block chain).number ∷ spare chain)
  reserved = written_reserved s.directory s.blocks e chain (some_block old chain held.directory) mounts mounts_made

  pub begun_says : (new : Image) → Turned (added e chain) ((last_block chain).number ∷ spare chain) old new → MediumSays s new (files ++ f ∷ [])
  begun_says new turned =
      directory_turns s old new (added e chain) ((last_block chain).number ∷ spare chain) (files ++ f ∷ []) whole held.says.blocks turned reserved mounts_made
      (subst (λ (l : List DirectoryEntry). SaysEach old l (files ++ f ∷ [])) (sym (files-added e chain (some_block old chain held.directory))) (one_more_said old (listed_files chain) files e f each lists said))

  pub begun_bytes : (new : Image) (size : ℕ) → Turned (added e chain) ((last_block chain).number ∷ spare chain) old new → bytes_from new f.first_block size ≡ bytes_from old f.first_block size
  begun_bytes new size turned = bytes_behind old new s.directory f.first_block size ((last_block chain).number ∷ spare chain) turned.others reserved (omega (arith, place))

  agree : Agree (file_entries begun.carries.packets) f.entries
  agree = record {
    on = λ channel.
        ap (λ (es : List Entry). on_channel channel es) (sym (append-nil (file_entries begun.carries.packets)) ∙ ap (λ (es : List Entry). file_entries begun.carries.packets ++ es) (sym begun.none))
        ∙ begun.carries.says.entries_are channel;
  }

  begun_written : (new : Image) → Turned (added e chain) ((last_block chain).number ∷ spare chain) old new → IsWritten s new (record { recording = r; shown = length r.out.entries }) f
  begun_written new turned =
      let packets = begun.carries.packets in
      let has = begun.carries.has in
      let same : (n : ℕ) → bytes_from new f.first_block n ≡ bytes_from old f.first_block n = λ n. begun_bytes new n turned in
      let count : length packets ≡ length r.out.entries = sym (has_length r.out old packets has) in
      let taken : take (length packets) packets ≡ packets = take_all (length packets) packets (omega arith) in
      let front = take (512 * r.out.blocks.full) (file_bytes packets) in
      record {
        time = begun.time;
        event = begun.event;
        first = begun.first;
        unclosed = begun.unclosed;
        own = begun.own;
        carries = record {
          packets = packets;
          has = record {
            bytes = record {
              size = has.bytes.size;
              blocks = subst (λ (n : ℕ). Shows new n front) (sym begun.first) (same (length front) ∙ subst (λ (n : ℕ). Shows old n front) begun.first has.bytes.blocks);
              tail = has.bytes.tail;
            };
            named = has.named;
            counted = has.counted;
            numbered = has.numbered;
          };
          says = begun.carries.says;
        };
        cut = record {
          count = length packets;
          within = omega arith;
          whole = subst EndsReports (sym taken) begun.carries.says.packed.growing.quiet;
          size_is = sym long ∙ ap (λ (l : List Packet). length (file_bytes l)) (sym taken);
          inside = omega (arith, begun.whole);
          agree = subst (λ (l : List Packet). Agree (file_entries l) (take f.shown f.entries)) (sym taken) (subst (λ (l : List Entry). Agree (file_entries packets) l) (sym all_shown) agree);
        };
        shown = count;
        stands = subst (λ (l : List Packet). Shows new f.first_block (file_bytes l)) (sym (ap (λ (n : ℕ). take n packets) (sym count) ∙ taken)) (same (length (file_bytes packets)) ∙ begun.shows);
      }

  pub begun_holds : (new : Image) → Turned (added e chain) ((last_block chain).number ∷ spare chain) old new → HoldsFiles s new (added e chain) (Some (record { recording = r; shown = length r.out.entries })) (files ++ f ∷ [])
  begun_holds new turned =
      let o : OpenState = record { recording = r; shown = length r.out.entries } in
      let keep = directory_keeps s old new ((last_block chain).number ∷ spare chain) files whole held.says turned.others reserved in
      record {
        says = begun_says new turned;
        directory = turned.directory;
        found = all_with (λ (g : File). g.own ≡ false → IsFound new g) files f (found_stays old new files keep held.found) (λ other. absurd (false≢true (sym other ∙ begun.own)));
        last = subst (λ (l : Option File). IsSomeAnd l (IsWritten s new o)) (sym (append_last None files f)) (begun_written new turned);
      }
