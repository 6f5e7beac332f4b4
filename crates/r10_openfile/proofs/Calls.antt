-- A file that has begun: its last block, and then its entry in the directory.
use Rattle.std.proofs.Common.{◌≡◌, false, ℕ, ◌*◌, ◌<◌, ◌⊎◌, ⊎_elim, inl, List, [], ◌∷◌, ◌++◌, length, take, None, Some, Result, sym, ap, subst, ◌∙◌, arith}
use Rattle.std.specs.Prelude.{◌≢◌, OnOk}
use Rattle.std.specs.List.{All}
use Rattle.std.proofs.lemmas.List.{append-nil, take_all}
use Rattle.std.proofs.lemmas.List.Elements.{All-cons, All-from_get_or, All-tail}
use Rattle.r10_medium.specs.Disk.{Disk, Image, IsSynced, Unchanged, block_at}
use Rattle.r10_medium.specs.PowerLoss.{Leaves, Settled}
use Rattle.r10_medium.proofs.PowerLoss.{below_puts, joined, settled_reads, then_stays, weakened, whole_reads}
use Rattle.r10_blockout.specs.Blocks.{Shows, bytes_from, blocks_for, file_blocks, first_blocks}
use Rattle.r10_blockout.specs.Output.{Puts, first_of}
use Rattle.r10_blockout.proofs.Joining.{carries_past}
use Rattle.r10_body.specs.Files.{FileSays}
use Rattle.r10_body.specs.Packets.{Packet, file_bytes}
use Rattle.r10_body.specs.declared.entry.Entry.{Entry}
use Rattle.r10_packetout.specs.Carries.{Records, Recording}
use Rattle.r10_packetout.proofs.Closing.{has_length}
use Rattle.r10_dirblock.specs.declared.entry.Entry.{Entry as DirectoryEntry}
use Rattle.r10_dirchain.specs.Chain.{HoldsBlock, IsDirectory, at, blank_block}
use Rattle.r10_dirchain.specs.OnMedium.{SameButIn, Turned, Turns}
use Rattle.r10_dirchain.specs.Steps.{added, last_block, last_place, spare}
use Rattle.r10_dirchain.specs.declared.chain.ChainBlock.{ChainBlock}
use Rattle.r10_dirchain.proofs.Directories.{some_block, still_holds}
use Rattle.r10_dirchain.proofs.Turning.{on_ok}
use Rattle.r10_volume.specs.Holding.{HoldsFiles, IsCarried}
use Rattle.r10_machine.specs.Config.{Config}
use Rattle.r10_machine.specs.Machine.{File}
use Rattle.r10_machine.specs.Room.{next_block}
use Rattle.r10_machine.specs.Says.{MediumSays}
use Rattle.r10_openfile.specs.Begun.{IsBegun, MayList}
use Rattle.r10_openfile.proofs.BehindAll.{behind_holds, behind_moments}
use Rattle.r10_openfile.proofs.BackToBack.{same_from}
use Rattle.r10_openfile.proofs.ListedTurning.{begun_held, begun_moments, begun_reads, begun_settled, sure_says}

-- ---- whatever the medium has: its directory stays while blocks after it are put

pub directory_stays : (old new durable : Disk) (chain : List ChainBlock) (first : ℕ) (blocks : Image) → IsDirectory old.blocks chain → All (λ (b : ChainBlock). b.number < first) chain → Puts first blocks old new → Unchanged new durable → IsDirectory durable.blocks chain
directory_stays old new durable chain first blocks there below put same =
    let kept = below_puts first blocks old.blocks new.blocks put.reads in
    subst (λ (l : Image). IsDirectory l chain) (sym same.reads)
    (record {
      linked = there.linked;
      holds = All-from_get_or (HoldsBlock new.blocks) chain blank_block (λ i lt. still_holds old.blocks new.blocks (at chain i) (there.holds i blank_block lt) kept.size (kept.blocks (at chain i).number (below i blank_block lt)));
    })

-- what is carried and shown stays where blocks below it change
carried_behind : (r : Recording) (numbers : List ℕ) (old new : Image) (text : List ℕ) (entries : List Entry) (carried : Records r old text entries) → Shows old (first_of r.out.blocks) (file_bytes carried.packets) → SameButIn numbers old new
    → All (λ (n : ℕ). n < first_of r.out.blocks) numbers → IsCarried new (record { recording = r; shown = length r.out.entries }) text entries
carried_behind r numbers old new text entries carried shows same below =
    let packets = carried.packets in
    let has = carried.has in
    let front = take (512 * r.out.blocks.full) (file_bytes packets) in
    let count : length packets ≡ length r.out.entries = sym (has_length r.out old packets has) in
    let taken : packets ≡ take (length r.out.entries) packets = sym (ap (λ (n : ℕ). take n packets) (sym count) ∙ take_all (length packets) packets (omega arith)) in
    record {
      carries = record {
        packets = packets;
        has = record {
          bytes = record {
            size = has.bytes.size;
            blocks = same_from old new (first_of r.out.blocks) (length front) numbers same below ∙ has.bytes.blocks;
            tail = has.bytes.tail;
          };
          named = has.named;
          counted = has.counted;
          numbered = has.numbered;
        };
        says = carried.says;
      };
      within = omega (arith, count);
      stands = subst (λ (l : List Packet). Shows new (first_of r.out.blocks) (file_bytes l)) taken (same_from old new (first_of r.out.blocks) (length (file_bytes packets)) numbers same below ∙ shows);
    }

-- the packets, with the last block
abbrev past_carries : (r : Recording) (old mid : Disk) (text : List ℕ) (entries : List Entry) (carried : Records r old.blocks text entries) → Puts (first_of r.out.blocks) (file_blocks (file_bytes carried.packets)) old mid → Records r mid.blocks text entries
past_carries r old mid text entries carried put = record {
  packets = carried.packets;
  has = record {
    bytes = carries_past r.out.blocks (file_bytes carried.packets) [] old mid carried.has.bytes
        (subst (λ (b : List ℕ). Puts (first_of r.out.blocks) (file_blocks b) old mid) (sym (append-nil (file_bytes carried.packets))) put);
    named = carried.has.named;
    counted = carried.has.counted;
    numbered = carried.has.numbered;
  };
  says = carried.says;
}

-- so it is while a file is listed
pub listed_carried : {T E : Type 0} (chain : List ChainBlock) (e : DirectoryEntry) (r : Recording) (old mid durable new : Disk) (result : Result T E) (text : List ℕ) (entries : List Entry) (carried : Records r old.blocks text entries) → IsDirectory durable.blocks chain
    → All (λ (b : ChainBlock). b.number < first_of r.out.blocks) chain → All (λ (n : ℕ). n < first_of r.out.blocks) (spare chain) → Puts (first_of r.out.blocks) (file_blocks (file_bytes carried.packets)) old mid
    → Shows mid.blocks (first_of r.out.blocks) (file_bytes carried.packets) → Unchanged mid durable
    → Turns chain (added e chain) (spare chain) ((last_block chain).number ∷ spare chain) durable new result → OnOk result (IsCarried new.blocks (record { recording = r; shown = length r.out.entries }) text entries)
listed_carried chain e r old mid durable new result text entries carried there below spares put shows same turns =
    let changed = (last_block chain).number ∷ spare chain in
    let turned : Image → Type 0 = Turned (added e chain) changed durable.blocks in
    let less = All-cons (λ (n : ℕ). n < first_of r.out.blocks) (last_block chain).number (spare chain) (below (last_place chain) blank_block (omega (arith, some_block durable.blocks chain there))) spares in
    on_ok result (Settled turned new) (IsCarried new.blocks (record { recording = r; shown = length r.out.entries }) text entries)
    (λ settled. carried_behind r changed mid.blocks new.blocks text entries (past_carries r old mid text entries carried put) shows
    (subst (λ (l : Image). SameButIn changed l new.blocks) same.reads (settled_reads turned new settled).others) less)
    turns.settled

-- the blocks in front of a file that is put stay
pub front_put : (first k : ℕ) (blocks : Image) (old new : Disk) → Puts first blocks old new → k < first → block_at new.blocks k ≡ block_at old.blocks k
front_put first k blocks old new put less = (below_puts first blocks old.blocks new.blocks put.reads).blocks k less

-- and so they do while it is listed, but for the directory's
pub front_listed : {T E : Type 0} (chain made : List ChainBlock) (first k n : ℕ) (unlinked : List ℕ) (blocks : Image) (old mid durable new : Disk) (result : Result T E) → Puts first blocks old mid → Unchanged mid durable
    → Turns chain made unlinked (n ∷ unlinked) durable new result → k < first → All (λ (i : ℕ). k ≢ i) (n ∷ unlinked) → block_at new.blocks k ≡ block_at old.blocks k
front_listed chain made first k n unlinked blocks old mid durable new result put same turns less apart =
    ⊎_elim (λ was. was.others.others k (All-tail (λ (i : ℕ). k ≢ i) n unlinked apart)) (λ is. is.others.others k apart) turns.reads
    ∙ ap (λ (l : Image). block_at l k) same.reads ∙ front_put first k blocks old mid put less

-- a step of the directory
pub turned_size : {T E : Type 0} (chain made : List ChainBlock) (unlinked changed : List ℕ) (old new : Disk) (result : Result T E) → Turns chain made unlinked changed old new result → length new.blocks ≡ length old.blocks
turned_size chain made unlinked changed old new result turns = ⊎_elim (λ was. was.others.size) (λ is. is.others.size) turns.reads

-- ---- the last block

module _ (s : Config) (chain : List ChainBlock) (files : List File) (f : File) (e : DirectoryEntry) (r : Recording) (old mid : Disk) (may : MayList s old.blocks chain files r f e)
    (put : Puts (first_of r.out.blocks) (file_blocks (file_bytes may.carries.packets)) old mid) where
  abbrev bytes : List ℕ
  bytes = file_bytes may.carries.packets

  put_here : Puts (next_block s files) (first_blocks (bytes ++ []) (blocks_for (length bytes))) old mid
  put_here =
      subst (λ (l : List ℕ). Puts (next_block s files) (first_blocks l (blocks_for (length bytes))) old mid) (sym (append-nil bytes))
      (subst (λ (n : ℕ). Puts n (file_blocks bytes) old mid) (may.first ∙ may.place) put)

  pub last_holds : HoldsFiles s mid.blocks chain None files
  last_holds = behind_holds s files bytes old.blocks mid.blocks (whole_reads old) (record { more = []; count = blocks_for (length bytes); puts = put_here.reads }) chain may.held

  pub last_moments : Settled (λ image. MediumSays s image files) old → Leaves (λ image. MediumSays s image files ⊎ MediumSays s image (files ++ f ∷ [])) old mid
  last_moments settled =
      weakened (λ image. MediumSays s image files) (λ image. MediumSays s image files ⊎ MediumSays s image (files ++ f ∷ [])) old mid (λ image says. inl says)
      (behind_moments s files bytes (blocks_for (length bytes)) old mid put_here settled)

  pub last_begun : Shows mid.blocks (first_of r.out.blocks) bytes → FileSays bytes f.setup f.entries false → IsBegun s mid.blocks files r f
  last_begun shows says = record {
    time = may.time;
    event = may.event;
    first = may.first;
    place = may.place;
    size = may.size;
    unclosed = may.unclosed;
    own = may.own;
    whole = may.whole;
    none = may.none;
    carries = past_carries r old mid f.setup f.entries may.carries put;
    shows = subst (λ (n : ℕ). Shows mid.blocks n bytes) may.first shows;
    says = says;
  }

-- ---- and then the entry

module _ {T E : Type 0} (s : Config) (chain : List ChainBlock) (files : List File) (f : File) (e : DirectoryEntry) (r : Recording) (old mid durable new : Disk) (result : Result T E) (may : MayList s old.blocks chain files r f e)
    (put : Puts (first_of r.out.blocks) (file_blocks (file_bytes may.carries.packets)) old mid) (shows : Shows mid.blocks (first_of r.out.blocks) (file_bytes may.carries.packets)) (says : FileSays (file_bytes may.carries.packets) f.setup f.entries false)
    (same : Unchanged mid durable) (synced : IsSynced durable) (turns : Turns chain (added e chain) (spare chain) ((last_block chain).number ∷ spare chain) durable new result) where
  held : HoldsFiles s durable.blocks chain None files
  held = subst (λ (l : Image). HoldsFiles s l chain None files) (sym same.reads) (last_holds s chain files f e r old mid may put)

  begun : IsBegun s durable.blocks files r f
  begun = subst (λ (l : Image). IsBegun s l files r f) (sym same.reads) (last_begun s chain files f e r old mid may put shows says)

  pub listed_holds : OnOk result (HoldsFiles s new.blocks (added e chain) (Some (record { recording = r; shown = length r.out.entries })) (files ++ f ∷ []))
  listed_holds = begun_held s chain files r f e durable new result held begun may.sealed may.few may.lists turns

  pub listed_reads : MediumSays s new.blocks files ⊎ MediumSays s new.blocks (files ++ f ∷ [])
  listed_reads = begun_reads s chain files r f e durable new result held begun may.sealed may.few may.lists turns

  pub listed_settled : OnOk result (Settled (λ image. MediumSays s image (files ++ f ∷ []) × (bytes_from image f.first_block f.size ≡ bytes_from new.blocks f.first_block f.size) × IsDirectory image (added e chain)) new)
  listed_settled = begun_settled s chain files r f e durable new result held begun may.sealed may.few may.lists turns

  pub listed_moments : Settled (λ image. MediumSays s image files) old → Leaves (λ image. MediumSays s image files ⊎ MediumSays s image (files ++ f ∷ [])) old new
  listed_moments settled =
      let left : Image → Type 0 = λ image. MediumSays s image files ⊎ MediumSays s image (files ++ f ∷ []) in
      joined left old durable new (then_stays left old mid durable (last_moments s chain files f e r old mid may put settled) same)
      (begun_moments s chain files r f e durable new result held begun may.sealed may.few may.lists turns (sure_says s durable chain files synced held))
