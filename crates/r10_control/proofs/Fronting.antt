-- Which blocks a call leaves as they were.
use Rattle.std.proofs.Common.{◌≡◌, ◌<◌, ◌-◌, ◌*◌, ℕ, List, [], ◌∷◌, length, Option, None, Some, Result, inl, inr, refl, sym, subst, arith}
use Rattle.std.specs.Prelude.{IfSome}
use Rattle.std.specs.List.{last_or}
use Rattle.r10_blockout.specs.Blocks.{bytes_from}
use Rattle.r10_blockout.specs.Output.{first_of}
use Rattle.r10_body.specs.Packets.{Packet}
use Rattle.r10_count.specs.declared.civil.Parts.{Parts}
use Rattle.r10_dirblock.specs.declared.entry.Entry.{Entry as DirectoryEntry}
use Rattle.r10_dirchain.specs.Chain.{listed_files}
use Rattle.r10_dirchain.specs.OnMedium.{Turns}
use Rattle.r10_dirchain.specs.Steps.{with_shutdown}
use Rattle.r10_dirchain.specs.declared.chain.ChainBlock.{ChainBlock}
use Rattle.r10_machine.specs.Config.{Config}
use Rattle.r10_machine.specs.Machine.{Tick}
use Rattle.r10_refinement.specs.KeptState.{Kept, Work, failed, idle, recording, unmounted}
use Rattle.r10_medium.proofs.PowerLoss.{below_puts, puts, started, unchanged}
use Rattle.r10_medium.specs.Disk.{Disk, Image, Unchanged}
use Rattle.r10_medium.specs.PowerLoss.{Leaves}
use Rattle.r10_openfile.specs.AtOnce.{BeginsAtOnce, SparesFront, TurnsAtOnce}
use Rattle.r10_seal.specs.Judging.{IsUnsealable}
use Rattle.r10_seal.specs.Sealing.{IsPartlySealed, IsSealing, IsUnsealed, listing_block}
use Rattle.r10_volume.specs.Front.{KeepsFront}
use Rattle.r10_volume.specs.Holding.{OpenState}
use Rattle.r10_volume.specs.Listing.{block_behind}
use Rattle.r10_volume.specs.Mounting.{IsUnusable, IsUsable}
use Rattle.r10_control.specs.Effects.{closed_listing}
use Rattle.r10_control.specs.Fronts.{CommitSpares, IdleSpares, IsLastUnsealed, ListsAtOnce, MountSpares, RecordedSpares, SealSpares, StartSpares, StartsAtOnce, StopSpares, WritesFrom, begun_from, recorded_from, sized_listing}
use Rattle.r10_control.proofs.Owning.{sealed_front}
pub use Rattle.r10_openfile.proofs.AtOnce.{begins_nothing, lists_at_once, spared_at_once, spares_all, spares_puts, then_at_once, turns_at_once}

-- nothing was written
pub writes_none : (reserved : ℕ) (from : Option ℕ) (image : Image) → WritesFrom reserved from image image
writes_none reserved None image = refl
writes_none reserved (Some first) image = record { size = refl; zeroth = λ less. refl; blocks = λ n behind less. refl }

-- a file is recorded
pub writes_recorded : (reserved : ℕ) (k : Kept) (old new : Image) (chain : List ChainBlock) (o : OpenState) → k.work ≡ recording chain o → KeepsFront reserved (first_of o.recording.out.blocks) old new
    → WritesFrom reserved (recorded_from k.work) old new
writes_recorded reserved k old new chain o at front = subst (λ (w : Work). WritesFrom reserved (recorded_from w) old new) (sym at) front

-- a file is begun
pub writes_begun : (k : Kept) (old new : Image) (chain : List ChainBlock) → k.work ≡ idle chain → KeepsFront k.config.directory (block_behind k.config.directory (listed_files chain)) old new
    → WritesFrom k.config.directory (begun_from k.config.directory k.work) old new
writes_begun k old new chain at front = subst (λ (w : Work). WritesFrom k.config.directory (begun_from k.config.directory w) old new) (sym at) front

-- ---- a dismount and an erase

pub idle_spares_all : (turned : List ChainBlock → List ChainBlock) (w : Work) (disk : Disk) → IdleSpares turned w disk disk
idle_spares_all turned unmounted disk = unchanged disk
idle_spares_all turned (idle chain) disk = spared_at_once (length disk.blocks) (turned chain) [] (1 ∷ []) disk disk (spares_all (length disk.blocks) disk)
idle_spares_all turned (recording chain o) disk = unchanged disk
idle_spares_all turned failed disk = unchanged disk

pub idle_spares : {T E : Type 0} (turned : List ChainBlock → List ChainBlock) (w : Work) (chain : List ChainBlock) (old new : Disk) (result : Result T E) → w ≡ idle chain → Turns chain (turned chain) [] (1 ∷ []) old new result → IdleSpares turned w old new
idle_spares turned w chain old new result at turns =
    subst (λ (x : Work). IdleSpares turned x old new) (sym at) (turns_at_once (length old.blocks) chain (turned chain) [] (1 ∷ []) old new result turns)

-- ---- a start

pub start_spares_all : (name : List ℕ) (k : Kept) (disk : Disk) → StartSpares name k disk disk
start_spares_all name k disk = record { front = writes_none k.config.directory (begun_from k.config.directory k.work) disk.blocks; at_once = by k.tick }
  where
    idle_all : (civil : Parts) (w : Work) → StartsAtOnce name civil k.config.directory w disk disk
    idle_all civil unmounted = unchanged disk
    idle_all civil (idle chain) = let first = block_behind k.config.directory (listed_files chain) in begins_nothing name civil first chain disk disk (spares_all first disk)
    idle_all civil (recording chain o) = unchanged disk
    idle_all civil failed = unchanged disk

    by : (t : Option Tick) → IfSome t (λ (tick : Tick). StartsAtOnce name tick.civil k.config.directory k.work disk disk)
    by None = tt
    by (Some tick) = idle_all tick.civil k.work

pub start_spares : (name : List ℕ) (k : Kept) (tick : Tick) (chain : List ChainBlock) (old new : Disk) → k.tick ≡ Some tick → k.work ≡ idle chain → KeepsFront k.config.directory (block_behind k.config.directory (listed_files chain)) old.blocks new.blocks
    → BeginsAtOnce name tick.civil (block_behind k.config.directory (listed_files chain)) chain old new → StartSpares name k old new
start_spares name k tick chain old new ticked at front begins = record {
  front = writes_begun k old.blocks new.blocks chain at front;
  at_once = subst (λ (t : Option Tick). IfSome t (λ (x : Tick). StartsAtOnce name x.civil k.config.directory k.work old new)) (sym ticked)
      (subst (λ (w : Work). StartsAtOnce name tick.civil k.config.directory w old new) (sym at) begins);
}

-- ---- a tick, an event and a pump

pub recorded_spares_all : (w : Work) (disk : Disk) → RecordedSpares w disk disk
recorded_spares_all unmounted disk = unchanged disk
recorded_spares_all (idle chain) disk = unchanged disk
recorded_spares_all (recording chain o) disk = spares_all (first_of o.recording.out.blocks) disk
recorded_spares_all failed disk = unchanged disk

pub recorded_spares : (w : Work) (chain : List ChainBlock) (o : OpenState) (old new : Disk) → w ≡ recording chain o → SparesFront (first_of o.recording.out.blocks) old new → RecordedSpares w old new
recorded_spares w chain o old new at spares = subst (λ (x : Work). RecordedSpares x old new) (sym at) spares

-- ---- a commit and a stop

lists_at_once_all : (listing : ℕ → List ChainBlock → List ChainBlock) (w : Work) (disk : Disk) → ListsAtOnce listing w disk disk
lists_at_once_all listing unmounted disk = unchanged disk
lists_at_once_all listing (idle chain) disk = unchanged disk
lists_at_once_all listing (recording chain o) disk =
    let first = first_of o.recording.out.blocks in
    (0, spared_at_once first (listing 0 chain) [] (listing_block chain) disk disk (spares_all first disk))
lists_at_once_all listing failed disk = unchanged disk

pub commit_spares_all : (k : Kept) (disk : Disk) → CommitSpares k disk disk
commit_spares_all k disk = record { front = writes_none k.config.directory (recorded_from k.work) disk.blocks; at_once = lists_at_once_all sized_listing k.work disk }

pub stop_spares_all : (k : Kept) (disk : Disk) → StopSpares k disk disk
stop_spares_all k disk = record { front = writes_none k.config.directory (recorded_from k.work) disk.blocks; at_once = by k.tick }
  where
    by : (t : Option Tick) → IfSome t (λ (tick : Tick). ListsAtOnce (closed_listing tick.civil) k.work disk disk)
    by None = tt
    by (Some tick) = lists_at_once_all (closed_listing tick.civil) k.work disk

lists_recorded : (listing : ℕ → List ChainBlock → List ChainBlock) (w : Work) (chain : List ChainBlock) (o : OpenState) (old new : Disk) → w ≡ recording chain o
    → ((size : ℕ) × TurnsAtOnce (first_of o.recording.out.blocks) (listing size chain) [] (listing_block chain) old new) → ListsAtOnce listing w old new
lists_recorded listing w chain o old new at lists = subst (λ (x : Work). ListsAtOnce listing x old new) (sym at) lists

pub commit_spares : (k : Kept) (chain : List ChainBlock) (o : OpenState) (old new : Disk) → k.work ≡ recording chain o → KeepsFront k.config.directory (first_of o.recording.out.blocks) old.blocks new.blocks
    → ((size : ℕ) × TurnsAtOnce (first_of o.recording.out.blocks) (sized_listing size chain) [] (listing_block chain) old new) → CommitSpares k old new
commit_spares k chain o old new at front lists = record {
  front = writes_recorded k.config.directory k old.blocks new.blocks chain o at front;
  at_once = lists_recorded sized_listing k.work chain o old new at lists;
}

pub stop_spares : (k : Kept) (tick : Tick) (chain : List ChainBlock) (o : OpenState) (old new : Disk) → k.tick ≡ Some tick → k.work ≡ recording chain o → KeepsFront k.config.directory (first_of o.recording.out.blocks) old.blocks new.blocks
    → ((size : ℕ) × TurnsAtOnce (first_of o.recording.out.blocks) (closed_listing tick.civil size chain) [] (listing_block chain) old new) → StopSpares k old new
stop_spares k tick chain o old new ticked at front lists = record {
  front = writes_recorded k.config.directory k old.blocks new.blocks chain o at front;
  at_once = subst (λ (t : Option Tick). IfSome t (λ (x : Tick). ListsAtOnce (closed_listing x.civil) k.work old new)) (sym ticked) (lists_recorded (closed_listing tick.civil) k.work chain o old new at lists);
}

-- ---- a mount

pub mount_spares_all : (reserved : ℕ) (disk : Disk) → MountSpares reserved disk disk
mount_spares_all reserved disk = record {
  usable = λ chain usable. spared_at_once (length disk.blocks) (with_shutdown 0x00 chain) [] (1 ∷ []) disk disk (spares_all (length disk.blocks) disk);
  unusable = λ n is. unchanged disk;
}

pub mount_spares : {T E : Type 0} (reserved : ℕ) (old new : Disk) (result : Result T E) → ((chain : List ChainBlock) → IsUsable reserved old.blocks chain → Turns chain (with_shutdown 0x00 chain) [] (1 ∷ []) old new result)
    → ((n : ℕ) → IsUnusable reserved old.blocks n → Unchanged old new) → MountSpares reserved old new
mount_spares reserved old new result turns same = record {
  usable = λ chain usable. turns_at_once (length old.blocks) chain (with_shutdown 0x00 chain) [] (1 ∷ []) old new result (turns chain usable);
  unusable = same;
}

-- ---- a seal

pub seal_spares_all : (s : Config) (w : Work) (disk : Disk) → SealSpares s w disk disk
seal_spares_all s w disk = record {
  front = λ chain e packets is. writes_none s.directory (Some e.first_block) disk.blocks;
  moments = λ chain e packets is. started (IsSealing s.nodes e packets chain disk) disk (λ image may. inl (image, may, (puts e.first_block _).same image));
  reads = λ chain e packets is. inl ((puts e.first_block _).same disk.blocks);
  unsealable = λ e last is. unchanged disk;
}

some_listed : (listed : List DirectoryEntry) (e : DirectoryEntry) → last_or None listed ≡ Some e → 0 < length listed
some_listed [] e last = absurd (cc)
some_listed (x ∷ listed) e last = omega arith

-- the file's blocks lie after its first one, and the directory's within the reserved ones
partly_front : (reserved : ℕ) (old new : Image) (chain : List ChainBlock) (nodes : ℕ) (e : DirectoryEntry) (packets : List Packet) → IsUsable reserved old chain → 0 < length (listed_files chain) → IsPartlySealed nodes e packets chain old new
    → KeepsFront reserved e.first_block old new
partly_front reserved old new chain nodes e packets usable some (inl puts) =
    let below = below_puts e.first_block _ old new puts in
    record { size = puts.size; zeroth = λ less. below.blocks 0 less; blocks = λ n behind less. below.blocks n less }
partly_front reserved old new chain nodes e packets usable some (inr (made, closed)) = sealed_front reserved old new chain made nodes e packets usable some closed

pub seal_spares : (k : Kept) (old new : Disk) (chain : List ChainBlock) (nodes : ℕ) → k.work ≡ idle chain → nodes ≡ k.config.nodes → IsUsable k.config.directory old.blocks chain
    → ((e : DirectoryEntry) (text : List ℕ) (packets : List Packet) → last_or None (listed_files chain) ≡ Some e → IsUnsealed (bytes_from old.blocks e.first_block e.size) text packets → Leaves (IsSealing nodes e packets chain old) old new)
    → ((e : DirectoryEntry) (text : List ℕ) (packets : List Packet) → last_or None (listed_files chain) ≡ Some e → IsUnsealed (bytes_from old.blocks e.first_block e.size) text packets → IsPartlySealed nodes e packets chain old.blocks new.blocks)
    → ((e : DirectoryEntry) → last_or None (listed_files chain) ≡ Some e → IsUnsealable (bytes_from old.blocks e.first_block e.size) (512 * (length old.blocks - e.first_block)) → Unchanged old new)
    → SealSpares k.config k.work old new
seal_spares k old new chain nodes at groups usable moments reads same =
    subst (λ (w : Work). SealSpares k.config w old new) (sym at)
    record {
      front = λ others e packets is. partly_front k.config.directory old.blocks new.blocks chain nodes e packets usable (some_listed (listed_files chain) e (its_last others e packets is)) (reads e is.text packets (its_last others e packets is) is.unsealed);
      moments = λ others e packets is.
          subst (λ (n : ℕ). Leaves (IsSealing n e packets others old) old new) groups
          (subst (λ (c : List ChainBlock). Leaves (IsSealing nodes e packets c old) old new) (same_chain chain others is.in_use)
          (moments e is.text packets (its_last others e packets is) is.unsealed));
      reads = λ others e packets is.
          subst (λ (n : ℕ). IsPartlySealed n e packets others old.blocks new.blocks) groups
          (subst (λ (c : List ChainBlock). IsPartlySealed nodes e packets c old.blocks new.blocks) (same_chain chain others is.in_use)
          (reads e is.text packets (its_last others e packets is) is.unsealed));
      unsealable = same;
    }
  where
    same_chain : (a b : List ChainBlock) → idle a ≡ idle b → a ≡ b
    same_chain a b is = cc

    its_last : (others : List ChainBlock) (e : DirectoryEntry) (packets : List Packet) → IsLastUnsealed (idle chain) old.blocks others e packets → last_or None (listed_files chain) ≡ Some e
    its_last others e packets is = subst (λ (c : List ChainBlock). last_or None (listed_files c) ≡ Some e) (sym (same_chain chain others is.in_use)) is.last
