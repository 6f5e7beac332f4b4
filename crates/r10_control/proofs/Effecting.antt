-- What a call that answers Ok has done.
use Rattle.std.proofs.Common.{◌≡◌, ℕ, ◌+◌, ◌<◌, ◌≤◌, List, [], ◌∷◌, ◌++◌, length, Option, Some, Result, refl, sym, ap, ◌∙◌, subst, ⊎_elim, arith}
use Rattle.std.specs.Prelude.{◌≢◌, IsSomeAnd}
use Rattle.std.specs.Option.{option_or}
use Rattle.std.proofs.lemmas.List.Elements.{All-cons, All-nil}
use Rattle.r10_blockout.specs.Output.{first_of, size_of}
use Rattle.r10_body.specs.declared.spec.ChannelSpec.{ChannelSpec}
use Rattle.r10_dirblock.specs.Block.{begun_entry, sized}
use Rattle.r10_dirblock.specs.declared.entry.Entry.{Entry as DirectoryEntry}
use Rattle.r10_dirchain.specs.Chain.{IsDirectory, listed_files}
use Rattle.r10_dirchain.specs.OnMedium.{IsPublished, Turns}
use Rattle.r10_dirchain.specs.Steps.{added, emptied, last_listed, updated, with_shutdown}
use Rattle.r10_dirchain.specs.declared.chain.ChainBlock.{ChainBlock}
use Rattle.r10_dirchain.proofs.Directories.{some_block}
use Rattle.r10_dirchain.proofs.FileLists.{files-with_shutdown}
use Rattle.r10_dirchain.proofs.Usable.{place_rules_hold, placed}
use Rattle.r10_volume.specs.Holding.{OpenState}
use Rattle.r10_machine.specs.Machine.{Tick}
use Rattle.r10_refinement.specs.KeptState.{Kept, Work, unmounted, idle, recording, failed}
use Rattle.r10_medium.specs.Disk.{Disk, Image, block_at}
use Rattle.r10_control.specs.Closing.{IsListedClosed}
use Rattle.r10_body.specs.declared.entry.Entry.{Entry}
use Rattle.r10_openfile.specs.Carrying.{EndsIndexed, IsShown}
use Rattle.r10_packetout.specs.Carries.{time_entry_at}
use Rattle.r10_mux.specs.Writes.{next_event}
use Rattle.r10_control.specs.Effects.{CommitEffect, DismountEffect, Effect, EraseEffect, EventEffect, HasDirectory, MountEffect, PumpEffect, StartEffect, StartEffectAt, StopEffect, StopEffectAt, TickEffect, WhereIdle, WhereRecording}
use Rattle.r10_control.specs.Owns.{OwnsWork}
use Rattle.r10_volume.specs.Front.{KeepsFront}
use Rattle.r10_volume.specs.Listing.{block_behind}
use Rattle.r10_volume.specs.Mounting.{IsMounted, IsUsable}
use Rattle.r10_builder.specs.Grows.{all_held}
use Rattle.r10_builder.specs.LeftOpen.{LeavesOpen, closing, still_open}
use Rattle.r10_builder.specs.Settings.{is_old}

-- of a directory that is used some block is reserved
pub some_reserved : (reserved : ℕ) (image : Image) (chain : List ChainBlock) → IsUsable reserved image chain → 1 ≤ reserved
some_reserved reserved image chain usable =
    omega (arith, (placed reserved 1 chain (place_rules_hold reserved (length image) chain usable.rules) 0 (some_block image chain usable.directory)).1)

-- a step that writes block 1 alone
pub one_block : {T E : Type 0} (reserved first : ℕ) (chain made : List ChainBlock) (old new : Disk) (result : Result T E) → 1 ≤ reserved → Turns chain made [] (1 ∷ []) old new result → KeepsFront reserved first old.blocks new.blocks
one_block reserved first chain made old new result some turns = record {
  size = ⊎_elim (λ was. was.others.size) (λ is. is.others.size) turns.reads;
  zeroth = λ less. ⊎_elim (λ was. was.others.others 0 (All-nil (λ (n : ℕ). 0 ≢ n)))
      (λ is. is.others.others 0 (All-cons (λ (n : ℕ). 0 ≢ n) 1 [] (λ e. absurd (omega (arith, e))) (All-nil (λ (n : ℕ). 0 ≢ n)))) turns.reads;
  blocks = λ k behind less. ⊎_elim (λ was. was.others.others k (All-nil (λ (n : ℕ). k ≢ n)))
      (λ is. is.others.others k (All-cons (λ (n : ℕ). k ≢ n) 1 [] (λ e. absurd (omega (arith, e, behind, some))) (All-nil (λ (n : ℕ). k ≢ n)))) turns.reads;
}

-- ---- the calls on the directory

pub mount_effect : {T E : Type 0} (k : Kept) (old new : Disk) (made : List ChainBlock) (result : Result T E) → IsMounted k.config.directory old.blocks made
    → ((chain : List ChainBlock) → IsUsable k.config.directory old.blocks chain → Turns chain (with_shutdown 0x00 chain) [] (1 ∷ []) old new result) → IsPublished made new
    → (found : Option ℕ) → found ≡ option_or k.found (Some (length (listed_files made))) → MountEffect k old (record k { work = idle made; found = found }) new
mount_effect k old new made result is turns published found first = record {
  chain = is.chain;
  usable = is.usable;
  effect = record {
    kept = ap (λ (l : List ChainBlock). record k { work = idle l; found = found }) is.made_is
        ∙ ap (λ (o : Option ℕ). record k { work = idle (with_shutdown 0x00 is.chain); found = o }) (first ∙ ap (λ (l : List DirectoryEntry). option_or k.found (Some (length l))) (ap (λ (l : List ChainBlock). listed_files l) is.made_is ∙ files-with_shutdown 0x00 is.chain));
    front = one_block k.config.directory (length old.blocks) is.chain (with_shutdown 0x00 is.chain) old new result (some_reserved k.config.directory old.blocks is.chain is.usable) (turns is.chain is.usable);
    directory = subst (λ (l : List ChainBlock). IsPublished l new) is.made_is published;
  };
}

-- the directory in use
pub idle_usable : {L : Type 0} (spec_of : L → ChannelSpec) (reached : L → ℕ) (k : Kept) (image : Image) (lanes : List L) (chain : List ChainBlock) → k.work ≡ idle chain → OwnsWork spec_of reached k k.work image lanes
    → IsUsable k.config.directory image chain
idle_usable spec_of reached k image lanes chain at owns = subst (λ (w : Work). OwnsWork spec_of reached k w image lanes) at owns

pub dismount_effect : {T E : Type 0} (k : Kept) (old new : Disk) (chain made : List ChainBlock) (result : Result T E) → k.work ≡ idle chain → IsUsable k.config.directory old.blocks chain
    → Turns chain (with_shutdown 0xFF chain) [] (1 ∷ []) old new result → made ≡ with_shutdown 0xFF chain → IsPublished made new → DismountEffect k old (record k { work = unmounted }) new
dismount_effect k old new chain made result at usable turns is published = rw at (record {
  kept = refl;
  front = one_block k.config.directory (length old.blocks) chain (with_shutdown 0xFF chain) old new result (some_reserved k.config.directory old.blocks chain usable) turns;
  directory = subst (λ (l : List ChainBlock). IsPublished l new) is published;
})

pub erase_effect : {T E : Type 0} (k : Kept) (old new : Disk) (chain made : List ChainBlock) (result : Result T E) → k.work ≡ idle chain → IsUsable k.config.directory old.blocks chain
    → Turns chain (emptied chain) [] (1 ∷ []) old new result → made ≡ emptied chain → IsPublished made new → (erased : List ℕ) → k.taken ≡ erased
    → EraseEffect k old (record k { work = idle made; generation = k.generation + 1; erased = erased; found = Some 0 }) new
erase_effect k old new chain made result at usable turns is published erased copied = rw at (record {
  kept = rw (is, sym copied) refl;
  front = one_block k.config.directory (length old.blocks) chain (emptied chain) old new result (some_reserved k.config.directory old.blocks chain usable) turns;
  directory = subst (λ (l : List ChainBlock). IsPublished l new) is published;
})

-- ---- the calls on the file that is recorded

pub start_effect : (k : Kept) (old new : Disk) (chain made : List ChainBlock) (o : OpenState) (tick : Tick) (name setup : List ℕ) → k.work ≡ idle chain → k.tick ≡ Some tick
    → first_of o.recording.out.blocks ≡ block_behind k.config.directory (listed_files chain)
    → made ≡ added (sized (size_of o.recording.out.blocks) (begun_entry name (first_of o.recording.out.blocks) tick.civil)) chain
    → KeepsFront k.config.directory (block_behind k.config.directory (listed_files chain)) old.blocks new.blocks → IsPublished made new → IsShown new.blocks o setup (time_entry_at k.config.time tick.count tick.civil ∷ []) 1
    → StartEffect name setup k old (record k { work = recording made o }) new
start_effect k old new chain made o tick name setup at ticked first is front published shows =
    let listed : made ≡ added (sized (size_of o.recording.out.blocks) (begun_entry name (block_behind k.config.directory (listed_files chain)) tick.civil)) chain =
    is ∙ ap (λ (n : ℕ). added (sized (size_of o.recording.out.blocks) (begun_entry name n tick.civil)) chain) first in
    let does : Tick → Type 0 = λ t. StartEffectAt name setup t chain o k old (record k { work = recording made o }) new in
    let done : does tick = record {
      effect = record {
        kept = ap (λ (l : List ChainBlock). record k { work = recording l o }) listed;
        front = front;
        directory = subst (λ (l : List ChainBlock). IsPublished l new) listed published;
      };
      shows = shows;
    } in
    let later : Kept = record k { work = recording made o } in
    subst (λ (w : Work). WhereIdle w (λ c. WhereRecording (recording made o) (λ m p. IsSomeAnd k.tick (λ (t : Tick). StartEffectAt name setup t c p k old later new)))) (sym at)
    (subst (λ (t : Option Tick). IsSomeAnd t does) (sym ticked) done)

pub commit_effect : (k : Kept) (old new : Disk) (chain made : List ChainBlock) (o p : OpenState) → k.work ≡ recording chain o
    → made ≡ updated (sized (size_of p.recording.out.blocks) (last_listed chain)) chain → KeepsFront k.config.directory (first_of o.recording.out.blocks) old.blocks new.blocks → IsPublished made new
    → ((text : List ℕ) (entries : List Entry) (n : ℕ) → IsShown old.blocks o text entries n → IsShown new.blocks p text entries (length entries)) → all_held p.recording.builders ≡ [] → CommitEffect k old (record k { work = recording made p }) new
commit_effect k old new chain made o p at is front published shows none = rw at (record {
  effect = record {
    kept = ap (λ (l : List ChainBlock). record k { work = recording l p }) is;
    front = front;
    directory = subst (λ (l : List ChainBlock). IsPublished l new) is published;
  };
  shows = shows;
  none = none;
})

pub stop_effect : (k : Kept) (old new : Disk) (chain made : List ChainBlock) (o : OpenState) (tick : Tick) (taken : List ℕ) → k.work ≡ recording chain o → k.tick ≡ Some tick → IsListedClosed tick.civil chain made new
    → KeepsFront k.config.directory (first_of o.recording.out.blocks) old.blocks new.blocks → EndsIndexed k.config.nodes (first_of o.recording.out.blocks) new.blocks made
    → StopEffect k old (record k { work = idle made; taken = taken }) new
stop_effect k old new chain made o tick taken at ticked is front indexed =
    let does : Tick → Type 0 = λ t. StopEffectAt t.civil chain o k old (record k { work = idle made; taken = taken }) new in
    let done : does tick = record {
      size = is.size;
      effect = record {
        kept = ap (λ (l : List ChainBlock). record k { work = idle l; taken = taken }) is.made_is;
        front = front;
        directory = subst (λ (l : List ChainBlock). IsPublished l new) is.made_is is.published;
      };
      indexed = subst (λ (l : List ChainBlock). EndsIndexed k.config.nodes (first_of o.recording.out.blocks) new.blocks l) is.made_is indexed;
    } in
    let later : Kept = record k { work = idle made; taken = taken } in
    subst (λ (w : Work). WhereRecording w (λ c p. IsSomeAnd k.tick (λ (t : Tick). StopEffectAt t.civil c p k old later new))) (sym at)
    (subst (λ (t : Option Tick). IsSomeAnd t does) (sym ticked) done)

-- ---- what is put into the file that is recorded, and not shown yet

pub idle_tick_effect : (k : Kept) (disk : Disk) (chain : List ChainBlock) (tick : Tick) → k.work ≡ idle chain → IsDirectory disk.blocks chain → TickEffect tick k disk (record k { tick = Some tick }) disk
idle_tick_effect k disk chain tick at is = rw at (record { kept = refl; front = record { size = refl; zeroth = λ less. refl; blocks = λ n behind less. refl }; directory = is })

pub tick_effect : (k : Kept) (old new : Disk) (chain : List ChainBlock) (o p : OpenState) (tick : Tick) → k.work ≡ recording chain o → KeepsFront k.config.directory (first_of o.recording.out.blocks) old.blocks new.blocks → IsDirectory new.blocks chain
    → ((text : List ℕ) (entries : List Entry) (n : ℕ) → IsShown old.blocks o text entries n → IsShown new.blocks p text (entries ++ time_entry_at k.config.time tick.count tick.civil ∷ []) n)
    → LeavesOpen (closing (is_old tick.count)) o.recording.builders p.recording.builders → TickEffect tick k old (record k { work = recording chain p; tick = Some tick }) new
tick_effect k old new chain o p tick at front is takes closes = rw at (record { effect = record { kept = refl; front = front; directory = is }; takes = takes; closes = closes })

pub event_effect : (k : Kept) (old new : Disk) (chain : List ChainBlock) (o p : OpenState) (number count : ℕ) → k.work ≡ recording chain o → KeepsFront k.config.directory (first_of o.recording.out.blocks) old.blocks new.blocks → IsDirectory new.blocks chain
    → ((text : List ℕ) (entries : List Entry) (n : ℕ) → IsShown old.blocks o text entries n → IsShown new.blocks p text (entries ++ next_event o.recording number count ∷ []) n)
    → LeavesOpen still_open o.recording.builders p.recording.builders → EventEffect number count k old (record k { work = recording chain p; last_event = Some count }) new
event_effect k old new chain o p number count at front is takes closes = rw at (record { effect = record { kept = refl; front = front; directory = is }; takes = takes; closes = closes })

pub pump_effect : (k : Kept) (old new : Disk) (chain : List ChainBlock) (o p : OpenState) (taken : List ℕ) → k.work ≡ recording chain o → KeepsFront k.config.directory (first_of o.recording.out.blocks) old.blocks new.blocks → IsDirectory new.blocks chain
    → PumpEffect k old (record k { work = recording chain p; taken = taken }) new
pump_effect k old new chain o p taken at front is = rw at (record { kept = refl; front = front; directory = is })
