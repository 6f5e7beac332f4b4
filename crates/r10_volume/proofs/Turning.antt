-- What a medium says after a step on its directory.
use Rattle.std.proofs.Common.{◌≡◌, ◌≢◌, ◌⊎◌, ℕ, ◌<◌, ◌≤◌, List, [], ◌∷◌, length, map, Result, Ok, Err, OnOk, OnErr, None, inl, inr, ⊎_elim, refl, sym, ap, ◌∙◌, subst, arith, ext_get_or}
use Rattle.std.specs.List.{All}
use Rattle.std.proofs.lemmas.List.Elements.{All-nil, All-cons}
use Rattle.r10_count.specs.Checks.{first_broken}
use Rattle.r10_medium.specs.Disk.{Disk, Image, MayLeave, Unchanged, block_at}
use Rattle.r10_medium.specs.PowerLoss.{ComesBy, Leaves, Settled}
use Rattle.r10_medium.proofs.PowerLoss.{joined, settled_reads, stayed, weakened, whole_reads}
use Rattle.r10_dirblock.specs.declared.entry.Entry.{Entry as DirectoryEntry}
use Rattle.r10_dirchain.specs.declared.chain.ChainBlock.{ChainBlock}
use Rattle.r10_dirchain.specs.Chain.{IsDirectory, at, listed_files, link, Linked}
use Rattle.r10_dirchain.specs.Mount.{mount_rules}
use Rattle.r10_dirchain.specs.OnMedium.{SameButIn, Turned, Turns}
use Rattle.r10_dirchain.specs.Steps.{emptied, with_shutdown}
use Rattle.r10_dirchain.proofs.FileLists.{files-with_shutdown}
use Rattle.r10_dirchain.proofs.Staying.{usable-emptied, usable-with_shutdown}
use Rattle.r10_dirchain.proofs.Turning.{on_ok, same_in, turns_of}
use Rattle.r10_dirchain.proofs.Unique.{one_directory}
use Rattle.r10_dirchain.proofs.Usable.{place_rules_hold, placed}
use Rattle.r10_volume.specs.Holding.{HoldsFiles, OthersAreFound}
use Rattle.r10_volume.proofs.OtherFilesStay.{found_stays}
use Rattle.r10_machine.specs.Config.{Config}
use Rattle.r10_machine.specs.Machine.{File}
use Rattle.r10_machine.specs.Bytes.{KeepBytes}
use Rattle.r10_machine.proofs.Said.{directory_keeps, directory_turns}
use Rattle.r10_machine.specs.Says.{MediumSays, SaysEach}
use Rattle.r10_volume.specs.Mounting.{IsUsable}
use Rattle.r10_volume.specs.Settling.{IsSettled}

-- ---- the first block

first_block : (chain : List ChainBlock) → Linked 1 1 (map link chain) → (0 < length chain) × ((at chain 0).number ≡ 1)
first_block [] linked = absurd linked
first_block (b ∷ []) linked = (omega arith, linked.0)
first_block (b ∷ c ∷ chain) linked = (omega arith, linked.0)

pub first_number : (image : Image) (chain : List ChainBlock) → IsDirectory image chain → (at chain 0).number ≡ 1
first_number image chain is = (first_block chain is.linked).1

-- a recorder that uses a directory has reserved a block
some_reserved : (reserved blocks : ℕ) (image : Image) (chain : List ChainBlock) → IsDirectory image chain → first_broken (mount_rules reserved blocks chain) ≡ None → 1 ≤ reserved
some_reserved reserved blocks image chain is mounts =
    let there = placed reserved 1 chain (place_rules_hold reserved blocks chain mounts) 0 (first_block chain is.linked).0 in
    omega (arith, there.1)

-- ---- a step that makes the medium say other files

-- over an image that says files there is another directory, which lists others, and of which only reserved blocks are written
pub record Makes (s : Config) (image : Image) (made : List ChainBlock) (changed : List ℕ) (files later : List File) : Type 0 where
  pub says : MediumSays s image files
  pub reserved : All (λ (n : ℕ). n ≤ s.directory) changed
  pub mounts : first_broken (mount_rules s.directory s.blocks made) ≡ None
  pub each : SaysEach image (listed_files made) later

one_reserved : (s : Config) → 1 ≤ s.directory → All (λ (n : ℕ). n ≤ s.directory) (1 ∷ [])
one_reserved s some = All-cons (λ (n : ℕ). n ≤ s.directory) 1 [] some (All-nil (λ (n : ℕ). n ≤ s.directory))

-- the same files under another shutdown byte
pub marking : (s : Config) (image : Image) (chain : List ChainBlock) (shutdown : ℕ) (files : List File) → MediumSays s image files → IsDirectory image chain → Makes s image (with_shutdown shutdown chain) (1 ∷ []) files files
marking s image chain shutdown files says is =
    let same : says.chain ≡ chain = one_directory image says.chain chain says.directory is in
    let mounts : first_broken (mount_rules s.directory s.blocks chain) ≡ None = subst (λ (l : List ChainBlock). first_broken (mount_rules s.directory s.blocks l) ≡ None) same says.mounts in
    record {
      says = says;
      reserved = one_reserved s (some_reserved s.directory s.blocks image chain is mounts);
      mounts = usable-with_shutdown s.directory s.blocks shutdown chain mounts;
      each = subst (λ (l : List DirectoryEntry). SaysEach image l files) (ap listed_files same ∙ sym (files-with_shutdown shutdown chain)) says.each;
    }

-- no files
pub emptying : (s : Config) (image : Image) (chain : List ChainBlock) (files : List File) → MediumSays s image files → IsDirectory image chain → Makes s image (emptied chain) (1 ∷ []) files []
emptying s image chain files says is =
    let same : says.chain ≡ chain = one_directory image says.chain chain says.directory is in
    let mounts : first_broken (mount_rules s.directory s.blocks chain) ≡ None = subst (λ (l : List ChainBlock). first_broken (mount_rules s.directory s.blocks l) ≡ None) same says.mounts in
    let some : 1 ≤ s.directory = some_reserved s.directory s.blocks image chain is mounts in
    record { says = says; reserved = one_reserved s some; mounts = usable-emptied s.directory s.blocks chain some; each = tt }

-- ---- what it leaves

said : (s : Config) (old : Disk) (image : Image) (made : List ChainBlock) (changed : List ℕ) (files later : List File) → Makes s old.blocks made changed files later → Turned made changed old.blocks image → MediumSays s image later
said s old image made changed files later makes turned =
    directory_turns s old.blocks image made changed later (whole_reads old) makes.says.blocks turned makes.reserved makes.mounts makes.each

pub same_image : (old new : Image) → SameButIn [] old new → old ≡ new
same_image old new same = sym (ext_get_or [] new old same.size (λ n lt. same.others n (All-nil (λ (k : ℕ). n ≢ k))))

pub says_then : {T E : Type 0} (s : Config) (old new : Disk) (chain made : List ChainBlock) (changed : List ℕ) (files later : List File) (result : Result T E) → Makes s old.blocks made changed files later
    → Turns chain made [] changed old new result → MediumSays s new.blocks files ⊎ MediumSays s new.blocks later
says_then s old new chain made changed files later result makes turns = ⊎_elim
    (λ same. inl (subst (λ (image : Image). MediumSays s image files) (same_image old.blocks new.blocks same.others) makes.says))
    (λ turned. inr (said s old new.blocks made changed files later makes turned)) turns.reads

pub leaves_then : {T E : Type 0} (s : Config) (old new : Disk) (chain made : List ChainBlock) (changed : List ℕ) (files later : List File) (result : Result T E) → Makes s old.blocks made changed files later
    → Turns chain made [] changed old new result → Settled (λ image. MediumSays s image files) old → Leaves (λ image. MediumSays s image files ⊎ MediumSays s image later) old new
leaves_then s old new chain made changed files later result makes turns here =
    weakened (λ image. ComesBy (SameButIn []) old image ⊎ Turned made changed old.blocks image) (λ image. MediumSays s image files ⊎ MediumSays s image later) old new
    (λ image. ⊎_elim
    (λ from. inl (subst (λ (l : Image). MediumSays s l files) (same_image from.0 image from.2) (here from.0 from.1)))
    (λ turned. inr (said s old image made changed files later makes turned)))
    turns.moments

pub keep_both : (old new image : Image) (files : List File) → KeepBytes old new files → KeepBytes old image files → KeepBytes new image files
keep_both old new image [] keep keeps = tt
keep_both old new image (f ∷ files) (here, keep) (there, keeps) = (there ∙ sym here, keep_both old new image files keep keeps)

pub settled_still : {T E : Type 0} (s : Config) (old new : Disk) (chain made : List ChainBlock) (changed : List ℕ) (files : List File) (result : Result T E) → Makes s old.blocks made changed files files
    → Turns chain made [] changed old new result → OnOk result (IsSettled s files new)
settled_still s old new chain made changed files result makes turns =
    on_ok result (Settled (Turned made changed old.blocks) new) (IsSettled s files new)
    (λ turned image now. record {
      says = said s old image made changed files files makes (turned image now);
      bytes = keep_both old.blocks new.blocks image files (kept new.blocks (settled_reads (Turned made changed old.blocks) new turned)) (kept image (turned image now));
    })
    turns.settled
  where
    kept : (image : Image) → Turned made changed old.blocks image → KeepBytes old.blocks image files
    kept image turned = directory_keeps s old.blocks image changed files (whole_reads old) makes.says turned.others makes.reserved

-- the files keep their bytes
pub own_bytes : (image : Image) (files : List File) → KeepBytes image image files
own_bytes image [] = tt
own_bytes image (f ∷ files) = (refl, own_bytes image files)

pub kept_unchanged : (old new : Disk) (files : List File) → Unchanged old new → KeepBytes old.blocks new.blocks files
kept_unchanged old new files same = subst (λ (image : Image). KeepBytes old.blocks image files) (sym same.reads) (own_bytes old.blocks files)

pub kept_then : {T E : Type 0} (s : Config) (old new : Disk) (chain made : List ChainBlock) (changed : List ℕ) (files later : List File) (result : Result T E) → Makes s old.blocks made changed files later
    → Turns chain made [] changed old new result → KeepBytes old.blocks new.blocks files
kept_then s old new chain made changed files later result makes turns = ⊎_elim
    (λ same. subst (λ (image : Image). KeepBytes old.blocks image files) (same_image old.blocks new.blocks same.others) (own_bytes old.blocks files))
    (λ turned. directory_keeps s old.blocks new.blocks changed files (whole_reads old) makes.says turned.others makes.reserved) turns.reads

pub settled_empty : {T E : Type 0} (s : Config) (old new : Disk) (chain made : List ChainBlock) (changed : List ℕ) (files : List File) (result : Result T E) → Makes s old.blocks made changed files []
    → Turns chain made [] changed old new result → OnOk result (IsSettled s [] new)
settled_empty s old new chain made changed files result makes turns =
    on_ok result (Settled (Turned made changed old.blocks) new) (IsSettled s [] new) (λ turned image now. record { says = said s old image made changed files [] makes (turned image now); bytes = tt }) turns.settled

either_is : {P : Type 0} → P ⊎ P → P
either_is one = ⊎_elim (λ p. p) (λ p. p) one

pub says_still : {T E : Type 0} (s : Config) (old new : Disk) (chain made : List ChainBlock) (changed : List ℕ) (files : List File) (result : Result T E) → Makes s old.blocks made changed files files
    → Turns chain made [] changed old new result → MediumSays s new.blocks files
says_still s old new chain made changed files result makes turns = either_is (says_then s old new chain made changed files files result makes turns)

pub leaves_still : {T E : Type 0} (s : Config) (old new : Disk) (chain made : List ChainBlock) (changed : List ℕ) (files : List File) (result : Result T E) → Makes s old.blocks made changed files files
    → Turns chain made [] changed old new result → Settled (λ image. MediumSays s image files) old → Leaves (λ image. MediumSays s image files) old new
leaves_still s old new chain made changed files result makes turns here =
    weakened (λ image. MediumSays s image files ⊎ MediumSays s image files) (λ image. MediumSays s image files) old new (λ image one. either_is one) (leaves_then s old new chain made changed files files result makes turns here)

-- ---- what is held then

-- a directory with the same files
pub held_still : (s : Config) (old : Disk) (new : Image) (made : List ChainBlock) (changed : List ℕ) (files : List File) → Makes s old.blocks made changed files files → OthersAreFound old.blocks files
    → Turned made changed old.blocks new → HoldsFiles s new made None files
held_still s old new made changed files makes found turned = record {
  says = said s old new made changed files files makes turned;
  directory = turned.directory;
  found = found_stays old.blocks new files (directory_keeps s old.blocks new changed files (whole_reads old) makes.says turned.others makes.reserved) found;
  last = tt;
}

-- a directory without files
pub held_empty : (s : Config) (old : Disk) (new : Image) (made : List ChainBlock) (changed : List ℕ) (files : List File) → Makes s old.blocks made changed files [] → Turned made changed old.blocks new → HoldsFiles s new made None []
held_empty s old new made changed files makes turned = record { says = said s old new made changed files [] makes turned; directory = turned.directory; found = tt; last = tt }

-- ---- a step after calls that change nothing

pub left_before : (old mid : Disk) → Unchanged old mid → (image : Image) → MayLeave mid image → MayLeave old image
left_before old mid same image now = record {
  size = now.size ∙ ap length same.reads;
  each = λ n lt. same.may_hold n (block_at image n) (now.each n (subst (λ (l : Image). n < length l) (sym same.reads) lt));
}

pub turns_later : {T E F G : Type 0} (chain made : List ChainBlock) (changed : List ℕ) (old mid new : Disk) (first : Result T E) (result : Result F G) → Unchanged old mid → IsDirectory old.blocks chain
    → Turns chain made [] changed mid new first → OnOk result (Settled (Turned made changed mid.blocks) new) → Turns chain made [] changed old new result
turns_later chain made changed old mid new first result same is turns settled =
    turns_of chain made [] changed old new result is (λ i lt. All-nil (λ (n : ℕ). (at chain i).number ≢ n)) moments reads
    (subst (λ (image : Image). OnOk result (Settled (Turned made changed image) new)) same.reads settled)
  where
    moments : Leaves (λ image. ComesBy (SameButIn []) old image ⊎ Turned made changed old.blocks image) old new
    moments = joined (λ image. ComesBy (SameButIn []) old image ⊎ Turned made changed old.blocks image) old mid new
        (stayed (λ image. ComesBy (SameButIn []) old image ⊎ Turned made changed old.blocks image) old mid same (λ image now. inl (image, now, same_in [] image)))
        (weakened (λ image. ComesBy (SameButIn []) mid image ⊎ Turned made changed mid.blocks image) (λ image. ComesBy (SameButIn []) old image ⊎ Turned made changed old.blocks image) mid new
        (λ image. ⊎_elim
        (λ from. inl (from.0, left_before old mid same from.0 from.1, from.2))
        (λ turned. inr (subst (λ (before : Image). Turned made changed before image) same.reads turned)))
        turns.moments)

    reads : SameButIn [] old.blocks new.blocks ⊎ Turned made changed old.blocks new.blocks
    reads = subst (λ (before : Image). SameButIn [] before new.blocks ⊎ Turned made changed before new.blocks) same.reads (⊎_elim (λ t. inl t.others) (λ t. inr t) turns.reads)

-- ---- steps by their answers

-- the first block is block 1
pub of_first : {T E : Type 0} (chain made : List ChainBlock) (old new : Disk) (result : Result T E) → IsDirectory old.blocks chain → Turns chain made [] ((at chain 0).number ∷ []) old new result → Turns chain made [] (1 ∷ []) old new result
of_first chain made old new result is turns = subst (λ (n : ℕ). Turns chain made [] (n ∷ []) old new result) (first_number old.blocks chain is) turns

pub on_err : {T E : Type 0} (result : Result T E) (P : Type 0) → P → OnErr result P
on_err (Ok x) P holds = tt
on_err (Err e) P holds = holds

pub on_both : {T E : Type 0} (result : Result T E) (P Q R : Type 0) → (P → Q → R) → OnOk result P → OnOk result Q → OnOk result R
on_both (Ok x) P Q R gives p q = gives p q
on_both (Err e) P Q R gives p q = tt

pub held_on : {T E : Type 0} (s : Config) (old new : Disk) (chain made now : List ChainBlock) (files : List File) (result : Result T E) → Makes s old.blocks made (1 ∷ []) files files → OthersAreFound old.blocks files
    → Turns chain made [] (1 ∷ []) old new result → OnOk result (now ≡ made) → OnOk result (HoldsFiles s new.blocks now None files)
held_on s old new chain made now files result makes found turns done =
    on_both result (Settled (Turned made (1 ∷ []) old.blocks) new) (now ≡ made) (HoldsFiles s new.blocks now None files)
    (λ turned is. subst (λ (l : List ChainBlock). HoldsFiles s new.blocks l None files) (sym is) (held_still s old new.blocks made (1 ∷ []) files makes found (settled_reads (Turned made (1 ∷ []) old.blocks) new turned)))
    turns.settled done

pub emptied_on : {T E : Type 0} (s : Config) (old new : Disk) (chain made now : List ChainBlock) (files : List File) (result : Result T E) → Makes s old.blocks made (1 ∷ []) files []
    → Turns chain made [] (1 ∷ []) old new result → OnOk result (now ≡ made) → OnOk result (HoldsFiles s new.blocks now None [])
emptied_on s old new chain made now files result makes turns done =
    on_both result (Settled (Turned made (1 ∷ []) old.blocks) new) (now ≡ made) (HoldsFiles s new.blocks now None [])
    (λ turned is. subst (λ (l : List ChainBlock). HoldsFiles s new.blocks l None []) (sym is) (held_empty s old new.blocks made (1 ∷ []) files makes (settled_reads (Turned made (1 ∷ []) old.blocks) new turned)))
    turns.settled done

-- another shutdown byte, after calls that change nothing
pub marked_later : {T E F G : Type 0} (chain : List ChainBlock) (shutdown : ℕ) (old mid new : Disk) (first : Result T E) (result : Result F G) → Unchanged old mid → IsDirectory old.blocks chain
    → Turns chain (with_shutdown shutdown chain) [] ((at chain 0).number ∷ []) mid new first → ((P : Type 0) → OnOk first P → OnOk result P) → Turns chain (with_shutdown shutdown chain) [] (1 ∷ []) old new result
marked_later chain shutdown old mid new first result same is turns both =
    let made = with_shutdown shutdown chain in
    let there : Turns chain made [] (1 ∷ []) mid new first = of_first chain made mid new first (subst (λ (image : Image). IsDirectory image chain) (sym same.reads) is) turns in
    turns_later chain made (1 ∷ []) old mid new first result same is there (both (Settled (Turned made (1 ∷ []) mid.blocks) new) there.settled)

-- what an Ok reads is the directory
pub directory_on : {T E : Type 0} (chain made now : List ChainBlock) (old new : Disk) (result : Result T E) → Turns chain made [] (1 ∷ []) old new result → OnOk result (now ≡ made) → OnOk result (IsDirectory new.blocks now)
directory_on chain made now old new result turns done =
    on_both result (Settled (Turned made (1 ∷ []) old.blocks) new) (now ≡ made) (IsDirectory new.blocks now)
    (λ turned is. subst (IsDirectory new.blocks) (sym is) (settled_reads (Turned made (1 ∷ []) old.blocks) new turned).directory) turns.settled done

-- and a recorder can use it, where its rules hold
pub usable_on : {T E : Type 0} (reserved : ℕ) (chain made now : List ChainBlock) (changed : List ℕ) (old new : Disk) (result : Result T E) → first_broken (mount_rules reserved (length old.blocks) made) ≡ None
    → Turns chain made [] changed old new result → OnOk result (now ≡ made) → OnOk result (IsUsable reserved new.blocks now)
usable_on reserved chain made now changed old new result rules turns done =
    on_both result (Settled (Turned made changed old.blocks) new) (now ≡ made) (IsUsable reserved new.blocks now)
    (λ settled is.
    let turned = settled_reads (Turned made changed old.blocks) new settled in
    subst (IsUsable reserved new.blocks) (sym is) (record { directory = turned.directory; rules = subst (λ (n : ℕ). first_broken (mount_rules reserved n made) ≡ None) (sym turned.others.size) rules }))
    turns.settled done

pub marked_rules : (reserved shutdown : ℕ) (image : Image) (chain : List ChainBlock) → IsUsable reserved image chain → first_broken (mount_rules reserved (length image) (with_shutdown shutdown chain)) ≡ None
marked_rules reserved shutdown image chain usable = usable-with_shutdown reserved (length image) shutdown chain usable.rules

pub emptied_rules : (reserved : ℕ) (image : Image) (chain : List ChainBlock) → IsUsable reserved image chain → first_broken (mount_rules reserved (length image) (emptied chain)) ≡ None
emptied_rules reserved image chain usable = usable-emptied reserved (length image) chain (some_reserved reserved (length image) image chain usable.directory usable.rules)
