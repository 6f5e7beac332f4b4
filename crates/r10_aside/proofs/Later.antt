-- What setting aside does after calls that change nothing, and where it comes to nothing.
use Rattle.std.proofs.Common.{◌≡◌, ◌≢◌, ◌⊎◌, ℕ, Bool, true, false, cond, List, [], ◌∷◌, Option, None, Some, IfSome, Ok, Err, inl, sym, subst}
use Rattle.std.specs.List.{All, last_or}
use Rattle.std.proofs.lemmas.List.Elements.{All-nil, All-head, All-tail}
use Rattle.r10_medium.specs.Disk.{Disk, Image, Unchanged}
use Rattle.r10_medium.specs.PowerLoss.{ComesBy}
use Rattle.r10_medium.proofs.PowerLoss.{stayed, unchanged_twice}
use Rattle.r10_dirblock.specs.Block.{has_room_for_size}
use Rattle.r10_dirblock.specs.declared.entry.Entry.{Entry}
use Rattle.r10_dirchain.specs.Bad.{IsChainError}
use Rattle.r10_dirchain.specs.Chain.{HoldsBlock, IsDirectory, at, listed_files}
use Rattle.r10_dirchain.specs.OnMedium.{SameButIn, Turned}
use Rattle.r10_dirchain.specs.Steps.{last_listing}
use Rattle.r10_dirchain.specs.declared.chain.ChainBlock.{ChainBlock}
use Rattle.r10_dirchain.specs.declared.read.ChainError.{ChainError}
use Rattle.r10_dirchain.specs.declared.read.ChainError.TheVariants.{BadDirectory, Medium, OutOfMemory}
use Rattle.r10_dirchain.proofs.FileLists.{last-append}
use Rattle.r10_dirchain.proofs.Turning.{same_in, turns_of}
use Rattle.r10_volume.specs.Listing.{is_last_closed}
use Rattle.r10_volume.specs.Mounting.{IsMountError, not_taken}
use Rattle.r10_volume.proofs.Turning.{turns_later}
use Rattle.r10_aside.specs.Aside.{FindsNoneOpen, SetsAside, SetsAsideLast, with_last_aside}

-- ---- by cases

either : (b : Bool) (P Q : Type 0) → P → Q → cond b P Q
either true P Q p q = p
either false P Q p q = q

each : (b : Bool) (P Q R S : Type 0) → (P → R) → (Q → S) → cond b P Q → cond b R S
each true P Q R S one other here = one here
each false P Q R S one other here = other here

-- ---- the entry of a file that is listed has room for its size

abbrev has_room : Entry → Type 0
has_room e = has_room_for_size e ≡ true

last_has : (d : Option Entry) (entries : List Entry) → IfSome d has_room → All has_room entries → IfSome (last_or d entries) has_room
last_has d [] one all = one
last_has d (e ∷ entries) one all = last_has (Some e) entries (All-head has_room e entries all) (All-tail has_room e entries all)

listed_has : (image : Image) (d : Option Entry) (chain : List ChainBlock) → IfSome d has_room → All (HoldsBlock image) chain → IfSome (last_or d (listed_files chain)) has_room
listed_has image d [] one all = one
listed_has image d (b ∷ chain) one all =
    let holds : HoldsBlock image b = All-head (HoldsBlock image) b chain all in
    subst (λ (o : Option Entry). IfSome o has_room) (sym (last-append d b.block.entries (listed_files chain)))
    (listed_has image (last_or d b.block.entries) chain (last_has d b.block.entries one holds.is.rooms) (All-tail (HoldsBlock image) b chain all))

pub last_has_room : (image : Image) (chain : List ChainBlock) (e : Entry) → IsDirectory image chain → last_or None (listed_files chain) ≡ Some e → has_room_for_size e ≡ true
last_has_room image chain e is last = subst (λ (o : Option Entry). IfSome o has_room) last (listed_has image None chain tt is.holds)

-- ---- where nothing was done

-- nothing was read or written, or only read, and there is an error
pub done_nowhere : {E : Type 0} (chain : List ChainBlock) (old new : Disk) (error : E) → IsDirectory old.blocks chain → Unchanged old new → SetsAsideLast chain old new (Err error)
done_nowhere chain old new error is same =
    let made = with_last_aside chain in
    let changed = (at chain (last_listing chain)).number ∷ [] in
    either (is_last_closed (listed_files chain)) (FindsNoneOpen old new (Err error)) (SetsAside chain old new (Err error)) (record { answer = tt; same = same })
    (record {
      answer = tt;
      turns = turns_of chain made [] changed old new (Err error) is (λ i lt. All-nil (λ (n : ℕ). (at chain i).number ≢ n))
          (stayed (λ image. ComesBy (SameButIn []) old image ⊎ Turned made changed old.blocks image) old new same (λ image now. inl (image, now, same_in [] image)))
          (inl (subst (λ (image : Image). SameButIn [] old.blocks image) (sym same.reads) (same_in [] old.blocks))) tt;
      synced = tt;
    })

-- ---- after calls that changed nothing

pub done_later : (E F : Type 0) (chain : List ChainBlock) (old mid new : Disk) (was_open : Bool) → IsDirectory old.blocks chain → Unchanged old mid
    → SetsAsideLast {E = E} chain mid new (Ok was_open) → SetsAsideLast {E = F} chain old new (Ok was_open)
done_later E F chain old mid new was_open is same =
    each (is_last_closed (listed_files chain)) (FindsNoneOpen {E = E} mid new (Ok was_open)) (SetsAside {E = E} chain mid new (Ok was_open))
    (FindsNoneOpen {E = F} old new (Ok was_open)) (SetsAside {E = F} chain old new (Ok was_open))
    (λ none. record { answer = none.answer; same = unchanged_twice old mid new same none.same })
    (λ sets. record {
      answer = sets.answer;
      turns = turns_later {E = E} {G = F} chain (with_last_aside chain) ((at chain (last_listing chain)).number ∷ []) old mid new (Ok was_open) (Ok was_open) same is sets.turns sets.turns.settled;
      synced = sets.synced;
    })

pub failed_later : {E F : Type 0} (chain : List ChainBlock) (old mid new : Disk) (first : E) (error : F) → IsDirectory old.blocks chain → Unchanged old mid
    → SetsAsideLast chain mid new (Err first) → SetsAsideLast chain old new (Err error)
failed_later {E} {F} chain old mid new first error is same =
    each (is_last_closed (listed_files chain)) (FindsNoneOpen mid new (Err first)) (SetsAside chain mid new (Err first))
    (FindsNoneOpen old new (Err error)) (SetsAside chain old new (Err error))
    (λ none. record { answer = tt; same = unchanged_twice old mid new same none.same })
    (λ sets. record {
      answer = tt;
      turns = turns_later {T = Bool} {F = Bool} chain (with_last_aside chain) ((at chain (last_listing chain)).number ∷ []) old mid new (Err first) (Err error) same is sets.turns tt;
      synced = tt;
    })

-- ---- errors

pub of_chain : (reserved : ℕ) (image : Image) (error : ChainError) → IsChainError image error → IsMountError reserved image error
of_chain reserved image (BadDirectory n) bad = not_taken bad
of_chain reserved image Medium bad = tt
of_chain reserved image OutOfMemory bad = tt
