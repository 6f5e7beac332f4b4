-- Two directory blocks, one after the other.
use Rattle.std.proofs.Common.{◌≡◌, ◌≢◌, ◌⊎◌, ℕ, [], ◌∷◌, Result, OnOk, inl, inr, ⊎_elim, sym, ◌∙◌, subst}
use Rattle.std.proofs.lemmas.List.Elements.{All-head, All-tail}
use Rattle.r10_medium.specs.Disk.{Disk, Image, MayLeave}
use Rattle.r10_medium.specs.PowerLoss.{Settled, Leaves, ComesBy, Moves, SameBut}
use Rattle.r10_medium.proofs.PowerLoss.{joined, weakened, settled_now}
use Rattle.r10_dirchain.specs.declared.chain.ChainBlock.{ChainBlock}
use Rattle.r10_dirchain.specs.OnMedium.{Put, PutTwo}
use Rattle.r10_dirchain.proofs.Directories.{still_holds}
use Rattle.r10_dirchain.proofs.Turning.{on_ok}

-- a block, and another one
pub put_two : (next linking : ChainBlock) (old mid new : Image) → next.number ≢ linking.number → Put old next mid → Put mid linking new → PutTwo old next linking new
put_two next linking old mid new apart first second = record {
  others = record {
    size = second.others.size ∙ first.others.size;
    others = λ k none.
        let tail = All-tail (λ (n : ℕ). k ≢ n) linking.number (next.number ∷ []) none in
        second.others.others k (All-head (λ (n : ℕ). k ≢ n) linking.number (next.number ∷ []) none)
        ∙ first.others.others k (All-head (λ (n : ℕ). k ≢ n) next.number [] tail);
  };
  next_holds = still_holds mid new next first.holds second.others.size (second.others.others next.number apart);
  linking_holds = second.holds;
  next_bytes = second.others.others next.number apart ∙ first.bytes;
  linking_bytes = second.bytes;
}

pub unlinked_moments : (next linking : ChainBlock) (old mid : Disk) → Moves (SameBut next.number) old mid
    → Leaves (λ image. ComesBy (SameBut next.number) old image ⊎ PutTwo old.blocks next linking image) old mid
unlinked_moments next linking old mid first =
    weakened (ComesBy (SameBut next.number) old) (λ image. ComesBy (SameBut next.number) old image ⊎ PutTwo old.blocks next linking image) old mid (λ image from. inl from) first

pub linked_moments : (next linking : ChainBlock) (old mid new : Disk) → next.number ≢ linking.number → Moves (SameBut next.number) old mid → Put old.blocks next mid.blocks
    → Leaves (λ image. MayLeave mid image ⊎ Put mid.blocks linking image) mid new
    → Leaves (λ image. ComesBy (SameBut next.number) old image ⊎ PutTwo old.blocks next linking image) old new
linked_moments next linking old mid new apart first put second =
    joined (λ image. ComesBy (SameBut next.number) old image ⊎ PutTwo old.blocks next linking image) old mid new
    (unlinked_moments next linking old mid first)
    (weakened (λ image. MayLeave mid image ⊎ Put mid.blocks linking image) (λ image. ComesBy (SameBut next.number) old image ⊎ PutTwo old.blocks next linking image) mid new
    (λ image. ⊎_elim (λ now. inl (settled_now (ComesBy (SameBut next.number) old) old mid first image now)) (λ here. inr (put_two next linking old.blocks mid.blocks image apart put here))) second)

pub linked_reads : (next linking : ChainBlock) (old mid new : Image) → next.number ≢ linking.number → Put old next mid → (new ≡ mid) ⊎ Put mid linking new
    → SameBut next.number old new ⊎ PutTwo old next linking new
linked_reads next linking old mid new apart put =
    ⊎_elim (λ e. inl (subst (λ (l : Image). SameBut next.number old l) (sym e) put.others)) (λ here. inr (put_two next linking old mid new apart put here))

pub linked_settled : {T E : Type 0} (result : Result T E) (next linking : ChainBlock) (old mid new : Disk) → next.number ≢ linking.number → Put old.blocks next mid.blocks
    → OnOk result (Settled (Put mid.blocks linking) new) → OnOk result (Settled (PutTwo old.blocks next linking) new)
linked_settled result next linking old mid new apart put settled =
    on_ok result _ _ (λ holds image now. put_two next linking old.blocks mid.blocks image apart put (holds image now)) settled
