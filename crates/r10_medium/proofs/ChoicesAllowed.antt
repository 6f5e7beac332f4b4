-- Each choice of a power loss is one that the disk allows.
use Rattle.std.proofs.Common.{◌≡◌, ℕ, ◌<◌, [], length, refl, sym, ◌∙◌, subst, inl, inr, arith, get_or-set_same, get_or-set_other}
use Rattle.std.proofs.lemmas.Bool.{cases_eq}
use Rattle.std.proofs.lemmas.List.{length-set}
use Rattle.r10_medium.specs.Disk.{Image, Block, block_at, PicksEach, MayLeave}
use Rattle.r10_medium.specs.Crashing.{one_of_two, with_block_of}
use Rattle.r10_medium.specs.CrashingParts.{crashing_disk, left_by}
use Rattle.r10_medium.specs.declared.crashing.Crashing.{Crashing}
use Rattle.r10_medium.specs.declared.crashing.Choice.{Choice}
use Rattle.r10_medium.specs.declared.crashing.Choice.TheVariants.{Synced, Read, LowestSynced, LowestRead}

picks_mixed : (may : ℕ → Block → Type 0) (blocks image other : Image) (i : ℕ) → length image ≡ length blocks
    → ((n : ℕ) → n < length blocks → may n (block_at image n)) → ((n : ℕ) → n < length blocks → may n (block_at other n))
    → PicksEach blocks may (with_block_of image other i)
picks_mixed may blocks image other i size here there = record {
  size = length-set image i (block_at other i) ∙ size;
  each = λ n lt. elim (cases_eq n i) [
    | inl is ↦ subst (may n) (sym (subst (λ (j : ℕ). block_at (with_block_of image other i) j ≡ block_at other j) (sym is)
        (get_or-set_same image i (block_at other i) [] (omega (arith, lt, is, size))))) (there n lt)
    | inr differs ↦ subst (may n) (sym (get_or-set_other image i n (block_at other i) [] differs)) (here n lt)
  ];
}

pub left_allowed : (choice : Choice) (c : Crashing) → MayLeave (crashing_disk c) (left_by choice c)
left_allowed Synced c = record { size = c.same; each = λ n lt. inr refl }
left_allowed Read c = record { size = refl; each = λ n lt. inl refl }
left_allowed LowestSynced c = picks_mixed (one_of_two c.reads.items c.synced.items) c.reads.items c.reads.items c.synced.items c.lowest refl (λ n lt. inl refl) (λ n lt. inr refl)
left_allowed LowestRead c = picks_mixed (one_of_two c.reads.items c.synced.items) c.reads.items c.synced.items c.reads.items c.lowest c.same (λ n lt. inr refl) (λ n lt. inl refl)
