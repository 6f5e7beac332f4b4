use Rattle.std.proofs.Common.{rules, ◌≡◌, ◌⊎◌, ℕ, ◌<◌, ◌∙◌, inl, inr, [], length, ap, arith, slice_set, get_or-set_other, get_or-set_same}
use Rattle.std.proofs.lemmas.Bool.{cases_eq}
use Rattle.r10_medium.specs.Disk.{Block, Image, block_at}
use Rattle.r10_medium.specs.Memory.{with_zeros}
use Rattle.r10_medium.specs.MemoryDisk.{memory_blocks}
use Rattle.r10_medium.specs.declared.memory.Memory.{Memory}
use Rattle.r10_medium.proofs.Zeros.{put_made}
use Rattle.r10_medium.proofs.memory.MemoryBlockMedium.write.Goals as goal
use Rattle.r10_medium.proofs.memory.MemoryBlockMedium.write.Goals.{After-index_mut, then-n-len, else-n-len}

-- the blocks that are read, after the block's place was made
put : (c : After-index_mut) → with_zeros c.if-n-len.self.size (slice_set c.if-n-len.self.front.items c.args.n c.args.block.now) ≡ slice_set (memory_blocks c.args.self.now) c.args.n c.args.block.now
put c =
    let now = c.if-n-len.self in
    let same : memory_blocks now ≡ memory_blocks c.args.self.now = elim c.if-n-len.branch [
      | then-n-len w ↦ ap memory_blocks w.self-is ∙ w.make.ensures.same
      | else-n-len w ↦ ap memory_blocks w.self-is
    ] in
    let there : c.args.n < length now.front.items = elim c.if-n-len.branch [
      | then-n-len w ↦ omega (arith, w.make.ensures.made, ap (λ (m : Memory). length m.front.items) w.self-is)
      | else-n-len w ↦ omega (arith, w.if-n-len.false, c.len.ensures, ap (λ (m : Memory). length m.front.items) w.self-is)
    ] in
    put_made now.size c.args.n now.front.items c.args.block.now there (search rules) ∙ ap (λ (l : Image). slice_set l c.args.n c.args.block.now) same

-- what a block may hold after that
held : (old new : Image) (n k : ℕ) (block d : Block) → n < length old → new ≡ slice_set old n block → d ≡ block_at new k → (d ≡ block_at old k) ⊎ ((k ≡ n) × (d ≡ block))
held old new n k block d within is here = elim (cases_eq k n) [
  | inl same ↦ inr (same, here ∙ ap (λ (l : Image). block_at l k) is ∙ rw same (get_or-set_same old n block [] within))
  | inr differs ↦ inl (here ∙ ap (λ (l : Image). block_at l k) is ∙ get_or-set_other old n k block [] differs)
]

pub returns-clause-written : goal.returns-clause-written
returns-clause-written c = put (goal.at.returns-clause-written c).After-index_mut

pub returns-clause-wrote : goal.returns-clause-wrote
returns-clause-wrote c =
    let is = put (goal.at.returns-clause-wrote c).After-index_mut in
    record {
      later = search rules;
      since = λ t image le picks. inr picks;
      reads = inr is;
      may_hold = λ k d here. held (memory_blocks c.args.self.now) _ c.args.n k c.args.block.now d c.requires is here;
    }
