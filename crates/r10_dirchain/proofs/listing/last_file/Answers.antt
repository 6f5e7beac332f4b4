use Rattle.std.proofs.Common.{◌≡◌, ◌∙◌, [], None, sym, ap, arith}
use Rattle.std.specs.List.{last_or}
use Rattle.std.proofs.lemmas.List.{nil_from_length}
use Rattle.r10_dirchain.specs.Chain.{listed_files}
use Rattle.r10_dirchain.proofs.FileLists.{last_at, last_left}
use Rattle.r10_dirchain.proofs.listing.last_file.Goals as goal
use Rattle.r10_dirchain.proofs.listing.last_file.Goals.{in-Some, in_default}

pub loop-link-preserved : goal.loop-link-preserved
loop-link-preserved c =
    let before = c.loop-link.last in
    let entries = c.link-item.result.block.entries in
    let now : c.match-last.last ≡ last_or before entries = elim c.match-last.branch [
      | in-Some w ↦ w.last-is ∙ last_at before c.as_slice.result.now w.in-Some.entry.now w.in-Some.ensures.item.3.0 w.in-Some.ensures.item.1 ∙ ap (last_or before) c.as_slice.ensures.items
      | in_default w ↦
          let none : entries ≡ [] = sym c.as_slice.ensures.items ∙ nil_from_length c.as_slice.result.now (omega (arith, w.in_default.ensures.item)) in
          w.last-is ∙ sym (ap (last_or before) none)
    ] in
    last_left c.blocks-link-items.result.now c.loop-link.link-index c.link-item.result before c.match-last.last (last_or None (listed_files c.blocks-link-items.result.now))
    c.loop-link-test.true c.link-item.is now c.loop-link.invariant
