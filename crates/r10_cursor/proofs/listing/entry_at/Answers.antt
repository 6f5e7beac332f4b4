use Rattle.std.proofs.Common.{◌+◌, ◌-◌, List, Some, get_or, drop, length, sym, ap, ◌∙◌, arith}
use Rattle.std.specs.Prelude.{slice_get}
use Rattle.r10_dirblock.specs.declared.entry.Entry.{Entry as DirectoryEntry}
use Rattle.r10_dirchain.specs.Chain.{listed_files}
use Rattle.r10_dirchain.specs.declared.chain.ChainBlock.{ChainBlock}
use Rattle.r10_cursor.proofs.Clipping.{entry_here, entry_past}
use Rattle.r10_cursor.proofs.listing.entry_at.Goals as goal

pub returns-then-left-entries : goal.returns-then-left-entries
returns-then-left-entries c =
    let items = c.blocks-link-items.result.now in
    let same = c.as_slice-entries.ensures.items in
    ap (λ (es : List DirectoryEntry). Some (get_or es c.loop-link.left _)) same
    ∙ sym (entry_here items c.loop-link.link-index c.loop-link.left c.link-item.result _ c.loop-link-test.true c.link-item.is (omega (arith, c.if-left-entries.true, ap (λ (es : List DirectoryEntry). length es) same)))
    ∙ c.loop-link.invariant
    ∙ ap (λ (bs : List ChainBlock). slice_get (listed_files bs) c.args.file) c.blocks-link-items.ensures

pub loop-link-preserved : goal.loop-link-preserved
loop-link-preserved c =
    let items = c.blocks-link-items.result.now in
    let same = c.as_slice-entries.ensures.items in
    ap (λ (es : List DirectoryEntry). slice_get (listed_files (drop (c.loop-link.link-index + 1) items)) (c.loop-link.left - length es)) same
    ∙ entry_past items c.loop-link.link-index c.loop-link.left c.link-item.result c.loop-link-test.true c.link-item.is (omega (arith, c.if-left-entries.false, ap (λ (es : List DirectoryEntry). length es) same))
    ∙ c.loop-link.invariant
