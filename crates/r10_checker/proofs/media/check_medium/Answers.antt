use Rattle.std.proofs.Common.{◌≡◌, ◌∙◌, None, length}
use Rattle.r10_count.specs.Checks.{first_broken}
use Rattle.r10_checker.specs.Place.{inside_rules}
use Rattle.r10_checker.proofs.Placing.{all_placed, found_of}
use Rattle.r10_checker.proofs.media.check_medium.Goals as goal

pub check_files-requires : goal.check_files-requires
check_files-requires g c =
    let disk = g.M.BlockMedium.disk in
    let image = (disk c.args.medium.now).blocks in
    let chain = c.in-Ok.directory in
    let none : first_broken (inside_rules (length image) chain) ≡ None =
    found_of c.first_outside.result c.blocks-2.result (disk c.read_chain.new.medium).blocks image c.deref.result.now c.in-Ok-listing.files.items chain
    c.first_outside.ensures c.blocks-2.ensures c.in-Ok.ensures.same.reads c.deref.ensures.value c.in-Ok-listing.ensures
    ∙ c.in_default-first_outside.is in
    rw (c.deref-2.ensures.value, c.in-Ok-listing.ensures, c.in-Ok.ensures.same.reads) (all_placed image chain c.in-Ok.ensures.read none)
