use Rattle.std.proofs.Common.{◌≡◌, ◌+◌, ◌-◌, ◌≤◌, ◌∙◌, List, ℕ, Option, IfSome, length, take, drop, arith, subst}
use Rattle.std.proofs.lemmas.Bool.{lt-ltb}
use Rattle.r10_medium.proofs.PowerLoss.{whole_reads}
use Rattle.r10_body.specs.declared.fault.FileFault.{FileFault}
use Rattle.r10_judge.specs.Files.{file_at}
use Rattle.r10_judge.specs.Judged.{TellsAnswer}
use Rattle.r10_judge.specs.Walks.{TracksWalked, EndsWithFault}
use Rattle.r10_judge.proofs.PartsOfBytes.{fault_on, file_size, some_on, taken_more, tells_on, window_is}
use Rattle.r10_judge.proofs.window.take_window.Goals as goal

pub returns-clause-stands : goal.returns-clause-stands
returns-clause-stands g c =
    let disk = g.M.BlockMedium.disk c.args.medium.now in
    let file = file_at disk.blocks c.args.extent in
    let at = c.args.at in
    let count = c.min-count.result in
    let bytes = c.in-Ok.bytes.now in
    let n = c.in-Ok-take.taken.length in
    let inside : at + count ≤ c.args.extent.size = omega (arith, c.min-count.ensures, c.requires.at) in
    let window : bytes ≡ take count (drop at file) = c.in-Ok.ensures.bytes ∙ window_is disk.blocks c.args.extent at count (whole_reads disk) c.requires.within inside in
    subst (λ (l : List ℕ). TracksWalked c.take.new.self l) (taken_more file bytes at count n window (omega (arith, c.in-Ok-take.ensures.inside, c.in-Ok.ensures.size)))
    (c.in-Ok-take.ensures.stands (take at file) c.requires.walked)

pub returns-clause-fault : goal.returns-clause-fault
returns-clause-fault g c =
    let disk = g.M.BlockMedium.disk c.args.medium.now in
    let file = file_at disk.blocks c.args.extent in
    let at = c.args.at in
    let count = c.min-count.result in
    let bytes = c.in-Ok.bytes.now in
    let n = c.in-Ok-take.taken.length in
    let size : length file ≡ c.args.extent.size = file_size disk.blocks c.args.extent (whole_reads disk) c.requires.within in
    let inside : at + count ≤ c.args.extent.size = omega (arith, c.min-count.ensures, c.requires.at) in
    let window : bytes ≡ take count (drop at file) = c.in-Ok.ensures.bytes ∙ window_is disk.blocks c.args.extent at count (whole_reads disk) c.requires.within inside in
    some_on c.fault_of.result (λ f reported.
    let ends = subst (λ o. EndsWithFault o (drop n bytes)) reported.0 c.in-Ok-take.ensures.ends in
    let tells = subst (λ (o : Option FileFault). IfSome o (λ _. TellsAnswer c.in-Ok-take.taken.answered c.take.new.self.judge.tracks (drop n bytes))) reported.0 c.in-Ok-take.ensures.answered in
    let there = fault_on file bytes at count n f window c.in-Ok-take.ensures.inside (omega (arith, inside, size)) ends (λ less. reported.1 (lt-ltb count (c.args.extent.size - at) (omega (arith, less, size)))) in
    record { ends = there; answered = tells_on c.in-Ok-take.taken.answered c.take.new.self.judge.tracks file bytes at count n f window c.in-Ok-take.ensures.inside ends.1 there.1 tells })
    c.fault_of.ensures.some
