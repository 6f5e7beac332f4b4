use Rattle.std.proofs.Common.{◌≡◌, true, false, rules, refl, inr, length}
use Rattle.r10_checker.specs.Place.{is_inside}
use Rattle.r10_playback.specs.Played.{IsListed}
use Rattle.r10_playback.proofs.Finding.{inside_is, listed_file, placed_file}
use Rattle.r10_playback.proofs.file.find_file.Goals as goal

pub returns-then-not-is_inside-clause-refused : goal.returns-then-not-is_inside-clause-refused
returns-then-not-is_inside-clause-refused g c =
    let disk = g.M.BlockMedium.disk in
    let image = (disk c.args.medium.now).blocks in
    let file = c.in-Some.file in
    let at : IsListed image c.args.number file =
    listed_file image c.in-Ok.directory c.deref.result.now c.in-Ok-listing.files.items c.args.number file c.file_at.result c.in-Ok.ensures.read c.deref.ensures.value c.in-Ok-listing.ensures c.file_at.ensures.value c.in-Some.is in
    let no : c.is_inside.result ≡ false = search rules in
    let outside : is_inside (length image) file.entry ≡ c.is_inside.result =
    inside_is c.is_inside.result c.blocks-2.result (disk c.read_chain.new.medium).blocks image file.entry c.is_inside.ensures c.blocks-2.ensures c.in-Ok.ensures.same.reads in
    inr (file, at, rw (← no) outside, refl)

pub returns-clause-found : goal.returns-clause-found
returns-clause-found g c =
    let disk = g.M.BlockMedium.disk in
    let image = (disk c.args.medium.now).blocks in
    let file = c.in-Some.file in
    let at : IsListed image c.args.number file =
    listed_file image c.in-Ok.directory c.deref.result.now c.in-Ok-listing.files.items c.args.number file c.file_at.result c.in-Ok.ensures.read c.deref.ensures.value c.in-Ok-listing.ensures c.file_at.ensures.value c.in-Some.is in
    let yes : c.is_inside.result ≡ true = search rules in
    let here : is_inside (length image) file.entry ≡ c.is_inside.result =
    inside_is c.is_inside.result c.blocks-2.result (disk c.read_chain.new.medium).blocks image file.entry c.is_inside.ensures c.blocks-2.ensures c.in-Ok.ensures.same.reads in
    let inside : is_inside (length image) file.entry ≡ true = rw (← yes) here in
    ((at, inside), placed_file image c.args.number file at inside)

pub returns-in-Err-clause-refused : goal.returns-in-Err-clause-refused
returns-in-Err-clause-refused g c = c.chain_fault.ensures.refused (g.M.BlockMedium.disk c.args.medium.now).blocks c.args.number c.in-Err.ensures.bad
