use Rattle.std.proofs.Common.{List, ℕ, subst}
use Rattle.r10_count.specs.Append.{Appends}
use Rattle.r10_indexbody.proofs.Nodes.{fits_are, bytes_are}
use Rattle.r10_indexbody.proofs.node.NodeBody.write.Goals as goal

pub write_body-requires : goal.write_body-requires
write_body-requires c = fits_are 0 c.args.entries.now c.requires.fields

pub returns : goal.returns
returns c =
    let Adds : List ℕ → Type 0 = λ more. Appends more c.args.out.now c.write_body.new.out c.write_body.result in
    subst Adds (bytes_are c.args.entries.now c.requires.counted) c.write_body.ensures
