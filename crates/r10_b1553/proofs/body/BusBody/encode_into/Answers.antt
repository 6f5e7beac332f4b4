use Rattle.std.proofs.Common.{List, ℕ, subst}
use Rattle.r10_count.specs.Append.{Appends}
use Rattle.r10_b1553.proofs.Bodies.{fits_are, bytes_are}
use Rattle.r10_b1553.proofs.body.BusBody.encode_into.Goals as goal

pub write_body-requires : goal.write_body-requires
write_body-requires c = rw c.as_slice.ensures (fits_are 0 c.args.self.now.entries c.requires.fields)

pub returns : goal.returns
returns c =
    let Adds : List ℕ → Type 0 = λ more. Appends more c.args.out.now c.write_body.new.out c.write_body.result in
    subst Adds (bytes_are c.args.self.now.entries c.requires.counted) (rw c.as_slice.ensures at c.write_body.ensures)
