use Rattle.std.proofs.Common.{List, ℕ, subst}
use Rattle.r10_count.specs.Append.{Appends}
use Rattle.r10_a429.proofs.Bodies.{fits_are, bytes_are}
use Rattle.r10_a429.proofs.body.ArincBody.encode_into.Goals as goal

pub write_body-requires : goal.write_body-requires
write_body-requires c = rw (c.get.ensures.value, c.as_slice.ensures) (fits_are c.args.counter c.args.self.now.entries c.requires.fields c.requires.gaps.1)

pub returns : goal.returns
returns c =
    let Adds : List ℕ → Type 0 = λ more. Appends more c.args.out.now c.write_body.new.out c.write_body.result in
    subst Adds (bytes_are c.args.counter c.args.self.now.entries c.requires.reported) (rw (c.get.ensures.value, c.as_slice.ensures) at c.write_body.ensures)
