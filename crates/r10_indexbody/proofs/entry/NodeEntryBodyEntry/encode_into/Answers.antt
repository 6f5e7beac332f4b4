use Rattle.std.proofs.Common.{ℕ, List, subst}
use Rattle.r10_count.specs.Append.{Appends}
use Rattle.r10_indexbody.proofs.entry.NodeEntryBodyEntry.encode_into.Goals as goal

pub returns : goal.returns
returns c =
    let Adds : List ℕ → Type 0 = λ more. Appends more c.args.out.now c.append_row.new.out c.append_row.result in
    subst Adds c.row.ensures c.append_row.ensures
