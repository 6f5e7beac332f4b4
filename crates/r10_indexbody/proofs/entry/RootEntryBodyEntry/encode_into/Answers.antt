use Rattle.std.proofs.Common.{◌≡◌, ◌++◌, [], ℕ, List, refl, subst}
use Rattle.r10_count.specs.Append.{Appends}
use Rattle.r10_indexbody.specs.Index.{root_entry}
use Rattle.r10_indexbody.proofs.entry.RootEntryBodyEntry.encode_into.Goals as goal

pub returns : goal.returns
returns c =
    let parts : c.stamp-stamp.result ++ (c.to_le_bytes-offset.result ++ []) ≡ root_entry c.args.self.now =
    rw (c.stamp-stamp.ensures, c.to_le_bytes-offset.ensures) refl in
    let Adds : List ℕ → Type 0 = λ more. Appends more c.args.out.now c.append_all.new.out c.append_all.result in
    subst Adds parts c.append_all.ensures
