use Rattle.std.proofs.Common.{refl}
use Rattle.std.specs.List.{flat_map}
use Rattle.r10_indexbody.specs.Index.{root_entry}
use Rattle.r10_index.specs.Written.{names}
use Rattle.r10_file_rules.specs.Names.{root_at}
use Rattle.r10_file_rules.proofs.Fronts.{framed}
use Rattle.r10_file_rules.proofs.names.are_roots.Goals as goal

pub returns-in-Some : goal.returns-in-Some
returns-in-Some c = λ small.
    let front = flat_map root_entry (names c.args.at.counter c.args.at.end c.args.at.nodes) in
    framed c.args.bytes.now front front c.in-Some.rest.now (root_entry (root_at c.args.counter c.args.offset)) c.is_own.result refl (c.in-Some.ensures.found small) c.is_own.ensures
