use Rattle.std.proofs.Common.{◌≡◌, ◌≤◌, map, length}
use Rattle.std.specs.List.{All}
use Rattle.r10_medium.specs.Disk.{Unchanged}
use Rattle.r10_dirchain.specs.Chain.{link, HoldsBlock}
use Rattle.r10_dirchain.specs.Bad.{LinksLead, BlocksAreApart}
use Rattle.r10_dirchain.proofs.read.read_chain.Given as goal

abbrev pub invariant-loop : goal.invariant-loop
invariant-loop g l =
    let disk = g.M.BlockMedium.disk in
    record {
      same : Unchanged (disk l.initial.medium) (disk l.medium);
      no_fewer : (disk l.initial.medium).failures ≤ (disk l.medium).failures;
      size : length l.chain.items ≡ l.counter;
      holds : All (HoldsBlock (disk l.initial.medium).blocks) l.chain.items;
      leads : LinksLead 1 1 (map link l.chain.items) l.back l.number;
      apart : BlocksAreApart l.chain.items;
    }
