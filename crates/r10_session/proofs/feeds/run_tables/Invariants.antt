use Rattle.std.proofs.Common.{◌≡◌, List, IsSomeAnd}
use Rattle.std.specs.List.{All, AllByRecursion}
use Rattle.r10_body.specs.declared.spec.ChannelSpec.{ChannelSpec}
use Rattle.r10_session.proofs.Feeding.{PairedTo}
use Rattle.r10_session.specs.Feeds.{WaitsAsLine}
use Rattle.r10_session.specs.Turns.{turns_in}
use Rattle.r10_session.specs.Lanes.{HasSender, IsFresh, IsRingNamed}
use Rattle.r10_session.proofs.feeds.run_tables.Given as goal
use Rattle.r10_script.specs.Session.{AreApart}
-- No argument and no result has a source's type, so no name of `goal` leads to what a source gives: it is named by the place where this function's sources are listed.
use Rattle.r10_session.proofs.feeds.run_tables.OwnLists.{own-1}

-- the sending ends that are left are those of the tables that are left, each of its channel, and the feeds so far wait
abbrev pub invariant-loop-table : goal.invariant-loop-table
invariant-loop-table g l = record {
  named : All (IsRingNamed g.N.Rings.rings) l.left.items;
  there : AllByRecursion (λ table. HasSender l.left.items table.channel) l.table-iterator.rest.items;
  apart : AreApart l.table-iterator.rest.items;
  waits : (specs : List ChannelSpec) → All (IsFresh specs) l.fn.senders.items
      → All (IsFresh specs) l.left.items × PairedTo l.fn.tables.items l.table-iterator.rest.items l.feeds.items (λ table feed. IsSomeAnd feed.source (λ s. (own-1.entry s.vtable).1.rest s.value ≡ turns_in table.items) × WaitsAsLine specs table feed.line);
}
