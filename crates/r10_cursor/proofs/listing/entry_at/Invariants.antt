use Rattle.std.proofs.Common.{◌≡◌, drop}
use Rattle.std.specs.Prelude.{slice_get}
use Rattle.r10_dirchain.specs.Chain.{listed_files}
use Rattle.r10_cursor.proofs.listing.entry_at.Given as goal

-- the file is as many places after the blocks so far
abbrev pub invariant-loop-link : goal.invariant-loop-link
invariant-loop-link l = slice_get (listed_files (drop l.link-index l.link-items)) l.left ≡ slice_get (listed_files l.link-items) l.file
