use Rattle.r10_session.proofs.Opening.{OpenedTo}
use Rattle.r10_session.proofs.readers.open_all.Given as goal

-- the cursors so far were opened or refused
abbrev pub invariant-loop-place : goal.invariant-loop-place
invariant-loop-place g l = OpenedTo g.M.BlockMedium.disk l.initial.held l.fn.tables l.place l.refused.items l.cursors.items l.held
