use Rattle.std.proofs.Common.{sym, ap, ◌∙◌, true≢false, is_some, rules}
use Rattle.r10_calls.proofs.place.WorldPlace.run_here.Goals.{in-Some, in-None+in-Start-1, in-None+in-Offer-1, in-None+in-Cursor-1, in-None+in-Mount-1}
use Rattle.r10_calls.proofs.place.WorldPlace.run_here.Goals as goal

pub returns-clause-steps : goal.returns-clause-steps
returns-clause-steps g c = elim c.match-self.branch [
  | in-Some w ↦ rw (w.result-is, w.self-inside-is) (search rules)
  | in-None+in-Start-1 w ↦ absurd (true≢false (sym c.self.inside.there ∙ ap is_some w.in-None.is))
  | in-None+in-Offer-1 w ↦ absurd (true≢false (sym c.self.inside.there ∙ ap is_some w.in-None.is))
  | in-None+in-Cursor-1 w ↦ absurd (true≢false (sym c.self.inside.there ∙ ap is_some w.in-None.is))
  | in-None+in-Mount-1 w ↦ absurd (true≢false (sym c.self.inside.there ∙ ap is_some w.in-None.is))
]
