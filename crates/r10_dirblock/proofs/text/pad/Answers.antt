use Rattle.std.proofs.Common.{◌≡◌, ◌-◌, ◌++◌, ℕ, List, length, drop, replicate, ap, ◌∙◌}
use Rattle.std.proofs.lemmas.List.{drop-replicate}
use Rattle.r10_dirblock.specs.Texts.{stripped}
use Rattle.r10_dirblock.proofs.Stripped.{stripped_padded}
use Rattle.r10_dirblock.proofs.text.pad.Goals as goal

pub returns-clause-again : goal.returns-clause-again
returns-clause-again g c = λ plain.
    let text = c.args.text.now in
    let zeros : drop (length text) (replicate {A = ℕ} g.row.N 0) ≡ replicate (g.row.N - length text) 0 = drop-replicate (length text) g.row.N 0 in
    ap (λ (l : List ℕ). stripped (l ++ drop (length text) (replicate g.row.N 0))) c.copy_from_slice.ensures.after
    ∙ ap (λ (l : List ℕ). stripped (text ++ l)) zeros
    ∙ stripped_padded g.row.N text plain
