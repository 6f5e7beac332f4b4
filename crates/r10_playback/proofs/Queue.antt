-- The lines of what is left to give.
use Rattle.std.proofs.Common.{◌≡◌, ℕ, List, [], ◌∷◌, ◌++◌, drop, Option, Some, sym, ap, ◌∙◌, append_assoc}
use Rattle.std.specs.Prelude.{slice_get}
use Rattle.r10_body.specs.declared.entry.Entry.{Entry}
use Rattle.r10_text.specs.Line.{entry_line}
use Rattle.r10_playback.specs.Lines.{entry_lines}

some_same : (x e : Entry) → Some x ≡ Some e → x ≡ e
some_same x e is = cc

-- one entry is given, and its line is written
pub one_given : (text all : List ℕ) (queue rest : List Entry) (got : Option Entry) (e : Entry) → got ≡ slice_get queue 0 → got ≡ Some e → rest ≡ drop 1 queue
    → text ++ entry_lines queue ≡ all → (text ++ entry_line e) ++ entry_lines rest ≡ all
one_given text all [] rest got e given is left so_far = absurd (cc)
one_given text all (x ∷ queue) rest got e given is left so_far =
    let same : x ≡ e = some_same x e (sym given ∙ is) in
    append_assoc text (entry_line e) (entry_lines rest)
    ∙ ap (λ (l : List Entry). text ++ (entry_line e ++ entry_lines l)) left
    ∙ ap (λ (f : Entry). text ++ (entry_line f ++ entry_lines queue)) (sym same)
    ∙ so_far
