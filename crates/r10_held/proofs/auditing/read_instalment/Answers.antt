use Rattle.std.proofs.Common.{◌≡◌, ◌≤◌, ℕ, true, length, take, sym, ap, ◌∙◌, arith, rules}
use Rattle.std.specs.Prelude.{max, ◌==◌}
use Rattle.std.proofs.lemmas.Bool.Decides.{nat_tests}
use Rattle.r10_cursor.specs.Replays.{Reading}
use Rattle.r10_cursor.specs.declared.cursor.Cursor.{Cursor}
use Rattle.r10_held.specs.Auditing.{at_place}
use Rattle.r10_held.proofs.Comparing.{compared, covers_so, elsewhere}
use Rattle.r10_held.proofs.auditing.read_instalment.Goals.{then-covered-instalment, else-covered-instalment}
use Rattle.r10_held.proofs.auditing.read_instalment.Goals as goal

-- numbers that differ aren't written as the same
apart : (a b : ℕ) → (a ≡ b → ⊥) → (a == b) ≡ true → ⊥
apart a b away reported = away (grind (arith, nat_tests))

pub returns-after-covered-instalment : goal.returns-after-covered-instalment
returns-after-covered-instalment g c =
    record {
      same =
          λ packets shows within.
          let old = c.args.cursor.now.reading in
          let new = c.advance_to.new.cursor.reading in
          let i = c.args.instalment.now in
          let begins : i.from ≡ old.covered = omega (arith, c.if-instalment-covered.false, c.covered.ensures) in
          let forward : i.from ≤ i.to = omega (arith, c.if-instalment.false) in
          let advances = c.in-Ok.ensures.does.advances packets shows in
          let at : c.covered-in-Ok.result ≡ new.covered = c.covered-in-Ok.ensures ∙ ap (λ (k : Cursor). k.reading.covered) c.rest-entries.ensures.left in
          elim c.if-covered-instalment.branch [
            | then-covered-instalment w ↦
                let left = w.as_slice.ensures.value ∙ c.rest-entries.ensures.given in
                let right = w.as_slice-then-covered-instalment.ensures in
                rw w.result-is (compared c.order_is_unique.ensures packets old new i begins forward advances (omega (arith, at, w.if-covered-instalment.true)) w.are_same.result
                (λ yes. sym left ∙ w.are_same.ensures.0 yes ∙ right) (λ same. w.are_same.ensures.1 (left ∙ same ∙ sym right)))
            | else-covered-instalment w ↦
                elsewhere c.order_is_unique.ensures packets old new i advances (λ is. absurd (omega (arith, at, is, w.if-covered-instalment.false))) c.if-covered-instalment.result
                (λ so. absurd (apart c.covered-in-Ok.result i.to (λ is. absurd (omega (arith, is, w.if-covered-instalment.false))) (sym w.result-is ∙ so)))
          ];
      covers =
          λ packets shows within.
          let old = c.args.cursor.now in
          let new = c.advance_to.new.cursor in
          let i = c.args.instalment.now in
          let advances = c.in-Ok.ensures.does.advances packets shows in
          let at : c.covered-in-Ok.result ≡ new.reading.covered = c.covered-in-Ok.ensures ∙ ap (λ (k : Cursor). k.reading.covered) c.rest-entries.ensures.left in
          let far : new.reading.covered ≡ length (take (max i.to old.reading.covered) packets) = ap (λ (r : Reading). r.covered) advances.covers in
          let so = covers_so old new c.rest-entries.new.self _ c.in-Ok.ensures.does.place.0 c.in-Ok.ensures.does.place.1 c.requires.left advances c.rest-entries.ensures.left in
          elim c.if-covered-instalment.branch [
            | then-covered-instalment w ↦ λ yes. so ∙ ap (λ (n : ℕ). at_place n old) (sym far ∙ sym at ∙ omega (arith, w.if-covered-instalment.true))
            | else-covered-instalment w ↦ λ yes. absurd (apart c.covered-in-Ok.result i.to (λ is. absurd (omega (arith, is, w.if-covered-instalment.false))) (sym w.result-is ∙ yes))
          ];
      ready = search rules;
      file = search rules;
      refused = search rules;
      reads = search rules;
    }
