use Rattle.std.proofs.Common.{◌≡◌, ◌+◌, Some, None, sym, ap, ◌∙◌}
use Rattle.r10_count.specs.Checks.{first_broken}
use Rattle.r10_dirchain.specs.Mount.{listed, place_rules, full_rules, stand_rules, closed_rules}
use Rattle.r10_dirchain.proofs.Rules.{stops_1, stops_2, stops_3, ends_with}
use Rattle.r10_dirchain.proofs.chain.Directory.check.Goals as goal

pub returns-in-Some-clause-fault : goal.returns-in-Some-clause-fault
returns-in-Some-clause-fault c =
    let a = c.args in
    let chain = a.self.now in
    let here : c.deref.result.now ≡ chain = cc in
    stops_1 (place_rules a.reserved 1 chain) (full_rules chain) (stand_rules a.blocks (a.reserved + 1) (listed chain)) (closed_rules (listed chain)) c.in-Some.number
    (ap (λ l. first_broken (place_rules a.reserved 1 l)) (sym here) ∙ sym c.misplaced_block.ensures ∙ c.in-Some.is)

pub returns-in-Some-unfilled_block-clause-fault : goal.returns-in-Some-unfilled_block-clause-fault
returns-in-Some-unfilled_block-clause-fault c =
    let a = c.args in
    let chain = a.self.now in
    let here : c.deref.result.now ≡ chain = cc in
    let again : c.deref-2.result.now ≡ chain = cc in
    stops_2 (place_rules a.reserved 1 chain) (full_rules chain) (stand_rules a.blocks (a.reserved + 1) (listed chain)) (closed_rules (listed chain)) c.in-Some-unfilled_block.number
    (ap (λ l. first_broken (place_rules a.reserved 1 l)) (sym here) ∙ sym c.misplaced_block.ensures ∙ c.in_default-misplaced_block.is)
    (ap (λ l. first_broken (full_rules l)) (sym again) ∙ sym c.unfilled_block.ensures ∙ c.in-Some-unfilled_block.is)

pub returns-in-Some-misplaced_file-clause-fault : goal.returns-in-Some-misplaced_file-clause-fault
returns-in-Some-misplaced_file-clause-fault c =
    let a = c.args in
    let chain = a.self.now in
    let here : c.deref.result.now ≡ chain = cc in
    let again : c.deref-2.result.now ≡ chain = cc in
    let files : c.deref-3.result.now ≡ listed chain = c.deref-3.ensures.value ∙ c.in-Ok.ensures in
    stops_3 (place_rules a.reserved 1 chain) (full_rules chain) (stand_rules a.blocks (a.reserved + 1) (listed chain)) (closed_rules (listed chain)) c.in-Some-misplaced_file.number
    (ap (λ l. first_broken (place_rules a.reserved 1 l)) (sym here) ∙ sym c.misplaced_block.ensures ∙ c.in_default-misplaced_block.is)
    (ap (λ l. first_broken (full_rules l)) (sym again) ∙ sym c.unfilled_block.ensures ∙ c.in_default-unfilled_block.is)
    (ap (λ l. first_broken (stand_rules a.blocks (a.reserved + 1) l)) (sym files) ∙ sym c.misplaced_file.ensures ∙ c.in-Some-misplaced_file.is)

pub returns-in-Some-unclosed_file-clause-fault : goal.returns-in-Some-unclosed_file-clause-fault
returns-in-Some-unclosed_file-clause-fault c =
    let a = c.args in
    let chain = a.self.now in
    let here : c.deref.result.now ≡ chain = cc in
    let again : c.deref-2.result.now ≡ chain = cc in
    let files : c.deref-3.result.now ≡ listed chain = c.deref-3.ensures.value ∙ c.in-Ok.ensures in
    let same : c.deref-4.result.now ≡ listed chain = c.deref-4.ensures.value ∙ c.in-Ok.ensures in
    ends_with (place_rules a.reserved 1 chain) (full_rules chain) (stand_rules a.blocks (a.reserved + 1) (listed chain)) (closed_rules (listed chain)) (Some c.in-Some-unclosed_file.number)
    (ap (λ l. first_broken (place_rules a.reserved 1 l)) (sym here) ∙ sym c.misplaced_block.ensures ∙ c.in_default-misplaced_block.is)
    (ap (λ l. first_broken (full_rules l)) (sym again) ∙ sym c.unfilled_block.ensures ∙ c.in_default-unfilled_block.is)
    (ap (λ l. first_broken (stand_rules a.blocks (a.reserved + 1) l)) (sym files) ∙ sym c.misplaced_file.ensures ∙ c.in_default-misplaced_file.is)
    (ap (λ l. first_broken (closed_rules l)) (sym same) ∙ sym c.unclosed_file.ensures ∙ c.in-Some-unclosed_file.is)

pub returns-clause-usable : goal.returns-clause-usable
returns-clause-usable c =
    let a = c.args in
    let chain = a.self.now in
    let here : c.deref.result.now ≡ chain = cc in
    let again : c.deref-2.result.now ≡ chain = cc in
    let files : c.deref-3.result.now ≡ listed chain = c.deref-3.ensures.value ∙ c.in-Ok.ensures in
    let same : c.deref-4.result.now ≡ listed chain = c.deref-4.ensures.value ∙ c.in-Ok.ensures in
    ends_with (place_rules a.reserved 1 chain) (full_rules chain) (stand_rules a.blocks (a.reserved + 1) (listed chain)) (closed_rules (listed chain)) None
    (ap (λ l. first_broken (place_rules a.reserved 1 l)) (sym here) ∙ sym c.misplaced_block.ensures ∙ c.in_default-misplaced_block.is)
    (ap (λ l. first_broken (full_rules l)) (sym again) ∙ sym c.unfilled_block.ensures ∙ c.in_default-unfilled_block.is)
    (ap (λ l. first_broken (stand_rules a.blocks (a.reserved + 1) l)) (sym files) ∙ sym c.misplaced_file.ensures ∙ c.in_default-misplaced_file.is)
    (ap (λ l. first_broken (closed_rules l)) (sym same) ∙ sym c.unclosed_file.ensures ∙ c.in_default-unclosed_file.is)
