use Rattle.std.proofs.Common.{◌≡◌, ◌∷◌, ◌∙◌, List, cond, false, ◌-◌, sym, ap, subst}
use Rattle.r10_body.specs.declared.entry.Timed.{Timed}
use Rattle.r10_source.specs.Given.{GivesNext}
use Rattle.r10_source.specs.Pumps.{PumpsSource}
use Rattle.r10_source.specs.declared.source.SourceItem.{SourceItem}
use Rattle.r10_source.specs.declared.source.SourceItem.TheVariants as brings
use Rattle.r10_source.proofs.Feeding.{one_if, pumps_loss, pumps_one}
use Rattle.r10_source.proofs.pump.offer_given.Goals as goal

pub returns-in-Item : goal.returns-in-Item
returns-in-Item c before after gave =
    let item : Timed = record { count = c.in-Item.count; message = c.in-Item.message } in
    let first : before ≡ brings.Message item ∷ after = subst (λ g. GivesNext g before after) c.in-Item.is gave in
    let taken = c.from-accepted.result in
    subst (λ (l : List SourceItem). PumpsSource 1 l after c.args.port.now c.offer.new.self (record { accepted = taken; refused = 1 - taken; ended = false })) (sym first) (
    pumps_one item c.offer.result after c.args.port.now c.offer.new.self taken c.offer.ensures.offered (c.from-accepted.ensures ∙ one_if c.is_ok.result ∙ ap (λ b. cond b 1 0) c.is_ok.ensures.value))

pub returns-in-Lost : goal.returns-in-Lost
returns-in-Lost c before after gave =
    let first : before ≡ brings.Lost c.in-Lost.lost ∷ after = subst (λ g. GivesNext g before after) c.in-Lost.is gave in
    subst (λ (l : List SourceItem). PumpsSource 1 l after c.args.port.now c.lose.new.self (record { accepted = 0; refused = 0; ended = false })) (sym first) (pumps_loss c.in-Lost.lost after c.args.port.now c.lose.new.self c.lose.ensures)
