use Rattle.std.proofs.Common.{refl, sym, ap, ◌∙◌, List, [], ◌∷◌, ◌++◌}
use Rattle.std.proofs.lemmas.Option.{same_Some}
use Rattle.rtrb.specs.Ring.{received, sent, known_items}
use Rattle.r10_region.specs.Links.{name_of, told_before}
use Rattle.r10_region.specs.declared.ahead.Ahead.{Ahead}
use Rattle.r10_region.specs.declared.link.Link.{Link}
use Rattle.r10_region.proofs.Lines.{name_is}
use Rattle.r10_region.proofs.Turns.{next_ring, on_false, popped_all, reached_more, tied_on, with_none}
use Rattle.r10_region.proofs.orders.Orders.reach.Goals as goal

pub returns-then-not-move_on : goal.returns-then-not-move_on
returns-then-not-move_on c =
    let look = c.slots_beside-further in let l = c.args.line.now in let moves = c.move_on.ensures in let q = moves.queue in
    reached_more l _ c.args.self.now c.move_on.new.self (known_items look.new.self)
    (record { links = name_is l.links.end look.new.producer.end look.ensures.producer.0.0; first = refl; reported = ap (λ (ls : List Link). told_before ls ++ sent l.ring) look.ensures.producer.1 })
    (record { links = q.links ∙ name_is c.args.self.now.links.end look.new.self.end look.ensures.looked.0.0; first = q.first; was = q.was; news = q.news; spares = q.spares; room = q.room })
    moves.same (ap (λ (x : _). received x ++ known_items look.new.self) moves.links ∙ look.ensures.fifo) (on_false _ _ c.move_on.result moves.has c.if-not-move_on.true)

pub invariant_of-self-in-loop : goal.invariant_of-self-in-loop
invariant_of-self-in-loop c =
    let o = c.loop.self in let inv = c.loop.invariant in let link = c.pop_known-link.result in let pop = c.pop_known-link.ensures in record {
      at = o.at;
      taken = pop.received.0 ∙ ap (λ (ls : List Link). ls ++ link ∷ []) (with_none o inv.none) ∙ ap (λ (x : Link). received o.done.value ++ x ∷ []) (sym c.new.ensures);
      comes = λ a e. ap (λ (x : Ahead). name_of x.was.value.before.end) (sym (same_Some c.new.result a e)) ∙ ap (λ (x : Link). name_of x.before.end) c.new.ensures
          ∙ next_ring _ o link (known_items c.pop_known-link.new.self) (tied_on c.args.line.now _ c.args.self.now o c.requires inv.line inv.queue) inv.none inv.all pop.received.1;
    }

pub returns-then-not-move_on-2 : goal.returns-then-not-move_on-2
returns-then-not-move_on-2 c =
    let o = c.loop.self in let inv = c.loop.invariant in let pop = c.pop_known-link in let moves = c.move_on-in-loop.ensures in let q = moves.queue in
    reached_more c.args.line.now _ c.args.self.now c.move_on-in-loop.new.self (known_items pop.new.self) inv.line
    (record {
      links = q.links ∙ name_is o.links.end pop.new.self.end pop.ensures.ring.0 ∙ inv.queue.links;
      first = q.first ∙ inv.queue.first;
      was = q.was ∙ inv.queue.was;
      news = q.news ∙ inv.queue.news;
      spares = q.spares ∙ inv.queue.spares;
      room = q.room ∙ inv.queue.room;
    })
    (moves.same ∙ inv.same)
    (ap (λ (x : _). received x ++ known_items pop.new.self) moves.links ∙ popped_all (received o.links) (received pop.new.self) (known_items o.links) (known_items pop.new.self) _ pop.result pop.ensures.received.0 pop.ensures.received.1 inv.all)
    (on_false _ _ c.move_on-in-loop.result moves.has c.if-not-move_on-2.true)
