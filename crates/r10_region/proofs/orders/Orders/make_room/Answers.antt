use Rattle.std.proofs.Common.{ℕ, ap, ◌∙◌, List, [], ◌∷◌, ◌++◌, max}
use Rattle.rtrb.specs.Ring.{sent}
use Rattle.r10_region.specs.Orders.{HasRoom}
use Rattle.r10_region.specs.declared.spare.Spare.{Spare}
use Rattle.r10_region.proofs.Lines.{producer_on}
use Rattle.r10_region.proofs.orders.Orders.make_room.Goals as goal

pub returns : goal.returns
returns c = let l = c.has_places.ensures.looked in record {
  turn = record { ahead = l.turn.ahead; done = l.turn.done; first = l.turn.first; was = l.turn.was };
  ring = l.ring;
  links = l.links;
  news = l.news;
  spares = producer_on c.args.self.now.spares c.is_full.new.self c.push_reserved.new.self c.is_full.ensures.looked.0 (rw l.spares at c.push_reserved.ensures.ring);
  room = l.room;
  places = HasRoom.sends (record {
    spare = c.in-Some.spare;
    sends = c.push_reserved.ensures.sent.0 ∙ ap (λ (xs : List Spare). xs ++ c.in-Some.spare ∷ []) (ap sent l.spares ∙ c.is_full.ensures.looked.1);
    places = c.in-Some.ensures.0 ∙ c.max.ensures ∙ ap (λ (n : ℕ). max n 1) l.room;
  });
}
