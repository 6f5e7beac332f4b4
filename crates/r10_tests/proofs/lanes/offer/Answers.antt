use Rattle.r10_port.proofs.Offers.{offered_same}
use Rattle.r10_tests.proofs.lanes.offer.Goals as goal

pub returns : goal.returns
returns c = (offered_same c.args.port.now c.count.result c.empty.result c.offer.result c.offer.new.self c.offer.ensures.offered).0
