use Rattle.std.proofs.lemmas.Result.{IfOk-weaker}
use Rattle.r10_packet.proofs.Again.{found_of, only_of}
use Rattle.r10_packet.proofs.header.decode_header.Goals as goal

pub returns-clause-found : goal.returns-clause-found
returns-clause-found c = IfOk-weaker c.read_header.result _ _ (found_of c.args.bytes.now c.told-bytes c.fits-bytes) c.read_header.ensures.ok

pub returns-clause-only : goal.returns-clause-only
returns-clause-only c = only_of c.args.bytes.now c.read_header.result c.read_header.ensures.ok c.read_header.ensures.fault
