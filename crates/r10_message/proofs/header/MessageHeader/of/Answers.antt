use Rattle.std.proofs.Common.{rules}
use Rattle.r10_message.proofs.Entries.{parts_of}
use Rattle.r10_message.proofs.header.MessageHeader.of.Goals as goal

pub returns-clause-reported : goal.returns-clause-reported
returns-clause-reported c = parts_of c.args.bits (search rules)
