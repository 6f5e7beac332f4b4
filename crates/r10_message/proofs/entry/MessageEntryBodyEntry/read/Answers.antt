use Rattle.std.proofs.Common.{rules}
use Rattle.r10_message.proofs.Entries.{entry_read}
use Rattle.r10_message.proofs.entry.MessageEntryBodyEntry.read.Goals as goal

pub returns-clause-found : goal.returns-clause-found
returns-clause-found c = rw c.in_ok-copy_of.ensures.same (entry_read c.args.bytes.now c.in-Some.rest.now c.in-Some-split_u32.rest.now c.in-Some-strip_padding.text.now _ c.in-Some-split_u32.header c.of-parts.result
    (search rules) c.of-parts.ensures.fits c.of-parts.ensures.reported (search rules) (search rules) (search rules) (search rules))
