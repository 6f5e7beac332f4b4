use Rattle.std.proofs.Common.{length, sym, rules}
use Rattle.r10_message.specs.Message.{message_header}
use Rattle.r10_message.specs.Entry.{message_header-fits, message_header-low}
use Rattle.r10_packet_rules.proofs.Glances.{message_glimpse}
use Rattle.r10_packet_rules.proofs.glance.MessageEntryScannedEntry.glance.Goals as goal

pub returns-in_default-clause-none : goal.returns-in_default-clause-none
returns-in_default-clause-none c = λ e rest fits suits is.
    c.in_default.ensures.none e.count (message_header e) e.message.bytes rest fits.count (message_header-fits e.message.data_error e.message.format e.message.sub (length e.message.bytes) fits.sub fits.bytes)
    (sym (message_header-low e.message.data_error e.message.format e.message.sub (length e.message.bytes) fits.bytes)) is

pub returns-clause-found : goal.returns-clause-found
returns-clause-found c =
    let found = c.in-Some.ensures.found in
    message_glimpse c.args.setting c.args.before c.args.bytes.now c.in-Some.front.text.now c.in-Some.front.rest.now c.in-Some.front.count c.in-Some.front.header c.of-header.result (search rules) c.of-header.ensures.fits c.of-header.ensures.reported found.0 found.1
