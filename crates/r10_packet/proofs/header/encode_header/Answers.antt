use Rattle.std.proofs.Common.{rules}
use Rattle.r10_packet.proofs.header.encode_header.Goals as goal

pub returns-clause-fits : goal.returns-clause-fits
returns-clause-fits c = record {
  channel = search rules;
  packet_len = c.four_bytes.ensures.range;
  data_len = c.four_bytes-2.ensures.range;
  version = search rules;
  sequence = search rules;
  flags = search rules;
  data_type = search rules;
  counter = c.get.ensures.range;
}
