use Rattle.std.proofs.Common.{arith, ap, refl}
use Rattle.std.specs.Prelude.{not}
use Rattle.r10_count.specs.Bytes.{bit_of}
use Rattle.r10_packet.specs.declared.header.Header.{Header}
use Rattle.r10_packet.specs.Framing.{header_at}
use Rattle.r10_body.specs.Foreign.{opaque_at}
use Rattle.r10_survey.specs.Counts.{is_wrong, has_loss}
use Rattle.r10_survey.proofs.Counting.{first_bit, first_same, lone}
use Rattle.r10_survey.proofs.Entering.{lone_entries}
use Rattle.r10_survey.proofs.channel.ChannelCount.of_first.Goals as goal

pub returns : goal.returns
returns c = λ p seen.
    let s = c.args.seen.now in record {
      data_type = ap (λ (h : Header). h.data_type) seen.header;
      other_types = first_same (header_at p).data_type p refl;
      packets = omega arith;
      bytes = omega (arith, c.saturating_add.ensures, seen.size, lone p);
      entries = seen.entries;
      entries_are = lone_entries p seen.entries seen.entries_are;
      entry_number = omega (arith, c.saturating_add-2.ensures, seen.entry_number);
      opaque = first_bit opaque_at p s.opaque _ c.one_if.ensures seen.opaque;
      wrong_sums = first_bit is_wrong p (not s.right) _ c.one_if-2.ensures (ap not seen.right);
      losses = first_bit has_loss p (bit_of 4 s.header.flags) _ c.one_if-3.ensures (ap (λ (h : Header). bit_of 4 h.flags) seen.header);
      gaps = omega arith;
      sequence = ap (λ (h : Header). h.sequence) seen.header;
      first = ap (λ (h : Header). h.counter) seen.header;
      last = ap (λ (h : Header). h.counter) seen.header;
    }
