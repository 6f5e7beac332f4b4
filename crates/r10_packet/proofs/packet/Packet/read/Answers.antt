use Rattle.std.proofs.Common.{◌≡◌, ap, ◌∙◌, arith, rules}
use Rattle.std.proofs.lemmas.Result.{err_from_is_err_and}
use Rattle.r10_packet.specs.Framing.{has_lengths, header_at, data_sum_of}
use Rattle.r10_packet.proofs.NoRuleBroken.{HasLengths, lengths_of, sound_of, fault_in_header}
use Rattle.r10_packet.proofs.Whole.{right_iff}
use Rattle.r10_packet.proofs.packet.Packet.read.Goals as goal

pub returns-in_err-header-clause-fault : goal.returns-in_err-header-clause-fault
returns-in_err-header-clause-fault c =
    let p = err_from_is_err_and c.from_residual.result c.from_residual.ensures.1 in
    rw (p.1, p.2) (fault_in_header c.args.bytes.now c.in_err-header.field-0.0 (omega arith) c.in_err-header.ensures.fault)

pub slice_bounds-view-end : goal.slice_bounds-view-end
slice_bounds-view-end c =
    let lengths : HasLengths c.in_ok-header.header = lengths_of c.in_ok-header.header (ap has_lengths c.in_ok-header.ensures.ok.0 ∙ (sound_of c.args.bytes.now c.in_ok-header.ensures.ok.1).lengths) in
    search rules

pub returns-clause-right : goal.returns-clause-right
returns-clause-right c =
    let bytes = c.args.bytes.now in
    let same : c.data_sum.result ≡ data_sum_of (header_at bytes) bytes = c.data_sum.ensures ∙ ap (λ h. data_sum_of h bytes) c.in_ok-header.ensures.ok.0 in
    rw same (right_iff (header_at bytes) bytes)
