use Rattle.std.proofs.Common.{sym, ◌∙◌}
use Rattle.std.proofs.lemmas.List.{length-take-le}
use Rattle.r10_region.proofs.orders.Orders.hand_out.Goals as goal

pub copy_from_slice-requires : goal.copy_from_slice-requires
copy_from_slice-requires c = length-take-le 512 c.args.bytes.now c.requires ∙ sym c.has_its_bytes.ensures
