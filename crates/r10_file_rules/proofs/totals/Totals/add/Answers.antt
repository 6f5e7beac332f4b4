use Rattle.std.proofs.Common.{◌≡◌, ◌+◌, ◌∷◌, [], ◌++◌, length, ap, ◌∙◌, arith, length-append}
use Rattle.std.specs.List.{sum_by}
use Rattle.std.proofs.lemmas.List.Sums.{sum_by-append}
use Rattle.r10_body.specs.Cost.{entry_cost, owed}
use Rattle.r10_body.specs.Packets.{packet_entries, file_entries}
use Rattle.r10_body.proofs.Rules.{entries_more}
use Rattle.r10_file_rules.proofs.OnReports.{cost_behind}
use Rattle.r10_file_rules.proofs.totals.Totals.add.Goals as goal

pub returns : goal.returns
returns c = λ packets p totals tells may report.
    let whole : sum_by entry_cost (file_entries (packets ++ p ∷ [])) ≡ sum_by entry_cost (file_entries packets) + sum_by entry_cost (packet_entries p) =
    ap (sum_by entry_cost) (entries_more packets p) ∙ sum_by-append entry_cost (file_entries packets) (packet_entries p) in
    let long : length (file_entries (packets ++ p ∷ [])) ≡ length (file_entries packets) + length (packet_entries p) = ap length (entries_more packets p) ∙ length-append (file_entries packets) (packet_entries p) in
    record {
      entries = omega (arith, c.saturating_add.ensures, totals.entries, tells.entries, long);
      cost = omega (arith, c.saturating_add-2.ensures, c.saturating_add-3.ensures, totals.cost, tells.cost, whole, cost_behind packets p may, c.cost_of.ensures, ap owed report);
    }
