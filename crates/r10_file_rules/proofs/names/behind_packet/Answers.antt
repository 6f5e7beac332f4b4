use Rattle.std.proofs.Common.{◌≡◌, ℕ, ◌+◌, ◌*◌, List, ◌++◌, ap, ◌∙◌}
use Rattle.r10_count.specs.Bytes.{le_bytes}
use Rattle.r10_count.specs.Count.{stamp}
use Rattle.r10_file_rules.proofs.Fronts.{Missing, missing_same, missing_first, missing_then, if_none, if_none_map}
use Rattle.r10_file_rules.proofs.names.behind_packet.Goals as goal

pub returns-in_err-rest-clause-none : goal.returns-in_err-rest-clause-none
returns-in_err-rest-clause-none c =
    let e = c.args.entry.now in
    if_none c.from_residual.result _ (missing_first c.args.bytes.now c.stamp.result (stamp e.counter) (le_bytes 4 (65536 * e.data_type + e.channel) ++ le_bytes 8 e.offset) c.stamp.ensures c.in_err-rest.ensures.none)

pub returns-in_err-rest-2-clause-none : goal.returns-in_err-rest-2-clause-none
returns-in_err-rest-2-clause-none c =
    let e = c.args.entry.now in
    let word : c.to_le_bytes.result ≡ le_bytes 4 (65536 * e.data_type + e.channel) = c.to_le_bytes.ensures ∙ ap (le_bytes 4) c.packet_word-packet.ensures in
    if_none c.from_residual-in_err-rest-2.result _
    (missing_then c.args.bytes.now c.stamp.result c.in_ok-rest.rest.now (stamp e.counter) (le_bytes 4 (65536 * e.data_type + e.channel) ++ le_bytes 8 e.offset) c.stamp.ensures c.in_ok-rest.ensures.found
    (missing_first c.in_ok-rest.rest.now c.to_le_bytes.result (le_bytes 4 (65536 * e.data_type + e.channel)) (le_bytes 8 e.offset) word c.in_err-rest-2.ensures.none))

pub returns-clause-none : goal.returns-clause-none
returns-clause-none c =
    let e = c.args.entry.now in
    let word : c.to_le_bytes.result ≡ le_bytes 4 (65536 * e.data_type + e.channel) = c.to_le_bytes.ensures ∙ ap (le_bytes 4) c.packet_word-packet.ensures in
    let at : List ℕ = stamp e.counter in
    let reported : List ℕ = le_bytes 4 (65536 * e.data_type + e.channel) in
    let place : List ℕ = le_bytes 8 e.offset in
    if_none_map c.behind-3.result (Missing c.in_ok-rest-2.rest.now c.to_le_bytes-2.result) (Missing c.args.bytes.now (at ++ (reported ++ place)))
    (λ missing. missing_then c.args.bytes.now c.stamp.result c.in_ok-rest.rest.now at (reported ++ place) c.stamp.ensures c.in_ok-rest.ensures.found
    (missing_then c.in_ok-rest.rest.now c.to_le_bytes.result c.in_ok-rest-2.rest.now reported place word c.in_ok-rest-2.ensures.found (missing_same c.in_ok-rest-2.rest.now c.to_le_bytes-2.result place c.to_le_bytes-2.ensures missing)))
    c.behind-3.ensures.none
