use Rattle.std.proofs.Common.{◌≡◌, ◌+◌, ◌-◌, ◌*◌, take, drop, take_all, length-drop, ℕ, false, true, ap, ◌∙◌, sym, rules, arith}
use Rattle.std.specs.List.{range_with_len}
use Rattle.r10_count.specs.Checks.{first_broken}
use Rattle.r10_dirblock.specs.Block.{directory_entry_of, directory_entry_at, entry_rules, has_room_for_size}
use Rattle.r10_dirblock.proofs.Rules.{rule_holds, rule_breaks, entries_left}
use Rattle.r10_dirblock.proofs.read.first_fault.Goals as goal

pub returns-then-not-has_room : goal.returns-then-not-has_room
returns-then-not-has_room c =
    let bytes = c.args.bytes.now in
    let at = 64 + 112 * c.loop-i.i in
    let rest : take (512 - at) (drop at bytes) ≡ drop at bytes = take_all (512 - at) (drop at bytes) (omega (arith, length-drop at bytes, c.told-bytes)) in
    let read : c.entry.result ≡ directory_entry_at bytes c.loop-i.i = c.entry.ensures.fields ∙ ap directory_entry_of rest in
    let breaks : has_room_for_size (directory_entry_at bytes c.loop-i.i) ≡ false = sym (ap has_room_for_size read) ∙ sym c.has_room.ensures ∙ c.if-not-has_room.true in
    sym (entries_left bytes (search rules) (search rules) (search rules)
    ∙ ap (λ (n : ℕ). first_broken (entry_rules bytes (range_with_len 0 n))) (sym c.count-count.ensures)
    ∙ sym c.loop-i.invariant ∙ rule_breaks bytes c.loop-i.i c.count-count.result (omega arith) breaks)

pub loop-i-preserved : goal.loop-i-preserved
loop-i-preserved c =
    let bytes = c.args.bytes.now in
    let at = 64 + 112 * c.loop-i.i in
    let rest : take (512 - at) (drop at bytes) ≡ drop at bytes = take_all (512 - at) (drop at bytes) (omega (arith, length-drop at bytes, c.told-bytes)) in
    let read : c.entry.result ≡ directory_entry_at bytes c.loop-i.i = c.entry.ensures.fields ∙ ap directory_entry_of rest in
    let holds : has_room_for_size (directory_entry_at bytes c.loop-i.i) ≡ true = sym (ap has_room_for_size read) ∙ sym c.has_room.ensures ∙ c.if-not-has_room.false in
    sym (rule_holds bytes c.loop-i.i c.count-count.result (omega arith) holds) ∙ c.loop-i.invariant
