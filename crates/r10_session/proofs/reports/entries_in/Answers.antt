use Rattle.std.proofs.Common.{◌≡◌, ◌+◌, ◌-◌, ◌<◌, ◌^◌, ℕ, min, length, get_or, ap, sym, ◌∙◌, take}
use Rattle.r10_session.proofs.Summing.{entries_at}
use Rattle.r10_session.proofs.reports.entries_in.Goals as goal
use Rattle.r10_session.specs.Counting.{entries_in}
use Rattle.r10_shared.specs.Recorder.{Instalment}

pub loop-instalment-preserved : goal.loop-instalment-preserved
loop-instalment-preserved c =
    let all = c.args.transcript.now.instalments.items in
    let k = c.loop-instalment.instalment-index in
    let item = c.instalment-item.result in
    let inside : k < length all = rw c.deref-instalment-items.ensures.value at c.loop-instalment-test.true in
    let here : item ≡ get_or all k item = rw c.deref-instalment-items.ensures.value at c.instalment-item.is in
    let more : c.len.result ≡ length (get_or all k item).entries = c.len.ensures ∙ ap (λ (i : Instalment). length i.entries) here in
    c.saturating_add-entries.ensures
    ∙ ap (λ (n : ℕ). min (n + c.len.result) (2 ^ 64 - 1)) c.loop-instalment.invariant
    ∙ ap (λ (n : ℕ). min (entries_in (take k all) + n) (2 ^ 64 - 1)) more
    ∙ sym (entries_at all k item inside)
