-- A packet with another number reported of what was lost before it keeps the same rules, but for the one of reports.
use Rattle.std.proofs.Common.{◌≡◌, ℕ, ◌+◌, ◌≤◌, true, false, List, [], ◌∷◌, ◌++◌, take, filter, refl, sym, ap, subst, ◌∙◌}
use Rattle.std.specs.List.{AllByRecursion}
use Rattle.r10_body.specs.Content.{Timed, messages_of}
use Rattle.r10_body.specs.Gaps.{is_gap, IsSoundGap}
use Rattle.r10_body.specs.Packets.{Packet, FitsPacket, flagged, with_gaps, file_entries}
use Rattle.r10_body.specs.Rules.{KeepsChecksums, KeepsStart, KeepsChannels, KeepsSequence, KeepsCounts, KeepsIndex, KeepsCounters, KeepsEvents, Rise, is_entry_on}
use Rattle.r10_body.specs.declared.entry.Entry.{Entry}
use Rattle.r10_body.specs.declared.gap.Gap.{Gap}
use Rattle.r10_body.specs.declared.gap.Gap.TheVariants.{Whole, Lost, Unknown}
use Rattle.r10_body.specs.declared.message.Message.{Message}

-- the same packet, but for the number
abbrev pub IsRetold : Packet → Packet → Type 0
IsRetold p q = (record p { gap = q.gap } ≡ q) × (flagged p ≡ flagged q)

-- ---- what is the same

still_whole : (g h : Gap) → is_gap g ≡ is_gap h → g ≡ Whole → h ≡ Whole
still_whole g Whole e is = refl
still_whole g (Lost n) e is = absurd (let no : false ≡ true = sym (ap is_gap is) ∙ e in cc)
still_whole g Unknown e is = absurd (let no : false ≡ true = sym (ap is_gap is) ∙ e in cc)

-- entries whose counts go on after others
abbrev GoOn : ℕ → List Entry → List Entry → Type 0
GoOn counter before es = AllByRecursion (λ e. counter ≡ e.count) (take 1 es) × Rise 0 (before ++ es) × AllByRecursion (λ e. e.count ≤ counter + 1000000) es

rise_retold : (from channel count : ℕ) (m : Message) (g h : Gap) (before es : List Entry) → Rise from (before ++ record { channel = channel; count = count; message = m; gap = g } ∷ es)
    → Rise from (before ++ record { channel = channel; count = count; message = m; gap = h } ∷ es)
rise_retold from channel count m g h [] es rise = rise
rise_retold from channel count m g h (e ∷ before) es rise = (rise.0, rise_retold e.count channel count m g h before es rise.1)

go_retold : (counter channel : ℕ) (before : List Entry) (g h : Gap) (ts : List Timed) → GoOn counter before (with_gaps channel g ts) → GoOn counter before (with_gaps channel h ts)
go_retold counter channel before g h [] go = go
go_retold counter channel before g h (t ∷ ts) go = (go.0, rise_retold 0 channel t.count t.message g h before (with_gaps channel Whole ts) go.1, go.2)

-- ---- the rules

pub retold_fits : (p q : Packet) → IsRetold p q → IsSoundGap q.gap → FitsPacket p → FitsPacket q
retold_fits p q same sound fits =
    let made : FitsPacket (record p { gap = q.gap }) = record { channel = fits.channel; sequence = fits.sequence; gap = sound; check = fits.check; counter = fits.counter; content = fits.content; short = fits.short } in
    subst FitsPacket same.0 made

pub retold_checksums : (p q : Packet) → IsRetold p q → KeepsChecksums p → KeepsChecksums q
retold_checksums p q same keeps = subst KeepsChecksums same.0 keeps

pub retold_start : (before : List Packet) (p q : Packet) → IsRetold p q → KeepsStart before p → KeepsStart before q
retold_start before p q same keeps = subst (λ (x : Packet). KeepsStart before x) same.0 keeps

pub retold_channels : (before : List Packet) (p q : Packet) → IsRetold p q → KeepsChannels before p → KeepsChannels before q
retold_channels before p q same keeps =
    let made : KeepsChannels before (record p { gap = q.gap }) = (keeps.0, keeps.1, λ own. still_whole p.gap q.gap same.1 (keeps.2 own)) in
    subst (λ (x : Packet). KeepsChannels before x) same.0 made

pub retold_sequence : (before : List Packet) (p q : Packet) → IsRetold p q → KeepsSequence before p → KeepsSequence before q
retold_sequence before p q same keeps = subst (λ (x : Packet). KeepsSequence before x) same.0 keeps

pub retold_counts : (before : List Packet) (p q : Packet) → IsRetold p q → KeepsCounts before p → KeepsCounts before q
retold_counts before p q same keeps =
    let made : KeepsCounts before (record p { gap = q.gap }) =
    go_retold p.counter p.channel (filter (is_entry_on p.channel) (file_entries before)) p.gap q.gap (messages_of p.counter p.content) keeps in
    subst (λ (x : Packet). KeepsCounts before x) same.0 made

pub retold_index : (before : List Packet) (p q : Packet) → IsRetold p q → KeepsIndex before p → KeepsIndex before q
retold_index before p q same keeps = subst (λ (x : Packet). KeepsIndex before x) same.0 keeps

pub retold_counters : (before : List Packet) (p q : Packet) → IsRetold p q → KeepsCounters before p → KeepsCounters before q
retold_counters before p q same keeps = subst (λ (x : Packet). KeepsCounters before x) same.0 keeps

pub retold_events : (before : List Packet) (p q : Packet) → IsRetold p q → KeepsEvents before p → KeepsEvents before q
retold_events before p q same keeps = subst (λ (x : Packet). KeepsEvents before x) same.0 keeps
