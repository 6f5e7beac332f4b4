-- The least rule that is broken, and all of what is kept.
use Rattle.std.proofs.Common.{◌≡◌, ℕ, ◌+◌, ◌≤◌, Bool, false, IsTrue, List, [], ◌∷◌, refl, sym, ◌∙◌, arith}
use Rattle.std.specs.Prelude.{◌↔◌, count_by}
use Rattle.r10_body.specs.Packets.{Packet}
use Rattle.r10_body.specs.Rules.{KeepsStart, KeepsChannels, KeepsSequence, KeepsCounts, KeepsIndex, KeepsCounters, KeepsEvents, is_index, is_node, is_root}
use Rattle.r10_body.proofs.Indexes.{Part, datum, node_here, root_here, part_of, counted_first, counted_yes, counted_no}
use Rattle.r10_file_rules.specs.Broken.{Breaks, start, channels, sequence, counts, index, counters, events, reports}
use Rattle.std.proofs.lemmas.Bool.{false≢true}

pub not_kept : (A : Type 0) (b : Bool) → b ≡ false → IsTrue b ↔ A → A → ⊥
not_kept A b is decides kept = false≢true (sym is ∙ decides.1 kept)

pub least_4 : (before : List Packet) (p : Packet) (m : ℕ) → Breaks before p m → 4 ≤ m
least_4 before p m (start broken) = omega arith
least_4 before p m (channels broken) = omega arith
least_4 before p m (sequence broken) = omega arith
least_4 before p m (counts broken) = omega arith
least_4 before p m (index broken) = omega arith
least_4 before p m (counters broken) = omega arith
least_4 before p m (events broken) = omega arith
least_4 before p m (reports broken) = omega arith

pub least_5 : (before : List Packet) (p : Packet) (m : ℕ) → KeepsStart before p → Breaks before p m → 5 ≤ m
least_5 before p m k4 (start broken) = absurd (broken k4)
least_5 before p m k4 (channels broken) = omega arith
least_5 before p m k4 (sequence broken) = omega arith
least_5 before p m k4 (counts broken) = omega arith
least_5 before p m k4 (index broken) = omega arith
least_5 before p m k4 (counters broken) = omega arith
least_5 before p m k4 (events broken) = omega arith
least_5 before p m k4 (reports broken) = omega arith

pub least_6 : (before : List Packet) (p : Packet) (m : ℕ) → KeepsStart before p → KeepsChannels before p → Breaks before p m → 6 ≤ m
least_6 before p m k4 k5 (start broken) = absurd (broken k4)
least_6 before p m k4 k5 (channels broken) = absurd (broken k5)
least_6 before p m k4 k5 (sequence broken) = omega arith
least_6 before p m k4 k5 (counts broken) = omega arith
least_6 before p m k4 k5 (index broken) = omega arith
least_6 before p m k4 k5 (counters broken) = omega arith
least_6 before p m k4 k5 (events broken) = omega arith
least_6 before p m k4 k5 (reports broken) = omega arith

pub least_7 : (before : List Packet) (p : Packet) (m : ℕ) → KeepsStart before p → KeepsChannels before p → KeepsSequence before p → Breaks before p m → 7 ≤ m
least_7 before p m k4 k5 k6 (start broken) = absurd (broken k4)
least_7 before p m k4 k5 k6 (channels broken) = absurd (broken k5)
least_7 before p m k4 k5 k6 (sequence broken) = absurd (broken k6)
least_7 before p m k4 k5 k6 (counts broken) = omega arith
least_7 before p m k4 k5 k6 (index broken) = omega arith
least_7 before p m k4 k5 k6 (counters broken) = omega arith
least_7 before p m k4 k5 k6 (events broken) = omega arith
least_7 before p m k4 k5 k6 (reports broken) = omega arith

pub least_8 : (before : List Packet) (p : Packet) (m : ℕ) → KeepsStart before p → KeepsChannels before p → KeepsSequence before p → KeepsCounts before p → Breaks before p m → 8 ≤ m
least_8 before p m k4 k5 k6 k7 (start broken) = absurd (broken k4)
least_8 before p m k4 k5 k6 k7 (channels broken) = absurd (broken k5)
least_8 before p m k4 k5 k6 k7 (sequence broken) = absurd (broken k6)
least_8 before p m k4 k5 k6 k7 (counts broken) = absurd (broken k7)
least_8 before p m k4 k5 k6 k7 (index broken) = omega arith
least_8 before p m k4 k5 k6 k7 (counters broken) = omega arith
least_8 before p m k4 k5 k6 k7 (events broken) = omega arith
least_8 before p m k4 k5 k6 k7 (reports broken) = omega arith

pub least_9 : (before : List Packet) (p : Packet) (m : ℕ) → KeepsStart before p → KeepsChannels before p → KeepsSequence before p → KeepsCounts before p → KeepsIndex before p → Breaks before p m → 9 ≤ m
least_9 before p m k4 k5 k6 k7 k8 (start broken) = absurd (broken k4)
least_9 before p m k4 k5 k6 k7 k8 (channels broken) = absurd (broken k5)
least_9 before p m k4 k5 k6 k7 k8 (sequence broken) = absurd (broken k6)
least_9 before p m k4 k5 k6 k7 k8 (counts broken) = absurd (broken k7)
least_9 before p m k4 k5 k6 k7 k8 (index broken) = absurd (broken k8)
least_9 before p m k4 k5 k6 k7 k8 (counters broken) = omega arith
least_9 before p m k4 k5 k6 k7 k8 (events broken) = omega arith
least_9 before p m k4 k5 k6 k7 k8 (reports broken) = omega arith

pub least_10 : (before : List Packet) (p : Packet) (m : ℕ) → KeepsStart before p → KeepsChannels before p → KeepsSequence before p → KeepsCounts before p → KeepsIndex before p → KeepsCounters before p → Breaks before p m → 10 ≤ m
least_10 before p m k4 k5 k6 k7 k8 k9 (start broken) = absurd (broken k4)
least_10 before p m k4 k5 k6 k7 k8 k9 (channels broken) = absurd (broken k5)
least_10 before p m k4 k5 k6 k7 k8 k9 (sequence broken) = absurd (broken k6)
least_10 before p m k4 k5 k6 k7 k8 k9 (counts broken) = absurd (broken k7)
least_10 before p m k4 k5 k6 k7 k8 k9 (index broken) = absurd (broken k8)
least_10 before p m k4 k5 k6 k7 k8 k9 (counters broken) = absurd (broken k9)
least_10 before p m k4 k5 k6 k7 k8 k9 (events broken) = omega arith
least_10 before p m k4 k5 k6 k7 k8 k9 (reports broken) = omega arith

pub least_11 : (before : List Packet) (p : Packet) (m : ℕ) → KeepsStart before p → KeepsChannels before p → KeepsSequence before p → KeepsCounts before p → KeepsIndex before p → KeepsCounters before p → KeepsEvents before p → Breaks before p m → 11 ≤ m
least_11 before p m k4 k5 k6 k7 k8 k9 k10 (start broken) = absurd (broken k4)
least_11 before p m k4 k5 k6 k7 k8 k9 k10 (channels broken) = absurd (broken k5)
least_11 before p m k4 k5 k6 k7 k8 k9 k10 (sequence broken) = absurd (broken k6)
least_11 before p m k4 k5 k6 k7 k8 k9 k10 (counts broken) = absurd (broken k7)
least_11 before p m k4 k5 k6 k7 k8 k9 k10 (index broken) = absurd (broken k8)
least_11 before p m k4 k5 k6 k7 k8 k9 k10 (counters broken) = absurd (broken k9)
least_11 before p m k4 k5 k6 k7 k8 k9 k10 (events broken) = absurd (broken k10)
least_11 before p m k4 k5 k6 k7 k8 k9 k10 (reports broken) = omega arith

-- index packets are nodes and roots
index_at : (p : Packet) (ps : List Packet) → Part p → count_by is_index ps ≡ count_by is_node ps + count_by is_root ps → count_by is_index (p ∷ ps) ≡ count_by is_node (p ∷ ps) + count_by is_root (p ∷ ps)
index_at p ps (datum i n r len) rest =
    omega (arith, rest, counted_first is_index p ps, counted_first is_node p ps, counted_first is_root p ps, counted_no is_index p i, counted_no is_node p n, counted_no is_root p r)
index_at p ps (node_here es e i n r len) rest =
    omega (arith, rest, counted_first is_index p ps, counted_first is_node p ps, counted_first is_root p ps, counted_yes is_index p i, counted_yes is_node p n, counted_no is_root p r)
index_at p ps (root_here es e i n r len) rest =
    omega (arith, rest, counted_first is_index p ps, counted_first is_node p ps, counted_first is_root p ps, counted_yes is_index p i, counted_no is_node p n, counted_yes is_root p r)

pub index_packets : (ps : List Packet) → count_by is_index ps ≡ count_by is_node ps + count_by is_root ps
index_packets [] = refl
index_packets (p ∷ ps) = index_at p ps (part_of p) (index_packets ps)
