-- The rules that a packet breaks, and those that its bytes break.
use Rattle.std.proofs.Common.{◌≡◌, ℕ, ◌≤◌, ◌⊎◌, inl, inr, Bool, true, IsTrue, List, [], ◌++◌, refl, sym, ap, subst, ◌∙◌, arith}
use Rattle.r10_body.specs.Faults.{ReadsPacket, BreaksRule, version, filler, body, start, channels, sequence, counts, index, unclosed, counters, events, reports}
use Rattle.r10_body.specs.Packets.{Packet}
use Rattle.r10_body.specs.Content.{Content, report}
use Rattle.r10_body.specs.Rules.{is_index}
use Rattle.r10_body.proofs.Injective.{one_packet}
use Rattle.r10_body.proofs.Retold.{IsRetold, retold_start, retold_channels, retold_sequence, retold_counts, retold_index, retold_counters, retold_events}
use Rattle.r10_file_rules.specs.Broken.{Breaks}
use Rattle.r10_file_rules.specs.Broken as broken_later
use Rattle.std.proofs.lemmas.Bool.{false≢true}

pub of_bytes : (before : List Packet) (bytes : List ℕ) (closed : Bool) (p : Packet) (n : ℕ) → ReadsPacket bytes p → Breaks before p n → BreaksRule before bytes closed n
of_bytes before bytes closed p n reads (broken_later.start not) = start p reads not
of_bytes before bytes closed p n reads (broken_later.channels not) = channels p reads not
of_bytes before bytes closed p n reads (broken_later.sequence not) = sequence p reads not
of_bytes before bytes closed p n reads (broken_later.counts not) = counts p reads not
of_bytes before bytes closed p n reads (broken_later.index not) = index p reads not
of_bytes before bytes closed p n reads (broken_later.counters not) = counters p reads not
of_bytes before bytes closed p n reads (broken_later.events not) = events p reads not
of_bytes before bytes closed p n reads (broken_later.reports not) = a_report p.content refl
  where
    a_report : (c : Content) → p.content ≡ c → BreaksRule before bytes closed 11
    a_report (report loss) e = reports p loss reads e (λ (sound, answered). not (rw e sound))
    a_report c e = absurd (not (rw e tt))

-- two packets that are read from the same bytes are one, but for the number that is reported of what was lost
pub retold : (bytes : List ℕ) (p q : Packet) → ReadsPacket bytes p → ReadsPacket bytes q → IsRetold p q
retold bytes p q rp rq = one_packet p q [] [] rp.0 rq.0 (ap (λ (b : List ℕ). b ++ []) (sym rp.2 ∙ rq.2))

still_index : (p q : Packet) → IsRetold p q → IsTrue (is_index q) → IsTrue (is_index p)
still_index p q same is = subst (λ (x : Packet). IsTrue (is_index x)) (sym same.0) is

pub of_packet : (before : List Packet) (bytes : List ℕ) (closed : Bool) (p : Packet) (n : ℕ) → ReadsPacket bytes p → (IsTrue (is_index p) → closed ≡ true) → 4 ≤ n → BreaksRule before bytes closed n → (n ≡ 11) ⊎ Breaks before p n
of_packet before bytes closed p n reads shuts high (version not) = absurd (omega (arith, high))
of_packet before bytes closed p n reads shuts high (filler opaque not) = absurd (omega (arith, high))
of_packet before bytes closed p n reads shuts high (body not) = absurd (omega (arith, high))
of_packet before bytes closed p n reads shuts high (start q rq not) = inr (broken_later.start (λ kept. not (retold_start before p q (retold bytes p q reads rq) kept)))
of_packet before bytes closed p n reads shuts high (channels q rq not) = inr (broken_later.channels (λ kept. not (retold_channels before p q (retold bytes p q reads rq) kept)))
of_packet before bytes closed p n reads shuts high (sequence q rq not) = inr (broken_later.sequence (λ kept. not (retold_sequence before p q (retold bytes p q reads rq) kept)))
of_packet before bytes closed p n reads shuts high (counts q rq not) = inr (broken_later.counts (λ kept. not (retold_counts before p q (retold bytes p q reads rq) kept)))
of_packet before bytes closed p n reads shuts high (index q rq not) = inr (broken_later.index (λ kept. not (retold_index before p q (retold bytes p q reads rq) kept)))
of_packet before bytes closed p n reads shuts high (unclosed q rq is shut) = absurd (false≢true (sym shut ∙ shuts (still_index p q (retold bytes p q reads rq) is)))
of_packet before bytes closed p n reads shuts high (counters q rq not) = inr (broken_later.counters (λ kept. not (retold_counters before p q (retold bytes p q reads rq) kept)))
of_packet before bytes closed p n reads shuts high (events q rq not) = inr (broken_later.events (λ kept. not (retold_events before p q (retold bytes p q reads rq) kept)))
of_packet before bytes closed p n reads shuts high (reports q loss rq is not) = inl refl
