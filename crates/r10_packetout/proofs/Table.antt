-- The table of sequence numbers.
use Rattle.std.proofs.Common.{◌≡◌, ℕ, zero, suc, ◌+◌, ◌%◌, ◌<◌, ◌≤◌, Bool, true, false, cond, ◌==◌, List, [], ◌∷◌, ◌++◌, length, get_or, set, refl, sym, ap, ◌∙◌, arith}
use Rattle.std.proofs.lemmas.Bool.{eqb-true, eqb-false}
use Rattle.r10_body.specs.Packets.{Packet}
use Rattle.r10_body.specs.Sequence.{next_sequence}
use Rattle.r10_body.proofs.ChannelLists.{sequence_same, sequence_other}
use Rattle.r10_packetout.specs.Numbers.{next_of, IsNumbered}
use Rattle.r10_packetout.specs.Places.{IsPlace}
use Rattle.r10_packetout.specs.declared.numbers.Number.{Number}

-- the first place that has the channel has its number
pub found_at : (channel : ℕ) (ss : List Number) (i : ℕ) (d : Number) → i < length ss → ((k : ℕ) → k < i → (get_or ss k d).channel == channel ≡ false)
    → (get_or ss i d).channel == channel ≡ true → (get_or ss i d).next ≡ next_of channel ss
found_at channel [] i d lt before here = absurd (omega arith)
found_at channel (s ∷ ss) zero d lt before here = rw here refl
found_at channel (s ∷ ss) (suc i) d lt before here =
    let first : s.channel == channel ≡ false = before 0 (omega arith) in
    let more : (get_or ss i d).next ≡ next_of channel ss = found_at channel ss i d (omega arith) (λ k h. before (suc k) (omega arith)) here in
    more ∙ (rw first refl)

-- no place has it
pub found_none : (channel : ℕ) (ss : List Number) (d : Number) → ((k : ℕ) → k < length ss → (get_or ss k d).channel == channel ≡ false) → next_of channel ss ≡ 0
found_none channel [] d before = refl
found_none channel (s ∷ ss) d before =
    let first : s.channel == channel ≡ false = before 0 (omega arith) in
    rw first (found_none channel ss d (λ k h. before (suc k) (omega arith)))

-- two tests on the head in either order
pub swapped : (a b : Bool) (x y z : ℕ) → (a ≡ true → b ≡ true → ⊥) → cond a x (cond b y z) ≡ cond b y (cond a x z)
swapped true true x y z apart = absurd (apart refl refl)
swapped true false x y z apart = refl
swapped false b x y z apart = refl

covered : (a b : Bool) (x y z : ℕ) → (b ≡ true → a ≡ true) → cond a x z ≡ cond a x (cond b y z)
covered true b x y z both = refl
covered false true x y z both = absurd (let e : false ≡ true = both refl in cc)
covered false false x y z both = refl

-- a number in the place of its channel's
pub set_at : (channel : ℕ) (ss : List Number) (i : ℕ) (s d : Number) → i < length ss → ((k : ℕ) → k < i → (get_or ss k d).channel == s.channel ≡ false)
    → (get_or ss i d).channel == s.channel ≡ true → next_of channel (set ss i s) ≡ cond (s.channel == channel) s.next (next_of channel ss)
set_at channel [] i s d lt before here = absurd (omega arith)
set_at channel (u ∷ ss) zero s d lt before here =
    let same : u.channel ≡ s.channel = eqb-true u.channel s.channel here in
    covered (s.channel == channel) (u.channel == channel) s.next u.next (next_of channel ss) (λ h. ap (λ (n : ℕ). n == channel) (sym same) ∙ h)
set_at channel (u ∷ ss) (suc i) s d lt before here =
    let first : u.channel == s.channel ≡ false = before 0 (omega arith) in
    let more : next_of channel (set ss i s) ≡ cond (s.channel == channel) s.next (next_of channel ss) = set_at channel ss i s d (omega arith) (λ k h. before (suc k) (omega arith)) here in
    ap (cond (u.channel == channel) u.next) more
    ∙ swapped (u.channel == channel) (s.channel == channel) u.next s.next (next_of channel ss) (λ f g. eqb-false u.channel s.channel first (eqb-true u.channel channel f ∙ sym (eqb-true s.channel channel g)))

-- a number of a new channel after the others
pub set_behind : (channel : ℕ) (ss : List Number) (s d : Number) → ((k : ℕ) → k < length ss → (get_or ss k d).channel == s.channel ≡ false)
    → next_of channel (ss ++ s ∷ []) ≡ cond (s.channel == channel) s.next (next_of channel ss)
set_behind channel [] s d before = refl
set_behind channel (u ∷ ss) s d before =
    let first : u.channel == s.channel ≡ false = before 0 (omega arith) in
    let more : next_of channel (ss ++ s ∷ []) ≡ cond (s.channel == channel) s.next (next_of channel ss) = set_behind channel ss s d (λ k h. before (suc k) (omega arith)) in
    ap (cond (u.channel == channel) u.next) more
    ∙ swapped (u.channel == channel) (s.channel == channel) u.next s.next (next_of channel ss) (λ f g. eqb-false u.channel s.channel first (eqb-true u.channel channel f ∙ sym (eqb-true s.channel channel g)))

-- ---- a packet more of a channel

-- a channel that is in the table counts one more
pub counted_at : (channel : ℕ) (ss : List Number) (i next : ℕ) (d : Number) → IsPlace channel ss i → i < length ss → next ≡ ((get_or ss i d).next + 1) % 256 → (other : ℕ)
    → next_of other (set ss i (record { channel = channel; next = next })) ≡ cond (channel == other) ((next_of channel ss + 1) % 256) (next_of other ss)
counted_at channel ss i next d at lt more other =
    set_at other ss i (record { channel = channel; next = next }) d lt (λ k h. at.before k d h) (at.here d lt)
    ∙ ap (λ n. cond (channel == other) n (next_of other ss)) (more ∙ ap (λ n. (n + 1) % 256) (found_at channel ss i d lt (λ k h. at.before k d h) (at.here d lt)))

-- another is put after them, with 1
pub counted_behind : (channel : ℕ) (ss : List Number) (i : ℕ) → IsPlace channel ss i → length ss ≤ i → (other : ℕ)
    → next_of other (ss ++ record { channel = channel; next = 1 } ∷ []) ≡ cond (channel == other) ((next_of channel ss + 1) % 256) (next_of other ss)
counted_behind channel ss i at ge other =
    let d : Number = record { channel = channel; next = 1 } in
    let before : (k : ℕ) → k < length ss → (get_or ss k d).channel == channel ≡ false = λ k h. at.before k d (omega (arith, h, ge)) in
    set_behind other ss d d before
    ∙ ap (λ n. cond (channel == other) ((n + 1) % 256) (next_of other ss)) (sym (found_none channel ss d before))

-- ---- the numbers after a packet more

numbered_at : (packets : List Packet) (p : Packet) (channel number next : ℕ) (b : Bool) → p.channel == channel ≡ b
    → number ≡ next_sequence p.channel packets → next ≡ next_sequence channel packets → cond b ((number + 1) % 256) next ≡ next_sequence channel (packets ++ p ∷ [])
numbered_at packets p channel number next true on taken kept =
    let here : next_sequence p.channel (packets ++ p ∷ []) ≡ (next_sequence p.channel packets + 1) % 256 = sequence_same packets p in
    ap (λ n. (n + 1) % 256) taken ∙ sym here ∙ ap (λ (c : ℕ). next_sequence c (packets ++ p ∷ [])) (eqb-true p.channel channel on)
numbered_at packets p channel number next false off taken kept = kept ∙ sym (sequence_other channel packets p off)

pub numbered_more : (packets : List Packet) (p : Packet) (old new : List Number) → IsNumbered packets old
    → ((other : ℕ) → next_of other new ≡ cond (p.channel == other) ((next_of p.channel old + 1) % 256) (next_of other old)) → IsNumbered (packets ++ p ∷ []) new
numbered_more packets p old new so next channel =
    next channel ∙ numbered_at packets p channel (next_of p.channel old) (next_of channel old) (p.channel == channel) refl (so p.channel) (so channel)
