-- What a channel's packets come to, with one more.
use Rattle.std.proofs.Common.{◌≡◌, ℕ, ◌+◌, ◌-◌, ◌≤◌, ◌^◌, Bool, true, false, ◌==◌, List, [], ◌∷◌, ◌++◌, length, refl, sym, ap, subst, ◌∙◌, arith, length-append}
use Rattle.std.specs.Prelude.{cond, not, count_by, min, nat_eq, Option, Some, None}
use Rattle.std.specs.List.{sum_by}
use Rattle.std.specs.HashMap.{HashMap, get}
use Rattle.std.proofs.lemmas.Bool.{eqb-true, eq-eqb}
use Rattle.std.proofs.lemmas.List.{append-nil}
use Rattle.std.proofs.lemmas.List.Elements.{filter-append}
use Rattle.std.proofs.lemmas.List.Sums.{sum_by-append, sum_by-cons}
use Rattle.r10_count.specs.Bytes.{bit_of}
use Rattle.r10_packet.specs.Framing.{header_at}
use Rattle.r10_packet.specs.declared.header.Header.{Header}
use Rattle.r10_body.specs.Foreign.{opaque_at}
use Rattle.r10_survey.specs.Looks.{IsSeen}
use Rattle.r10_survey.specs.declared.look.SeenPacket.{SeenPacket}
use Rattle.r10_survey.specs.Counts.{counted, is_on, packets_on, is_other, is_wrong, has_loss, breaks, gaps_after, gaps_in, last_of, AreCountsFrom, AreCountsOf, IsCountOfChannel, AreCounts}
use Rattle.r10_survey.proofs.Entering.{entries_more}
use Rattle.r10_survey.specs.declared.channel.ChannelCount.{ChannelCount}

pub added : (new old n m d : ℕ) → new ≡ min (old + d) (2 ^ 64 - 1) → old ≡ counted n → m ≡ n + d → new ≡ counted m
added new old n m d e f g = omega (arith, e, f, g)

pub only : {T : Type 0} (test : T → Bool) (t : T) → count_by test (t ∷ []) ≡ cond (test t) 1 0
only {T} test t =
    let flag : T → ℕ = λ x. cond (test x) 1 0 in
    let zero : flag t + 0 ≡ flag t = omega arith in
    sum_by-cons flag t [] ∙ zero

pub one_more : {T : Type 0} (test : T → Bool) (ts : List T) (t : T) → count_by test (ts ++ t ∷ []) ≡ count_by test ts + cond (test t) 1 0
one_more {T} test ts t =
    let flag : T → ℕ = λ x. cond (test x) 1 0 in
    let alone : sum_by flag (t ∷ []) ≡ flag t = only test t in
    sum_by-append flag ts (t ∷ []) ∙ ap (λ n. sum_by flag ts + n) alone

pub lone : (p : List ℕ) → sum_by length (p ∷ []) ≡ length p
lone p =
    let zero : length p + 0 ≡ length p = omega arith in
    sum_by-cons length p [] ∙ zero

pub longer : (ps : List (List ℕ)) (p : List ℕ) → sum_by length (ps ++ p ∷ []) ≡ sum_by length ps + length p
longer ps p = sum_by-append length ps (p ∷ []) ∙ ap (λ n. sum_by length ps + n) (lone p)

pub last_more : (q p : List ℕ) (more : List (List ℕ)) → last_of q (more ++ p ∷ []) ≡ p
last_more q p [] = refl
last_more q p (r ∷ more) = last_more r p more

pub gaps_more : (q p : List ℕ) (more : List (List ℕ)) → gaps_after (header_at q).sequence (more ++ p ∷ [])
    ≡ gaps_after (header_at q).sequence more + cond (breaks (header_at (last_of q more)).sequence (header_at p).sequence) 1 0
gaps_more q p [] = omega arith
gaps_more q p (r ∷ more) = omega (arith, gaps_more r p more)

-- ---- one channel

bit_small : (b : Bool) → cond b 1 0 ≤ 1
bit_small true = omega arith
bit_small false = omega arith

pub first_bit : (test : List ℕ → Bool) (p : List ℕ) (b : Bool) (n : ℕ) → n ≡ cond b 1 0 → b ≡ test p → n ≡ counted (count_by test (p ∷ []))
first_bit test p b n e f =
    let whole : count_by test (p ∷ []) ≡ cond b 1 0 = only test p ∙ ap (λ (t : Bool). cond t 1 0) (sym f) in
    omega (arith, e, whole, bit_small b)

pub more_bit : (test : List ℕ → Bool) (ps : List (List ℕ)) (p : List ℕ) (b : Bool) (new old n : ℕ) → new ≡ min (old + n) (2 ^ 64 - 1) → n ≡ cond b 1 0 → b ≡ test p
    → old ≡ counted (count_by test ps) → new ≡ counted (count_by test (ps ++ p ∷ []))
more_bit test ps p b new old n sum e f so_far =
    let whole : count_by test (ps ++ p ∷ []) ≡ count_by test ps + n = one_more test ps p ∙ ap (λ (t : Bool). count_by test ps + cond t 1 0) (sym f) ∙ ap (λ m. count_by test ps + m) (sym e) in
    added new old (count_by test ps) (count_by test (ps ++ p ∷ [])) n sum so_far whole

-- a channel with a packet more, field by field
pub record IsMore (c new : ChannelCount) (s : SeenPacket) : Type 0 where
  pub data_type : new.data_type ≡ c.data_type
  pub others : ℕ
  pub others_is : others ≡ cond (not (s.header.data_type == c.data_type)) 1 0
  pub other_types : new.other_types ≡ min (c.other_types + others) (2 ^ 64 - 1)
  pub packets : new.packets ≡ min (c.packets + 1) (2 ^ 64 - 1)
  pub bytes : new.bytes ≡ min (c.bytes + s.length) (2 ^ 64 - 1)
  pub entries : new.entries ≡ min (c.entries + s.entries) (2 ^ 64 - 1)
  pub opaques : ℕ
  pub opaques_is : opaques ≡ cond s.opaque 1 0
  pub opaque : new.opaque ≡ min (c.opaque + opaques) (2 ^ 64 - 1)
  pub wrongs : ℕ
  pub wrongs_is : wrongs ≡ cond (not s.right) 1 0
  pub wrong_sums : new.wrong_sums ≡ min (c.wrong_sums + wrongs) (2 ^ 64 - 1)
  pub lost : ℕ
  pub lost_is : lost ≡ cond (bit_of 4 s.header.flags) 1 0
  pub losses : new.losses ≡ min (c.losses + lost) (2 ^ 64 - 1)
  pub broken : ℕ
  pub broken_is : broken ≡ cond (breaks c.sequence s.header.sequence) 1 0
  pub gaps : new.gaps ≡ min (c.gaps + broken) (2 ^ 64 - 1)
  pub sequence : new.sequence ≡ s.header.sequence
  pub first : new.first ≡ c.first
  pub last : new.last ≡ s.header.counter

with_first : (q p : List ℕ) (more : List (List ℕ)) (c new : ChannelCount) (s : SeenPacket) → AreCountsFrom q more c → IsSeen s p → IsMore c new s → AreCountsFrom q (more ++ p ∷ []) new
with_first q p more c new s so_far seen is =
    let header = seen.header in
    let size : length (q ∷ more ++ p ∷ []) ≡ length (q ∷ more) + 1 = omega (arith, length-append (q ∷ more) (p ∷ [])) in
    let bytes : sum_by length (q ∷ more ++ p ∷ []) ≡ sum_by length (q ∷ more) + s.length = longer (q ∷ more) p ∙ ap (λ n. sum_by length (q ∷ more) + n) (sym seen.size) in
    let other : not (s.header.data_type == c.data_type) ≡ is_other (header_at q).data_type p =
    ap (λ (h : Header). not (h.data_type == c.data_type)) header ∙ ap (λ n. not ((header_at p).data_type == n)) so_far.data_type in
    let gap : breaks c.sequence s.header.sequence ≡ breaks (header_at (last_of q more)).sequence (header_at p).sequence =
    ap (λ (h : Header). breaks c.sequence h.sequence) header ∙ ap (λ n. breaks n (header_at p).sequence) so_far.sequence in
    let gaps : gaps_in (q ∷ more ++ p ∷ []) ≡ gaps_in (q ∷ more) + is.broken =
    gaps_more q p more ∙ ap (λ (b : Bool). gaps_in (q ∷ more) + cond b 1 0) (sym gap) ∙ ap (λ n. gaps_in (q ∷ more) + n) (sym is.broken_is) in
    let end : header_at p ≡ header_at (last_of q (more ++ p ∷ [])) = ap header_at (sym (last_more q p more)) in
    record {
      data_type = is.data_type ∙ so_far.data_type;
      other_types = more_bit (is_other (header_at q).data_type) (q ∷ more) p _ new.other_types c.other_types is.others is.other_types is.others_is other so_far.other_types;
      packets = added new.packets c.packets (length (q ∷ more)) (length (q ∷ more ++ p ∷ [])) 1 is.packets so_far.packets size;
      bytes = added new.bytes c.bytes (sum_by length (q ∷ more)) (sum_by length (q ∷ more ++ p ∷ [])) s.length is.bytes so_far.bytes bytes;
      entries = so_far.entries ++ seen.entries;
      entries_are = entries_more (q ∷ more) p so_far.entries seen.entries so_far.entries_are seen.entries_are;
      entry_number = added new.entries c.entries (length so_far.entries) (length (so_far.entries ++ seen.entries)) s.entries is.entries so_far.entry_number (omega (arith, length-append so_far.entries seen.entries, seen.entry_number));
      opaque = more_bit opaque_at (q ∷ more) p s.opaque new.opaque c.opaque is.opaques is.opaque is.opaques_is seen.opaque so_far.opaque;
      wrong_sums = more_bit is_wrong (q ∷ more) p (not s.right) new.wrong_sums c.wrong_sums is.wrongs is.wrong_sums is.wrongs_is (ap not seen.right) so_far.wrong_sums;
      losses = more_bit has_loss (q ∷ more) p (bit_of 4 s.header.flags) new.losses c.losses is.lost is.losses is.lost_is (ap (λ (h : Header). bit_of 4 h.flags) header) so_far.losses;
      gaps = added new.gaps c.gaps (gaps_in (q ∷ more)) (gaps_in (q ∷ more ++ p ∷ [])) is.broken is.gaps so_far.gaps gaps;
      sequence = is.sequence ∙ ap (λ (h : Header). h.sequence) header ∙ ap (λ (h : Header). h.sequence) end;
      first = is.first ∙ so_far.first;
      last = is.last ∙ ap (λ (h : Header). h.counter) header ∙ ap (λ (h : Header). h.counter) end;
    }

pub with_more : (own : List (List ℕ)) (p : List ℕ) (c new : ChannelCount) (s : SeenPacket) → AreCountsOf own c → IsSeen s p → IsMore c new s → AreCountsOf (own ++ p ∷ []) new
with_more [] p c new s so_far seen is = absurd so_far
with_more (q ∷ more) p c new s so_far seen is = with_first q p more c new s so_far seen is

-- ---- all channels

on_same : (channel : ℕ) (packets : List (List ℕ)) (p : List ℕ) → is_on channel p ≡ true → packets_on channel (packets ++ p ∷ []) ≡ packets_on channel packets ++ p ∷ []
on_same channel packets p is =
    let one : packets_on channel (p ∷ []) ≡ p ∷ [] = rw is refl in
    filter-append (is_on channel) packets (p ∷ []) ∙ ap (λ t. packets_on channel packets ++ t) one

on_other : (channel : ℕ) (packets : List (List ℕ)) (p : List ℕ) → is_on channel p ≡ false → packets_on channel (packets ++ p ∷ []) ≡ packets_on channel packets
on_other channel packets p is =
    let none : packets_on channel (p ∷ []) ≡ [] = rw is refl in
    filter-append (is_on channel) packets (p ∷ []) ∙ ap (λ t. packets_on channel packets ++ t) none ∙ append-nil (packets_on channel packets)

pub count_more : (channel : ℕ) (packets : List (List ℕ)) (p : List ℕ) (c : ChannelCount) → channel ≡ (header_at p).channel → AreCountsOf (packets_on channel packets ++ p ∷ []) c
    → AreCountsOf (packets_on channel (packets ++ p ∷ [])) c
count_more channel packets p c is counts = subst (λ (own : List (List ℕ)). AreCountsOf own c) (sym (on_same channel packets p (eq-eqb (header_at p).channel channel (sym is)))) counts

count_at : (channel here : ℕ) (packets : List (List ℕ)) (p : List ℕ) (c : ChannelCount) (b : Bool) (o : Option ChannelCount) → nat_eq here channel ≡ b → here ≡ (header_at p).channel
    → IsCountOfChannel packets channel o → IsCountOfChannel (packets ++ p ∷ []) here (Some c) → IsCountOfChannel (packets ++ p ∷ []) channel (cond b (Some c) o)
count_at channel here packets p c true o e is old new = subst (λ n. IsCountOfChannel (packets ++ p ∷ []) n (Some c)) (eqb-true here channel e) new
count_at channel here packets p c false None e is old new = on_other channel packets p (subst (λ n. n == channel ≡ false) is e) ∙ old
count_at channel here packets p c false (Some d) e is old new = subst (λ (own : List (List ℕ)). AreCountsOf own d) (sym (on_other channel packets p (subst (λ n. n == channel ≡ false) is e))) old

pub are_counts : {S : Type 0} (here : ℕ) (packets : List (List ℕ)) (p : List ℕ) (c : ChannelCount) (old new : HashMap ℕ ChannelCount S)
    → ((channel : ℕ) → get nat_eq new channel ≡ cond (nat_eq here channel) (Some c) (get nat_eq old channel)) → here ≡ (header_at p).channel
    → AreCounts old packets → IsCountOfChannel (packets ++ p ∷ []) here (Some c) → AreCounts new (packets ++ p ∷ [])
are_counts here packets p c old new puts is counts new_is =
    λ channel. subst (λ (o : Option ChannelCount). IsCountOfChannel (packets ++ p ∷ []) channel o) (sym (puts channel)) (count_at channel here packets p c (nat_eq here channel) (get nat_eq old channel) refl is (counts channel) new_is)

-- the first packet has the type of the first
pub first_same : (type : ℕ) (p : List ℕ) → (header_at p).data_type ≡ type → 0 ≡ counted (count_by (is_other type) (p ∷ []))
first_same type p e = first_bit (is_other type) p false 0 refl (sym (ap not (eq-eqb (header_at p).data_type type e)))
