-- Items of a ring, one longer.
use Rattle.std.proofs.Common.{◌≡◌, ℕ, zero, suc, ◌+◌, ◌≤◌, ◌<◌, List, [], ◌∷◌, ◌++◌, length, drop, max, Option, Some, None, slice_get, refl, sym, ap, subst, arith, length-append, length-drop, ◌∙◌}
use Rattle.std.proofs.Math.Seq.{drop-append_seam}
use Rattle.std.proofs.lemmas.Bool.{ltb-true}
use Rattle.r10_count.specs.Count.{IsCount}
use Rattle.r10_body.specs.Gaps.{IsSoundGap}
use Rattle.r10_body.specs.Messages.{channel_refusal}
use Rattle.r10_body.specs.declared.entry.Sample.{Sample}
use Rattle.r10_body.specs.declared.refusal.Refusal.TheVariants.{CountBack, CountRange}
use Rattle.r10_body.specs.declared.spec.ChannelSpec.{ChannelSpec}
use Rattle.r10_machine.specs.Checks.{count_checks, in_48_bits, is_not_before, message_checks}
use Rattle.r10_machine.specs.SoundParts.{count_or_0}
use Rattle.r10_lane.proofs.Waiting.{passed}
use Rattle.r10_port.specs.declared.item.Item.{Item}
use Rattle.r10_port.specs.declared.item.Item.TheVariants.{Announce, Entry}
use Rattle.r10_port.specs.Items.{samples, last_count_or, MayJoin, ItemMayFollow}
use Rattle.r10_count.proofs.Rules.{none_broken, rules_parts}

pub samples_joined : (xs ys : List Item) → samples (xs ++ ys) ≡ samples xs ++ samples ys
samples_joined [] ys = refl
samples_joined (Announce spec ∷ xs) ys = samples_joined xs ys
samples_joined (Entry x ∷ xs) ys = ap (λ (l : List Sample). x ∷ l) (samples_joined xs ys)

pub one_more : (items : List Item) (x : Sample) → length (samples (items ++ Entry x ∷ [])) ≡ length (samples items) + 1
one_more items x = ap length (samples_joined items (Entry x ∷ [])) ∙ omega (arith, length-append (samples items) (x ∷ []))

pub last_joined : (last : Option ℕ) (xs : List Sample) (x : Sample) → last_count_or last (xs ++ x ∷ []) ≡ Some x.count
last_joined last [] x = refl
last_joined last (y ∷ xs) x = last_joined (Some y.count) xs x

pub last_pushed : (items : List Item) (x : Sample) → last_count_or None (samples (items ++ Entry x ∷ [])) ≡ Some x.count
last_pushed items x = ap (last_count_or None) (samples_joined items (Entry x ∷ [])) ∙ last_joined None (samples items) x

pub first_stays : (xs ys : List Item) (first : Item) → slice_get xs 0 ≡ Some first → slice_get (xs ++ ys) 0 ≡ Some first
first_stays [] ys first is = absurd (cc)
first_stays (x ∷ xs) ys first is = is

-- what may follow an announcement is a sample that the channel takes, its count of 48 bits and not below the last one
pub joins : (items : List Item) (spec : ChannelSpec) (x : Sample) → slice_get items 0 ≡ Some (Announce spec) → ItemMayFollow items (Entry x)
    → (channel_refusal spec x.message ≡ None) × (count_or_0 (last_count_or None (samples items)) ≤ x.count) × IsCount x.count
joins items spec x first may = passed spec (last_count_or None (samples items)) x.count x.message (subst (λ (o : Option Item). MayJoin o (samples items) (Entry x)) first may).1

-- and its gap tells no loss of none
pub has_sound_gap : (items : List Item) (spec : ChannelSpec) (x : Sample) → slice_get items 0 ≡ Some (Announce spec) → ItemMayFollow items (Entry x) → IsSoundGap x.gap
has_sound_gap items spec x first may = (subst (λ (o : Option Item). MayJoin o (samples items) (Entry x)) first may).2

pub has_room : (items : List Item) (spec : ChannelSpec) (x : Sample) → slice_get items 0 ≡ Some (Announce spec) → ItemMayFollow items (Entry x) → 0 < spec.capacity
has_room items spec x first may = (subst (λ (o : Option Item). MayJoin o (samples items) (Entry x)) first may).0

-- and the count that it makes the last is one of 48 bits
pub bounded : (items : List Item) (spec : ChannelSpec) (x : Sample) → slice_get items 0 ≡ Some (Announce spec) → ItemMayFollow items (Entry x) → IsCount (count_or_0 (last_count_or None (samples (items ++ Entry x ∷ []))))
bounded items spec x first may =
    let fine = (subst (λ (o : Option Item). MayJoin o (samples items) (Entry x)) first may).1 in
    let parts = rules_parts (message_checks spec x.message) (count_checks (last_count_or None (samples items)) x.count) fine in
    let range = none_broken (in_48_bits x.count).0 CountRange ((is_not_before (last_count_or None (samples items)) x.count, CountBack) ∷ []) parts.1 in
    subst IsCount (sym (ap count_or_0 (last_pushed items x))) (ltb-true x.count 281474976710656 range.0)

-- ---- both ends

-- what is left between what was received and what was sent, as samples and as the items that are known
pub record IsLeft (got sent : List Sample) (rest : List Item) : Type 0 where
  pub all : sent ≡ got ++ drop (length got) sent
  pub known : samples rest ≡ drop (length got) sent
  pub count : length rest ≡ length (drop (length got) sent)

-- of items that went in, all after the first of which are samples, those after the ones that came out
pub left_behind : (out out2 rest items items2 : List Item) → out2 ≡ out → items2 ≡ items → out2 ++ rest ≡ items2 → length items ≡ length (samples items) + 1 → length out ≡ length (samples out) + 1
    → IsLeft (samples out) (samples items) rest
left_behind out out2 rest items items2 received sent fifo entries ends =
    let joined : out ++ rest ≡ items = ap (λ (l : List Item). l ++ rest) (sym received) ∙ fifo ∙ sent in
    let parts : samples items ≡ samples out ++ samples rest = ap samples (sym joined) ∙ samples_joined out rest in
    let known : samples rest ≡ drop (length (samples out)) (samples items) = sym (ap (drop (length (samples out))) parts ∙ drop-append_seam (samples out) (samples rest)) in
    record {
      all = parts ∙ ap (λ (l : List Sample). samples out ++ l) known;
      known = known;
      count = omega (arith, ap length joined, length-append out rest, ap length parts, length-append (samples out) (samples rest), ap length known, entries, ends);
    }

-- no more are left than the ring has places, and none on a channel without room
pub few_left : (got sent : List Sample) (rest : List Item) (capacity places : ℕ) → IsLeft got sent rest → length rest ≤ places → places ≡ max capacity 1 → (capacity ≡ 0 → sent ≡ [])
    → length (drop (length got) sent) ≤ capacity
few_left got sent rest zero places left within is none = omega (arith, length-drop (length got) sent, ap length (none refl))
few_left got sent rest (suc n) places left within is none = omega (arith, left.count, within, is)
