-- What one item sent or received makes of the two ends.
use Rattle.std.proofs.Common.{◌≡◌, ℕ, ◌+◌, ◌≤◌, List, [], ◌∷◌, ◌++◌, Option, Some, None, Ok, Err, slice_get, refl, sym, ap, arith, ◌∙◌}
use Rattle.r10_count.specs.Checks.{first_broken}
use Rattle.r10_body.specs.Gaps.{gap_after}
use Rattle.r10_body.specs.declared.entry.Sample.{Sample}
use Rattle.r10_body.specs.declared.gap.Gap.{Gap}
use Rattle.r10_body.specs.declared.message.Message.{Message}
use Rattle.r10_body.specs.declared.refusal.Refusal.TheVariants.{Overflow}
use Rattle.r10_body.specs.declared.spec.ChannelSpec.{ChannelSpec}
use Rattle.r10_machine.specs.Checks.{taking_checks}
use Rattle.r10_machine.specs.Machine.{saturated}
use Rattle.r10_machine.specs.SoundParts.{count_or_0}
use Rattle.r10_port.specs.declared.item.Item.{Item}
use Rattle.r10_port.specs.declared.item.Item.TheVariants.{Announce, Entry}
use Rattle.r10_port.specs.Items.{samples, last_count_or, ItemMayFollow}
use Rattle.r10_port.specs.Ends.{Ring, Sending, Receiving, Offered, TookReceived}
use Rattle.r10_port.proofs.Items.{samples_joined, last_pushed, joins, has_room, has_sound_gap}

-- ---- the sending end

abbrev pub sending : Ring → ChannelSpec → List Item → Option ℕ → ℕ → ℕ → ℕ → Sending
sending ring spec items last missed lost free = record {
  ring = ring;
  lane = record { spec = spec; waiting = samples items; last = last; missed = missed; lost = lost; erased = 0 };
  free = free;
}

abbrev pub sample : ℕ → Message → Gap → Sample
sample count message gap = record { count = count; message = message; gap = gap }

pub sends : (ring ring2 : Ring) (spec : ChannelSpec) (items items2 : List Item) (last : Option ℕ) (missed lost free free2 count : ℕ) (message : Message) (gap : Gap)
    → gap ≡ gap_after missed → ring2 ≡ ring → items2 ≡ items ++ Entry (sample count message gap) ∷ [] → free ≤ free2 + 1 → first_broken (taking_checks spec last count message) ≡ None
    → Offered (sending ring spec items last missed lost free) count message (Ok tt) (sending ring2 spec items2 (Some count) 0 lost free2)
sends ring ring2 spec items items2 last missed lost free free2 count message gap reported same grown room fine =
    let samples2 = ap samples grown ∙ samples_joined items (Entry (sample count message gap) ∷ []) ∙ ap (λ (g : Gap). samples items ++ sample count message g ∷ []) reported in
    rw fine (λ i. record { ring = same i; lane = record { spec = spec; waiting = samples2 i; last = Some count; missed = 0; lost = lost; erased = 0 }; free = free2 }, room)

pub loses : (ring ring2 : Ring) (spec : ChannelSpec) (items items2 : List Item) (last : Option ℕ) (missed missed2 lost lost2 free free2 count : ℕ) (message : Message)
    → ring2 ≡ ring → items2 ≡ items → free ≡ 0 → free2 ≡ 0 → missed2 ≡ saturated (missed + 1) → lost2 ≡ saturated (lost + 1) → first_broken (taking_checks spec last count message) ≡ None
    → Offered (sending ring spec items last missed lost free) count message (Err Overflow) (sending ring2 spec items2 last missed2 lost2 free2)
loses ring ring2 spec items items2 last missed missed2 lost lost2 free free2 count message same stays full full2 more all fine =
    rw fine (refl, full, λ i. sending (same i) spec (stays i) last (more i) (all i) ((full2 ∙ sym full) i))

-- ---- the receiving end

abbrev pub receiving : Ring → ChannelSpec → List Item → List Item → Receiving
receiving ring spec items ahead = record { ring = ring; spec = spec; received = samples items; ahead = ahead }

-- the count that is reached by a sample
pub reaches : (items items2 : List Item) (x : Sample) → items2 ≡ items ++ Entry x ∷ [] → count_or_0 (last_count_or None (samples items2)) ≡ x.count
reaches items items2 x grown = ap (λ (l : List Item). count_or_0 (last_count_or None (samples l))) grown ∙ ap count_or_0 (last_pushed items x)

pub takes : (ring ring2 : Ring) (spec : ChannelSpec) (items items2 ahead ahead2 : List Item) (x : Sample)
    → ring2 ≡ ring → items2 ≡ items ++ Entry x ∷ [] → slice_get items 0 ≡ Some (Announce spec) → ItemMayFollow items (Entry x)
    → TookReceived (receiving ring spec items ahead) (x ∷ []) (receiving ring2 spec items2 ahead2)
takes ring ring2 spec items items2 ahead ahead2 x same grown first may =
    let (passes, climbs, count) = joins items spec x first may in
    record {
      same = (same, refl);
      received = ap samples grown ∙ samples_joined items (Entry x ∷ []);
      gives = record { passes = (passes, tt); gaps = (has_sound_gap items spec x first may, tt); counts = (count, tt); climbs = (climbs, omega (arith, reaches items items2 x grown)) };
      rises = omega (arith, climbs, reaches items items2 x grown);
      room = λ none. absurd (omega (arith, none, has_room items spec x first may));
    }
