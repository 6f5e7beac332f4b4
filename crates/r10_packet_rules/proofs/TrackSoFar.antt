-- What a track says of the bytes so far.
use Rattle.std.proofs.Common.{◌≡◌, ℕ, ◌+◌, ◌<◌, ◌≤◌, ◌⊎◌, inl, inr, true, false, cond, List, [], ◌∷◌, ◌++◌, length, take, drop, count_by, refl, sym, ap, ◌∙◌, subst, arith, append-nil, None}
use Rattle.std.proofs.lemmas.List.{length-append, take-append-drop, length-take-le}
use Rattle.std.proofs.lemmas.List.Folds.{concat-append}
use Rattle.std.proofs.lemmas.List.Sums.{sum_by-append, sum_by-cons}
use Rattle.std.specs.List.{AllByRecursion, concat}
use Rattle.r10_packet.specs.Framing.{framing_fault, header_at, body_at, has_data_checksum}
use Rattle.r10_packet.proofs.NoRuleBroken.{whole_of, lengths_of}
use Rattle.r10_body.specs.Foreign.{opaque_at, IsForeignBody, IsForeignPacket, IsForeignFile}
use Rattle.r10_body.specs.Faults.{HasFault, IsFaulty}
use Rattle.r10_body.specs.declared.fault.FileFault.{FileFault}
use Rattle.r10_packet_rules.specs.Tracks.{IsFirst, TracksForeign}
use Rattle.r10_packet_rules.specs.declared.file.ForeignTrack.{ForeignTrack}
use Rattle.r10_packet_rules.specs.declared.packet.ForeignPacket.{ForeignPacket}
use Rattle.r10_packet_rules.proofs.Fronts.{stays, is_foreign}
use Rattle.r10_packet_rules.proofs.OneWayApart.{packet_long}
use Rattle.r10_count.proofs.Lists.{all_more}

-- what is read without a fault
pub first_is : (bytes : List ℕ) (packet : ForeignPacket) → framing_fault bytes ≡ None → packet.length ≡ (header_at bytes).packet_len → packet.opaque ≡ opaque_at bytes
    → (opaque_at bytes ≡ false → (has_data_checksum bytes ≡ true) × IsForeignBody (header_at bytes).data_type (body_at bytes)) → IsFirst bytes packet
first_is bytes packet framed reported opaque judged =
    let whole = whole_of bytes framed in
    let lengths = lengths_of (header_at bytes) whole.sound.lengths in
    record {
      least = omega (arith, reported, lengths.least);
      inside = omega (arith, reported, whole.whole);
      reported = reported;
      foreign = subst (λ n. IsForeignPacket (take n bytes)) (sym reported) (is_foreign bytes framed judged);
      opaque = opaque;
    }

-- opaque or not, the packet is known by itself as where it stands
opaque_alone : (bytes : List ℕ) (packet : ForeignPacket) → IsFirst bytes packet → packet.opaque ≡ opaque_at (take packet.length bytes)
opaque_alone bytes packet is =
    let still = stays (take packet.length bytes) (drop packet.length bytes) is.foreign.framed in
    is.opaque ∙ sym (ap opaque_at (take-append-drop packet.length bytes)) ∙ still.opaque

pub stands_more : (old new : ForeignTrack) (before bytes : List ℕ) (packet : ForeignPacket) → IsFirst bytes packet
    → new.offset ≡ old.offset + packet.length → new.opaque ≡ old.opaque + cond packet.opaque 1 0 → TracksForeign old before → TracksForeign new (before ++ take packet.length bytes)
stands_more old new before bytes packet is offset opaque so_far =
    let first = take packet.length bytes in
    let size : length first ≡ packet.length = length-take-le packet.length bytes is.inside in
    let flag : List ℕ → ℕ = λ t. cond (opaque_at t) 1 0 in
    let alone : count_by opaque_at (first ∷ []) ≡ flag first = (let one : flag first + 0 ≡ flag first = omega arith in sum_by-cons flag first [] ∙ one) in
    let all : count_by opaque_at (so_far.packets ++ first ∷ []) ≡ count_by opaque_at so_far.packets + flag first = sum_by-append flag so_far.packets (first ∷ []) ∙ ap (λ n. count_by opaque_at so_far.packets + n) alone in
    record {
      packets = so_far.packets ++ first ∷ [];
      bytes_are = ap (λ t. t ++ first) so_far.bytes_are ∙ sym (concat-append so_far.packets (first ∷ []) ∙ ap (λ t. concat so_far.packets ++ t) (append-nil first));
      foreign = all_more IsForeignPacket so_far.packets first so_far.foreign is.foreign;
      offset = offset ∙ omega (arith, so_far.offset, size, length-append before first);
      opaque =
          opaque ∙ ap (λ n. n + cond packet.opaque 1 0) so_far.opaque ∙ ap (λ b. count_by opaque_at so_far.packets + cond b 1 0) (opaque_alone bytes packet is)
          ∙ sym all;
    }

no_packets : (packets : List (List ℕ)) → AllByRecursion IsForeignPacket packets → length (concat packets) ≡ 0 → length packets ≡ 0
no_packets [] all e = refl
no_packets (p ∷ ps) all e = absurd (omega (arith, e, packet_long p all.0, length-append p (concat ps)))

at_start : (track : ForeignTrack) (before rest : List ℕ) (so_far : TracksForeign track before) → (0 < length rest) ⊎ (track.offset ≡ 0) → (0 < length rest) ⊎ (length so_far.packets ≡ 0)
at_start track before rest so_far (inl some) = inl some
at_start track before rest so_far (inr none) = inr (no_packets so_far.packets so_far.foreign (omega (arith, none, so_far.offset, ap length so_far.bytes_are)))

pub stands_faulty : (track : ForeignTrack) (before rest : List ℕ) (offset : ℕ) (f : FileFault) → offset ≡ track.offset → HasFault rest f → TracksForeign track before
    → (0 < length rest) ⊎ (track.offset ≡ 0) → IsFaulty (before ++ rest) offset f
stands_faulty track before rest offset f is h so_far some = (
  so_far.packets,
  rest,
  ap (λ t. t ++ rest) so_far.bytes_are,
  is ∙ so_far.offset ∙ ap length so_far.bytes_are,
  so_far.foreign,
  at_start track before rest so_far some,
  h,
)

some_packets : (packets : List (List ℕ)) → 0 < length (concat packets) → 0 < length packets
some_packets [] some = some
some_packets (p ∷ ps) some = omega arith

pub stands_file : (track : ForeignTrack) (bytes : List ℕ) → (track.offset ≡ 0 → ⊥) → TracksForeign track bytes → IsForeignFile bytes track.opaque
stands_file track bytes some so_far =
    let long : length (concat so_far.packets) ≡ track.offset = sym (so_far.offset ∙ ap length so_far.bytes_are) in
    (so_far.packets, so_far.bytes_are, some_packets so_far.packets (omega (arith, some, long)), so_far.foreign, so_far.opaque)
