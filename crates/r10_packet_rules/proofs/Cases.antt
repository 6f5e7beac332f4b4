-- The first recording, and what another recorder's packet after it makes of it.
use Rattle.std.specs.Prelude.{ℕ, ◌≤◌, true, [], ◌∷◌, ◌++◌, take, refl}
use Rattle.std.proofs.Common.{lit<, lit≤, arith, inl}
use Rattle.r10_body.proofs.Recording.{closed-says}
use Rattle.r10_body.specs.Faults.{IsFaulty}
use Rattle.r10_body.specs.Foreign.{IsForeignFile}
use Rattle.r10_packet.specs.Header.{header_bytes}
use Rattle.r10_body.specs.Packets.{packet_bytes, file_bytes}
use Rattle.r10_body.specs.Vectors.{a_recording, recorded, other, other-is, other-cut}
use Rattle.r10_body.specs.declared.fault.FileFault.TheVariants.{Truncated}
use Rattle.r10_packet_rules.specs.Tracks.{IsFirst, TracksForeign}
use Rattle.r10_packet_rules.specs.declared.file.ForeignTrack.{ForeignTrack}
use Rattle.r10_packet_rules.proofs.TrackSoFar.{stands_more, stands_faulty, stands_file}
use Rattle.r10_packet_rules.proofs.Written.{strict_foreign}

-- it is a file of any recorder, and none of its packets is opaque
pub alone : IsForeignFile (file_bytes a_recording) 0
alone = strict_foreign (file_bytes a_recording) (0x41 ∷ 0x42 ∷ 0x43 ∷ 0x44 ∷ [], recorded, true, closed-says)

abbrev track : (offset opaque : ℕ) → opaque ≤ offset → ForeignTrack
track offset opaque few = record { offset = offset; opaque = opaque; few = few }

pub at-end : TracksForeign (track 272 0 (lit≤ tt)) (file_bytes a_recording)
unfolding packet_bytes header_bytes
at-end = record { packets = alone.0; bytes_are = alone.1; foreign = alone.3; offset = refl; opaque = alone.4 }

first : IsFirst other (record { opaque = true; length = 44 })
first = record { least = lit≤ tt; inside = lit≤ tt; reported = refl; foreign = other-is; opaque = refl }

-- with a packet of a secondary header after it, one is
pub with-other : IsForeignFile (file_bytes a_recording ++ other) 1
with-other =
    stands_file (track 316 1 (lit≤ tt)) (file_bytes a_recording ++ other) (λ e. absurd (omega (arith, e)))
    (stands_more (track 272 0 (lit≤ tt)) (track 316 1 (lit≤ tt)) (file_bytes a_recording) other (record { opaque = true; length = 44 }) first refl refl at-end)

-- without that packet's last three bytes, it is at fault there
pub with-other-cut : IsFaulty (file_bytes a_recording ++ take 41 other) 272 Truncated
with-other-cut = stands_faulty (track 272 0 (lit≤ tt)) (file_bytes a_recording) (take 41 other) 272 Truncated refl other-cut at-end (inl (lit< tt))
