-- Reports that break rule 11 and none below it.
use Rattle.std.proofs.Common.{◌≡◌, ℕ, ◌-◌, Bool, List, [], ◌∷◌, ◌++◌, length, refl, ap, subst}
use Rattle.r10_packet.specs.Header.{header_bytes}
use Rattle.r10_indexbody.specs.declared.loss.LossBody.{LossBody}
use Rattle.r10_body.proofs.Recording.{setup-first, time-second, uart-third}
use Rattle.r10_body.specs.Faults.{IsFollowedByFlagged, IsAtFault}
use Rattle.r10_body.specs.Packets.{Packet, packet_bytes, file_bytes}
use Rattle.r10_body.specs.Vectors.{data_packets, a_report_packet}
use Rattle.r10_body.specs.declared.fault.FileFault.TheVariants.{Rule}
use Rattle.r10_judge.proofs.Ending.{report_at_fault}
use Rattle.r10_body.proofs.Cases.{report-fourth}

-- of channel 5
abbrev pub one_lost : LossBody
one_lost = record { channel = 5; reserved = 0; lost = 1 }

-- the data of the first recording, then a report
abbrev pub reported : List Packet
reported = data_packets ++ a_report_packet ∷ []

reported-long : length (file_bytes reported) ≡ 168
unfolding packet_bytes header_bytes
reported-long = refl

-- it is at fault where what comes after it is no flagged packet of its channel
pub unanswered_report : (closed : Bool) (rest : List ℕ) → (IsFollowedByFlagged one_lost rest → ⊥) → IsAtFault (file_bytes reported ++ rest) closed 124 (Rule 11)
unanswered_report closed rest none =
    subst (λ (offset : ℕ). IsAtFault (file_bytes reported ++ rest) closed offset (Rule 11)) (ap (λ n. n - 44) reported-long)
    (report_at_fault closed reported rest (record { strict = (setup-first, (time-second, (uart-third, (report-fourth, tt)))); unclosed = λ _. refl }) none)
