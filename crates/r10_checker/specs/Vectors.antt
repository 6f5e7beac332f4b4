-- Files at fault by rules 8 and 11, each at its own place; and files that are lenient for what has the type of a report.
use Rattle.std.specs.Prelude.{◌≡◌, ℕ, ◌≤◌, Bool, true, false, List, [], ◌∷◌, ◌++◌, length, map, refl, Some, None}
use Rattle.std.proofs.Common.{lit≤, lit<, sym, subst, arith, true≢false}
use Rattle.std.proofs.lemmas.List.{append-nil}
use Rattle.r10_packet.specs.Header.{header_bytes}
use Rattle.r10_body.specs.Faults.{IsFollowedByFlagged, IsAtFault, no_index}
use Rattle.r10_body.specs.Foreign.{IsForeignFile, IsForeignPacket}
use Rattle.r10_body.specs.Packets.{Packet, FitsPacket, packet_bytes, file_bytes}
use Rattle.r10_body.specs.Rules.{EachFollows, EndsReports, has_whole_index}
use Rattle.r10_body.specs.Vectors.{data_packets, a_node_packet, a_report_packet, a_setup_packet, a_time_packet, bus_packet}
use Rattle.r10_body.specs.Vectors.{uart_packet}
use Rattle.r10_body.specs.declared.fault.FileFault.TheVariants.{Rule}
use Rattle.r10_body.specs.declared.gap.Gap.TheVariants.{Lost}
use Rattle.r10_body.proofs.Recording.{setup-first, time-second, uart-third}
use Rattle.r10_packet_rules.proofs.OneWayApart.{one_count}
use Rattle.r10_packet_rules.proofs.Written.{packet_foreign, strict_foreign}
use Rattle.r10_judge.specs.Copies.{copies, node_of_99}
use Rattle.r10_judge.proofs.Answering.{quiet_at_end}
use Rattle.r10_judge.proofs.Eighth.{short_node, open_index}
use Rattle.r10_judge.proofs.Eleventh.{one_lost, reported, unanswered_report}
use Rattle.r10_judge.proofs.Places.{strict_apart}
use Rattle.r10_checker.specs.Verdict.{IsVerdict}
use Rattle.r10_checker.specs.declared.check.Verdict.TheVariants.{Lenient}

-- a node of 99 entries where there are 101 packets, whatever stands after it, and whether the directory entry is closed or not
pub ninety-nine : (closed : Bool) (more : List ℕ) → IsAtFault
    (file_bytes (copies 99) ++ (packet_bytes (node_of_99 (copies 99)) ++ more)) closed 4424 (Rule 8)
ninety-nine closed more = short_node 99 closed more (lit≤ tt) (lit≤ tt)

-- the node of the first recording where the directory entry is unclosed, whatever stands after it
pub index-in-open-file : (more : List ℕ) → IsAtFault (file_bytes data_packets ++ (packet_bytes a_node_packet ++ more)) false 124
    (Rule 8)
index-in-open-file = open_index

-- packets of a closed file that end within their index, at a node or after a group while packets are left to name: at their end
pub group-missing : (packets : List Packet) → EachFollows [] packets → 2 ≤ length packets → EndsReports packets
    → has_whole_index packets ≡ false → IsAtFault (file_bytes packets) true (length (file_bytes packets)) (Rule 8)
group-missing packets each two quiet missing = record {
  packets = packets;
  rest = [];
  bytes_are = sym (append-nil (file_bytes packets));
  offset_is = refl;
  strict = each;
  answered = rw quiet tt;
  unclosed = λ e. absurd (true≢false e);
  wrong = no_index refl two refl missing;
}

-- the report of a loss on channel 5 after which comes anything but a flagged packet of this channel, or nothing: at the report
pub loss-unanswered : (closed : Bool) (rest : List ℕ) → (IsFollowedByFlagged one_lost rest → ⊥)
    → IsAtFault (file_bytes reported ++ rest) closed 124 (Rule 11)
loss-unanswered = unanswered_report

-- as a packet of its channel that isn't flagged
pub loss-unflagged : (closed : Bool) (more : List ℕ) → IsAtFault (file_bytes reported ++ (packet_bytes uart_packet ++ more)) closed
    124 (Rule 11)
unfolding packet_bytes header_bytes
loss-unflagged closed more = unanswered_report closed (packet_bytes uart_packet ++ more) (λ answered. true≢false (sym answered.2))

-- or a flagged one of another channel
pub loss-elsewhere : (closed : Bool) (more : List ℕ) → IsAtFault
    (file_bytes reported ++ (packet_bytes (record bus_packet { gap = Lost 1 }) ++ more)) closed 124 (Rule 11)
unfolding packet_bytes header_bytes
loss-elsewhere closed more = unanswered_report closed (packet_bytes (record bus_packet { gap = Lost 1 }) ++ more)
    (λ answered. absurd (omega (arith, answered.1)))

-- ---- files of any recorder

-- cut after the report, the file has four packets, of which none is opaque
pub cut-behind-report : IsVerdict (file_bytes reported) (Lenient 0)
unfolding packet_bytes header_bytes
cut-behind-report = (
  λ strict. strict_apart (file_bytes reported) strict.2 124 (Rule 11) (at_fault strict.2) (strict.0, strict.1, strict.3),
  (
    map packet_bytes reported,
    refl,
    lit< tt,
    (
      packet_foreign a_setup_packet setup-first.fits,
      (
        packet_foreign a_time_packet time-second.fits,
        (
          packet_foreign uart_packet uart-third.fits,
          (packet_foreign a_report_packet fits, tt),
        ),
      ),
    ),
    refl,
  ),
)
  where
    fits : FitsPacket a_report_packet
    fits = record {
      channel = lit< tt;
      sequence = lit< tt;
      gap = tt;
      check = lit< tt;
      counter = lit< tt;
      content = record { channel = lit< tt; reserved = lit< tt; lost = lit< tt };
      short = lit≤ tt;
    }

    nothing : IsFollowedByFlagged one_lost [] → ⊥
    nothing answered = let no : Some one_lost ≡ None = quiet_at_end (Some one_lost) answered in cc

    at_fault : (closed : Bool) → IsAtFault (file_bytes reported) closed 124 (Rule 11)
    at_fault closed = subst (λ (bytes : List ℕ). IsAtFault bytes closed 124 (Rule 11)) (append-nil (file_bytes reported))
        (unanswered_report closed [] nothing)

-- a packet of a report's type on channel 9, whose body is a word of zeros
abbrev pub no_report : List ℕ
no_report =
    (0x25 ∷ 0xEB ∷ 0x09 ∷ 0x00 ∷ 0x1C ∷ 0x00 ∷ 0x00 ∷ 0x00 ∷ 0x04 ∷ 0x00 ∷ 0x00 ∷ 0x00 ∷ 0x08 ∷ 0x00 ∷ 0x00 ∷ 0x00 ∷ 0xE8 ∷ 0x03
    ∷ 0x00 ∷ 0x00 ∷ 0x00 ∷ 0x00 ∷ 0x3E ∷ 0xEF ∷ [])
    ++ (0x00 ∷ 0x00 ∷ 0x00 ∷ 0x00 ∷ [])

-- after the data of the first recording it is passed over
pub passed-over : IsVerdict (file_bytes data_packets ++ no_report) (Lenient 1)
unfolding packet_bytes header_bytes
passed-over = (
  λ strict. absurd
      (omega (
        arith,
        one_count (file_bytes data_packets ++ no_report) 0 1
            (strict_foreign (file_bytes data_packets ++ no_report) strict) foreign,
      )),
  foreign,
)
  where
    alone : IsForeignPacket no_report
    alone = record { framed = refl; whole = refl; checked = λ e. cc; body = λ e. cc }

    foreign : IsForeignFile (file_bytes data_packets ++ no_report) 1
    foreign = (
      map packet_bytes data_packets ++ no_report ∷ [],
      refl,
      lit< tt,
      (
        packet_foreign a_setup_packet setup-first.fits,
        (packet_foreign a_time_packet time-second.fits, (packet_foreign uart_packet uart-third.fits, (alone, tt))),
      ),
      refl,
    )
