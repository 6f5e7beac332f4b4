-- What a cursor has taken of a strict file is what was asked for.
use Rattle.std.proofs.Common.{◌≡◌, ℕ, List, subst, ◌∙◌}
use Rattle.std.specs.Prelude.{filter}
use Rattle.r10_medium.specs.Disk.{Image}
use Rattle.r10_dirblock.specs.Block.{is_closed}
use Rattle.r10_dirchain.specs.declared.chain.ListedFile.{ListedFile}
use Rattle.r10_cursor.specs.Shown.{NodeEntry, ShowsPackets}
use Rattle.r10_body.specs.Packets.{Packet}
use Rattle.r10_body.specs.Rules.{is_data, node_entries}
use Rattle.r10_body.specs.declared.entry.Entry.{Entry}
use Rattle.r10_judge.specs.Judged.{TracksStrictFile}
use Rattle.r10_machine.specs.Replay.{wanted, Ordered}
use Rattle.r10_checker.specs.Place.{bytes_on}
use Rattle.r10_cursor.specs.Replays.{AdvancesReading, Reading, begun_reading}
use Rattle.r10_file_rules.specs.Tracks.{IsTracked}
use Rattle.r10_file_rules.specs.declared.tracks.Tracks.{Tracks}
use Rattle.r10_playback.specs.Played.{channels_asked, HasCounts, IsListedInside, IsInstalment}
use Rattle.r10_playback.specs.declared.selection.Selection.{Selection}
use Rattle.r10_playback.proofs.Fronts.{same_entries, shown}

pub kept_shown : (image : Image) (f : ListedFile) (tracks : Tracks) (kept : TracksStrictFile (is_closed f.entry) tracks (bytes_on image f.entry)) (named book : List NodeEntry)
    → named ≡ book → ((packets : List Packet) → IsTracked tracks packets → book ≡ node_entries 0 (filter is_data packets)) → ShowsPackets image f.entry.first_block named (filter is_data kept.packets)
kept_shown image f tracks kept named book same names =
    shown image f.entry.first_block f.entry.size kept.packets named kept.bytes_are kept.say.file.each (same ∙ names kept.packets kept.tracked)

pub instalment : (image : Image) (s : Selection) (f : ListedFile) (tracks : Tracks) (kept : TracksStrictFile (is_closed f.entry) tracks (bytes_on image f.entry)) (channels : List ℕ) (old new : Reading)
    → HasCounts s → IsListedInside image s.file f → channels ≡ channels_asked s.channel → old ≡ begun_reading channels s.from s.to → AdvancesReading old new (filter is_data kept.packets) → IsInstalment image s new.queue
instalment image s f tracks kept channels old new counts found on start advances = record {
  counts = counts;
  file = f;
  found = found;
  packets = kept.packets;
  has = record { bytes_are = kept.bytes_are; strict = kept.say.file; closed = kept.say.closed_is };
  in_order =
      let begins : AdvancesReading (begun_reading (channels_asked s.channel) s.from s.to) new (filter is_data kept.packets) = rw (start, on) at advances in
      subst (λ (es : List Entry). Ordered (wanted (channels_asked s.channel) s.from s.to es) new.queue) (same_entries kept.packets) begins.queues;
}
