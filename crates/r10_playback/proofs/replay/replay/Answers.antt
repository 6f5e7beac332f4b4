use Rattle.std.proofs.Common.{◌≡◌, ◌≤◌, rules, arith, sym, subst, ◌∙◌}
use Rattle.std.specs.Prelude.{filter}
use Rattle.r10_medium.specs.Disk.{Image}
use Rattle.r10_medium.proofs.Failures.{rose_later}
use Rattle.r10_dirblock.specs.Block.{is_closed}
use Rattle.r10_body.specs.Rules.{is_data}
use Rattle.r10_judge.specs.Judged.{TracksStrictFile}
use Rattle.r10_checker.specs.Place.{bytes_on}
use Rattle.r10_cursor.specs.Replays.{begun_reading}
use Rattle.r10_cursor.specs.Shown.{ShowsPackets}
use Rattle.r10_playback.specs.Played.{HasCounts}
use Rattle.r10_playback.proofs.Playing.{instalment, kept_shown}
use Rattle.r10_playback.proofs.replay.replay.Goals as goal

pub returns-in-Err-Medium-clause-counts : goal.returns-in-Err-Medium-clause-counts
returns-in-Err-Medium-clause-counts g c =
    let disk = g.M.BlockMedium.disk in
    let before = (disk c.args.medium.now).failures in
    let mid = (disk c.strict_tracks.new.medium).failures in
    let now = (disk c.advance.new.medium).failures in
    let read = c.in-Err-Medium.ensures.counts in
    let up : before ≤ mid = omega (arith, c.in_ok-file.ensures.counts.no_fewer, c.in_ok-tracks.ensures.counts.no_fewer) in
    let on : mid ≤ now = read.no_fewer in
    record {
      no_fewer = omega (arith, up, on);
      cause = λ is. rose_later before mid now up on (read.cause c.in-Err-Medium.field-0-is);
    }

pub returns-in-Ok-advance-clause-entries : goal.returns-in-Ok-advance-clause-entries
returns-in-Ok-advance-clause-entries g c =
    let disk = g.M.BlockMedium.disk in
    let image = (disk c.args.medium.now).blocks in
    let s = c.args.selection.now in
    let file = c.in_ok-file.file in
    let tracks = c.in_ok-tracks.tracks in
    let kept : TracksStrictFile (is_closed file.entry) tracks (bytes_on image file.entry) =
    subst (λ (i : Image). TracksStrictFile (is_closed file.entry) tracks (bytes_on i file.entry)) c.in_ok-file.ensures.same.reads c.in_ok-tracks.ensures.kept in
    let is_shown : ShowsPackets image file.entry.first_block c.entries.result.now (filter is_data kept.packets) =
    kept_shown image file tracks kept c.entries.result.now c.book.result.now.entries c.entries.ensures (λ packets tracked. (c.book.ensures packets tracked).named) in
    let there : ShowsPackets (disk c.strict_tracks.new.medium).blocks file.entry.first_block c.entries.result.now (filter is_data kept.packets) =
    subst (λ (i : Image). ShowsPackets i file.entry.first_block c.entries.result.now (filter is_data kept.packets)) (sym (c.in_ok-tracks.ensures.same.reads ∙ c.in_ok-file.ensures.same.reads)) is_shown in
    let counts : HasCounts s = (search rules, search rules) in
    let start : c.new-cursor.result ≡ begun_reading c.in-Ok.channels s.from s.to = search rules in
    instalment image s file tracks kept c.in-Ok.channels c.new-cursor.result c.advance.new.self counts c.in_ok-file.ensures.found.0 c.in-Ok.ensures start
    (c.in-Ok-advance.ensures.advances (filter is_data kept.packets) there)

pub returns-clause-refused : goal.returns-clause-refused
returns-clause-refused g c =
    let disk = g.M.BlockMedium.disk in
    let image = (disk c.args.medium.now).blocks in
    let file = c.in_ok-file.file in
    let tracks = c.in_ok-tracks.tracks in
    let kept : TracksStrictFile (is_closed file.entry) tracks (bytes_on image file.entry) =
    subst (λ (i : Image). TracksStrictFile (is_closed file.entry) tracks (bytes_on i file.entry)) c.in_ok-file.ensures.same.reads c.in_ok-tracks.ensures.kept in
    let is_shown : ShowsPackets image file.entry.first_block c.entries.result.now (filter is_data kept.packets) =
    kept_shown image file tracks kept c.entries.result.now c.book.result.now.entries c.entries.ensures (λ packets tracked. (c.book.ensures packets tracked).named) in
    let there : ShowsPackets (disk c.strict_tracks.new.medium).blocks file.entry.first_block c.entries.result.now (filter is_data kept.packets) =
    subst (λ (i : Image). ShowsPackets i file.entry.first_block c.entries.result.now (filter is_data kept.packets)) (sym (c.in_ok-tracks.ensures.same.reads ∙ c.in_ok-file.ensures.same.reads)) is_shown in
    absurd (c.in-Err-NoPacket.ensures.there (filter is_data kept.packets) there c.in-Err-NoPacket.field-0-is)
