use Rattle.std.proofs.Common.{◌+◌, ◌∙◌, length, take, drop, arith, sym, ap, subst, IfSome}
use Rattle.std.proofs.lemmas.List.{length-drop, take-append-drop}
use Rattle.r10_medium.specs.Disk.{Image}
use Rattle.r10_medium.proofs.PowerLoss.{unchanged_twice, whole_reads}
use Rattle.r10_body.specs.declared.fault.FileFault.{FileFault}
use Rattle.r10_judge.specs.Files.{file_at}
use Rattle.r10_judge.specs.Walks.{TracksWalked, IsFaultTold}
use Rattle.r10_judge.proofs.PartsOfBytes.{ends_some, falls, file_size, none_is, some_on}
use Rattle.r10_judge.proofs.window.walk_file.Goals as goal

pub take_window-requires-clause-walked : goal.take_window-requires-clause-walked
take_window-requires-clause-walked g c =
    let now = c.loop-at.invariant in
    subst (λ (i : Image). TracksWalked c.loop-at.walk (take c.loop-at.at (file_at i c.args.extent))) (sym now.same.reads) now.stands

pub next_window-window-requires : goal.next_window-window-requires
next_window-window-requires g c = λ none. omega (arith, c.requires.size, c.in-Ok.ensures.cut none (none_is c.in-Ok.taken.fault (sym c.is_some.ensures ∙ c.if-is_some.false)))

pub returns-then-is_some-clause-walked : goal.returns-then-is_some-clause-walked
returns-then-is_some-clause-walked g c =
    let disk = g.M.BlockMedium.disk in
    let now = c.loop-at.invariant in
    let file = file_at (disk c.args.medium.now).blocks c.args.extent in
    let at = c.loop-at.at + c.in-Ok.taken.length in
    let tracks = c.take_window.new.walk.judge.tracks in
    let reported = subst (λ (i : Image). IfSome c.in-Ok.taken.fault (IsFaultTold (file_at i c.args.extent) at c.in-Ok.taken.answered tracks)) now.same.reads c.in-Ok.ensures.fault in
    record {
      before = take at file;
      rest = drop at file;
      bytes_are = sym (take-append-drop at file);
      stands = subst (λ (i : Image). TracksWalked c.take_window.new.walk (take at (file_at i c.args.extent))) now.same.reads c.in-Ok.ensures.stands;
      ends = ends_some c.in-Ok.taken.fault (drop at file) (sym c.is_some.ensures ∙ c.if-is_some.true) (some_on c.in-Ok.taken.fault (λ (f : FileFault) (t : IsFaultTold file at c.in-Ok.taken.answered tracks f). t.ends) reported);
      answered = some_on c.in-Ok.taken.fault (λ (f : FileFault) (t : IsFaultTold file at c.in-Ok.taken.answered tracks f). t.answered) reported;
    }

pub loop-at-preserved : goal.loop-at-preserved
loop-at-preserved g c =
    let disk = g.M.BlockMedium.disk in
    let now = c.loop-at.invariant in
    let at = c.loop-at.at + c.in-Ok.taken.length in
    record {
      inside = c.in-Ok.ensures.inside;
      window = omega (arith, now.window, c.next_window-window.ensures.least);
      within = omega (arith, now.within, ap length c.take_window.ensures.same.reads);
      stands = subst (λ (i : Image). TracksWalked c.take_window.new.walk (take at (file_at i c.args.extent))) now.same.reads c.in-Ok.ensures.stands;
      closed = c.take_window.ensures.closed ∙ now.closed;
      same = unchanged_twice (disk c.args.medium.now) (disk c.loop-at.medium) (disk c.take_window.new.medium) now.same c.take_window.ensures.same;
      no_fewer = omega (arith, now.no_fewer, c.take_window.ensures.counts.no_fewer);
    }

pub loop-at-smaller : goal.loop-at-smaller
loop-at-smaller g c =
    let now = c.loop-at.invariant in
    falls c.args.extent.size c.loop-at.at c.in-Ok.taken.length c.loop-at.window c.next_window-window.result c.loop-at-test.true c.in-Ok.ensures.inside c.next_window-window.ensures.least
    (λ none. (c.in-Ok.ensures.cut none (none_is c.in-Ok.taken.fault (sym c.is_some.ensures ∙ c.if-is_some.false)), c.next_window-window.ensures.more none now.window))

pub returns-clause-walked : goal.returns-clause-walked
returns-clause-walked g c =
    let disk = g.M.BlockMedium.disk c.args.medium.now in
    let now = c.loop-at.invariant in
    let file = file_at disk.blocks c.args.extent in
    let at = c.loop-at.at in
    record {
      before = take at file;
      rest = drop at file;
      bytes_are = sym (take-append-drop at file);
      stands = now.stands;
      ends = omega (arith, length-drop at file, file_size disk.blocks c.args.extent (whole_reads disk) c.requires.within, c.loop-at-test.false);
      answered = tt;
    }
