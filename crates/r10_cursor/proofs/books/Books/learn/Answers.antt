use Rattle.std.proofs.Common.{◌≢◌, sym, ◌∙◌}
use Rattle.std.specs.Prelude.{IfSome}
use Rattle.r10_cursor.specs.declared.written.Written.{Written}
use Rattle.r10_cursor.proofs.Learned.{here_told, judging, none_told, other_told, telling, unread_so}
use Rattle.r10_cursor.proofs.books.Books.learn.Goals.{After-finished_entry, in-Some+else-reported-file, in_default}
use Rattle.r10_cursor.proofs.books.Books.learn.Goals as goal
use Rattle.r10_cursor.proofs.books.Books.learn.Given.{Over}

-- the file isn't the one that is written
other : (g : Over) (c : After-finished_entry g) → IfSome c.args.written (λ (w : Written). w.file ≢ c.args.file)
other g c = elim c.match-written.branch [
  | in-Some+else-reported-file w ↦ other_told c.args.written w.in-Some.reported c.args.file w.in-Some.is w.if-reported-file.false
  | in_default w ↦ none_told c.args.written c.args.file w.in_default.is
]

pub returns-then-reported-file-clause-learned : goal.returns-then-reported-file-clause-learned
returns-then-reported-file-clause-learned g c = λ judged.
    telling (g.M.BlockMedium.disk c.args.medium.now).blocks c.args.directory.now c.args.written c.args.file c.args.self.now.kept.items 0 (here_told c.args.written c.in-Some.reported c.args.file c.in-Some.is c.if-reported-file.true)

pub returns-in-Some-finished_entry-clause-learned : goal.returns-in-Some-finished_entry-clause-learned
returns-in-Some-finished_entry-clause-learned g c = λ judged.
    let found = sym c.finished_entry.ensures ∙ c.in-Some-finished_entry.is in
    judging (g.M.BlockMedium.disk c.args.medium.now).blocks c.args.directory.now c.args.written c.args.file c.keep.new.self.kept.items c.in-Some-finished_entry.entry c.keep.result (other g (goal.at.returns-in-Some-finished_entry-clause-learned g c).After-finished_entry) found
    (c.keep.ensures.kept c.args.directory.now c.args.written found judged)

pub returns-in-Some-finished_entry-clause-unread : goal.returns-in-Some-finished_entry-clause-unread
returns-in-Some-finished_entry-clause-unread g c =
    let disk = g.M.BlockMedium.disk in
    unread_so (disk c.args.medium.now) (disk c.keep.new.medium) c.args.directory.now c.args.written c.args.file c.in-Some-finished_entry.entry c.keep.result (sym c.finished_entry.ensures ∙ c.in-Some-finished_entry.is) c.keep.ensures.refused

pub returns-in-None-clause-refused : goal.returns-in-None-clause-refused
returns-in-None-clause-refused g c = (sym c.finished_entry.ensures ∙ c.in-None.is, other g (goal.at.returns-in-None-clause-refused g c).After-finished_entry)

pub returns-in-None-clause-unread : goal.returns-in-None-clause-unread
returns-in-None-clause-unread g c = (sym c.finished_entry.ensures ∙ c.in-None.is, other g (goal.at.returns-in-None-clause-unread g c).After-finished_entry)
