use Rattle.std.proofs.Common.{◌≢◌, refl}
use Rattle.std.specs.Prelude.{IfSome}
use Rattle.r10_cursor.specs.declared.written.Shown.{Shown}
use Rattle.r10_cursor.specs.declared.written.Written.{Written}
use Rattle.r10_cursor.proofs.Learned.{here_told, kept_shown, kept_there, kept_told, none_told, other_told, told_parts, told_shown, told_told}
use Rattle.r10_cursor.proofs.books.Books.shown_packets.Goals.{After-book, in-Some+else-reported-file, in_default}
use Rattle.r10_cursor.proofs.books.Books.shown_packets.Goals as goal

-- the file isn't the one that is written
other : (c : After-book) → IfSome c.args.written (λ (w : Written). w.file ≢ c.args.file)
other c = elim c.match-written.branch [
  | in-Some+else-reported-file w ↦ other_told c.args.written w.in-Some.reported c.args.file w.in-Some.is w.if-reported-file.false
  | in_default w ↦ none_told c.args.written c.args.file w.in_default.is
]

pub returns-then-reported-file-clause-reported : goal.returns-then-reported-file-clause-reported
returns-then-reported-file-clause-reported c = λ image chain right learned.
    let shown : Shown = record { first = c.in-Some.reported.first; named = c.in-Some.reported.named; book = c.in-Some.reported.book } in
    told_told image chain c.args.written c.args.file shown (told_parts c.args.written c.in-Some.reported c.args.file shown c.in-Some.is c.if-reported-file.true refl refl refl)
    (right (here_told c.args.written c.in-Some.reported c.args.file c.in-Some.is c.if-reported-file.true))

pub returns-then-reported-file-clause-shown : goal.returns-then-reported-file-clause-shown
returns-then-reported-file-clause-shown c = λ image chain packets learned shows.
    let shown : Shown = record { first = c.in-Some.reported.first; named = c.in-Some.reported.named; book = c.in-Some.reported.book } in
    told_shown image chain c.args.written c.args.file shown packets (told_parts c.args.written c.in-Some.reported c.args.file shown c.in-Some.is c.if-reported-file.true refl refl refl) shows

pub returns-clause-reported : goal.returns-clause-reported
returns-clause-reported c = λ image chain right learned.
    kept_told image chain c.args.written c.args.file c.args.self.now.kept.items c.args.place c.book.result (other (goal.at.returns-clause-reported c).After-book) c.book.ensures.some learned

pub returns-clause-there : goal.returns-clause-there
returns-clause-there c = λ image chain learned.
    kept_there image chain c.args.written c.args.file c.args.self.now.kept.items c.args.place c.book.result (other (goal.at.returns-clause-there c).After-book) c.book.ensures.some learned

pub returns-clause-shown : goal.returns-clause-shown
returns-clause-shown c = λ image chain packets learned shows.
    kept_shown image chain c.args.written c.args.file c.args.self.now.kept.items c.args.place c.book.result packets (other (goal.at.returns-clause-shown c).After-book) c.book.ensures.some learned shows
