-- What a call leaves in the numbers that were lent to it, by its reply: what the reply tells, or what was there.
use Rattle.std.specs.Prelude.{ℕ}
use Rattle.r10_machine.specs.declared.reply.Reply.{Reply as ReplyValue}
use Rattle.r10_machine.specs.declared.reply.Reply.TheVariants.{Done, Moved, Stopped, Files, Status, Cursor, Advanced, Next, Found}
use Rattle.r10_machine.specs.declared.reply.Reply.TheVariants.{CountAt, Refused}

abbrev pub moved_in : ReplyValue → ℕ → ℕ
moved_in Done old = old
moved_in (Moved n) old = n
moved_in (Stopped s) old = old
moved_in (Files fs) old = old
moved_in (Status s) old = old
moved_in (Cursor id) old = old
moved_in (Advanced n) old = old
moved_in (Next e) old = old
moved_in (Found f) old = old
moved_in (CountAt c) old = old
moved_in (Refused r) old = old

abbrev pub taken_out : ReplyValue → ℕ → ℕ
taken_out Done old = old
taken_out (Moved n) old = old
taken_out (Stopped s) old = s.taken
taken_out (Files fs) old = old
taken_out (Status s) old = old
taken_out (Cursor id) old = old
taken_out (Advanced n) old = old
taken_out (Next e) old = old
taken_out (Found f) old = old
taken_out (CountAt c) old = old
taken_out (Refused r) old = old

abbrev pub left_out : ReplyValue → ℕ → ℕ
left_out Done old = old
left_out (Moved n) old = old
left_out (Stopped s) old = s.left
left_out (Files fs) old = old
left_out (Status s) old = old
left_out (Cursor id) old = old
left_out (Advanced n) old = old
left_out (Next e) old = old
left_out (Found f) old = old
left_out (CountAt c) old = old
left_out (Refused r) old = old

abbrev pub cursor_in : ReplyValue → ℕ → ℕ
cursor_in Done old = old
cursor_in (Moved n) old = old
cursor_in (Stopped s) old = old
cursor_in (Files fs) old = old
cursor_in (Status s) old = old
cursor_in (Cursor id) old = id
cursor_in (Advanced n) old = old
cursor_in (Next e) old = old
cursor_in (Found f) old = old
cursor_in (CountAt c) old = old
cursor_in (Refused r) old = old

abbrev pub queued_in : ReplyValue → ℕ → ℕ
queued_in Done old = old
queued_in (Moved n) old = old
queued_in (Stopped s) old = old
queued_in (Files fs) old = old
queued_in (Status s) old = old
queued_in (Cursor id) old = old
queued_in (Advanced n) old = n
queued_in (Next e) old = old
queued_in (Found f) old = old
queued_in (CountAt c) old = old
queued_in (Refused r) old = old
