-- What a reader's call leaves in the memory that was lent to it, by its reply.
use Rattle.std.specs.Prelude.{ℕ, List, Bool, true, false, Option, None, Some}
use Rattle.r10_body.specs.declared.entry.Entry.{Entry}
use Rattle.r10_machine.specs.declared.reply.Found.{Found as FoundValue}
use Rattle.r10_machine.specs.declared.reply.Reply.{Reply as ReplyValue}
use Rattle.r10_machine.specs.declared.reply.Reply.TheVariants.{Done, Moved, Stopped, Files, Status, Cursor, Advanced, Next, Found}
use Rattle.r10_machine.specs.declared.reply.Reply.TheVariants.{CountAt, Refused}
use Rattle.r10_calls.specs.Copies.{copied}
use Rattle.r10_calls.specs.Entries.{fields_of, out_bytes, words_of}
use Rattle.r10_calls.specs.declared.entry_out.EntryOut.{EntryOut}

-- the memory that is lent for an entry
pub record Lent : Type 0 where
  pub there : Bool
  pub fields : EntryOut
  pub bytes : List ℕ
  pub words : List ℕ

abbrev pub lent : Bool → EntryOut → List ℕ → List ℕ → Lent
lent there fields bytes words = record { there = there; fields = fields; bytes = bytes; words = words }

-- what is there with an entry in it
abbrev pub with_entry : Lent → Entry → Lent
with_entry l e = record {
  there = true;
  fields = fields_of e;
  bytes = copied (out_bytes e) l.bytes;
  words = copied (words_of e) l.words;
}

-- and with none
abbrev pub with_none : Lent → Lent
with_none l = record l { there = false }

abbrev pub with_next : Lent → Option Entry → Lent
with_next l None = with_none l
with_next l (Some e) = with_entry l e

abbrev pub with_found : Lent → Option FoundValue → Lent
with_found l None = with_none l
with_found l (Some f) = with_entry l f.entry

abbrev pub number_found : Option FoundValue → ℕ → ℕ
number_found None old = old
number_found (Some f) old = f.number

abbrev pub is_told : Option ℕ → Bool
is_told None = false
is_told (Some n) = true

abbrev pub count_told : Option ℕ → ℕ → ℕ
count_told None old = old
count_told (Some n) old = n

-- ---- by the reply: what it tells, or what was there

abbrev pub next_out : ReplyValue → Lent → Lent
next_out Done old = old
next_out (Moved n) old = old
next_out (Stopped s) old = old
next_out (Files fs) old = old
next_out (Status s) old = old
next_out (Cursor id) old = old
next_out (Advanced n) old = old
next_out (Next e) old = with_next old e
next_out (Found f) old = old
next_out (CountAt c) old = old
next_out (Refused r) old = old

abbrev pub found_in : ReplyValue → Lent → Lent
found_in Done old = old
found_in (Moved n) old = old
found_in (Stopped s) old = old
found_in (Files fs) old = old
found_in (Status s) old = old
found_in (Cursor id) old = old
found_in (Advanced n) old = old
found_in (Next e) old = old
found_in (Found f) old = with_found old f
found_in (CountAt c) old = old
found_in (Refused r) old = old

abbrev pub place_in : ReplyValue → ℕ → ℕ
place_in Done old = old
place_in (Moved n) old = old
place_in (Stopped s) old = old
place_in (Files fs) old = old
place_in (Status s) old = old
place_in (Cursor id) old = old
place_in (Advanced n) old = old
place_in (Next e) old = old
place_in (Found f) old = number_found f old
place_in (CountAt c) old = old
place_in (Refused r) old = old

abbrev pub is_count_in : ReplyValue → Bool → Bool
is_count_in Done old = old
is_count_in (Moved n) old = old
is_count_in (Stopped s) old = old
is_count_in (Files fs) old = old
is_count_in (Status s) old = old
is_count_in (Cursor id) old = old
is_count_in (Advanced n) old = old
is_count_in (Next e) old = old
is_count_in (Found f) old = old
is_count_in (CountAt c) old = is_told c
is_count_in (Refused r) old = old

abbrev pub count_in : ReplyValue → ℕ → ℕ
count_in Done old = old
count_in (Moved n) old = old
count_in (Stopped s) old = old
count_in (Files fs) old = old
count_in (Status s) old = old
count_in (Cursor id) old = old
count_in (Advanced n) old = old
count_in (Next e) old = old
count_in (Found f) old = old
count_in (CountAt c) old = count_told c old
count_in (Refused r) old = old
