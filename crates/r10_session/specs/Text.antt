-- The lines of what came of a session.
use Rattle.std.specs.Prelude.{ℕ, ◌+◌, Bool, true, false, List, [], ◌∷◌, ◌++◌, None, Some, codes, slice_get, Result, Ok, Err}
use Rattle.std.specs.Fmt.{decimal}
use Rattle.r10_body.specs.declared.refusal.Refusal.{Refusal}
use Rattle.r10_text.specs.Refusals.{refusal_text}
use Rattle.r10_text.specs.Replies.{reply_lines}
use Rattle.r10_text.specs.Words.{line_of, spaced}
use Rattle.r10_machine.specs.declared.reply.Reply.{Reply}
use Rattle.r10_session.specs.declared.ended.Ended.{Ended}
use Rattle.r10_session.specs.declared.ended.FeedEnd.{FeedEnd}
use Rattle.r10_session.specs.declared.ended.ReaderEnd.{ReaderEnd}
use Rattle.r10_session.specs.declared.ended.ReaderEnd.TheVariants as ends

-- the lines of the replies to the steps after the first `done` ones, each numbered from 1
abbrev pub step_lines : ℕ → List Reply → List ℕ
step_lines done [] = []
step_lines done (reply ∷ replies) = reply_lines (done + 1) reply ++ step_lines (done + 1) replies

abbrev pub refused_line : Refusal → List ℕ
refused_line r = refusal_text r ++ codes "\n"

-- a feed's channel, and how many of its messages were accepted and refused
abbrev pub offered_text : FeedEnd → List ℕ
offered_text end = spaced (codes "feed" ∷ decimal end.channel ∷ codes "accepted" ∷ decimal end.accepted ∷ codes "refused"
    ∷ decimal end.refused ∷ [])

-- and how many of the accepted ones were erased, are filed, and are left
abbrev pub kept_text : FeedEnd → List ℕ
kept_text end = spaced (codes "erased" ∷ decimal end.erased ∷ codes "filed" ∷ decimal end.filed ∷ codes "rest" ∷ decimal end.rest
    ∷ [])

abbrev pub feed_line : FeedEnd → List ℕ
feed_line end = line_of (offered_text end ∷ kept_text end ∷ [])

-- how many messages of its channel were lost
abbrev pub lost_line : FeedEnd → List ℕ
lost_line end = line_of (codes "lost" ∷ decimal end.channel ∷ decimal end.lost ∷ [])

-- and with that line or without it
abbrev pub feed_part : Bool → FeedEnd → List ℕ
feed_part true end = feed_line end ++ lost_line end
feed_part false end = feed_line end

-- whether it is asked for, of a feed of this number
abbrev pub is_asked : List Bool → ℕ → Bool
is_asked asked number = elim (slice_get asked number) [ None ↦ false | Some b ↦ b ]

-- of the feeds from this number on
abbrev pub feed_lines : List Bool → ℕ → List FeedEnd → List ℕ
feed_lines asked number [] = []
feed_lines asked number (end ∷ feeds) = feed_part (is_asked asked number) end ++ feed_lines asked (number + 1) feeds

-- a reader's number, and how many entries it read; or the refusal of its cursor
abbrev pub reader_line : ℕ → ReaderEnd → List ℕ
reader_line number (ends.Refused r) = refused_line r
reader_line number (ends.Read entries) = line_of (codes "reader" ∷ decimal number ∷ codes "entries" ∷ decimal entries ∷ [])

-- of the readers from this number on
abbrev pub reader_lines : ℕ → List ReaderEnd → List ℕ
reader_lines number [] = []
reader_lines number (end ∷ readers) = reader_line number end ++ reader_lines (number + 1) readers

abbrev pub audit_line : Result Bool Refusal → List ℕ
audit_line (Ok true) = codes "audit yes\n"
audit_line (Ok false) = codes "audit no\n"
audit_line (Err r) = refused_line r

-- the replies to the steps, numbered from 1; the feeds, with their losses where that is asked; the readers, numbered from 0;
-- and the audit
abbrev pub session_text : List Bool → Ended → List ℕ
session_text asked ended = ((step_lines 0 ended.replies.items ++ feed_lines asked 0 ended.feeds.items)
    ++ reader_lines 0 ended.readers.items) ++ audit_line ended.audit
