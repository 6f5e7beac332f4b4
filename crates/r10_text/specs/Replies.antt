-- The lines of a reply.
use Rattle.std.specs.Prelude.{ℕ, ◌+◌, List, [], ◌∷◌, ◌++◌, map, length, Option, Some, None, codes, if◌then◌else◌}
use Rattle.std.specs.Fmt.{decimal}
use Rattle.std.specs.List.{flat_map}
use Rattle.r10_count.specs.Printed.{flag_text, shown_byte}
use Rattle.r10_machine.specs.declared.mode.Mode.{Mode}
use Rattle.r10_machine.specs.declared.mode.Mode.TheVariants as modes
use Rattle.r10_machine.specs.declared.reply.ChannelStatus.{ChannelStatus}
use Rattle.r10_machine.specs.declared.reply.FileInfo.{FileInfo}
use Rattle.r10_machine.specs.declared.reply.Found.{Found}
use Rattle.r10_machine.specs.declared.reply.Reply.{Reply}
use Rattle.r10_machine.specs.declared.reply.Reply.TheVariants as replies
use Rattle.r10_machine.specs.declared.reply.Status.{Status}
use Rattle.r10_text.specs.Line.{entry_text}
use Rattle.r10_text.specs.Refusals.{refusal_text}
use Rattle.r10_text.specs.Words.{spaced, line_of}

-- ---- files

-- a file's number, its name, its size in bytes, its blocks, and whether it is closed
abbrev pub file_line : ℕ → FileInfo → List ℕ
file_line number f = line_of (codes "file" ∷ decimal number ∷ map shown_byte f.name ∷ decimal f.size ∷ decimal f.blocks
    ∷ flag_text f.closed ∷ [])

-- the lines of the files from this number on
abbrev pub file_lines : ℕ → List FileInfo → List ℕ
file_lines number [] = []
file_lines number (f ∷ files) = file_line number f ++ file_lines (number + 1) files

-- ---- status

abbrev pub mode_text : Mode → List ℕ
mode_text modes.Unmounted = codes "unmounted"
mode_text modes.Idle = codes "idle"
mode_text modes.Recording = codes "recording"
mode_text modes.Failed = codes "failed"

-- the count of the last tick, a dash where there was none
abbrev pub tick_text : Option ℕ → List ℕ
tick_text None = codes "-"
tick_text (Some count) = decimal count

-- the mode, the last tick, the number of files and the free bytes
abbrev pub status_text : Status → List ℕ
status_text status = spaced (codes "status" ∷ mode_text status.mode ∷ tick_text status.tick ∷ decimal status.files
    ∷ decimal status.free ∷ [])

-- a channel's ID, what waits, what was lost and what was erased
abbrev pub channel_line : ChannelStatus → List ℕ
channel_line c = line_of (codes "channel" ∷ decimal c.channel ∷ decimal c.waiting ∷ decimal c.lost ∷ decimal c.erased ∷ [])

-- ---- replies

-- an entry after its number on its channel
abbrev pub found_text : Found → List ℕ
found_text found = spaced (codes "found" ∷ decimal found.number ∷ entry_text found.entry ∷ [])

-- the words after the step's number
abbrev pub reply_text : Reply → List ℕ
reply_text replies.Done = codes "ok"
reply_text (replies.Moved moved) = spaced (codes "moved" ∷ decimal moved ∷ [])
reply_text (replies.Stopped stopped) = spaced (codes "stopped" ∷ decimal stopped.taken ∷ decimal stopped.left ∷ [])
reply_text (replies.Files files) = spaced (codes "files" ∷ decimal (length files) ∷ [])
reply_text (replies.Status status) = status_text status
reply_text (replies.Cursor id) = spaced (codes "cursor" ∷ decimal id ∷ [])
reply_text (replies.Advanced queued) = spaced (codes "advanced" ∷ decimal queued ∷ [])
reply_text (replies.Next None) = codes "none"
reply_text (replies.Next (Some entry)) = entry_text entry
reply_text (replies.Found None) = codes "none"
reply_text (replies.Found (Some found)) = found_text found
reply_text (replies.CountAt None) = codes "none"
reply_text (replies.CountAt (Some count)) = spaced (codes "count" ∷ decimal count ∷ [])
reply_text (replies.Refused refusal) = refusal_text refusal

-- the lines after the first one: a line for each file, or for each channel
abbrev pub reply_rest : Reply → List ℕ
reply_rest (replies.Files files) = file_lines 0 files
reply_rest (replies.Status status) = flat_map channel_line status.channels
reply_rest reply = []

-- the step's number and the reply's words, and the lines after
abbrev pub reply_lines : ℕ → Reply → List ℕ
reply_lines number reply = line_of (decimal number ∷ reply_text reply ∷ []) ++ reply_rest reply
