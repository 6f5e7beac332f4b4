-- Files, and how a recorder is, as a caller of another language has them.
use Rattle.std.specs.Prelude.{ℕ, List, Option, None, Some, true, false, length, slice_get}
use Rattle.r10_body.specs.Statuses.{place_status}
use Rattle.r10_machine.specs.declared.mode.Mode.{Mode}
use Rattle.r10_machine.specs.declared.mode.Mode.TheVariants.{Unmounted, Idle, Recording, Failed}
use Rattle.r10_machine.specs.declared.reply.ChannelStatus.{ChannelStatus}
use Rattle.r10_machine.specs.declared.reply.FileInfo.{FileInfo}
use Rattle.r10_machine.specs.declared.reply.Status.{Status as StatusValue}
use Rattle.r10_machine.specs.declared.reply.Reply.{Reply as ReplyValue}
use Rattle.r10_machine.specs.declared.reply.Reply.TheVariants.{Done, Moved, Stopped, Files, Status, Cursor, Advanced, Next, Found}
use Rattle.r10_machine.specs.declared.reply.Reply.TheVariants.{CountAt, Refused}
use Rattle.r10_calls.specs.Copies.{copied}
use Rattle.r10_calls.specs.EventCalls.{reply_number}
use Rattle.r10_calls.specs.declared.listing.FileOut.{FileOut}
use Rattle.r10_calls.specs.declared.listing.StatusOut.{StatusOut}
use Rattle.r10_calls.specs.declared.listing.ChannelOut.{ChannelOut}

abbrev pub file_out : FileInfo → FileOut
file_out f = record { size = f.size; blocks = f.blocks; name_length = length f.name; closed = f.closed }

abbrev pub mode_number : Mode → ℕ
mode_number Unmounted = 0
mode_number Idle = 1
mode_number Recording = 2
mode_number Failed = 3

abbrev pub tick_number : Option ℕ → ℕ
tick_number None = 0
tick_number (Some tick) = tick

abbrev pub status_out : StatusValue → StatusOut
status_out s = record {
  tick = tick_number s.tick;
  free = s.free;
  files = s.files;
  channels = length s.channels;
  mode = mode_number s.mode;
  ticked = elim s.tick [ None ↦ false | Some t ↦ true ];
}

abbrev pub channel_out : ChannelStatus → ChannelOut
channel_out c = record { lost = c.lost; erased = c.erased; waiting = c.waiting; channel = c.channel }

-- ---- what a call leaves in the memory that was lent, by the reply

abbrev pub files_told : ReplyValue → Option (List FileInfo)
files_told Done = None
files_told (Moved n) = None
files_told (Stopped s) = None
files_told (Files fs) = Some fs
files_told (Status s) = None
files_told (Cursor id) = None
files_told (Advanced n) = None
files_told (Next e) = None
files_told (Found f) = None
files_told (CountAt c) = None
files_told (Refused r) = None

abbrev pub status_told : ReplyValue → Option StatusValue
status_told Done = None
status_told (Moved n) = None
status_told (Stopped s) = None
status_told (Files fs) = None
status_told (Status s) = Some s
status_told (Cursor id) = None
status_told (Advanced n) = None
status_told (Next e) = None
status_told (Found f) = None
status_told (CountAt c) = None
status_told (Refused r) = None

-- the file of this number, where files were reported
abbrev pub told_file : ReplyValue → ℕ → Option FileInfo
told_file reply n = elim (files_told reply) [ None ↦ None | Some fs ↦ slice_get fs n ]

abbrev pub files_in : ReplyValue → ℕ → ℕ
files_in reply old = elim (files_told reply) [ None ↦ old | Some fs ↦ length fs ]

abbrev pub file_in : ReplyValue → ℕ → FileOut → FileOut
file_in reply n old = elim (told_file reply n) [ None ↦ old | Some f ↦ file_out f ]

abbrev pub name_in : ReplyValue → ℕ → List ℕ → List ℕ
name_in reply n old = elim (told_file reply n) [ None ↦ old | Some f ↦ copied f.name old ]

-- 43 where files were reported, and none of this number
abbrev pub file_place : ReplyValue → ℕ → ℕ
file_place reply n = elim (files_told reply) [
  | None ↦ reply_number reply
  | Some fs ↦ elim
      (slice_get fs n) [ None ↦ place_status | Some f ↦ 0 ]
]

abbrev pub status_given : ReplyValue → StatusOut → StatusOut
status_given reply old = elim (status_told reply) [ None ↦ old | Some s ↦ status_out s ]

abbrev pub told_lane : ReplyValue → ℕ → Option ChannelStatus
told_lane reply n = elim (status_told reply) [ None ↦ None | Some s ↦ slice_get s.channels n ]

abbrev pub channel_given : ReplyValue → ℕ → ChannelOut → ChannelOut
channel_given reply n old = elim (told_lane reply n) [ None ↦ old | Some c ↦ channel_out c ]

abbrev pub lane_place : ReplyValue → ℕ → ℕ
lane_place reply n = elim (status_told reply) [
  | None ↦ reply_number reply
  | Some s ↦ elim
      (slice_get s.channels n) [ None ↦ place_status | Some c ↦ 0 ]
]
