-- Single cases of the whole machine: the order of refusals, steps and what is none, what is found, and what a recorder tells
-- of itself.
use Rattle.std.specs.Prelude.{◌≡◌, ℕ, ◌-◌, ◌^◌, true, false, List, [], ◌∷◌, refl, length, map, replicate, Some, None}
use Rattle.std.proofs.Common.{lit<, lit≤, arith, inl}
use Rattle.r10_body.specs.Messages.{uart_message}
use Rattle.r10_body.specs.declared.gap.Gap.TheVariants.{Whole}
use Rattle.r10_body.specs.declared.message.Message.TheVariants as messages
use Rattle.r10_body.specs.declared.refusal.Refusal.TheVariants as refusals
use Rattle.r10_machine.specs.declared.mode.Mode.TheVariants.{Idle, Recording, Failed}
use Rattle.r10_machine.specs.Machine.{Machine, File, Lane, with_lane}
use Rattle.r10_machine.specs.Calls.{accepted, overflowed, without}
use Rattle.r10_machine.specs.SmallCases.{narrow, four_bytes, full_file}
use Rattle.r10_machine.specs.Vectors.{settings, channel, new, mounted, ticked, started, filled_lane, lost, stopped, begun}
use Rattle.r10_machine.specs.Vectors.{first_time, leap_day, name, text, entry, read}
use Rattle.r10_machine.specs.declared.event.Event.TheVariants as events
use Rattle.r10_machine.specs.declared.reply.Reply.TheVariants as replies
use Rattle.r10_machine.specs.Finding.{found, count_at, status_of, free_bytes}
use Rattle.r10_machine.specs.EventChecks.{refusal}
use Rattle.r10_machine.specs.ControlCalls.{event_entry, erased_with}
use Rattle.r10_machine.specs.Step.{Step, Replies, has_room}

-- ---- refusals in every mode

pub commit-idle : refusal settings mounted events.Commit ≡ Some refusals.NotRecording
commit-idle = refl

pub erase-recording : refusal settings started events.Erase ≡ Some refusals.Busy
erase-recording = refl

pub dismount-recording : refusal settings started events.Dismount ≡ Some refusals.Busy
dismount-recording = refl

pub dismount-unmounted : refusal settings new events.Dismount ≡ Some refusals.NotMounted
dismount-unmounted = refl

pub event-too-large : refusal settings started (events.Event 4096 1000) ≡ Some refusals.BadEvent
event-too-large = refl

-- a count is judged before the number
pub event-out-of-range : refusal settings started (events.Event 4096 281474976710656) ≡ Some refusals.CountRange
event-out-of-range = refl

pub event-back : refusal settings (record started { last_event = Some 1000 }) (events.Event 4096 999) ≡ Some refusals.CountBack
event-back = refl

pub seal-of-nothing : refusal settings mounted events.Seal ≡ Some refusals.NoSuchFile
seal-of-nothing = refl

pub seal-of-closed : refusal settings stopped events.Seal ≡ Some refusals.NoSuchFile
seal-of-closed = refl

pub seal-of-open : refusal settings (record stopped { files = begun ∷ [] }) events.Seal ≡ None
seal-of-open = refl

pub files-unmounted : refusal settings new events.Files ≡ Some refusals.NotMounted
files-unmounted = refl

pub status-failed : refusal settings (record started { mode = Failed }) events.Status ≡ None
status-failed = refl

pub erase-at-the-end : refusal settings (record stopped { generation = 2 ^ 64 - 1 }) events.Erase ≡ Some refusals.Stale
erase-at-the-end = refl

pub find-in-no-file : refusal settings stopped (events.Find 1 5 0) ≡ Some refusals.NoSuchFile
find-in-no-file = refl

pub find-out-of-range : refusal settings stopped (events.Find 1 5 281474976710656) ≡ Some refusals.CountRange
find-out-of-range = refl

pub count-at-no-date : refusal settings stopped (events.CountAt 1 (record leap_day { day = 30 })) ≡ Some refusals.BadCivil
count-at-no-date = refl

-- two directory blocks list eight files
abbrev pub file_called : ℕ → File
file_called letter = record begun { name = letter ∷ []; closed = true }

pub ninth-file : refusal settings
    (record ticked { files = map file_called (0x41 ∷ 0x42 ∷ 0x43 ∷ 0x44 ∷ 0x45 ∷ 0x46 ∷ 0x47 ∷ 0x48 ∷ []) })
    (events.Start (0x49 ∷ []) []) ≡ Some refusals.DirectoryFull
ninth-file = refl

pub eighth-file : refusal settings (record ticked { files = map file_called (0x41 ∷ 0x42 ∷ 0x43 ∷ 0x44 ∷ 0x45 ∷ 0x46 ∷ 0x47 ∷ []) })
    (events.Start (0x49 ∷ []) []) ≡ None
eighth-file = refl

pub stale-cursor : refusal settings (record (read 0 [] stopped) { files = []; generation = 1 })
    (events.Advance 0) ≡ Some refusals.Stale
stale-cursor = refl

-- ---- the modes

pub unmounted-pump : refusal settings new (events.Pump 5 1) ≡ Some refusals.NotMounted
unmounted-pump = refl

pub mounted-again : refusal settings mounted events.Mount ≡ Some refusals.AlreadyMounted
mounted-again = refl

pub mount-recording : refusal settings started events.Mount ≡ Some refusals.AlreadyMounted
mount-recording = refl

pub stop-idle : refusal settings mounted events.Stop ≡ Some refusals.NotRecording
stop-idle = refl

-- offers are taken in every mode, and nothing else by a recorder that failed
abbrev pub failed_machine : Machine
failed_machine = record started { mode = Failed }

pub stop-failed : refusal settings failed_machine events.Stop ≡ Some refusals.Failed
stop-failed = refl

pub mount-failed : refusal settings failed_machine events.Mount ≡ Some refusals.Failed
mount-failed = refl

pub offer-unmounted : refusal settings new (events.Offer 5 0 (text [])) ≡ None
offer-unmounted = refl

pub offer-failed : refusal settings failed_machine (events.Offer 5 1001 (text [])) ≡ None
offer-failed = refl

-- losses are taken in every mode too
pub loss-unmounted : refusal settings new (events.Lose 5 1) ≡ None
loss-unmounted = refl

pub loss-failed : refusal settings failed_machine (events.Lose 5 1) ≡ None
loss-failed = refl

pub loss-idle : refusal settings mounted (events.Lose 6 (2 ^ 64 - 1)) ≡ None
loss-idle = refl

-- ---- starts and ticks

pub no-time : refusal settings mounted (events.Start [] []) ≡ Some refusals.NoTime
no-time = refl

pub setup-too-long : (text : List ℕ) → length text ≡ 524261
    → refusal settings mounted (events.Start [] text) ≡ Some refusals.TooLong
setup-too-long text long = rw long refl

pub bad-name : refusal settings ticked (events.Start [] []) ≡ Some refusals.BadName
bad-name = refl

pub start-recording : refusal settings started (events.Start [] []) ≡ Some refusals.Busy
start-recording = refl

pub taken-name : refusal settings stopped (events.Start name []) ≡ Some refusals.NameTaken
taken-name = refl

-- two directory blocks have room for more files
pub second-file : refusal settings stopped (events.Start (0x46 ∷ []) []) ≡ None
second-file = refl

pub unsealed : refusal settings (record stopped { files = begun ∷ [] }) (events.Start (0x46 ∷ []) []) ≡ Some refusals.Unsealed
unsealed = refl

pub no-such-date : refusal settings mounted (events.Tick 1000 (record leap_day { year = 2023 })) ≡ Some refusals.BadCivil
no-such-date = refl

pub tick-back : refusal settings ticked (events.Tick 999 leap_day) ≡ Some refusals.CountBack
tick-back = refl

pub tick-again : refusal settings ticked (events.Tick 1000 leap_day) ≡ None
tick-again = refl

pub tick-out-of-range : refusal settings ticked (events.Tick 281474976710656 leap_day) ≡ Some refusals.CountRange
tick-out-of-range = refl

-- a tick while recording is an entry
pub tick-recording : Step settings started (events.Tick 2000 leap_day) replies.Done
    (record started {
      tick = Some (record { count = 2000; civil = leap_day });
      files = record begun { entries = first_time ∷ record first_time { count = 2000 } ∷ [] } ∷ [];
    })
tick-recording = (lit≤ tt, (refl, (refl, refl)))

-- ---- offers and pumps

pub no-channel : refusal settings started (events.Offer 99 1000 (text [])) ≡ Some refusals.NoSuchChannel
no-channel = refl

pub pump-no-channel : refusal settings started (events.Pump 99 1) ≡ Some refusals.NoSuchChannel
pump-no-channel = refl

pub time-offered : refusal settings started (events.Offer 5 1001 (messages.Time leap_day)) ≡ Some refusals.WrongKind
time-offered = refl

pub sub-too-large : refusal settings started (events.Offer 5 281474976710656 (uart_message false 16384 []))
    ≡ Some refusals.BadMessage
sub-too-large = refl

-- a packet of 128 bytes has room for a message of 88 without a checksum, and of 86 with one
abbrev pub short : ℕ → Machine
short check =
    record new {
      lanes = record {
        spec = record (channel 5 2) { check = check; bytes = 128 };
        waiting = [];
        last = None;
        missed = 0;
        lost = 0;
        erased = 0;
      } ∷ [];
    }

pub longest : refusal settings (short 0) (events.Offer 5 1000 (text (replicate 88 0))) ≡ None
longest = refl

pub too-long : refusal settings (short 0) (events.Offer 5 281474976710656 (text (replicate 89 0))) ≡ Some refusals.TooLong
too-long = refl

pub longest-checked : refusal settings (short 8) (events.Offer 5 1000 (text (replicate 86 0))) ≡ None
longest-checked = refl

pub too-long-checked : refusal settings (short 8) (events.Offer 5 1000 (text (replicate 88 0))) ≡ Some refusals.TooLong
too-long-checked = refl

pub highest-count : refusal settings started (events.Offer 5 281474976710655 (text [])) ≡ None
highest-count = refl

pub count-too-large : refusal settings started (events.Offer 5 281474976710656 (text [])) ≡ Some refusals.CountRange
count-too-large = refl

pub count-back-before-overflow : refusal settings filled_lane (events.Offer 5 1001 (text [])) ≡ Some refusals.CountBack
count-back-before-overflow = refl

pub overflow : refusal settings filled_lane (events.Offer 5 1002 (text [])) ≡ Some refusals.Overflow
overflow = refl

pub other-channel : refusal settings filled_lane (events.Offer 6 0 (text [])) ≡ None
other-channel = refl

-- a refusal that isn't an overflow is not counted
pub refused-uncounted : Step settings filled_lane (events.Offer 5 1001 (text [])) (replies.Refused refusals.CountBack) filled_lane
refused-uncounted = (lit≤ tt, (refl, refl))

-- losses outside: on no channel, of none, and beside an overflow
pub loss-no-channel : Step settings started (events.Lose 99 1) (replies.Refused refusals.NoSuchChannel) started
loss-no-channel = (lit≤ tt, (refl, refl))

pub loss-of-none : Step settings lost (events.Lose 5 0) replies.Done lost
loss-of-none = (lit≤ tt, (refl, refl))

pub loss-outside : Step settings lost (events.Lose 5 41) replies.Done (record lost {
  lanes = record {
    spec = channel 5 2;
    waiting = record { count = 1001; message = text (0x41 ∷ []); gap = Whole }
        ∷ record { count = 1002; message = text (0x42 ∷ []); gap = Whole } ∷ [];
    last = Some 1002;
    missed = 42;
    lost = 42;
    erased = 0;
  } ∷ record { spec = channel 6 4; waiting = []; last = None; missed = 0; lost = 0; erased = 0 } ∷ [];
})
loss-outside = (lit≤ tt, (refl, refl))

-- an entry that has room isn't left: a pump that moves nothing is no step
pub moves-none : (next : Machine) → Replies settings 0 filled_lane (events.Pump 5 1) (replies.Moved 0) next → ⊥
moves-none next (fine, (takes, some, is)) = omega (arith, some (lit< tt))

-- nor are fewer moved than have room
pub moves-one : (next : Machine) → Replies settings 0 filled_lane (events.Pump 5 2) (replies.Moved 1) next → ⊥
moves-one next (fine, (takes, some, is)) = omega (arith, takes)

-- ---- cursors

pub file-not-there : refusal settings stopped (events.Cursor 1 [] 0 5000) ≡ Some refusals.NoSuchFile
file-not-there = refl

pub range-before-file : refusal settings stopped (events.Cursor 1 [] 0 281474976710656) ≡ Some refusals.CountRange
range-before-file = refl

pub unknown-idle : refusal settings mounted (events.Advance 9) ≡ Some refusals.NoCursor
unknown-idle = refl

pub unknown-unmounted : refusal settings new (events.Advance 9) ≡ Some refusals.NotMounted
unknown-unmounted = refl

pub next-unknown : refusal settings new (events.Next 9) ≡ Some refusals.NoCursor
next-unknown = refl

pub close-unknown : refusal settings failed_machine (events.Close 0) ≡ Some refusals.NoCursor
close-unknown = refl

pub next-failed : refusal settings (read 0 [] failed_machine) (events.Next 0) ≡ None
next-failed = refl

pub not-read-out : refusal settings (read 0 (first_time ∷ []) stopped) (events.Advance 0) ≡ Some refusals.Unread
not-read-out = refl

pub stale-before-unread : refusal settings (record (read 0 (first_time ∷ []) stopped) { generation = 1 })
    (events.Advance 0) ≡ Some refusals.Stale
stale-before-unread = refl

-- ---- room: a medium of three blocks, and a file with a setup of 100 bytes

-- the second message waits
abbrev pub full : Machine
full = record (with_lane 5 (accepted 1002 (four_bytes 2)) started) { files = full_file ∷ [] }

pub full-pump : Step narrow full (events.Pump 5 1) (replies.Refused refusals.MediumFull) full
full-pump = (lit≤ tt, (refl, refl))

pub full-pumps-none : Step narrow full (events.Pump 5 0) (replies.Moved 0) full
full-pumps-none = (lit≤ tt, (refl, (refl, λ some. absurd (omega (arith, some)), refl)))

-- what has no room waits for another file
pub full-stop : Step narrow full events.Stop (replies.Stopped (record { taken = 0; left = 1 }))
    (record full { mode = Idle; files = record full_file { shown = 2; closed = true; size = 216 } ∷ [] })
full-stop = (lit≤ tt, (refl, (refl, refl, refl)))

pub full-tick : Step narrow full (events.Tick 2000 leap_day) (replies.Refused refusals.MediumFull) full
full-tick = (lit≤ tt, (refl, refl))

-- a start whose setup and time have no room
pub no-room-to-start : Step narrow (record ticked { lanes = full.lanes }) (events.Start name (replicate 249 0))
    (replies.Refused refusals.MediumFull) (record ticked { lanes = full.lanes })
no-room-to-start = (lit≤ tt, (refl, refl))

pub room-to-start : has_room narrow ticked (events.Start name (replicate 248 0)) ≡ true
room-to-start = refl

-- want of memory is no answer where there is no room
pub no-memory-no-room : has_room narrow full (events.Pump 5 1) ≡ false
no-memory-no-room = refl

-- ---- a failure of the medium

-- a count that rose in a call that was answered
pub counted-rise : Step settings new events.Mount replies.Done (record mounted { failures = 3 })
counted-rise = (lit≤ tt, (refl, refl))

-- a failure that wasn't counted is no answer
pub uncounted : Step settings new events.Mount (replies.Refused refusals.Medium) (record new { mode = Failed }) → ⊥
uncounted (more, (uses, room, rose, fails)) = omega (arith, rose (lit< tt))

-- a pump that fails may lose what it was to take, and no more
pub pump-fails : Step settings lost (events.Pump 5 1) (replies.Refused refusals.Medium)
    (record (with_lane 5 (without 1) lost) { mode = Failed; failures = 1 })
pump-fails = (
  lit≤ tt,
  (
    refl,
    refl,
    λ less. lit< tt,
    record {
      end = record lost { failures = 1 };
      either = inl refl;
      files = refl;
      lanes = ((1, lit≤ tt, refl), ((0, lit≤ tt, refl), tt));
      rest = refl;
    },
  ),
)

-- an offer doesn't fail, and nor does a loss that is reported
pub offer-fails : (next : Machine) → Step settings started (events.Offer 5 1001 (text [])) (replies.Refused refusals.Medium) next
    → ⊥
offer-fails next (more, (uses, room, rose, fails)) = cc

pub loss-fails : (next : Machine) → Step settings started (events.Lose 5 1) (replies.Refused refusals.Medium) next → ⊥
loss-fails next (more, (uses, room, rose, fails)) = cc

pub loss-lacks-memory : (next : Machine) → Step settings started (events.Lose 5 1) (replies.Refused refusals.OutOfMemory) next → ⊥
loss-lacks-memory next (more, (asks, room, is)) = cc

-- ---- recording events

pub first-event : (event_entry settings 3 1000 begun).message ≡ messages.Event 3 0
first-event = refl

pub second-event : (event_entry settings 3 1000 (record begun {
  entries = first_time ∷ event_entry settings 3 1000 begun
      ∷ [];
})).message ≡ messages.Event 3 1
second-event = refl

pub other-event : (event_entry settings 4 1000 (record begun {
  entries = first_time ∷ event_entry settings 3 1000 begun
      ∷ [];
})).message ≡ messages.Event 4 0
other-event = refl

-- ---- finding: messages at 1000 and 2000

abbrev pub two_messages : File
two_messages = record begun { entries = first_time ∷ entry 5 1000 (text []) Whole ∷ entry 5 2000 (text []) Whole ∷ []; shown = 3 }

pub finds-the-first : found two_messages 5 1000 ≡ Some (record { number = 0; entry = entry 5 1000 (text []) Whole })
finds-the-first = refl

pub finds-the-second : found two_messages 5 1500 ≡ Some (record { number = 1; entry = entry 5 2000 (text []) Whole })
finds-the-second = refl

pub finds-nothing-later : found two_messages 5 2001 ≡ None
finds-nothing-later = refl

pub finds-nothing-unshown : found (record two_messages { shown = 2 }) 5 1500 ≡ None
finds-nothing-unshown = refl

-- ---- counts at civil times

pub count-later : count_at begun (record leap_day { second = 57; centi = 0 }) ≡ Some 2201000
count-later = refl

pub count-before : count_at begun (record leap_day { centi = 77 }) ≡ None
count-before = refl

-- the last time alone decides, though an earlier one would be in range
pub count-past-the-end : count_at (record begun {
  entries = first_time ∷ entry 1 281474976710655 (messages.Time leap_day) Whole
      ∷ [];
  shown = 2;
}) (record leap_day { centi = 79 }) ≡ None
count-past-the-end = refl

-- ---- status: a full lane and one message lost

pub free-while-recording : free_bytes settings started ≡ 30964
free-while-recording = refl

pub told-of-a-loss : status_of settings (with_lane 5 overflowed filled_lane) ≡ record {
  mode = Recording;
  tick = Some 1000;
  files = 1;
  free = 30964;
  channels = record { channel = 5; waiting = 2; lost = 1; erased = 0 } ∷ record { channel = 6; waiting = 0; lost = 0; erased = 0 }
      ∷ [];
}
told-of-a-loss = refl

pub told-unmounted : (status_of settings new).files ≡ 0
told-unmounted = refl

-- ---- erases and seals

pub erase : Step settings stopped events.Erase replies.Done
    (record stopped { files = []; generation = 1; lanes = map (erased_with stopped.files) stopped.lanes })
erase = (lit≤ tt, (refl, refl))

pub erased-counts : map (λ (l : Lane). l.erased) (map (erased_with stopped.files) stopped.lanes) ≡ 3 ∷ 0 ∷ []
erased-counts = refl

-- a medium of three blocks: a file that costs more than its area isn't sealed
abbrev pub costly : File
costly = record begun { setup = replicate 300 0; first_block = 2 }

pub no-room-for-an-index : has_room narrow (record mounted { files = costly ∷ [] }) events.Seal ≡ false
no-room-for-an-index = refl

pub room-for-an-index : has_room narrow (record mounted { files = record costly { setup = [] } ∷ [] }) events.Seal ≡ true
room-for-an-index = refl
