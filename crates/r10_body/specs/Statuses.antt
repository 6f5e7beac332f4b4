-- The numbers that a call of the library answers: 0 where it was done, that of a refusal, or one of its own.
use Rattle.std.specs.Prelude.{ℕ}
use Rattle.r10_body.specs.Refusals.{refusal_number}
use Rattle.r10_body.specs.declared.refusal.Refusal.TheVariants.{Medium, NoSuchChannel, OutOfMemory, Overflow}

-- 6: a channel of this ID is not there
abbrev pub no_channel_status : ℕ
no_channel_status = refusal_number NoSuchChannel

-- 12: as many messages wait in a lane as it may hold
abbrev pub overflow_status : ℕ
overflow_status = refusal_number Overflow

-- 26, which is also the number of `BadDirectory`: no recorder of these settings can use the medium's directory
abbrev pub directory_status : ℕ
directory_status = 26

-- 28: the medium failed
abbrev pub medium_status : ℕ
medium_status = refusal_number Medium

-- 30: memory was refused
abbrev pub memory_status : ℕ
memory_status = refusal_number OutOfMemory

-- the script can't be taken
abbrev pub script_status : ℕ
script_status = 40

-- the medium has another number of blocks than the script says
abbrev pub blocks_status : ℕ
blocks_status = 41

-- less memory was lent than the call needs
abbrev pub room_status : ℕ
room_status = 42

-- a list has no such place
abbrev pub place_status : ℕ
place_status = 43

-- a handle is not open
abbrev pub closed_status : ℕ
closed_status = 44

-- a handle is open already
abbrev pub open_status : ℕ
open_status = 45
