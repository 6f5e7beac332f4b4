-- Single cases of the machine's words: room, what waits, and settings.
use Rattle.std.specs.Prelude.{◌≡◌, ℕ, ◌-◌, ◌^◌, true, List, [], ◌∷◌, ◌++◌, refl, length, map, replicate, Some, None}
use Rattle.r10_count.specs.Checks.{first_broken}
use Rattle.r10_body.specs.declared.entry.Entry.{Entry}
use Rattle.r10_body.specs.declared.gap.Gap.TheVariants.{Whole, Lost}
use Rattle.r10_body.specs.declared.message.Message.{Message}
use Rattle.r10_body.specs.declared.message.Kind.TheVariants as kinds
use Rattle.r10_machine.specs.declared.fault.SettingsFault.TheVariants as settings_faults
use Rattle.r10_machine.specs.Config.{Config}
use Rattle.r10_machine.specs.Machine.{Lane, File, with_entries, rising as in_rising_order}
use Rattle.r10_machine.specs.Room.{blocks_of, cost_of, area, fitting, room_for}
use Rattle.r10_machine.specs.Checks.{is_setup}
use Rattle.r10_machine.specs.Limits.{settings_rules}
use Rattle.r10_machine.specs.Calls.{accepted, losing, overflowed, all_waiting, lanes_without, waiting_count}
use Rattle.r10_machine.specs.Replay.{wanted}
use Rattle.r10_machine.specs.Vectors.{settings, channel, begun, text, entry}

-- ---- setup texts

pub longest-setup : (text : List ℕ) → length text ≡ 524260 → is_setup text ≡ true
longest-setup text long = rw long refl

-- ---- what a cursor wants

pub range-of-entries : wanted [] 1000 1002 (entry 1 999 (text []) Whole ∷ entry 5 1000 (text []) Whole
    ∷ entry 6 1002 (text []) Whole ∷ entry 5 1003 (text []) Whole ∷ [])
    ≡ entry 5 1000 (text []) Whole ∷ entry 6 1002 (text []) Whole ∷ []
range-of-entries = refl

pub channels-of-entries : wanted (6 ∷ 7 ∷ []) 0 5000 (entry 5 1000 (text []) Whole ∷ entry 6 1002 (text []) Whole ∷ [])
    ≡ entry 6 1002 (text []) Whole ∷ []
channels-of-entries = refl

-- ---- room: a medium of three blocks, and a file with a setup of 100 bytes

abbrev pub narrow : Config
narrow = record settings { blocks = 3; directory = 1 }

abbrev pub small_file : File
small_file = record begun { setup = replicate 100 0; first_block = 2 }

pub whole-block : blocks_of 512 ≡ 1
whole-block = refl

pub begun-block : blocks_of 513 ≡ 2
begun-block = refl

pub small-cost : cost_of small_file ≡ 364
small-cost = refl

pub small-area : area narrow small_file ≡ 512
small-area = refl

abbrev pub four_bytes : ℕ → Message
four_bytes n = text (n ∷ n ∷ n ∷ n ∷ [])

abbrev pub full_file : File
full_file = with_entries (entry 5 1001 (four_bytes 1) Whole ∷ []) small_file

pub full-cost : cost_of full_file ≡ 484
full-cost = refl

-- one that fills the area has room
pub just-fits : room_for narrow small_file (entry 5 1 (text (replicate 32 0)) Whole ∷ []) ≡ 1
just-fits = refl

-- an entry after one that doesn't fit isn't taken, though it is shorter
pub none-passes : room_for narrow small_file (entry 5 1 (text (replicate 33 0)) Whole ∷ entry 5 2 (text []) Whole ∷ []) ≡ 0
none-passes = refl

-- two blocks have room for two messages of four bytes and an empty one, and an area that is spent has none
abbrev pub three : List Entry
three = entry 5 1001 (four_bytes 1) Whole ∷ entry 5 1002 (four_bytes 2) Whole ∷ entry 5 1003 (text []) Whole ∷ []

pub fitting-areas : map (λ area. fitting area 364 three) (363 ∷ 483 ∷ 484 ∷ 512 ∷ 1024 ∷ []) ≡ 0 ∷ 0 ∷ 1 ∷ 1 ∷ 3 ∷ []
fitting-areas = refl

-- a message of one byte needs 117 bytes, and one after a loss whose number is reported 185
pub fitting-losses : map (λ area. fitting area 364 (entry 5 1 (text (0x44 ∷ [])) Whole ∷ [])) (480 ∷ 481 ∷ [])
    ++ map (λ area. fitting area 364 (entry 5 1 (text (0x44 ∷ [])) (Lost 3) ∷ [])) (548 ∷ 549 ∷ []) ≡ 0 ∷ 1 ∷ 0 ∷ 1 ∷ []
fitting-losses = refl

-- so that there is no room for one where an empty one had fit
pub loss-has-no-room : room_for narrow small_file (record { channel = 5; count = 1; message = text []; gap = Lost 1 } ∷ []) ≡ 0
loss-has-no-room = refl

-- ---- what waits

-- lanes in another order than their channels, and one that holds more than its capacity
abbrev pub lanes : List Lane
lanes =
    record {
      spec = channel 6 4;
      waiting = record { count = 2000; message = text (0x58 ∷ []); gap = Whole }
          ∷ [];
      last = Some 2000;
      missed = 0;
      lost = 0;
      erased = 0;
    }
    ∷ record {
      spec = channel 5 1;
      waiting = record { count = 2000; message = text (0x59 ∷ []); gap = Whole }
          ∷ record { count = 2001; message = text (0x5A ∷ []); gap = Whole } ∷ [];
      last = Some 2001;
      missed = 0;
      lost = 0;
      erased =
          0;
    }
    ∷ []

abbrev pub two_rising : List Entry
two_rising = entry 5 2000 (text (0x59 ∷ [])) Whole ∷ entry 6 2000 (text (0x58 ∷ [])) Whole ∷ []

pub waiting-by-channel : all_waiting lanes ≡ two_rising
waiting-by-channel = refl

pub rising-channels : in_rising_order (6 ∷ 5 ∷ 9 ∷ 7 ∷ []) ≡ 5 ∷ 6 ∷ 7 ∷ 9 ∷ []
rising-channels = refl

pub one-left : waiting_count (lanes_without two_rising lanes) ≡ 1
one-left = refl

-- an overflow is counted, and marks the next message alone
abbrev pub lossy : Lane
lossy = overflowed (overflowed (record { spec = channel 5 2; waiting = []; last = None; missed = 0; lost = 7; erased = 0 }))

pub two-lost : lossy ≡ record { spec = channel 5 2; waiting = []; last = None; missed = 2; lost = 9; erased = 0 }
two-lost = refl

pub one-gap : map (λ x. x.gap) (accepted 2 (text []) (accepted 1 (text []) lossy)).waiting ≡ Lost 2 ∷ Whole ∷ []
one-gap = refl

-- numbers stay at the greatest
pub lost-at-most : overflowed (record {
  spec = channel 5 1;
  waiting = [];
  last = None;
  missed = 2 ^ 64 - 1;
  lost = 2 ^ 64 - 1;
  erased = 0;
})
    ≡ record { spec = channel 5 1; waiting = []; last = None; missed = 2 ^ 64 - 1; lost = 2 ^ 64 - 1; erased = 0 }
lost-at-most = refl

-- what was lost outside counts beside overflows, before them and after them, and marks the next message alone
pub lost-outside : overflowed (losing 40 lossy) ≡ record {
  spec = channel 5 2;
  waiting = [];
  last = None;
  missed = 43;
  lost = 50;
  erased = 0;
}
lost-outside = refl

pub one-gap-of-all : map (λ x. x.gap) (accepted 2 (text []) (accepted 1 (text []) (overflowed (losing 40 lossy)))).waiting ≡ Lost 43
    ∷ Whole ∷ []
one-gap-of-all = refl

-- a loss of none changes nothing, and marks none
pub none-lost-outside : losing 0 lossy ≡ lossy
none-lost-outside = refl

pub no-gap : map (λ x. x.gap)
    (accepted 1 (text [])
    (losing 0 (record { spec = channel 5 2; waiting = []; last = None; missed = 0; lost = 7; erased = 0 }))).waiting ≡ Whole ∷ []
no-gap = refl

-- each number stays at the greatest by itself
pub lost-outside-at-most : losing 3 (record {
  spec = channel 5 1;
  waiting = [];
  last = None;
  missed = 2 ^ 64 - 4;
  lost = 2 ^ 64 - 3;
  erased = 0;
})
    ≡ record { spec = channel 5 1; waiting = []; last = None; missed = 2 ^ 64 - 1; lost = 2 ^ 64 - 1; erased = 0 }
lost-outside-at-most = refl

-- ---- settings

pub settings-fine : first_broken (settings_rules settings) ≡ None
settings-fine = refl

pub least-settings : first_broken
    (settings_rules
    (record settings {
      blocks = 4;
      volume = 0x41 ∷ [];
      nodes = 1;
      channels = record (channel 5 1) { check = 32; bytes = 128; number = 1 } ∷ [];
    })) ≡ None
least-settings = refl

pub greatest-settings : first_broken
    (settings_rules (record settings { blocks = 16777216; directory = 64; nodes = 32765; channels = channel 65535 65536 ∷ [] }))
    ≡ None
greatest-settings = refl

pub too-few-blocks : first_broken (settings_rules (record settings { blocks = 3; directory = 2 })) ≡ Some settings_faults.Blocks
too-few-blocks = refl

pub too-many-blocks : first_broken (settings_rules (record settings { blocks = 16777217 })) ≡ Some settings_faults.Blocks
too-many-blocks = refl

pub blocks-first : first_broken (settings_rules (record settings { blocks = 3; directory = 65 })) ≡ Some settings_faults.Blocks
blocks-first = refl

pub no-directory : first_broken (settings_rules (record settings { directory = 0; channels = [] })) ≡ Some settings_faults.Directory
no-directory = refl

pub time-is-zero : first_broken (settings_rules (record settings { time = 0 })) ≡ Some (settings_faults.Channel 0)
time-is-zero = refl

pub repeated : first_broken (settings_rules (record settings { event = 5; nodes = 0 })) ≡ Some (settings_faults.Channel 5)
repeated = refl

pub repeated-later : first_broken (settings_rules (record settings { channels = channel 5 0 ∷ channel 6 4 ∷ channel 5 2 ∷ [] }))
    ≡ Some (settings_faults.Channel 5)
repeated-later = refl

pub time-is-event : first_broken (settings_rules (record settings { time = 2 })) ≡ Some (settings_faults.Channel 2)
time-is-event = refl

pub channel-is-time : first_broken (settings_rules (record settings { channels = channel 5 2 ∷ channel 1 2 ∷ channel 5 2 ∷ [] }))
    ≡ Some (settings_faults.Channel 1)
channel-is-time = refl

pub channel-is-zero : first_broken (settings_rules (record settings { nodes = 0; channels = channel 5 2 ∷ channel 0 2 ∷ [] }))
    ≡ Some (settings_faults.Channel 0)
channel-is-zero = refl

pub no-channels : first_broken (settings_rules (record settings { channels = []; time = 2 })) ≡ Some (settings_faults.Channel 0)
no-channels = refl

pub too-many-channels : first_broken (settings_rules (record settings { channels = replicate 65 (channel 5 0); time = 2 })) ≡ Some
    (settings_faults.Channel 0)
too-many-channels = refl

pub capacity-before-check : first_broken (settings_rules
    (record settings { channels = record (channel 5 2) { check = 7 } ∷ channel 6 0 ∷ [] })) ≡ Some (settings_faults.Capacity 6)
capacity-before-check = refl

pub check-before-bytes : first_broken
    (settings_rules (record settings {
      channels = record (channel 5 2) { bytes = 127 } ∷ record (channel 6 4) { check = 24 }
          ∷ [];
    })) ≡ Some (settings_faults.Check 6)
check-before-bytes = refl

pub odd-bytes : first_broken (settings_rules (record settings { channels = record (channel 5 2) { bytes = 130; number = 0 } ∷ [] }))
    ≡ Some (settings_faults.Bytes 5)
odd-bytes = refl

pub number-before-nodes : first_broken
    (settings_rules (record settings { nodes = 0; channels = record (channel 5 2) { number = 65536 } ∷ [] })) ≡ Some
    (settings_faults.Number 5)
number-before-nodes = refl

-- 1 to 31 discretes, and no number of them is asked of another kind
pub too-many-discretes : first_broken
    (settings_rules (record settings {
      nodes = 0;
      channels = record (channel 5 2) { kind = kinds.Discrete; bits = 31 }
          ∷ record (channel 6 2) { kind = kinds.Discrete; bits = 32 } ∷ [];
    })) ≡ Some (settings_faults.Bits 6)
too-many-discretes = refl

pub no-discretes : first_broken
    (settings_rules (record settings {
      channels = record (channel 5 2) { kind = kinds.Message }
          ∷ record (channel 6 2) { kind = kinds.Discrete } ∷ [];
    })) ≡ Some (settings_faults.Bits 6)
no-discretes = refl

pub no-nodes : first_broken (settings_rules (record settings { nodes = 32766; volume = [] })) ≡ Some settings_faults.Nodes
no-nodes = refl

pub no-volume : first_broken (settings_rules (record settings { volume = [] })) ≡ Some settings_faults.Volume
no-volume = refl

pub volume-with-blank : first_broken (settings_rules (record settings { volume = 0x41 ∷ 0x20 ∷ 0x42 ∷ [] }))
    ≡ Some settings_faults.Volume
volume-with-blank = refl
