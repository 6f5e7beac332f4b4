-- Data types of packets.
use Rattle.std.specs.Prelude.{ℕ}

-- computer-generated data, format 0, whose form is the user's: a loss report, or another recorder's
abbrev pub type_user : ℕ
type_user = 0x00

-- computer-generated data, format 1: setup
abbrev pub type_setup : ℕ
type_setup = 0x01

-- computer-generated data, format 2: recording events
abbrev pub type_event : ℕ
type_event = 0x02

-- computer-generated data, format 3: an index
abbrev pub type_index : ℕ
type_index = 0x03

-- time data, format 1
abbrev pub type_time : ℕ
type_time = 0x11

-- MIL-STD-1553 data, format 1
abbrev pub type_bus : ℕ
type_bus = 0x19

-- discrete data, format 1
abbrev pub type_discrete : ℕ
type_discrete = 0x29

-- message data, format 0
abbrev pub type_message : ℕ
type_message = 0x30

-- ARINC 429 data, format 0
abbrev pub type_arinc : ℕ
type_arinc = 0x38

-- UART data, format 0
abbrev pub type_uart : ℕ
type_uart = 0x50
