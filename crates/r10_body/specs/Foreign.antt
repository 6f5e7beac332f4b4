-- Files that any recorder may have written: each packet is framed, checked and counted, and some are passed over as opaque.
use Rattle.std.specs.Prelude.{◌≡◌, ℕ, ◌<◌, Bool, false, true, not, ◌&&◌, ◌||◌, List, [], ◌∷◌, length, count_by, None, ◌==◌}
use Rattle.std.specs.List.{AllByRecursion, concat, list_any}
use Rattle.r10_count.specs.Bytes.{bit_of}
use Rattle.r10_packet.specs.Framing.{framing_fault, header_at, body_at, has_data_checksum}
use Rattle.r10_packet.specs.Types.{type_user, type_setup, type_event, type_index, type_time}
use Rattle.r10_packet.specs.Types.{type_bus, type_discrete, type_message, type_arinc, type_uart}
use Rattle.r10_packet.specs.declared.header.Header.{Header}
use Rattle.r10_indexbody.specs.Loss as loss_bodies
use Rattle.r10_setup.specs.Setup as setup_bodies
use Rattle.r10_timebody.specs.Time as time_bodies
use Rattle.r10_event.specs.Event as event_bodies
use Rattle.r10_indexbody.specs.Index as index_bodies
use Rattle.r10_uart.specs.Uart as uart_bodies
use Rattle.r10_b1553.specs.Bus as bus_bodies
use Rattle.r10_a429.specs.Arinc as arinc_bodies
use Rattle.r10_discrete.specs.Discrete as discrete_bodies
use Rattle.r10_message.specs.Message as message_bodies

-- the data types that are read: setup, event, index, time, MIL-STD-1553, discrete, message, ARINC 429 and UART
abbrev pub known_types : List ℕ
known_types =
    type_setup ∷ type_event ∷ type_index ∷ type_time ∷ type_bus ∷ type_discrete ∷ type_message ∷ type_arinc ∷ type_uart ∷ []

-- the channel specific word of a body selects a form that isn't read; a body without a whole word selects nothing
abbrev pub selects_other : ℕ → List ℕ → Bool
selects_other type body =
    (type == type_setup && setup_bodies.is_opaque_setup body) || (type == type_event && event_bodies.is_opaque_event body)
    || (type == type_index && index_bodies.is_opaque_index body) || (type == type_time && time_bodies.is_opaque_time body)
    || (type == type_message && message_bodies.is_opaque_message body) || (type == type_uart && uart_bodies.is_opaque_uart body)

-- a loss report, of which nothing more is judged
abbrev pub is_loss_report : ℕ → List ℕ → Bool
is_loss_report type body = type == type_user && loss_bodies.is_loss_body body

-- a packet with a secondary header or with another intra-packet time than the counter's, of another type, or of a form that
-- isn't read
abbrev pub is_opaque_packet : Header → List ℕ → Bool
is_opaque_packet h body =
    bit_of 7 h.flags || bit_of 6 h.flags || not (list_any (λ type. type == h.data_type) known_types
    || is_loss_report h.data_type body)
    || selects_other h.data_type body

-- the body is a word and exactly the entries that its type has
pub record IsForeignBody (type : ℕ) (body : List ℕ) : Type 0 where
  pub setup : type ≡ type_setup → setup_bodies.IsForeignSetup body
  pub event : type ≡ type_event → event_bodies.IsForeignEvents body
  pub index : type ≡ type_index → index_bodies.IsForeignIndex body
  pub time : type ≡ type_time → time_bodies.IsForeignTime body
  pub bus : type ≡ type_bus → bus_bodies.IsForeignBus body
  pub discrete : type ≡ type_discrete → discrete_bodies.IsForeignDiscrete body
  pub message : type ≡ type_message → message_bodies.IsForeignMessage body
  pub arinc : type ≡ type_arinc → arinc_bodies.IsForeignArinc body
  pub uart : type ≡ type_uart → uart_bodies.IsForeignUart body

-- the packet that stands first in these bytes is opaque
abbrev pub opaque_at : List ℕ → Bool
opaque_at bytes = is_opaque_packet (header_at bytes) (body_at bytes)

-- the bytes are one whole packet, opaque or read
pub record IsForeignPacket (bytes : List ℕ) : Type 0 where
  pub framed : framing_fault bytes ≡ None
  pub whole : (header_at bytes).packet_len ≡ length bytes
  pub checked : opaque_at bytes ≡ false → has_data_checksum bytes ≡ true
  pub body : opaque_at bytes ≡ false → IsForeignBody (header_at bytes).data_type (body_at bytes)

-- one packet or more, end to end, of which so many are opaque
abbrev pub IsForeignFile : List ℕ → ℕ → Type 0
IsForeignFile bytes opaque =
    (packets : List (List ℕ)) × (bytes ≡ concat packets) × (0 < length packets)
    × AllByRecursion IsForeignPacket packets × (opaque ≡ count_by opaque_at packets)
