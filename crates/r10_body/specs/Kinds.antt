-- Kinds of channel: what the packets of one say, by the entries that they have.
use Rattle.std.specs.Prelude.{◌≡◌, ◌↔◌, ℕ, ◌*◌, ◌<◌, List, ◌++◌, length, map, refl}
use Rattle.r10_count.specs.Form.{Form, IsBody, IsForeign}
use Rattle.r10_uart.specs.declared.entry.UartEntry.{UartEntry}
use Rattle.r10_b1553.specs.declared.entry.BusEntry.{BusEntry}
use Rattle.r10_a429.specs.declared.entry.ArincEntry.{ArincEntry}
use Rattle.r10_discrete.specs.declared.entry.DiscreteEntry.{DiscreteEntry}
use Rattle.r10_message.specs.declared.entry.MessageEntry.{MessageEntry}
use Rattle.r10_body.specs.Bodies.{IsBodyOf}
use Rattle.r10_body.specs.Content.{Content, Timed, arinc, bus, discrete, message, messages_of, timed, uart}
use Rattle.r10_body.specs.Foreign.{IsForeignBody}
use Rattle.r10_body.specs.Messages.{kind_type}
use Rattle.r10_body.specs.declared.message.Kind.{Kind}
use Rattle.r10_body.specs.declared.message.Kind.TheVariants as kinds
use Rattle.r10_body.specs.declared.message.Message.TheVariants as messages
use Rattle.std.proofs.Common.{◌%◌, arith}
use Rattle.std.proofs.lemmas.Bool.{eq-eqb}
use Rattle.r10_count.specs.Bytes.{le_bytes}
use Rattle.r10_uart.specs.Uart.{IsForeignUart}
use Rattle.r10_uart.specs.Entry.{uart_form}
use Rattle.r10_uart.proofs.Bodies as uart_laws
use Rattle.r10_b1553.specs.Bus.{IsForeignBus}
use Rattle.r10_b1553.specs.Entry.{bus_form}
use Rattle.r10_b1553.proofs.Bodies as bus_laws
use Rattle.r10_a429.specs.Arinc.{IsForeignArinc}
use Rattle.r10_a429.specs.Entry.{arinc_form}
use Rattle.r10_a429.proofs.Bodies as arinc_laws
use Rattle.r10_discrete.specs.Discrete.{IsForeignDiscrete}
use Rattle.r10_discrete.specs.Entry.{discrete_form}
use Rattle.r10_discrete.proofs.Bodies as discrete_laws
use Rattle.r10_message.specs.Message.{IsForeignMessage}
use Rattle.r10_message.specs.Entry.{message_form}
use Rattle.r10_message.proofs.Bodies as message_laws

-- what packets with entries of one type say
pub record ChannelKind (E : Type 0) : Type 1 where
  -- the kind of the channels that have such packets
  pub kind : Kind
  -- the count that a packet's first entry is spelled after, by the packet's counter
  pub origin : ℕ → ℕ
  -- what a packet of these entries carries, on a channel of this setting
  pub content : ℕ → List E → Content
  -- the message of an entry, with its count
  pub said : E → Timed

-- the bodies of these entries are the bodies of the kind
pub record IsFormOfKind {E : Type 0} (form : Form E) (k : ChannelKind E) : Type 0 where
  pub body : (setting counter : ℕ) (es : List E) (body : List ℕ) → IsBody form setting (k.origin counter) es body
      → IsBodyOf (kind_type k.kind) counter (k.content setting es) body
  pub only : (counter : ℕ) (c : Content) (body : List ℕ) → IsBodyOf (kind_type k.kind) counter c body
      → (setting : ℕ) × (es : List E) × IsBody form setting (k.origin counter) es body × (c ≡ k.content setting es)
  pub messages : (setting counter : ℕ) (es : List E) → messages_of counter (k.content setting es) ≡ map k.said es
  pub count : (e : E) → (k.said e).count ≡ form.count e
  pub foreign : (body : List ℕ) → IsForeign form body ↔ IsForeignBody (kind_type k.kind) body

-- no entries have this body on a channel of another setting and not on one of this
abbrev pub IsSettingIn : {E : Type 0} → Form E → ChannelKind E → List ℕ → ℕ → Type 0
IsSettingIn {E} form k body reported =
    (setting counter : ℕ) (es : List E) → IsBody form setting (k.origin counter) es body
    → IsBody form reported (k.origin counter) es body

-- ---- serial lines

abbrev pub uart_kind : ChannelKind UartEntry
uart_kind = record {
  kind = kinds.Uart;
  origin = λ counter. 0;
  content = λ setting es. uart es;
  said = λ e. timed e.count (messages.Uart e.message);
}

uart_foreign : (body : List ℕ) → IsForeignUart body → IsForeignBody (kind_type kinds.Uart) body
uart_foreign body is = record {
  setup = λ e. absurd (omega (arith, e));
  event = λ e. absurd (omega (arith, e));
  index = λ e. absurd (omega (arith, e));
  time = λ e. absurd (omega (arith, e));
  bus = λ e. absurd (omega (arith, e));
  discrete =
      λ e. absurd (omega (arith, e));
  message = λ e. absurd (omega (arith, e));
  arinc = λ e. absurd (omega (arith, e));
  uart =
      λ _. is;
}

uart_of_any : (body : List ℕ) → IsForeignUart body → IsForeign uart_form body
uart_of_any body is = (is.0, is.1, is.2, refl, is.3, is.4)

-- the setting isn't looked at
pub uart_setting : (setting : ℕ) (es : List UartEntry) (body : List ℕ) → IsBody uart_form setting 0 es body
    → IsBody uart_form 0 0 es body
uart_setting setting es body is = record {
  opens = is.opens;
  suits = is.suits;
  agrees = is.agrees;
  fits = is.fits;
  spelled = is.spelled;
}

uart_makes : (setting counter : ℕ) (es : List UartEntry) (body : List ℕ) → IsBody uart_form setting 0 es body
    → IsBodyOf (kind_type kinds.Uart) counter (uart es) body
uart_makes setting counter es body is = let own = uart_laws.is_body es body (uart_setting setting es body is)
    in record { type_is = refl; fits = own.0; body_is = own.1 }

uart_only : (counter : ℕ) (c : Content) (body : List ℕ) → IsBodyOf (kind_type kinds.Uart) counter c body
    → (setting : ℕ) × (es : List UartEntry) × IsBody uart_form setting 0 es body × (c ≡ uart es)
uart_only counter (uart es) body is = (0, es, uart_laws.body_is es body (is.fits, is.body_is), refl)
uart_only counter c body is = absurd (omega (arith, is.type_is))

pub uart_is_kind : IsFormOfKind uart_form uart_kind
uart_is_kind = record {
  body = uart_makes;
  only = uart_only;
  messages = λ setting counter es. refl;
  count = λ e. refl;
  foreign = λ body. ((λ is. uart_foreign body (uart_laws.foreign_is body is)), (λ is. uart_of_any body (is.uart refl)));
}

-- ---- MIL-STD-1553 buses

abbrev pub bus_kind : ChannelKind BusEntry
bus_kind = record {
  kind = kinds.Bus1553;
  origin = λ counter. 0;
  content = λ setting es. bus es;
  said = λ e. timed e.count (messages.Bus1553 e.message);
}

bus_foreign : (body : List ℕ) → IsForeignBus body → IsForeignBody (kind_type kinds.Bus1553) body
bus_foreign body is = record {
  setup = λ e. absurd (omega (arith, e));
  event = λ e. absurd (omega (arith, e));
  index = λ e. absurd (omega (arith, e));
  time = λ e. absurd (omega (arith, e));
  bus = λ _. is;
  discrete =
      λ e. absurd (omega (arith, e));
  message = λ e. absurd (omega (arith, e));
  arinc = λ e. absurd (omega (arith, e));
  uart =
      λ e. absurd (omega (arith, e));
}

bus_of_any : (body : List ℕ) → IsForeignBus body → IsForeign bus_form body
bus_of_any body is = (is.0, is.1, is.2, eq-eqb (is.0 % 16777216) (length is.1) is.3, is.4, is.5)

-- the setting isn't looked at
pub bus_setting : (setting : ℕ) (es : List BusEntry) (body : List ℕ) → IsBody bus_form setting 0 es body
    → IsBody bus_form 0 0 es body
bus_setting setting es body is = record {
  opens = is.opens;
  suits = is.suits;
  agrees = is.agrees;
  fits = is.fits;
  spelled = is.spelled;
}

bus_makes : (setting counter : ℕ) (es : List BusEntry) (body : List ℕ) → IsBody bus_form setting 0 es body
    → IsBodyOf (kind_type kinds.Bus1553) counter (bus es) body
bus_makes setting counter es body is = let own = bus_laws.is_body es body (bus_setting setting es body is)
    in record { type_is = refl; fits = own.0; body_is = own.1 }

bus_only : (counter : ℕ) (c : Content) (body : List ℕ) → IsBodyOf (kind_type kinds.Bus1553) counter c body
    → (setting : ℕ) × (es : List BusEntry) × IsBody bus_form setting 0 es body × (c ≡ bus es)
bus_only counter (bus es) body is = (0, es, bus_laws.body_is es body (is.fits, is.body_is), refl)
bus_only counter c body is = absurd (omega (arith, is.type_is))

pub bus_is_kind : IsFormOfKind bus_form bus_kind
bus_is_kind = record {
  body = bus_makes;
  only = bus_only;
  messages = λ setting counter es. refl;
  count = λ e. refl;
  foreign = λ body. ((λ is. bus_foreign body (bus_laws.foreign_is body is)), (λ is. bus_of_any body (is.bus refl)));
}

-- ---- ARINC 429 buses

-- a word has no stamp: the first stands at the packet's counter
abbrev pub arinc_kind : ChannelKind ArincEntry
arinc_kind = record {
  kind = kinds.Arinc;
  origin = λ counter. counter;
  content = λ setting es. arinc es;
  said = λ e. timed e.count (messages.Arinc e.message);
}

arinc_foreign : (body : List ℕ) → IsForeignArinc body → IsForeignBody (kind_type kinds.Arinc) body
arinc_foreign body is = record {
  setup = λ e. absurd (omega (arith, e));
  event = λ e. absurd (omega (arith, e));
  index = λ e. absurd (omega (arith, e));
  time = λ e. absurd (omega (arith, e));
  bus = λ e. absurd (omega (arith, e));
  discrete =
      λ e. absurd (omega (arith, e));
  message = λ e. absurd (omega (arith, e));
  arinc = λ _. is;
  uart =
      λ e. absurd (omega (arith, e));
}

-- the setting isn't looked at
pub arinc_setting : (setting counter : ℕ) (es : List ArincEntry) (body : List ℕ) → IsBody arinc_form setting counter es body
    → IsBody arinc_form 0 counter es body
arinc_setting setting counter es body is = record {
  opens = is.opens;
  suits = is.suits;
  agrees = is.agrees;
  fits = is.fits;
  spelled = is.spelled;
}

arinc_makes : (setting counter : ℕ) (es : List ArincEntry) (body : List ℕ) → IsBody arinc_form setting counter es body
    → IsBodyOf (kind_type kinds.Arinc) counter (arinc es) body
arinc_makes setting counter es body is = let own = arinc_laws.is_body counter es body (arinc_setting setting counter es body is)
    in record { type_is = refl; fits = own.0; body_is = own.1 }

arinc_only : (counter : ℕ) (c : Content) (body : List ℕ) → IsBodyOf (kind_type kinds.Arinc) counter c body
    → (setting : ℕ) × (es : List ArincEntry) × IsBody arinc_form setting counter es body × (c ≡ arinc es)
arinc_only counter (arinc es) body is = (0, es, arinc_laws.body_is counter es body (is.fits, is.body_is), refl)
arinc_only counter c body is = absurd (omega (arith, is.type_is))

pub arinc_is_kind : IsFormOfKind arinc_form arinc_kind
arinc_is_kind = record {
  body = arinc_makes;
  only = arinc_only;
  messages = λ setting counter es. refl;
  count = λ e. refl;
  foreign = λ body. (
    (λ is. arinc_foreign body (arinc_laws.foreign_is body is)),
    (λ is. arinc_laws.is_foreign body (is.arinc refl)),
  );
}

-- ---- discretes

-- the setting is the number of discretes
abbrev pub discrete_kind : ChannelKind DiscreteEntry
discrete_kind = record {
  kind = kinds.Discrete;
  origin = λ counter. 0;
  content = λ setting es. discrete setting es;
  said = λ e. timed e.count (messages.Discrete e.message);
}

discrete_foreign : (body : List ℕ) → IsForeignDiscrete body → IsForeignBody (kind_type kinds.Discrete) body
discrete_foreign body is = record {
  setup = λ e. absurd (omega (arith, e));
  event = λ e. absurd (omega (arith, e));
  index = λ e. absurd (omega (arith, e));
  time = λ e. absurd (omega (arith, e));
  bus = λ e. absurd (omega (arith, e));
  discrete =
      λ _. is;
  message = λ e. absurd (omega (arith, e));
  arinc = λ e. absurd (omega (arith, e));
  uart =
      λ e. absurd (omega (arith, e));
}

-- the word tells the setting
pub discrete_setting : (reported setting : ℕ) (es : List DiscreteEntry) (body : List ℕ)
    → ((bits : ℕ) (rest : List ℕ) → bits < 32 → body ≡ le_bytes 4 (8 * bits) ++ rest → reported ≡ bits)
    → IsBody discrete_form setting 0 es body → IsBody discrete_form reported 0 es body
discrete_setting reported setting es body tells is = discrete_laws.told_body reported setting es body tells
    (discrete_laws.is_body setting es body is)

discrete_makes : (setting counter : ℕ) (es : List DiscreteEntry) (body : List ℕ) → IsBody discrete_form setting 0 es body
    → IsBodyOf (kind_type kinds.Discrete) counter (discrete setting es) body
discrete_makes setting counter es body is = let own = discrete_laws.is_body setting es body is
    in record { type_is = refl; fits = own.0; body_is = own.1 }

discrete_only : (counter : ℕ) (c : Content) (body : List ℕ) → IsBodyOf (kind_type kinds.Discrete) counter c body
    → (setting : ℕ) × (es : List DiscreteEntry) × IsBody discrete_form setting 0 es body × (c ≡ discrete setting es)
discrete_only counter (discrete bits es) body is = (bits, es, discrete_laws.body_is bits es body (is.fits, is.body_is), refl)
discrete_only counter c body is = absurd (omega (arith, is.type_is))

pub discrete_is_kind : IsFormOfKind discrete_form discrete_kind
discrete_is_kind = record {
  body = discrete_makes;
  only = discrete_only;
  messages = λ setting counter es. refl;
  count = λ e. refl;
  foreign = λ body. (
    (λ is. discrete_foreign body (discrete_laws.foreign_is body is)),
    (λ is. discrete_laws.is_foreign body (is.discrete refl)),
  );
}

-- ---- messages of other sources

abbrev pub message_kind : ChannelKind MessageEntry
message_kind = record {
  kind = kinds.Message;
  origin = λ counter. 0;
  content = λ setting es. message es;
  said = λ e. timed e.count (messages.Message e.message);
}

message_foreign : (body : List ℕ) → IsForeignMessage body → IsForeignBody (kind_type kinds.Message) body
message_foreign body is = record {
  setup = λ e. absurd (omega (arith, e));
  event = λ e. absurd (omega (arith, e));
  index = λ e. absurd (omega (arith, e));
  time = λ e. absurd (omega (arith, e));
  bus = λ e. absurd (omega (arith, e));
  discrete =
      λ e. absurd (omega (arith, e));
  message = λ _. is;
  arinc = λ e. absurd (omega (arith, e));
  uart =
      λ e. absurd (omega (arith, e));
}

message_of_any : (body : List ℕ) → IsForeignMessage body → IsForeign message_form body
message_of_any body is = (is.0, is.1, is.2, eq-eqb (is.0 % 65536) (length is.1) is.3, is.4, is.5)

-- the setting isn't looked at
pub message_setting : (setting : ℕ) (es : List MessageEntry) (body : List ℕ) → IsBody message_form setting 0 es body
    → IsBody message_form 0 0 es body
message_setting setting es body is = record {
  opens = is.opens;
  suits = is.suits;
  agrees = is.agrees;
  fits = is.fits;
  spelled = is.spelled;
}

message_makes : (setting counter : ℕ) (es : List MessageEntry) (body : List ℕ) → IsBody message_form setting 0 es body
    → IsBodyOf (kind_type kinds.Message) counter (message es) body
message_makes setting counter es body is = let own = message_laws.is_body es body (message_setting setting es body is)
    in record { type_is = refl; fits = own.0; body_is = own.1 }

message_only : (counter : ℕ) (c : Content) (body : List ℕ) → IsBodyOf (kind_type kinds.Message) counter c body
    → (setting : ℕ) × (es : List MessageEntry) × IsBody message_form setting 0 es body × (c ≡ message es)
message_only counter (message es) body is = (0, es, message_laws.body_is es body (is.fits, is.body_is), refl)
message_only counter c body is = absurd (omega (arith, is.type_is))

pub message_is_kind : IsFormOfKind message_form message_kind
message_is_kind = record {
  body = message_makes;
  only = message_only;
  messages = λ setting counter es. refl;
  count = λ e. refl;
  foreign = λ body. ((λ is. message_foreign body (message_laws.foreign_is body is)), (λ is. message_of_any body (is.message refl)));
}
