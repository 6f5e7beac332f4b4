-- The bodies of each data type.
use Rattle.std.proofs.Common.{◌≡◌, ℕ, ◌≤◌, List, lit≤, refl, sym, arith}
use Rattle.r10_count.specs.Form.{IsBody}
use Rattle.r10_indexbody.specs.Loss.{IsLossBody}
use Rattle.r10_indexbody.specs.declared.loss.LossBody.{LossBody}
use Rattle.r10_count.specs.declared.civil.Parts.{Parts}
use Rattle.r10_setup.specs.Setup.{IsSetup}
use Rattle.r10_timebody.specs.Time.{IsTime}
use Rattle.r10_event.specs.Event.{IsEventBody}
use Rattle.r10_event.specs.declared.entry.EventEntry.{EventEntry}
use Rattle.r10_indexbody.specs.Entry.{node_form, root_form}
use Rattle.r10_indexbody.specs.declared.entry.NodeEntry.{NodeEntry}
use Rattle.r10_indexbody.specs.declared.entry.RootEntry.{RootEntry}
use Rattle.r10_indexbody.proofs.Nodes.{is_body as is_node, body_is as node_is}
use Rattle.r10_indexbody.proofs.Roots.{is_body as is_root, body_is as root_is}
use Rattle.r10_body.specs.Bodies.{IsBodyOf}
use Rattle.r10_body.specs.Messages.{kind_type}
use Rattle.r10_body.specs.declared.message.Kind.{Kind}
use Rattle.r10_body.specs.declared.message.Kind.TheVariants as kinds
use Rattle.r10_packet_rules.specs.Facts.{kind_of}
use Rattle.r10_packet_rules.specs.declared.facts.PacketKind.TheVariants.{Data}
use Rattle.r10_body.specs.Content.{Content, arinc, bus, discrete, event, message, node, report, root, setup, time, type_of, uart}

-- a channel's packet is one of data
low_type : (kind : Kind) → 0x19 ≤ kind_type kind
low_type kinds.Uart = lit≤ tt
low_type kinds.Bus1553 = lit≤ tt
low_type kinds.Arinc = lit≤ tt
low_type kinds.Discrete = lit≤ tt
low_type kinds.Message = lit≤ tt

pub channel_data : (kind : Kind) (content : Content) → type_of content ≡ kind_type kind → kind_of content ≡ Data
channel_data kind (setup text) is = absurd (omega (arith, is, low_type kind))
channel_data kind (time civil) is = absurd (omega (arith, is, low_type kind))
channel_data kind (event e) is = absurd (omega (arith, is, low_type kind))
channel_data kind (node es) is = absurd (omega (arith, is, low_type kind))
channel_data kind (root es) is = absurd (omega (arith, is, low_type kind))
channel_data kind (report lost) is = absurd (omega (arith, is, low_type kind))
channel_data kind (uart es) is = refl
channel_data kind (bus es) is = refl
channel_data kind (arinc es) is = refl
channel_data kind (discrete bits es) is = refl
channel_data kind (message es) is = refl

pub loss_body_of : (type counter : ℕ) (loss : LossBody) (body : List ℕ) → type ≡ 0 → IsLossBody loss body → IsBodyOf type counter (report loss) body
loss_body_of type counter loss body t is = record { type_is = sym t; fits = is.0; body_is = is.1 }

pub loss_body_only : (type counter : ℕ) (content : Content) (body : List ℕ) → type ≡ 0 → IsBodyOf type counter content body → (loss : LossBody) × IsLossBody loss body
loss_body_only type counter (report loss) body t is = (loss, (is.fits, is.body_is))
loss_body_only type counter content body t is = absurd (omega (arith, is.type_is))

pub setup_body_of : (type counter : ℕ) (text body : List ℕ) → type ≡ 1 → IsSetup text body → IsBodyOf type counter (setup text) body
setup_body_of type counter text body t is = record { type_is = sym t; fits = tt; body_is = is }

pub setup_body_only : (type counter : ℕ) (content : Content) (body : List ℕ) → type ≡ 1 → IsBodyOf type counter content body → (text : List ℕ) × IsSetup text body
setup_body_only type counter (setup text) body t is = (text, is.body_is)
setup_body_only type counter content body t is = absurd (omega (arith, is.type_is))

pub event_body_of : (type counter : ℕ) (e : EventEntry) (body : List ℕ) → type ≡ 2 → IsEventBody e body → IsBodyOf type counter (event e) body
event_body_of type counter e body t is = record { type_is = sym t; fits = is.0; body_is = is.1 }

pub event_body_only : (type counter : ℕ) (content : Content) (body : List ℕ) → type ≡ 2 → IsBodyOf type counter content body → (e : EventEntry) × IsEventBody e body
event_body_only type counter (event e) body t is = (e, (is.fits, is.body_is))
event_body_only type counter content body t is = absurd (omega (arith, is.type_is))

pub time_body_of : (type counter : ℕ) (civil : Parts) (body : List ℕ) → type ≡ 0x11 → IsTime civil body → IsBodyOf type counter (time civil) body
time_body_of type counter civil body t is = record { type_is = sym t; fits = is.0; body_is = is.1 }

pub time_body_only : (type counter : ℕ) (content : Content) (body : List ℕ) → type ≡ 0x11 → IsBodyOf type counter content body → (civil : Parts) × IsTime civil body
time_body_only type counter (time civil) body t is = (civil, (is.fits, is.body_is))
time_body_only type counter content body t is = absurd (omega (arith, is.type_is))

pub node_body_of : (type counter : ℕ) (es : List NodeEntry) (body : List ℕ) → type ≡ 3 → IsBody node_form 0 0 es body → IsBodyOf type counter (node es) body
node_body_of type counter es body t is = let own = is_node es body is in record { type_is = sym t; fits = own.0; body_is = own.1 }

pub root_body_of : (type counter : ℕ) (es : List RootEntry) (body : List ℕ) → type ≡ 3 → IsBody root_form 0 0 es body → IsBodyOf type counter (root es) body
root_body_of type counter es body t is = let own = is_root es body is in record { type_is = sym t; fits = own.0; body_is = own.1 }

pub index_body_only : (type counter : ℕ) (content : Content) (body : List ℕ) → type ≡ 3 → ((es : List NodeEntry) × IsBody node_form 0 0 es body → ⊥) → ((es : List RootEntry) × IsBody root_form 0 0 es body → ⊥)
    → IsBodyOf type counter content body → ⊥
index_body_only type counter (node es) body t nodes roots is = nodes (es, node_is es body (is.fits, is.body_is))
index_body_only type counter (root es) body t nodes roots is = roots (es, root_is es body (is.fits, is.body_is))
index_body_only type counter content body t nodes roots is = absurd (omega (arith, is.type_is))

-- no body of another data type is this recorder's
pub other_type : (type : ℕ) (content : Content) → (type ≡ 0 → ⊥) → (type ≡ 1 → ⊥) → (type ≡ 2 → ⊥) → (type ≡ 3 → ⊥) → (type ≡ 0x11 → ⊥) → (type ≡ 0x19 → ⊥) → (type ≡ 0x29 → ⊥) → (type ≡ 0x30 → ⊥)
    → (type ≡ 0x38 → ⊥) → (type ≡ 0x50 → ⊥) → type_of content ≡ type → ⊥
other_type type (setup text) loss first second third fourth bus_type discrete_type message_type arinc_type uart_type is = first (sym is)
other_type type (time civil) loss first second third fourth bus_type discrete_type message_type arinc_type uart_type is = fourth (sym is)
other_type type (event e) loss first second third fourth bus_type discrete_type message_type arinc_type uart_type is = second (sym is)
other_type type (uart es) loss first second third fourth bus_type discrete_type message_type arinc_type uart_type is = uart_type (sym is)
other_type type (bus es) loss first second third fourth bus_type discrete_type message_type arinc_type uart_type is = bus_type (sym is)
other_type type (arinc es) loss first second third fourth bus_type discrete_type message_type arinc_type uart_type is = arinc_type (sym is)
other_type type (discrete bits es) loss first second third fourth bus_type discrete_type message_type arinc_type uart_type is = discrete_type (sym is)
other_type type (message es) loss first second third fourth bus_type discrete_type message_type arinc_type uart_type is = message_type (sym is)
other_type type (node es) loss first second third fourth bus_type discrete_type message_type arinc_type uart_type is = third (sym is)
other_type type (root es) loss first second third fourth bus_type discrete_type message_type arinc_type uart_type is = third (sym is)
other_type type (report lost) loss first second third fourth bus_type discrete_type message_type arinc_type uart_type is = loss (sym is)
