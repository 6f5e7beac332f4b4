-- A body that the recorder writes is one that another recorder may have written too.
use Rattle.std.proofs.Common.{◌≡◌, ℕ, List, length, inl, inr, subst, ap, arith}
use Rattle.r10_count.proofs.Bodies.{body_is_foreign}
use Rattle.r10_event.proofs.Events.{event_is_foreign}
use Rattle.r10_indexbody.proofs.Nodes as nodes
use Rattle.r10_indexbody.proofs.Roots as roots
use Rattle.r10_indexbody.specs.Entry.{node_form, root_form}
use Rattle.r10_uart.proofs.Bodies as uart_laws
use Rattle.r10_uart.specs.Entry.{uart_form}
use Rattle.r10_b1553.proofs.Bodies as bus_laws
use Rattle.r10_b1553.specs.Entry.{bus_form}
use Rattle.r10_a429.proofs.Bodies as arinc_laws
use Rattle.r10_a429.specs.Entry.{arinc_form}
use Rattle.r10_discrete.proofs.Bodies as discrete_laws
use Rattle.r10_discrete.specs.Entry.{discrete_form}
use Rattle.r10_message.proofs.Bodies as message_laws
use Rattle.r10_message.specs.Entry.{message_form}
use Rattle.r10_body.specs.Bodies.{SaysMessages}
use Rattle.r10_body.specs.Content.{Content, Timed, type_of, body_of, FitsContent, setup, time, event, uart, bus, arinc, discrete, message, node, root, report}
use Rattle.r10_body.specs.Foreign.{IsForeignBody}

content_is_foreign : (counter : ℕ) (content : Content) (body : List ℕ) → FitsContent counter content → body ≡ body_of counter content → IsForeignBody (type_of content) body
content_is_foreign counter (setup text) body fits is = record { setup = λ _. omega (arith, ap length is); event = λ e. absurd (omega (arith, e)); index = λ e. absurd (omega (arith, e)); time = λ e. absurd (omega (arith, e)); bus = λ e. absurd (omega (arith, e)); discrete = λ e. absurd (omega (arith, e)); message = λ e. absurd (omega (arith, e)); arinc = λ e. absurd (omega (arith, e)); uart = λ e. absurd (omega (arith, e)) }
content_is_foreign counter (time civil) body fits is = record { setup = λ e. absurd (omega (arith, e)); event = λ e. absurd (omega (arith, e)); index = λ e. absurd (omega (arith, e)); time = λ _. ap length is; bus = λ e. absurd (omega (arith, e)); discrete = λ e. absurd (omega (arith, e)); message = λ e. absurd (omega (arith, e)); arinc = λ e. absurd (omega (arith, e)); uart = λ e. absurd (omega (arith, e)) }
content_is_foreign counter (event e) body fits is = record { setup = λ e. absurd (omega (arith, e)); event = λ _. event_is_foreign e body (fits, is); index = λ e. absurd (omega (arith, e)); time = λ e. absurd (omega (arith, e)); bus = λ e. absurd (omega (arith, e)); discrete = λ e. absurd (omega (arith, e)); message = λ e. absurd (omega (arith, e)); arinc = λ e. absurd (omega (arith, e)); uart = λ e. absurd (omega (arith, e)) }
content_is_foreign counter (uart entries) body fits is = record { setup = λ e. absurd (omega (arith, e)); event = λ e. absurd (omega (arith, e)); index = λ e. absurd (omega (arith, e)); time = λ e. absurd (omega (arith, e)); bus = λ e. absurd (omega (arith, e)); discrete = λ e. absurd (omega (arith, e)); message = λ e. absurd (omega (arith, e)); arinc = λ e. absurd (omega (arith, e)); uart = λ _. uart_laws.foreign_is body (body_is_foreign uart_form 0 0 entries body (uart_laws.body_is entries body (fits, is))) }
content_is_foreign counter (bus entries) body fits is = record { setup = λ e. absurd (omega (arith, e)); event = λ e. absurd (omega (arith, e)); index = λ e. absurd (omega (arith, e)); time = λ e. absurd (omega (arith, e)); bus = λ _. bus_laws.foreign_is body (body_is_foreign bus_form 0 0 entries body (bus_laws.body_is entries body (fits, is))); discrete = λ e. absurd (omega (arith, e)); message = λ e. absurd (omega (arith, e)); arinc = λ e. absurd (omega (arith, e)); uart = λ e. absurd (omega (arith, e)) }
content_is_foreign counter (arinc entries) body fits is = record { setup = λ e. absurd (omega (arith, e)); event = λ e. absurd (omega (arith, e)); index = λ e. absurd (omega (arith, e)); time = λ e. absurd (omega (arith, e)); bus = λ e. absurd (omega (arith, e)); discrete = λ e. absurd (omega (arith, e)); message = λ e. absurd (omega (arith, e)); arinc = λ _. arinc_laws.foreign_is body (body_is_foreign arinc_form 0 counter entries body (arinc_laws.body_is counter entries body (fits, is))); uart = λ e. absurd (omega (arith, e)) }
content_is_foreign counter (discrete bits entries) body fits is = record { setup = λ e. absurd (omega (arith, e)); event = λ e. absurd (omega (arith, e)); index = λ e. absurd (omega (arith, e)); time = λ e. absurd (omega (arith, e)); bus = λ e. absurd (omega (arith, e)); discrete = λ _. discrete_laws.foreign_is body (body_is_foreign discrete_form bits 0 entries body (discrete_laws.body_is bits entries body (fits, is))); message = λ e. absurd (omega (arith, e)); arinc = λ e. absurd (omega (arith, e)); uart = λ e. absurd (omega (arith, e)) }
content_is_foreign counter (message entries) body fits is = record { setup = λ e. absurd (omega (arith, e)); event = λ e. absurd (omega (arith, e)); index = λ e. absurd (omega (arith, e)); time = λ e. absurd (omega (arith, e)); bus = λ e. absurd (omega (arith, e)); discrete = λ e. absurd (omega (arith, e)); message = λ _. message_laws.foreign_is body (body_is_foreign message_form 0 0 entries body (message_laws.body_is entries body (fits, is))); arinc = λ e. absurd (omega (arith, e)); uart = λ e. absurd (omega (arith, e)) }
content_is_foreign counter (node entries) body fits is = record { setup = λ e. absurd (omega (arith, e)); event = λ e. absurd (omega (arith, e)); index = λ _. inl (nodes.foreign_is body (body_is_foreign node_form 0 0 entries body (nodes.body_is entries body (fits, is)))); time = λ e. absurd (omega (arith, e)); bus = λ e. absurd (omega (arith, e)); discrete = λ e. absurd (omega (arith, e)); message = λ e. absurd (omega (arith, e)); arinc = λ e. absurd (omega (arith, e)); uart = λ e. absurd (omega (arith, e)) }
content_is_foreign counter (root entries) body fits is = record { setup = λ e. absurd (omega (arith, e)); event = λ e. absurd (omega (arith, e)); index = λ _. inr (roots.foreign_is body (body_is_foreign root_form 0 0 entries body (roots.body_is entries body (fits, is)))); time = λ e. absurd (omega (arith, e)); bus = λ e. absurd (omega (arith, e)); discrete = λ e. absurd (omega (arith, e)); message = λ e. absurd (omega (arith, e)); arinc = λ e. absurd (omega (arith, e)); uart = λ e. absurd (omega (arith, e)) }
content_is_foreign counter (report loss) body fits is = record { setup = λ e. absurd (omega (arith, e)); event = λ e. absurd (omega (arith, e)); index = λ e. absurd (omega (arith, e)); time = λ e. absurd (omega (arith, e)); bus = λ e. absurd (omega (arith, e)); discrete = λ e. absurd (omega (arith, e)); message = λ e. absurd (omega (arith, e)); arinc = λ e. absurd (omega (arith, e)); uart = λ e. absurd (omega (arith, e)) }

pub strict-lenient : (type counter : ℕ) (body : List ℕ) (said : List Timed) → SaysMessages type counter body said → IsForeignBody type body
strict-lenient type counter body said says =
    subst (λ t. IsForeignBody t body) says.1.type_is (content_is_foreign counter says.0 body says.1.fits says.1.body_is)
