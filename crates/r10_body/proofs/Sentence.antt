-- One message has one content.
use Rattle.std.proofs.Common.{◌≡◌, ℕ, List, [], ◌∷◌, length, refl, ap, ◌∙◌, arith}
use Rattle.r10_body.specs.Bodies.{discretes_of, content_of}
use Rattle.r10_body.specs.Content.{Content, Timed, setup, time, event, uart, bus, arinc, discrete, message, node, root, report, messages_of, timed}
use Rattle.r10_body.specs.declared.message.Message.{Message}
use Rattle.r10_body.specs.declared.message.Message.TheVariants as messages

pub content-messages : (bits count : ℕ) (m : Message) → messages_of count (content_of bits count m) ≡ timed count m ∷ []
content-messages bits count (messages.Uart m) = refl
content-messages bits count (messages.Bus1553 m) = refl
content-messages bits count (messages.Arinc m) = refl
content-messages bits count (messages.Discrete m) = refl
content-messages bits count (messages.Message m) = refl
content-messages bits count (messages.Time civil) = refl
content-messages bits count (messages.Event number occurrence) = refl

abbrev first_or : Timed → List Timed → Timed
first_or default [] = default
first_or default (t ∷ ts) = t

first-message : (a b : Timed) → a ∷ [] ≡ b ∷ [] → a.message ≡ b.message
first-message a b e = ap (λ ts. (first_or a ts).message) e

first-count : (a b : Timed) → a ∷ [] ≡ b ∷ [] → a.count ≡ b.count
first-count a b e = ap (λ ts. (first_or a ts).count) e

-- the same message at the same count has the same content
one-content : (bits count other : ℕ) (m n : Message) → timed other n ∷ [] ≡ timed count m ∷ [] → content_of bits other n ≡ content_of bits count m
one-content bits count other m n e =
    ap (λ at. content_of bits at n) (first-count (timed other n) (timed count m) e)
    ∙ ap (content_of bits count) (first-message (timed other n) (timed count m) e)

pub only-content : (count : ℕ) (m : Message) (content : Content) → messages_of count content ≡ timed count m ∷ [] → content ≡ content_of (discretes_of content) count m
only-content count m (setup text) e = absurd (omega (arith, ap length e))
only-content count m (node entries) e = absurd (omega (arith, ap length e))
only-content count m (root entries) e = absurd (omega (arith, ap length e))
only-content count m (report loss) e = absurd (omega (arith, ap length e))
only-content count m (time civil) e = one-content 0 count count m (messages.Time civil) e
only-content count m (event one) e = one-content 0 count one.count m (messages.Event one.number one.occurrence) e
only-content count m (uart []) e = absurd (omega (arith, ap length e))
only-content count m (uart (one ∷ [])) e = one-content 0 count one.count m (messages.Uart one.message) e
only-content count m (uart (one ∷ two ∷ more)) e = absurd (omega (arith, ap length e))
only-content count m (bus []) e = absurd (omega (arith, ap length e))
only-content count m (bus (one ∷ [])) e = one-content 0 count one.count m (messages.Bus1553 one.message) e
only-content count m (bus (one ∷ two ∷ more)) e = absurd (omega (arith, ap length e))
only-content count m (arinc []) e = absurd (omega (arith, ap length e))
only-content count m (arinc (one ∷ [])) e = one-content 0 count one.count m (messages.Arinc one.message) e
only-content count m (arinc (one ∷ two ∷ more)) e = absurd (omega (arith, ap length e))
only-content count m (discrete bits []) e = absurd (omega (arith, ap length e))
only-content count m (discrete bits (one ∷ [])) e = one-content bits count one.count m (messages.Discrete one.message) e
only-content count m (discrete bits (one ∷ two ∷ more)) e = absurd (omega (arith, ap length e))
only-content count m (message []) e = absurd (omega (arith, ap length e))
only-content count m (message (one ∷ [])) e = one-content 0 count one.count m (messages.Message one.message) e
only-content count m (message (one ∷ two ∷ more)) e = absurd (omega (arith, ap length e))
