-- What a session script came to, and what is written of it.
use Rattle.std.proofs.Common.{◌≡◌, ℕ, Bool, List, map, Option, Some, None, IfSome, subst, ◌∙◌}
use Rattle.std.specs.List.{concat}
use Rattle.std.specs.Io.KnownBytes.{Appends}
use Rattle.r10_session.specs.Text.{session_text}
use Rattle.r10_session.specs.declared.ended.Ended.{Ended}
use Rattle.r10_images.specs.declared.listing.Outcome.{Outcome}
use Rattle.r10_medium.specs.Disk.{Image}
use Rattle.r10_session.specs.Command.{IsSession, SessionLeaves, Sessions, TextCame, outcome_of}
use Rattle.r10_session.specs.Came.{CameOf}
use Rattle.r10_session.specs.Losses.{has_losses}
use Rattle.r10_script.specs.declared.session.SessionScript.{SessionScript}
use Rattle.r10_shared.specs.Orders.{order_of}
use Rattle.r10_shared.specs.declared.order.Order.{Order}

pub came : (remaining : Option (List ℕ)) (all items : List ℕ) (script : SessionScript) (asked : List Bool) (image : Image) (ended : Ended)
    → IfSome remaining (λ left. all ≡ left) → items ≡ all → IsSession items script
    → ((steps : List Order) × (map order_of script.steps.items ≡ map (λ order. Some order) steps)
    × CameOf script.settings.channels steps script.feeds.items script.readers.items image ended)
    → asked ≡ map has_losses script.feeds.items → IfSome remaining (λ text. TextCame text asked image ended)
came None all items script asked image ended whole same spelled ran are = tt
came (Some text) all items script asked image ended whole same spelled ran are = record {
  script = script;
  spelled = subst (λ (t : List ℕ). IsSession t script) (same ∙ whole) spelled;
  steps = ran.0;
  steps_are = ran.1;
  came = ran.2;
  asked_are = are;
}

pub reported : (remaining : Option (List ℕ)) (image : Image) (ended : Ended) (asked : List Bool) (lines : List ℕ) (outcome : Outcome)
    → (old new : Option (List ℕ)) → IfSome remaining (λ text. TextCame text asked image ended) → lines ≡ session_text asked ended
    → Appends old new lines → outcome ≡ outcome_of ended.audit → IfSome remaining (λ text. Sessions text outcome old new)
reported None image ended asked lines outcome old new ran is wrote out = tt
reported (Some text) image ended asked lines outcome old new ran is wrote out = record {
  image = image;
  ended = ended;
  asked = asked;
  came = ran;
  written = subst (λ (l : List ℕ). Appends old new l) is wrote;
  outcome_is = out;
}

pub left : (remaining : Option (List ℕ)) (image : Image) (ended : Ended) (asked : List Bool) (outcome : Outcome) (old new : Option (List ℕ))
    → IfSome remaining (λ text. TextCame text asked image ended) → Appends old new (concat image)
    → outcome ≡ outcome_of ended.audit → IfSome remaining (λ text. SessionLeaves text outcome old new)
left None image ended asked outcome old new ran wrote out = tt
left (Some text) image ended asked outcome old new ran wrote out = record {
  image = image;
  ended = ended;
  asked = asked;
  came = ran;
  written = wrote;
  outcome_is = out;
}
