-- Keys and steps written out.
use Rattle.std.specs.Prelude.{◌≡◌, pos, true, false, [], ◌∷◌, Some, None, codes, refl}
use Rattle.std.specs.List.{list_any}
use Rattle.std.specs.Str.{bytes_eq}
use Rattle.toml.specs.Data.{Members, integer, string, no_members, member}
use Rattle.r10_body.specs.declared.message.Kind.TheVariants as kinds
use Rattle.r10_count.specs.declared.civil.Parts.{Parts}
use Rattle.r10_text.specs.CivilParts.{HasText}
use Rattle.r10_machine.specs.declared.event.Event.TheVariants as events
use Rattle.r10_script.specs.Keys.{bytes_or_none_at, flag_or_false_at, integer_or_zero_at, integers_at, items_at, items_or_none_at}
use Rattle.r10_script.specs.Keys.{HasOnly}
use Rattle.r10_script.specs.Kinds.{channel_keys, offer_keys}
use Rattle.r10_script.specs.Steps.{IsStepTable}

-- what is absent
pub absent-number : integer_or_zero_at no_members (codes "status") ≡ Some (pos 0)
absent-number = refl

pub absent-flag : flag_or_false_at no_members (codes "high") ≡ Some false
absent-flag = refl

pub absent-bytes : bytes_or_none_at no_members (codes "words") ≡ Some []
absent-bytes = refl

-- of items there are none where they may be absent, and nothing is stated for them where they may not
pub absent-steps : items_or_none_at no_members (codes "step") ≡ Some []
absent-steps = refl

pub absent-items : items_at no_members (codes "items") ≡ None
absent-items = refl

pub absent-channels : integers_at no_members (codes "channels") ≡ None
absent-channels = refl

-- what is no array has no items
pub one-step : items_or_none_at (member (codes "step") (integer (pos 1)) no_members) (codes "step") ≡ None
one-step = refl

-- what is there
pub given-number : integer_or_zero_at (member (codes "status") (integer (pos 8192)) no_members) (codes "status") ≡ Some (pos 8192)
given-number = refl

-- `bits` is a key of a discrete channel, and of no other, and of no offered message
pub discrete-bits : list_any (λ word. bytes_eq word (codes "bits")) (channel_keys kinds.Discrete) ≡ true
discrete-bits = refl

pub message-bits : list_any (λ word. bytes_eq word (codes "bits")) (channel_keys kinds.Message) ≡ false
message-bits = refl

pub offered-bits : list_any (λ word. bytes_eq word (codes "bits")) (offer_keys kinds.Discrete) ≡ false
offered-bits = refl

-- steps, each with the keys that its table may have
abbrev sealing : Members
sealing = member (codes "do") (string (codes "seal")) no_members

pub seal-step : HasOnly (codes "do" ∷ []) sealing → IsStepTable [] sealing events.Seal
seal-step only = (refl, only)

abbrev noting : Members
noting = member (codes "count") (integer (pos 1010)) (member (codes "do") (string (codes "event"))
    (member (codes "number") (integer (pos 3)) no_members))

pub event-step : HasOnly (codes "do" ∷ codes "number" ∷ codes "count" ∷ []) noting → IsStepTable [] noting (events.Event 3 1010)
event-step only = (refl, refl, refl, only)

abbrev losing : Members
losing = member (codes "channel") (integer (pos 5)) (member (codes "count") (integer (pos 40))
    (member (codes "do") (string (codes "lose")) no_members))

pub lose-step : HasOnly (codes "do" ∷ codes "channel" ∷ codes "count" ∷ []) losing → IsStepTable [] losing (events.Lose 5 40)
lose-step only = (refl, refl, refl, only)

abbrev finding : Members
finding = member (codes "channel") (integer (pos 5)) (member (codes "count") (integer (pos 1500))
    (member (codes "do") (string (codes "find")) (member (codes "file") (integer (pos 1)) no_members)))

pub find-step : HasOnly (codes "do" ∷ codes "file" ∷ codes "channel" ∷ codes "count" ∷ []) finding
    → IsStepTable [] finding (events.Find 1 5 1500)
find-step only = (refl, refl, refl, refl, only)

abbrev dating : Members
dating = member (codes "civil") (string (codes "2024-02-29 12:34:56.78"))
    (member (codes "do") (string (codes "count_at")) (member (codes "file") (integer (pos 2)) no_members))

abbrev dated : Parts
dated = record { year = 2024; month = 2; day = 29; hour = 12; minute = 34; second = 56; centi = 78 }

pub count-at-step : HasOnly (codes "do" ∷ codes "file" ∷ codes "civil" ∷ []) dating → HasText dated
    → IsStepTable [] dating (events.CountAt 2 dated)
count-at-step only digits = (refl, refl, (refl, digits), only)
