-- What the message of an offered step asks for.
use Rattle.std.specs.Prelude.{◌≡◌, ◌==◌, ℕ, pos, true, List, Option, Some, is_some, option_map, if◌then◌else◌, codes}
use Rattle.std.specs.List.{find}
use Rattle.toml.specs.Data.{Members, get_member}
use Rattle.r10_body.specs.Messages.{is_kind}
use Rattle.r10_body.specs.declared.message.Kind.{Kind}
use Rattle.r10_body.specs.declared.spec.ChannelSpec.{ChannelSpec}
use Rattle.r10_body.specs.declared.message.Message.{Message}
use Rattle.r10_body.specs.declared.message.Message.TheVariants as messages
use Rattle.r10_text.specs.Line.{words_high_first}
use Rattle.r10_script.specs.Keys.{integer_or_zero_at, text_at, bytes_or_none_at, flag_or_false_at, HasOnly}
use Rattle.r10_script.specs.Kinds.{kind_word, offer_keys}

-- the keys of a message of each kind; no step gives a time or an event
abbrev pub AreMessageKeys : Members → Message → Type 0
AreMessageKeys table (messages.Uart m) =
    (flag_or_false_at table (codes "parity") ≡ Some m.parity)
    × (integer_or_zero_at table (codes "sub") ≡ Some (pos m.sub))
    × (bytes_or_none_at table (codes "bytes") ≡ Some m.bytes)
AreMessageKeys table (messages.Bus1553 m) =
    (integer_or_zero_at table (codes "status") ≡ Some (pos m.status))
    × (integer_or_zero_at table (codes "gap") ≡ Some (pos m.gap))
    × (bytes_or_none_at table (codes "words") ≡ Some (words_high_first m.words))
AreMessageKeys table (messages.Arinc m) =
    (integer_or_zero_at table (codes "bus") ≡ Some (pos m.bus))
    × (flag_or_false_at table (codes "format") ≡ Some m.format)
    × (flag_or_false_at table (codes "parity") ≡ Some m.parity)
    × (flag_or_false_at table (codes "high") ≡ Some m.high)
    × (integer_or_zero_at table (codes "data") ≡ Some (pos m.word))
AreMessageKeys table (messages.Discrete m) = integer_or_zero_at table (codes "states") ≡ Some (pos m.states)
AreMessageKeys table (messages.Message m) =
    (flag_or_false_at table (codes "data") ≡ Some m.data_error)
    × (flag_or_false_at table (codes "format") ≡ Some m.format)
    × (integer_or_zero_at table (codes "sub") ≡ Some (pos m.sub))
    × (bytes_or_none_at table (codes "bytes") ≡ Some m.bytes)
AreMessageKeys table (messages.Time civil) = ⊥
AreMessageKeys table (messages.Event number count) = ⊥

-- the word of the kind of an offered message: the one that the step has, or else that of its channel
abbrev pub offered_word : List ChannelSpec → ℕ → Members → Option (List ℕ)
offered_word channels channel table =
    if is_some (get_member (codes "kind") table) then text_at table (codes "kind")
    else option_map (λ spec. kind_word spec.kind) (find (λ spec. spec.id == channel) channels)

-- a message of this kind, as the keys give it
abbrev pub AreValues : Kind → Members → Message → Type 0
AreValues kind table message = (is_kind kind message ≡ true) × AreMessageKeys table message

-- a message of this kind, under no keys but those of a step that offers one
abbrev pub IsMessageOfKind : Kind → Members → Message → Type 0
IsMessageOfKind kind table message = HasOnly (offer_keys kind) table × AreValues kind table message

abbrev pub IsOffered : List ChannelSpec → ℕ → Members → Message → Type 0
IsOffered channels channel table message = (kind : Kind) × (offered_word channels channel table ≡ Some (kind_word kind))
    × IsMessageOfKind kind table message
