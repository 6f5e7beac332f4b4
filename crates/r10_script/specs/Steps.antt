-- What the table of a step asks for.
use Rattle.std.specs.Prelude.{◌≡◌, ℕ, pos, List, [], ◌∷◌, map, Some, codes}
use Rattle.toml.specs.Data.{Members}
use Rattle.r10_body.specs.declared.spec.ChannelSpec.{ChannelSpec}
use Rattle.r10_count.specs.declared.civil.Parts.{Parts}
use Rattle.r10_machine.specs.declared.event.Event.{Event}
use Rattle.r10_machine.specs.declared.event.Event.TheVariants as events
use Rattle.r10_text.specs.Civil.{civil_text}
use Rattle.r10_text.specs.CivilParts.{HasText}
use Rattle.r10_script.specs.Keys.{integer_at, integers_at, text_at, bytes_at, HasOnly}
use Rattle.r10_script.specs.Offers.{IsOffered}

-- a step of this word, with no other key
abbrev pub IsBareStep : List ℕ → Members → Type 0
IsBareStep word table = (text_at table (codes "do") ≡ Some word) × HasOnly (codes "do" ∷ []) table

-- a step of this word, whose one other key is a cursor's number
abbrev pub IsIdStep : List ℕ → Members → ℕ → Type 0
IsIdStep word table id =
    (text_at table (codes "do") ≡ Some word) × (integer_at table (codes "id") ≡ Some (pos id))
    × HasOnly (codes "do" ∷ codes "id" ∷ []) table

-- the text of a civil time, whose parts are in decimal digits
abbrev pub IsCivilText : Members → Parts → Type 0
IsCivilText table parts = (text_at table (codes "civil") ≡ Some (civil_text parts)) × HasText parts

-- the keys of each event after the word that names it
abbrev pub IsStepTable : List ChannelSpec → Members → Event → Type 0
IsStepTable channels table events.Mount = IsBareStep (codes "mount") table
IsStepTable channels table events.Dismount = IsBareStep (codes "dismount") table
IsStepTable channels table (events.Tick count parts) =
    (text_at table (codes "do") ≡ Some (codes "tick"))
    × (integer_at table (codes "count") ≡ Some (pos count))
    × IsCivilText table parts
    × HasOnly (codes "do" ∷ codes "count" ∷ codes "civil" ∷ []) table
IsStepTable channels table (events.Start name setup) =
    (text_at table (codes "do") ≡ Some (codes "start"))
    × (text_at table (codes "name") ≡ Some name)
    × (bytes_at table (codes "setup") ≡ Some setup)
    × HasOnly (codes "do" ∷ codes "name" ∷ codes "setup" ∷ []) table
IsStepTable channels table (events.Offer channel count message) =
    (text_at table (codes "do") ≡ Some (codes "offer"))
    × (integer_at table (codes "channel") ≡ Some (pos channel))
    × (integer_at table (codes "count") ≡ Some (pos count))
    × IsOffered channels channel table message
IsStepTable channels table (events.Lose channel lost) =
    (text_at table (codes "do") ≡ Some (codes "lose"))
    × (integer_at table (codes "channel") ≡ Some (pos channel))
    × (integer_at table (codes "count") ≡ Some (pos lost))
    × HasOnly (codes "do" ∷ codes "channel" ∷ codes "count" ∷ []) table
IsStepTable channels table (events.Pump channel most) =
    (text_at table (codes "do") ≡ Some (codes "pump"))
    × (integer_at table (codes "channel") ≡ Some (pos channel))
    × (integer_at table (codes "k") ≡ Some (pos most))
    × HasOnly (codes "do" ∷ codes "channel" ∷ codes "k" ∷ []) table
IsStepTable channels table (events.Event number count) =
    (text_at table (codes "do") ≡ Some (codes "event"))
    × (integer_at table (codes "number") ≡ Some (pos number))
    × (integer_at table (codes "count") ≡ Some (pos count))
    × HasOnly (codes "do" ∷ codes "number" ∷ codes "count" ∷ []) table
IsStepTable channels table events.Commit = IsBareStep (codes "commit") table
IsStepTable channels table events.Stop = IsBareStep (codes "stop") table
IsStepTable channels table events.Seal = IsBareStep (codes "seal") table
IsStepTable channels table events.Erase = IsBareStep (codes "erase") table
IsStepTable channels table events.Files = IsBareStep (codes "files") table
IsStepTable channels table events.Status = IsBareStep (codes "status") table
IsStepTable channels table (events.Cursor file ids from to) =
    (text_at table (codes "do") ≡ Some (codes "cursor"))
    × (integer_at table (codes "file") ≡ Some (pos file))
    × (integers_at table (codes "channels") ≡ Some (map (λ n. Some (pos n)) ids))
    × (integer_at table (codes "from") ≡ Some (pos from))
    × (integer_at table (codes "to") ≡ Some (pos to))
    × HasOnly (codes "do" ∷ codes "file" ∷ codes "channels" ∷ codes "from" ∷ codes "to" ∷ []) table
IsStepTable channels table (events.Advance id) = IsIdStep (codes "advance") table id
IsStepTable channels table (events.Next id) = IsIdStep (codes "next") table id
IsStepTable channels table (events.Close id) = IsIdStep (codes "close") table id
IsStepTable channels table (events.Find file channel count) =
    (text_at table (codes "do") ≡ Some (codes "find"))
    × (integer_at table (codes "file") ≡ Some (pos file))
    × (integer_at table (codes "channel") ≡ Some (pos channel))
    × (integer_at table (codes "count") ≡ Some (pos count))
    × HasOnly (codes "do" ∷ codes "file" ∷ codes "channel" ∷ codes "count" ∷ []) table
IsStepTable channels table (events.CountAt file parts) =
    (text_at table (codes "do") ≡ Some (codes "count_at"))
    × (integer_at table (codes "file") ≡ Some (pos file))
    × IsCivilText table parts
    × HasOnly (codes "do" ∷ codes "file" ∷ codes "civil" ∷ []) table
