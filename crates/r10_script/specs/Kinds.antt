-- The kinds of channels in a script, and the keys of their tables.
use Rattle.std.specs.Prelude.{List, [], ◌∷◌, ℕ, codes}
use Rattle.r10_body.specs.declared.message.Kind.{Kind}
use Rattle.r10_body.specs.declared.message.Kind.TheVariants as kinds

abbrev pub kind_word : Kind → List ℕ
kind_word kinds.Uart = codes "uart"
kind_word kinds.Bus1553 = codes "1553"
kind_word kinds.Arinc = codes "arinc"
kind_word kinds.Discrete = codes "discrete"
kind_word kinds.Message = codes "message"

-- only a discrete channel has a number of bits
abbrev pub channel_keys : Kind → List (List ℕ)
channel_keys kinds.Discrete = codes "id" ∷ codes "kind" ∷ codes "capacity" ∷ codes "check" ∷ codes "bytes" ∷ codes "number"
    ∷ codes "bits" ∷ []
channel_keys kind = codes "id" ∷ codes "kind" ∷ codes "capacity" ∷ codes "check" ∷ codes "bytes" ∷ codes "number" ∷ []

-- a step that offers a message has the keys of its kind alone
abbrev pub offer_keys : Kind → List (List ℕ)
offer_keys kinds.Uart = codes "do" ∷ codes "channel" ∷ codes "count" ∷ codes "kind" ∷ codes "parity" ∷ codes "sub" ∷ codes "bytes"
    ∷ []
offer_keys kinds.Bus1553 = codes "do" ∷ codes "channel" ∷ codes "count" ∷ codes "kind" ∷ codes "status" ∷ codes "gap"
    ∷ codes "words" ∷ []
offer_keys kinds.Arinc =
    codes "do" ∷ codes "channel" ∷ codes "count" ∷ codes "kind" ∷ codes "bus" ∷ codes "format" ∷ codes "parity" ∷ codes "high"
    ∷ codes "data" ∷ []
offer_keys kinds.Discrete = codes "do" ∷ codes "channel" ∷ codes "count" ∷ codes "kind" ∷ codes "states" ∷ []
offer_keys kinds.Message =
    codes "do" ∷ codes "channel" ∷ codes "count" ∷ codes "kind" ∷ codes "data" ∷ codes "format" ∷ codes "sub" ∷ codes "bytes" ∷ []

-- an item of a feed has its count, and the keys of its channel's kind
abbrev pub item_keys : Kind → List (List ℕ)
item_keys kinds.Uart = codes "count" ∷ codes "parity" ∷ codes "sub" ∷ codes "bytes" ∷ []
item_keys kinds.Bus1553 = codes "count" ∷ codes "status" ∷ codes "gap" ∷ codes "words" ∷ []
item_keys kinds.Arinc = codes "count" ∷ codes "bus" ∷ codes "format" ∷ codes "parity" ∷ codes "high" ∷ codes "data" ∷ []
item_keys kinds.Discrete = codes "count" ∷ codes "states" ∷ []
item_keys kinds.Message = codes "count" ∷ codes "data" ∷ codes "format" ∷ codes "sub" ∷ codes "bytes" ∷ []
