-- What a table of a script has under its keys.
use Rattle.std.specs.Prelude.{◌≡◌, ℕ, ℤ, pos, Bool, true, false, List, [], ◌∷◌, map, Option, Some, None, is_some, option_map}
use Rattle.std.specs.Prelude.{option_and_then, if◌then◌else◌}
use Rattle.std.specs.List.{All, list_any}
use Rattle.std.specs.Str.{bytes_eq}
use Rattle.std.specs.Result.{result_ok}
use Rattle.hex.specs.Hex.{decode_of}
use Rattle.toml.specs.Data.{Data, Items, no_items, item, Members, no_members, member, get_member, as_integer, as_str, as_bool}
use Rattle.toml.specs.Data.{as_array}

-- a whole number
abbrev pub integer_at : Members → List ℕ → Option ℤ
integer_at table key = option_and_then as_integer (get_member key table)

-- a whole number, 0 where there is no such key
abbrev pub integer_or_zero_at : Members → List ℕ → Option ℤ
integer_or_zero_at table key = if is_some (get_member key table) then integer_at table key else Some (pos 0)

-- a text
abbrev pub text_at : Members → List ℕ → Option (List ℕ)
text_at table key = option_and_then as_str (get_member key table)

-- the bytes that a text of hex digits represents
abbrev pub bytes_at : Members → List ℕ → Option (List ℕ)
bytes_at table key = option_and_then (λ digits. result_ok (decode_of digits)) (text_at table key)

-- those bytes, none where there is no such key
abbrev pub bytes_or_none_at : Members → List ℕ → Option (List ℕ)
bytes_or_none_at table key = if is_some (get_member key table) then bytes_at table key else Some []

-- a truth value, false where there is no such key
abbrev pub flag_or_false_at : Members → List ℕ → Option Bool
flag_or_false_at table key = if is_some (get_member key table) then option_and_then as_bool (get_member key table) else Some false

-- the items of an array in a list
abbrev pub list_of_items : Items → List Data
list_of_items no_items = []
list_of_items (item d ds) = d ∷ list_of_items ds

-- the items of an array
abbrev pub items_at : Members → List ℕ → Option (List Data)
items_at table key = option_map list_of_items (option_and_then as_array (get_member key table))

-- those items, none where there is no such key
abbrev pub items_or_none_at : Members → List ℕ → Option (List Data)
items_or_none_at table key = if is_some (get_member key table) then items_at table key else Some []

-- the items of an array as whole numbers
abbrev pub integers_at : Members → List ℕ → Option (List (Option ℤ))
integers_at table key = option_map (map as_integer) (items_at table key)

-- the keys of a table
abbrev pub keys_of : Members → List (List ℕ)
keys_of no_members = []
keys_of (member key d rest) = key ∷ keys_of rest

-- the table has no key but these
abbrev pub HasOnly : List (List ℕ) → Members → Type 0
HasOnly known table = All (λ key. list_any (λ word. bytes_eq word key) known ≡ true) (keys_of table)
