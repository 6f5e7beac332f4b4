-- The names of files and volumes.
use Rattle.std.specs.Prelude.{ℕ, Bool, ◌&&◌, ◌||◌, List, length, nat_le, ◌==◌}
use Rattle.std.specs.List.{list_all}

abbrev pub is_within : ℕ → ℕ → ℕ → Bool
is_within low high n = nat_le low n && nat_le n high

-- digits, letters, `.`, `_` and `-`
abbrev pub is_name_byte : ℕ → Bool
is_name_byte b = is_within 0x30 0x39 b || is_within 0x41 0x5A b || is_within 0x61 0x7A b || b == 0x2E || b == 0x5F || b == 0x2D

-- a file's name
abbrev pub is_name : List ℕ → Bool
is_name name = is_within 1 56 (length name) && list_all is_name_byte name

-- a volume's name
abbrev pub is_volume : List ℕ → Bool
is_volume name = is_within 1 32 (length name) && list_all is_name_byte name
