-- Words of what is printed.
use Rattle.std.specs.Prelude.{ℕ, Bool, true, false, List, codes, if◌then◌else◌}
use Rattle.r10_count.specs.Names.{is_name_byte}

-- a truth value
abbrev pub flag_text : Bool → List ℕ
flag_text true = codes "1"
flag_text false = codes "0"

-- a byte of a name: `?` in place of one that no name has
abbrev pub shown_byte : ℕ → ℕ
shown_byte b = if is_name_byte b then b else 0x3F
