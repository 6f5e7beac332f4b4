-- What a directory tells of its files.
use Rattle.std.specs.Prelude.{ℕ, ◌+◌, Bool, true, List, None, Some}
use Rattle.std.specs.List.{last_or, list_any}
use Rattle.std.specs.Str.{bytes_eq}
use Rattle.r10_dirblock.specs.Block.{is_closed}
use Rattle.r10_dirblock.specs.Texts.{stripped}
use Rattle.r10_dirblock.specs.declared.entry.Entry.{Entry}
use Rattle.r10_machine.specs.declared.reply.FileInfo.{FileInfo}

abbrev pub info_in : Entry → FileInfo
info_in e = record { name = stripped e.name; size = e.size; blocks = e.block_count; closed = is_closed e }

-- the block after the last of these files, or after so many reserved ones
abbrev pub block_behind : ℕ → List Entry → ℕ
block_behind reserved entries = elim (last_or None entries) [ None ↦ 1 + reserved | Some e ↦ e.first_block + e.block_count ]

-- a file has this name
abbrev pub has_name : List ℕ → List Entry → Bool
has_name name entries = list_any (λ (e : Entry). bytes_eq (stripped e.name) name) entries

-- the last file is closed, or there is none
abbrev pub is_last_closed : List Entry → Bool
is_last_closed entries = elim (last_or None entries) [ None ↦ true | Some e ↦ is_closed e ]
