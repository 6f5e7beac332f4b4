-- Memory for a directory that grows.
use Rattle.std.specs.Prelude.{ℕ, vec_capacity}
use Rattle.r10_dirchain.specs.declared.room.Room.{Room}

-- for how many blocks there is memory
abbrev pub block_room : Room → ℕ
block_room room = vec_capacity room.blocks
