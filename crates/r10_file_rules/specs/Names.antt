-- What a root says of an index packet.
use Rattle.std.specs.Prelude.{ℕ}
use Rattle.r10_indexbody.specs.declared.entry.RootEntry.{RootEntry}

abbrev pub root_at : ℕ → ℕ → RootEntry
root_at counter offset = record { counter = counter; offset = offset }
