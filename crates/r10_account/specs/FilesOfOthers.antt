-- The files that a new recorder found: what becomes of them.
use Rattle.std.specs.Prelude.{◌≡◌, Bool, true, false, List, [], ◌∷◌}
use Rattle.r10_body.specs.declared.refusal.Refusal.TheVariants.{Medium}
use Rattle.r10_machine.specs.Machine.{File, shown_entries}
use Rattle.r10_machine.specs.declared.event.Event.TheVariants.{Erase}
use Rattle.r10_machine.specs.declared.reply.Reply.TheVariants.{Done, Refused}
use Rattle.r10_account.specs.Accepted.{Exchange}

-- an erase that was done, or in which the medium failed
abbrev pub may_erase : Exchange → Bool
may_erase (Erase, Done) = true
may_erase (Erase, Refused Medium) = true
may_erase exchange = false

-- the file that was found, with the entries that it had; a seal may have closed it since
pub record StaysFound (found now : File) : Type 0 where
  pub name : now.name ≡ found.name
  pub setup : now.setup ≡ found.setup
  pub first_block : now.first_block ≡ found.first_block
  pub entries : shown_entries now ≡ found.entries
  pub own : now.own ≡ false

-- these are the first files
abbrev pub AreStillFirst : List File → List File → Type 0
AreStillFirst [] files = Unit {0}
AreStillFirst (f ∷ found) (now ∷ files) = StaysFound f now × AreStillFirst found files
AreStillFirst (f ∷ found) [] = ⊥
