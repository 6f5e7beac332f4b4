-- Events that show no more than before.
use Rattle.std.specs.Prelude.{Bool, true, false}
use Rattle.r10_body.specs.declared.refusal.Refusal.TheVariants.{Medium}
use Rattle.r10_machine.specs.declared.event.Event.{Event as EventValue}
use Rattle.r10_machine.specs.declared.event.Event.TheVariants.{Start, Commit, Stop, Seal, Erase}
use Rattle.r10_machine.specs.declared.reply.Reply.{Reply as ReplyValue}
use Rattle.r10_machine.specs.declared.reply.Reply.TheVariants as replies

-- the events that may show more, or less
abbrev pub may_make : EventValue → Bool
may_make (Start name setup) = true
may_make Commit = true
may_make Stop = true
may_make Seal = true
may_make Erase = true
may_make event = false

-- a reply that doesn't say that the medium failed
abbrev pub IsNoFailure : ReplyValue → Type 0
IsNoFailure (replies.Refused Medium) = ⊥
IsNoFailure reply = Unit {0}
