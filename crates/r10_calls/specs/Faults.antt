-- What a refusal carries, as a caller of another language has it.
use Rattle.std.specs.Prelude.{ℕ}
use Rattle.r10_body.specs.declared.fault.FileFault.{FileFault}
use Rattle.r10_body.specs.declared.fault.FileFault.TheVariants.{Truncated, Sync, HeaderSum, Length, DataSum, Body, Rule}
use Rattle.r10_body.specs.declared.refusal.Refusal.{Refusal}
use Rattle.r10_body.specs.declared.refusal.Refusal.TheVariants.{BadDirectory, BadFile}
use Rattle.r10_machine.specs.declared.reply.Reply.{Reply as ReplyValue}
use Rattle.r10_machine.specs.declared.reply.Reply.TheVariants.{Refused}
use Rattle.r10_calls.specs.declared.fault.FaultOut.{FaultOut}

abbrev pub fault_number : FileFault → ℕ
fault_number Truncated = 1
fault_number Sync = 2
fault_number HeaderSum = 3
fault_number Length = 4
fault_number DataSum = 5
fault_number Body = 6
fault_number (Rule n) = 7

-- which rule is broken, where one is
abbrev pub rule_of : FileFault → ℕ
rule_of Truncated = 0
rule_of Sync = 0
rule_of HeaderSum = 0
rule_of Length = 0
rule_of DataSum = 0
rule_of Body = 0
rule_of (Rule n) = n

-- what it carries; one that carries nothing leaves what was there
abbrev pub fault_of : Refusal → FaultOut → FaultOut
fault_of (BadDirectory block) old = record { at = block; number = 26; fault = 0; rule = 0 }
fault_of (BadFile offset fault) old = record { at = offset; number = 27; fault = fault_number fault; rule = rule_of fault }
fault_of refusal old = old

abbrev pub fault_in : ReplyValue → FaultOut → FaultOut
fault_in (Refused refusal) old = fault_of refusal old
fault_in reply old = old

-- nothing was refused yet that carries something
abbrev pub no_fault : FaultOut
no_fault = record { at = 0; number = 0; fault = 0; rule = 0 }
