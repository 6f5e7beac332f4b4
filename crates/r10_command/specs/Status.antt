-- The exit status of a command.
use Rattle.std.specs.Prelude.{◌≡◌, ◌⊎◌, ℕ}
use Rattle.r10_text.specs.declared.fault.ScriptFault.TheVariants as script_faults
use Rattle.r10_images.specs.declared.listing.Outcome.{Outcome}
use Rattle.r10_images.specs.declared.listing.Outcome.TheVariants.{Done, Refused}
use Rattle.r10_command.specs.declared.fault.Fault.{Fault}
use Rattle.r10_command.specs.declared.fault.Fault.TheVariants as command_faults

-- 2 where the words, their values or the script are wrong, 3 where memory, the reader or the writer failed
abbrev pub fault_status : Fault → ℕ
fault_status command_faults.NotText = 2
fault_status (command_faults.Usage said) = 2
fault_status (command_faults.Limit limit) = 2
fault_status command_faults.Empty = 2
fault_status (command_faults.Script (script_faults.Wrong place wrong)) = 2
fault_status (command_faults.Script (script_faults.OutOfMemory error)) = 3
fault_status (command_faults.Memory error) = 3
fault_status (command_faults.Read error) = 3
fault_status command_faults.Endless = 3
fault_status (command_faults.Write error) = 3
fault_status (command_faults.Format refusal) = 3

-- the status of a fault
abbrev pub IsFailure : ℕ → Type 0
IsFailure status = (status ≡ 2) ⊎ (status ≡ 3)

-- 0 where the command did its work, 1 where an image refused it or a recording is faulty
abbrev pub outcome_status : Outcome → ℕ
outcome_status Done = 0
outcome_status Refused = 1

-- the command ended so, and what it did has P; or it failed
abbrev pub EndsWithStatus : ℕ → (Outcome → Type 0) → Type 0
EndsWithStatus status P = ((outcome : Outcome) × (status ≡ outcome_status outcome) × P outcome) ⊎ IsFailure status
