-- A fault, and the same fault with its line.
use Rattle.std.specs.Prelude.{◌≡◌, ℕ, Option, Some, IfSome}
use Rattle.r10_text.specs.declared.fault.ScriptFault.{ScriptFault}
use Rattle.r10_text.specs.declared.fault.ScriptFault.TheVariants as script_faults

-- the table and what is wrong there stay, and so does a line that is known
abbrev pub IsLocated : ScriptFault → ScriptFault → Type 0
IsLocated (script_faults.OutOfMemory error) new = new ≡ script_faults.OutOfMemory error
IsLocated (script_faults.Wrong spot wrong) new =
    (line : Option ℕ) × (new ≡ script_faults.Wrong (record { line = line; place = spot.place }) wrong)
    × IfSome spot.line (λ known. line ≡ Some known)
