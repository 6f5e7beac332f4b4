-- Verdicts and faults in words.
use Rattle.std.specs.Prelude.{ℕ, List, ◌++◌, codes}
use Rattle.std.specs.Fmt.{decimal}
use Rattle.r10_body.specs.declared.fault.FileFault.{FileFault}
use Rattle.r10_text.specs.Refusals.{fault_text}
use Rattle.r10_checker.specs.declared.check.Verdict.{Verdict}
use Rattle.r10_checker.specs.declared.check.Verdict.TheVariants.{Strict, Lenient, Faulty}

-- an offset and a fault
abbrev pub place_text : ℕ → FileFault → List ℕ
place_text offset fault = decimal offset ++ (codes " " ++ (fault_text fault ++ codes "\n"))

abbrev pub verdict_line : Verdict → List ℕ
verdict_line Strict = codes "strict\n"
verdict_line (Lenient opaque) = codes "lenient " ++ (decimal opaque ++ codes "\n")
verdict_line (Faulty offset fault) = codes "faulty " ++ place_text offset fault
