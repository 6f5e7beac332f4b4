-- What is printed of a refusal.
use Rattle.std.specs.Prelude.{ℕ, List, [], ◌∷◌, ◌++◌, codes}
use Rattle.std.specs.Fmt.{decimal}
use Rattle.r10_body.specs.Refusals.{refusal_number, refusal_name}
use Rattle.r10_body.specs.declared.fault.FileFault.{FileFault}
use Rattle.r10_body.specs.declared.fault.FileFault.TheVariants as file_faults
use Rattle.r10_body.specs.declared.refusal.Refusal.{Refusal}
use Rattle.r10_body.specs.declared.refusal.Refusal.TheVariants as refusals
use Rattle.r10_text.specs.Words.{spaced}

-- a fault's word, and after it the number of a rule
abbrev pub fault_text : FileFault → List ℕ
fault_text file_faults.Truncated = codes "Truncated"
fault_text file_faults.Sync = codes "Sync"
fault_text file_faults.HeaderSum = codes "HeaderSum"
fault_text file_faults.Length = codes "Length"
fault_text file_faults.DataSum = codes "DataSum"
fault_text file_faults.Body = codes "Body"
fault_text (file_faults.Rule number) = codes "Rule " ++ decimal number

-- the values that a refusal carries: a block, an offset and a fault, or what was seen
abbrev pub refusal_values : Refusal → List (List ℕ)
refusal_values (refusals.BadDirectory block) = decimal block ∷ []
refusal_values (refusals.BadFile offset fault) = decimal offset ∷ fault_text fault ∷ []
refusal_values (refusals.Behind seen) = decimal seen.commits ∷ decimal seen.file ∷ decimal seen.bytes ∷ []
refusal_values refusal = []

-- its number, its name, and the values that it carries
abbrev pub refusal_text : Refusal → List ℕ
refusal_text r = spaced (codes "refused" ∷ decimal (refusal_number r) ∷ refusal_name r ∷ refusal_values r)
