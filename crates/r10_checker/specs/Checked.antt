-- The verdicts on a medium's files.
use Rattle.std.specs.Prelude.{◌≡◌, ◌⊎◌, ℕ, List, length, None, Some}
use Rattle.std.specs.List.{AllZip}
use Rattle.r10_count.specs.Checks.{first_broken}
use Rattle.r10_medium.specs.Disk.{Image}
use Rattle.r10_dirblock.specs.Texts.{stripped}
use Rattle.r10_dirchain.specs.Bad.{IsBad}
use Rattle.r10_dirchain.specs.Chain.{IsDirectory}
use Rattle.r10_dirchain.specs.Mount.{listed}
use Rattle.r10_dirchain.specs.declared.chain.ChainBlock.{ChainBlock}
use Rattle.r10_dirchain.specs.declared.chain.ListedFile.{ListedFile}
use Rattle.r10_body.specs.declared.refusal.Refusal.{Refusal}
use Rattle.r10_body.specs.declared.refusal.Refusal.TheVariants.{BadDirectory, Medium, OutOfMemory}
use Rattle.r10_checker.specs.Verdict.{IsVerdict}
use Rattle.r10_checker.specs.Place.{bytes_on, inside_rules}
use Rattle.r10_checker.specs.declared.media.FileVerdict.{FileVerdict}

-- the file's name without its padding, and the verdict on its bytes
pub record IsFileVerdict (image : Image) (f : ListedFile) (said : FileVerdict) : Type 0 where
  pub name : said.name.items ≡ stripped f.entry.name
  pub verdict : IsVerdict (bytes_on image f.entry) said.verdict

-- the medium has a directory, whose files all lie inside it, and this is stated of them, file by file
abbrev pub AreVerdicts : Image → List FileVerdict → Type 0
AreVerdicts image said =
    (chain : List ChainBlock) × IsDirectory image chain × (first_broken (inside_rules (length image) chain) ≡ None)
    × AllZip (IsFileVerdict image) (listed chain) said

-- the first block that the chain can't take, or that lists the first file outside the medium
abbrev pub IsRefusedBlock : Image → ℕ → Type 0
IsRefusedBlock image n = IsBad image n ⊎ ((chain : List ChainBlock) × IsDirectory image chain
    × (first_broken (inside_rules (length image) chain) ≡ Some n))

-- what a refusal says of the medium; there are no others
abbrev pub IsRefused : Image → Refusal → Type 0
IsRefused image (BadDirectory n) = IsRefusedBlock image n
IsRefused image Medium = Unit {0}
IsRefused image OutOfMemory = Unit {0}
IsRefused image refusal = ⊥
