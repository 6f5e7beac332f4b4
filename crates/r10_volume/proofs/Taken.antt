-- Which directory a mount takes: one, or one block at fault.
use Rattle.std.proofs.Common.{◌≡◌, ℕ, List, length, Option, None, Some, ap, ◌∙◌}
use Rattle.r10_count.specs.Checks.{first_broken}
use Rattle.r10_medium.specs.Disk.{Image}
use Rattle.r10_dirchain.specs.declared.chain.ChainBlock.{ChainBlock}
use Rattle.r10_dirchain.specs.declared.read.ChainError.{ChainError}
use Rattle.r10_dirchain.specs.declared.read.ChainError.TheVariants.{BadDirectory, Medium, OutOfMemory}
use Rattle.r10_dirchain.specs.Bad.{IsNoFault}
use Rattle.r10_dirchain.specs.Chain.{IsDirectory}
use Rattle.r10_dirchain.specs.Checked.{IsCheckError}
use Rattle.r10_dirchain.specs.Mount.{mount_rules}
use Rattle.r10_dirchain.proofs.Unique.{not_both, one_directory, one_fault}
use Rattle.r10_machine.specs.Config.{Config}
use Rattle.r10_machine.specs.Machine.{File}
use Rattle.r10_machine.specs.Says.{MediumSays}
use Rattle.r10_volume.specs.Mounting.{IsMountError, NamesBlock, IsUnusable, IsUsable, not_taken, not_used}

abbrev broken_in : ℕ → Image → List ChainBlock → Option ℕ
broken_in reserved image chain = first_broken (mount_rules reserved (length image) chain)

some_none : (n : ℕ) (rules : Option ℕ) → rules ≡ None → rules ≡ Some n → ⊥
some_none n rules none some = cc

one_number : (m n : ℕ) (rules : Option ℕ) → rules ≡ Some m → rules ≡ Some n → m ≡ n
one_number m n rules one other = cc

-- no block is at fault in what can be used
pub none_unusable : (reserved : ℕ) (image : Image) (chain : List ChainBlock) (n : ℕ) → IsUsable reserved image chain → IsUnusable reserved image n → ⊥
none_unusable reserved image chain n usable (not_taken bad) = not_both image chain n usable.directory bad
none_unusable reserved image chain n usable (not_used other is broken) =
    some_none n (broken_in reserved image other) (ap (broken_in reserved image) (one_directory image other chain is usable.directory) ∙ usable.rules) broken

pub one_unusable : (reserved : ℕ) (image : Image) (m n : ℕ) → IsUnusable reserved image m → IsUnusable reserved image n → m ≡ n
one_unusable reserved image m n (not_taken bad) (not_taken other) = one_fault image m n bad other
one_unusable reserved image m n (not_taken bad) (not_used chain is broken) = absurd (not_both image chain m is bad)
one_unusable reserved image m n (not_used chain is broken) (not_taken bad) = absurd (not_both image chain n is bad)
one_unusable reserved image m n (not_used chain is broken) (not_used other that breaks) =
    one_number m n (broken_in reserved image chain) broken (ap (broken_in reserved image) (one_directory image chain other is that) ∙ breaks)

-- ---- errors

pub of_check : (reserved : ℕ) (image : Image) (chain : List ChainBlock) (error : ChainError) → IsDirectory image chain → IsCheckError (mount_rules reserved (length image) chain) error → IsMountError reserved image error
of_check reserved image chain (BadDirectory n) is broken = not_used chain is broken
of_check reserved image chain Medium is broken = tt
of_check reserved image chain OutOfMemory is broken = tt

pub no_error : (reserved : ℕ) (image : Image) (error : ChainError) → IsMountError reserved image error → (chain : List ChainBlock) → IsUsable reserved image chain → IsNoFault error
no_error reserved image (BadDirectory n) bad chain usable = none_unusable reserved image chain n usable bad
no_error reserved image Medium bad chain usable = tt
no_error reserved image OutOfMemory bad chain usable = tt

pub named_error : (reserved : ℕ) (image : Image) (error : ChainError) → IsMountError reserved image error → (n : ℕ) → IsUnusable reserved image n → NamesBlock n error
named_error reserved image (BadDirectory m) bad n unusable = one_unusable reserved image m n bad unusable
named_error reserved image Medium bad n unusable = tt
named_error reserved image OutOfMemory bad n unusable = tt

-- what says files can be used
pub says_usable : (s : Config) (reserved : ℕ) (image : Image) (files : List File) (says : MediumSays s image files) → reserved ≡ s.directory → IsUsable reserved image says.chain
says_usable s reserved image files says e = record {
  directory = says.directory;
  rules = ap (λ (n : ℕ). first_broken (mount_rules n (length image) says.chain)) e ∙ ap (λ (n : ℕ). first_broken (mount_rules s.directory n says.chain)) says.blocks ∙ says.mounts;
}
