-- What is stated of files, file by file.
use Rattle.std.proofs.Common.{◌≡◌, ℕ, ◌+◌, ◌<◌, List, [], ◌∷◌, ◌++◌, length, take, get_or, sym, subst}
use Rattle.std.specs.List.{AllZip}
use Rattle.std.proofs.lemmas.List.{take_more}
use Rattle.std.proofs.lemmas.Slice.Zip.{all_zipped_more}
use Rattle.r10_medium.specs.Disk.{Image}
use Rattle.r10_dirchain.specs.declared.chain.ListedFile.{ListedFile}
use Rattle.r10_checker.specs.Checked.{IsFileVerdict}
use Rattle.r10_checker.specs.declared.media.FileVerdict.{FileVerdict}

-- of one file more
pub one_more : (image read : Image) (fs : List ListedFile) (i : ℕ) (d : ListedFile) (said : List FileVerdict) (v : FileVerdict) → read ≡ image → i < length fs
    → AllZip (IsFileVerdict image) (take i fs) said → IsFileVerdict read (get_or fs i d) v → AllZip (IsFileVerdict image) (take (i + 1) fs) (said ++ v ∷ [])
one_more image read fs i d said v same inside so_far here =
    subst (λ (l : List ListedFile). AllZip (IsFileVerdict image) l (said ++ v ∷ [])) (sym (take_more fs i d inside))
    (all_zipped_more (IsFileVerdict image) (take i fs) said (get_or fs i d) v so_far (subst (λ (m : Image). IsFileVerdict m (get_or fs i d) v) same here))
