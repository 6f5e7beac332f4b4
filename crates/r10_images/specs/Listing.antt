-- The lines of an image's files.
use Rattle.std.specs.Prelude.{◌≡◌, ℕ, ◌+◌, List, [], ◌∷◌, ◌++◌, Option, codes, map}
use Rattle.std.specs.Fmt.{decimal}
use Rattle.std.specs.Io.KnownBytes.{Appends}
use Rattle.r10_count.specs.Printed.{flag_text, shown_byte}
use Rattle.r10_medium.specs.Disk.{Image}
use Rattle.r10_dirblock.specs.Block.{is_closed}
use Rattle.r10_dirblock.specs.Texts.{stripped}
use Rattle.r10_dirblock.specs.declared.entry.Entry.{Entry}
use Rattle.r10_dirchain.specs.Bad.{IsBad}
use Rattle.r10_dirchain.specs.Chain.{listed_files, IsDirectory}
use Rattle.r10_dirchain.specs.declared.chain.ChainBlock.{ChainBlock}
use Rattle.r10_images.specs.declared.listing.Outcome.{Outcome}
use Rattle.r10_images.specs.declared.listing.Outcome.TheVariants.{Done, Refused}

-- a name as it is printed, without the zero bytes and spaces after it
abbrev pub shown_name : Entry → List ℕ
shown_name e = map shown_byte (stripped e.name)

-- `file`, the file's number, its name, its size in bytes, its blocks, and whether it is closed
abbrev pub listed_file_line : ℕ → Entry → List ℕ
listed_file_line n e =
    (codes "file " ++ (decimal n ++ codes " "))
    ++ (shown_name e
    ++ (codes " "
    ++ (decimal e.size ++ (codes " " ++ (decimal e.block_count ++ (codes " " ++ (flag_text (is_closed e) ++ codes "\n")))))))

-- the lines of the files from number n on
abbrev pub listed_file_lines : ℕ → List Entry → List ℕ
listed_file_lines n [] = []
listed_file_lines n (e ∷ entries) = listed_file_line n e ++ listed_file_lines (n + 1) entries

-- the first block of the chain that can't be taken
abbrev pub refusal_line : ℕ → List ℕ
refusal_line block = codes "refused 26 BadDirectory " ++ (decimal block ++ codes "\n")

-- the lines of the files of the medium's directory, or the refusal where it has none
abbrev pub PrintsFiles : Image → Outcome → List ℕ → Type 0
PrintsFiles image Done text = (chain : List ChainBlock) × IsDirectory image chain
    × (text ≡ listed_file_lines 0 (listed_files chain))
PrintsFiles image Refused text = (block : ℕ) × IsBad image block × (text ≡ refusal_line block)

-- a writer was given them
abbrev pub ListsFiles : Image → Outcome → Option (List ℕ) → Option (List ℕ) → Type 0
ListsFiles image outcome old new = (text : List ℕ) × PrintsFiles image outcome text × Appends old new text
