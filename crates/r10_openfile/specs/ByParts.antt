-- What the medium holds while the last file is listed anew, at each moment and where a call fails.
use Rattle.std.specs.Prelude.{◌⊎◌, ℕ, ◌++◌, Bool, List, [], ◌∷◌, Result, OnOk}
use Rattle.r10_blockout.specs.Blocks.{bytes_from, file_blocks}
use Rattle.r10_body.specs.Files.{FileSays}
use Rattle.r10_body.specs.declared.entry.Entry.{Entry}
use Rattle.r10_dirblock.specs.declared.entry.Entry.{Entry as DirectoryEntry}
use Rattle.r10_dirchain.specs.Chain.{at}
use Rattle.r10_dirchain.specs.OnMedium.{Turned}
use Rattle.r10_dirchain.specs.Steps.{last_listing, updated}
use Rattle.r10_dirchain.specs.declared.chain.ChainBlock.{ChainBlock}
use Rattle.r10_medium.specs.Disk.{Disk, Image}
use Rattle.r10_medium.specs.PowerLoss.{ComesBy, Leaves, PutsSome, Settled}

-- Blocks of the file with these bytes were put over the old image, and nothing else; what is between shows from the first
-- block on a file that says this text and these entries, closed or not, as long as an entry tells. Over that the
-- directory lists the last file by the entry.
pub record ListsPut (first : ℕ) (bytes text : List ℕ) (entries : List Entry) (closed : Bool) (e : DirectoryEntry)
    (chain : List ChainBlock) (old image : Image) : Type 0 where
  pub between : Image
  pub puts : PutsSome first (file_blocks bytes) old between
  pub says : FileSays (bytes_from between first e.size) text entries closed
  pub turned : Turned (updated e chain) ((at chain (last_listing chain)).number ∷ []) between image

-- at a moment: blocks of the file are put over those that could be left, or it is listed so
abbrev pub IsRelisting : ℕ → List ℕ → List ℕ → List Entry → Bool → DirectoryEntry → List ChainBlock → Disk → Image → Type 0
IsRelisting first bytes text entries closed e chain old image = ComesBy (PutsSome first (file_blocks bytes)) old image
    ⊎ ListsPut first bytes text entries closed e chain old.blocks image

-- More came after the bytes that the file carried. At every moment, and where the medium fails, blocks of the file are put, or
-- it is listed anew after them; after an Ok a power loss leaves it listed so.
pub record RelistsByParts {T E : Type 0} (first : ℕ) (bytes text : List ℕ) (entries : List Entry) (closed : Bool)
    (e : DirectoryEntry) (chain : List ChainBlock) (old new : Disk) (result : Result T E) : Type 0 where
  pub more : List ℕ
  pub moments : Leaves (IsRelisting first (bytes ++ more) text entries closed e chain old) old new
  pub reads : PutsSome first (file_blocks (bytes ++ more)) old.blocks new.blocks
      ⊎ ListsPut first (bytes ++ more) text entries closed e chain old.blocks new.blocks
  pub durable : OnOk result (Settled (ListsPut first (bytes ++ more) text entries closed e chain old.blocks) new)
