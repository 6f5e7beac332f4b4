-- Blocks of the file that is written, and what the medium says of all files.
use Rattle.std.proofs.Common.{◌≡◌, ℕ, ◌≤◌, List, length, take, sym, ap, ◌∙◌, length-take-le}
use Rattle.r10_blockout.specs.Blocks.{Shows, bytes_from, first_blocks}
use Rattle.r10_blockout.specs.Output.{Puts}
use Rattle.r10_blockout.proofs.Showing.{stays_shown, whole_put}
use Rattle.r10_machine.specs.Config.{Config}
use Rattle.r10_machine.specs.Machine.{File}
use Rattle.r10_medium.specs.Disk.{Disk, Image, IsWhole}
use Rattle.r10_medium.specs.PowerLoss.{ComesBy, Leaves, PutsSome}
use Rattle.r10_medium.proofs.PowerLoss.{below_puts, reads_now, settled_now, weakened, whole_left}
use Rattle.r10_machine.proofs.Said.{growing_stands}
use Rattle.r10_openfile.specs.Keeping.{StopKeepsFiles, Keeps, StaysKept}

-- blocks of the file's bytes are put, whatever of them: what was shown is shown, and the medium says what it stated
pub keeps_put : (s : Config) (files : List File) (f : File) (bytes : List ℕ) (n : ℕ) (shown a b : Image) → IsWhole a → f.size ≤ length bytes
    → bytes_from shown f.first_block f.size ≡ take f.size bytes → PutsSome f.first_block (first_blocks bytes n) a b → Keeps s files f shown a → Keeps s files f shown b
keeps_put s files f bytes n shown a b whole within shows put keeps =
    let long : length (take f.size bytes) ≡ f.size = length-take-le f.size bytes within in
    let was : bytes_from a f.first_block f.size ≡ take f.size bytes = keeps.bytes ∙ shows in
    let is : Shows b f.first_block (take f.size bytes) = stays_shown bytes f.first_block n a b whole put f.size (ap (bytes_from a f.first_block) long ∙ was) in
    let now : bytes_from b f.first_block f.size ≡ take f.size bytes = ap (bytes_from b f.first_block) (sym long) ∙ is in
    record {
      says = growing_stands s a b files f whole (whole_put bytes f.first_block n a b whole put) keeps.says 0 (below_puts f.first_block (first_blocks bytes n) a b put) (now ∙ sym was);
      bytes = now ∙ sym shows;
    }

-- at every moment
pub kept_put : (s : Config) (files : List File) (f : File) (bytes : List ℕ) (n : ℕ) (old new : Disk) → f.size ≤ length bytes → bytes_from old.blocks f.first_block f.size ≡ take f.size bytes
    → Puts f.first_block (first_blocks bytes n) old new → StaysKept s files f old new
kept_put s files f bytes n old new within shows put kept =
    weakened (ComesBy (PutsSome f.first_block (first_blocks bytes n)) old) (Keeps s files f old.blocks) old new
    (λ image from. keeps_put s files f bytes n old.blocks from.0 image (whole_left old from.0 from.1) within shows from.2 (kept from.0 from.1)) put.moments

-- what a power loss leaves then has the bytes that are read then
pub kept_now : (s : Config) (files : List File) (f : File) (old new : Disk) → Leaves (Keeps s files f old.blocks) old new → StopKeepsFiles s files f new
kept_now s files f old new run image now =
    let left = settled_now (Keeps s files f old.blocks) old new run in
    record { says = (left image now).says; bytes = (left image now).bytes ∙ sym (left new.blocks (reads_now new)).bytes }
