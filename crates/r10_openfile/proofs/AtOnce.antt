-- A directory that is turned at once.
use Rattle.std.proofs.Common.{◌≡◌, ◌≢◌, ◌⊎◌, ℕ, ◌<◌, Bool, List, [], ◌∷◌, ◌++◌, Result, inl, inr, ⊎_elim, refl, sym, ◌∙◌, subst}
use Rattle.std.proofs.lemmas.List.Elements.{All-nil}
use Rattle.r10_blockout.specs.Output.{Puts}
use Rattle.r10_body.specs.declared.entry.Entry.{Entry}
use Rattle.r10_count.specs.declared.civil.Parts.{Parts}
use Rattle.r10_dirblock.specs.Block.{begun_entry, sized}
use Rattle.r10_dirblock.specs.declared.entry.Entry.{Entry as DirectoryEntry}
use Rattle.r10_dirchain.specs.OnMedium.{SameButIn, Turned, Turns}
use Rattle.r10_dirchain.specs.Steps.{added, last_block, spare, updated}
use Rattle.r10_dirchain.specs.declared.chain.ChainBlock.{ChainBlock}
use Rattle.r10_medium.proofs.PowerLoss.{Joins, at_rest, below_puts, joined, moved_on, then_stays, weakened, weaker_moves}
use Rattle.r10_medium.specs.Disk.{Disk, Image, Unchanged, block_at}
use Rattle.r10_medium.specs.PowerLoss.{ComesBy, Moves, PutsSome}
use Rattle.r10_openfile.specs.AtOnce.{BeginsAtOnce, HasTurned, IsTurning, SameFront, SparesFront, TurnsAtOnce}
use Rattle.r10_openfile.specs.ByParts.{IsRelisting, ListsPut, RelistsByParts}
use Rattle.r10_volume.proofs.Relisting.{written_in}

fronts : (first : ℕ) (numbers : List ℕ) → Joins (SameFront first numbers)
fronts first numbers = record {
  same = λ a. record { size = refl; blocks = λ k less none. refl };
  next = λ a b c x y. record { size = y.size ∙ x.size; blocks = λ k less none. y.blocks k less none ∙ x.blocks k less none };
}

front_in : (first : ℕ) (numbers : List ℕ) (old new : Image) → SameButIn numbers old new → SameFront first numbers old new
front_in first numbers old new same = record { size = same.size; blocks = λ k less none. same.others k none }

front_puts : (first : ℕ) (blocks old new : Image) → PutsSome first blocks old new → SameFront first [] old new
front_puts first blocks old new put = let below = below_puts first blocks old new put in record { size = below.size; blocks = λ k less none. below.blocks k less }

-- all blocks in front stay
all_front : (first : ℕ) (old new : Image) → SameFront first [] old new → (k : ℕ) → k < first → block_at new k ≡ block_at old k
all_front first old new same k less = same.blocks k less (All-nil (λ (n : ℕ). k ≢ n))

front_more : (first : ℕ) (numbers : List ℕ) (old new : Image) → SameFront first [] old new → SameFront first numbers old new
front_more first numbers old new same = record { size = same.size; blocks = λ k less none. all_front first old new same k less }

-- blocks in front are as they were, and then the directory is turned
turned_behind : (first : ℕ) (made : List ChainBlock) (numbers : List ℕ) (old mid new : Image) → SameFront first [] old mid → HasTurned first made numbers mid new → HasTurned first made numbers old new
turned_behind first made numbers old mid new same turned = record {
  directory = turned.directory;
  front = (fronts first numbers).next old mid new (front_more first numbers old mid same) turned.front;
}

has_turned : (first : ℕ) (made : List ChainBlock) (numbers : List ℕ) (old new : Image) → Turned made numbers old new → HasTurned first made numbers old new
has_turned first made numbers old new turned = record { directory = turned.directory; front = front_in first numbers old new turned.others }

-- a step of the directory
pub turns_at_once : {T E : Type 0} (first : ℕ) (chain made : List ChainBlock) (unlinked changed : List ℕ) (old new : Disk) (result : Result T E) → Turns chain made unlinked changed old new result
    → TurnsAtOnce first made unlinked changed old new
turns_at_once first chain made unlinked changed old new result turns = record {
  moments = weakened (λ image. ComesBy (SameButIn unlinked) old image ⊎ Turned made changed old.blocks image) (IsTurning first made unlinked changed old) old new
      (λ image. ⊎_elim (λ from. inl (from.0, from.1, front_in first unlinked from.0 image from.2)) (λ turned. inr (has_turned first made changed old.blocks image turned))) turns.moments;
  reads = ⊎_elim (λ was. inl (front_in first unlinked old.blocks new.blocks was.others)) (λ is. inr (has_turned first made changed old.blocks new.blocks is)) turns.reads;
}

-- the last file is listed anew
lists_turned : (first : ℕ) (bytes text : List ℕ) (entries : List Entry) (closed : Bool) (e : DirectoryEntry) (chain : List ChainBlock) (old image : Image) → ListsPut first bytes text entries closed e chain old image
    → HasTurned first (updated e chain) (written_in chain) old image
lists_turned first bytes text entries closed e chain old image lists =
    turned_behind first (updated e chain) (written_in chain) old lists.between image (front_puts first _ old lists.between lists.puts) (has_turned first (updated e chain) (written_in chain) lists.between image lists.turned)

pub lists_at_once : {T E : Type 0} (first : ℕ) (bytes text : List ℕ) (entries : List Entry) (closed : Bool) (e : DirectoryEntry) (chain : List ChainBlock) (old new : Disk) (result : Result T E)
    → RelistsByParts first bytes text entries closed e chain old new result → TurnsAtOnce first (updated e chain) [] (written_in chain) old new
lists_at_once first bytes text entries closed e chain old new result parts =
    let all = bytes ++ parts.more in
    let made = updated e chain in
    record {
      moments = weakened (IsRelisting first all text entries closed e chain old) (IsTurning first made [] (written_in chain) old) old new
          (λ image. ⊎_elim (λ from. inl (from.0, from.1, front_puts first _ from.0 image from.2)) (λ lists. inr (lists_turned first all text entries closed e chain old.blocks image lists))) parts.moments;
      reads = ⊎_elim (λ put. inl (front_puts first _ old.blocks new.blocks put)) (λ lists. inr (lists_turned first all text entries closed e chain old.blocks new.blocks lists)) parts.reads;
    }

-- nothing is changed in front
pub spares_puts : (first : ℕ) (blocks : Image) (old new : Disk) → Puts first blocks old new → SparesFront first old new
spares_puts first blocks old new put = record {
  moments = weaker_moves (PutsSome first blocks) (SameFront first []) old new (front_puts first blocks) put.moments;
  reads = front_puts first blocks old.blocks new.blocks put.reads;
}

pub spares_all : (first : ℕ) (disk : Disk) → SparesFront first disk disk
spares_all first disk = record { moments = at_rest (SameFront first []) (fronts first []) disk; reads = (fronts first []).same disk.blocks }

pub spares_stays : (first : ℕ) (old mid new : Disk) → SparesFront first old mid → Unchanged mid new → SparesFront first old new
spares_stays first old mid new spares same = record {
  moments = then_stays (ComesBy (SameFront first []) old) old mid new spares.moments same;
  reads = subst (λ (image : Image). SameFront first [] old.blocks image) (sym same.reads) spares.reads;
}

more_moves : (first : ℕ) (unlinked : List ℕ) (old new : Disk) → SparesFront first old new → Moves (SameFront first unlinked) old new
more_moves first unlinked old new spares = weaker_moves (SameFront first []) (SameFront first unlinked) old new (front_more first unlinked) spares.moments

pub spared_at_once : (first : ℕ) (made : List ChainBlock) (unlinked changed : List ℕ) (old new : Disk) → SparesFront first old new → TurnsAtOnce first made unlinked changed old new
spared_at_once first made unlinked changed old new spares = record {
  moments = weakened (ComesBy (SameFront first unlinked) old) (IsTurning first made unlinked changed old) old new (λ image from. inl from)
      (more_moves first unlinked old new spares);
  reads = inl (front_more first unlinked old.blocks new.blocks spares.reads);
}

-- and then the directory is turned
pub then_at_once : (first : ℕ) (made : List ChainBlock) (unlinked changed : List ℕ) (old mid new : Disk) → SparesFront first old mid → TurnsAtOnce first made unlinked changed mid new → TurnsAtOnce first made unlinked changed old new
then_at_once first made unlinked changed old mid new spares turns =
    let same : Image → Image → Type 0 = SameFront first unlinked in
    let so : Image → Type 0 = IsTurning first made unlinked changed old in
    record {
      moments = joined so old mid new (spared_at_once first made unlinked changed old mid spares).moments
          (weakened (IsTurning first made unlinked changed mid) so mid new
          (λ image. ⊎_elim (λ from. inl (moved_on same (fronts first unlinked) old mid (more_moves first unlinked old mid spares) image from)) (λ is. inr (turned_behind first made changed old.blocks mid.blocks image spares.reads is))) turns.moments);
      reads = ⊎_elim (λ is. inl ((fronts first unlinked).next old.blocks mid.blocks new.blocks (front_more first unlinked old.blocks mid.blocks spares.reads) is)) (λ is. inr (turned_behind first made changed old.blocks mid.blocks new.blocks spares.reads is)) turns.reads;
    }

-- ---- a file that begins

pub begins_nothing : (name : List ℕ) (civil : Parts) (first : ℕ) (chain : List ChainBlock) (old new : Disk) → SparesFront first old new → BeginsAtOnce name civil first chain old new
begins_nothing name civil first chain old new spares = (0, spared_at_once first (added (sized 0 (begun_entry name first civil)) chain) (spare chain) ((last_block chain).number ∷ spare chain) old new spares)

pub begins_listed : (name : List ℕ) (civil : Parts) (first at size : ℕ) (chain : List ChainBlock) (e : DirectoryEntry) (old mid new : Disk) → SparesFront first old mid → at ≡ first → e ≡ sized size (begun_entry name first civil)
    → TurnsAtOnce at (added e chain) (spare chain) ((last_block chain).number ∷ spare chain) mid new → BeginsAtOnce name civil first chain old new
begins_listed name civil first at size chain e old mid new spares same is turns =
    let numbers = (last_block chain).number ∷ spare chain in (
      size,
      then_at_once first (added (sized size (begun_entry name first civil)) chain) (spare chain) numbers old mid new spares
          (subst (λ (x : DirectoryEntry). TurnsAtOnce first (added x chain) (spare chain) numbers mid new) is (subst (λ (n : ℕ). TurnsAtOnce n (added e chain) (spare chain) numbers mid new) same turns)),
    )
