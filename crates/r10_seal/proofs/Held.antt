-- The last file closed with its index, among the files that a recorder holds.
use Rattle.std.proofs.Common.{◌≡◌, ℕ, ◌+◌, ◌-◌, ◌*◌, ◌/◌, ◌%◌, ◌≤◌, Bool, true, false, ◌&&◌, List, [], ◌∷◌, ◌++◌, length, None, Some, Result, OnOk, inl, inr, ⊎_elim, refl, sym, ap, subst, ◌∙◌, arith, length-append}
use Rattle.std.specs.Prelude.{not, replicate, ◌==◌}
use Rattle.std.specs.List.{last_or}
use Rattle.std.specs.Str.{bytes_eq}
use Rattle.std.proofs.lemmas.Bool.{ne_eqb}
use Rattle.std.proofs.lemmas.List.{append-nil, nil_from_length}
use Rattle.std.proofs.lemmas.List.Concat.{flat_map-append}
use Rattle.r10_count.specs.declared.civil.Parts.{Parts}
use Rattle.r10_medium.specs.Disk.{Disk, Image, IsWhole, Unchanged}
use Rattle.r10_medium.specs.PowerLoss.{Leaves, PutsSome, SameBelow, Settled}
use Rattle.r10_medium.proofs.PowerLoss.{settled_reads, stayed, weakened, whole_left, whole_reads}
use Rattle.r10_blockout.specs.Blocks.{Shows, bytes_from, file_blocks}
use Rattle.r10_blockout.proofs.Showing.{shown_length}
use Rattle.r10_body.specs.Files.{PacketsSay}
use Rattle.r10_body.specs.Packets.{Packet, file_bytes, file_entries, packet_bytes, packet_entries}
use Rattle.r10_body.specs.Rules.{EachFollows}
use Rattle.r10_body.specs.declared.entry.Entry.{Entry}
use Rattle.r10_packetout.proofs.Closing.{index_says}
use Rattle.r10_dirblock.specs.Block.{is_closed}
use Rattle.r10_dirblock.specs.Texts.{digits, time_text}
use Rattle.r10_dirblock.specs.declared.entry.Entry.{Entry as DirectoryEntry}
use Rattle.r10_dirchain.specs.Chain.{listed_files}
use Rattle.r10_dirchain.specs.OnMedium.{Turned}
use Rattle.r10_dirchain.specs.Steps.{updated}
use Rattle.r10_dirchain.specs.declared.chain.ChainBlock.{ChainBlock}
use Rattle.r10_dirchain.proofs.Turning.{on_ok}
use Rattle.r10_volume.specs.Holding.{HoldsFiles, OthersAreFound}
use Rattle.r10_volume.proofs.Ends.{all_front, all_with}
use Rattle.r10_volume.proofs.OtherFilesStay.{found_stays}
use Rattle.r10_volume.proofs.Relisting.{Relists, made_bytes, made_found, made_says, reserved, written_in}
use Rattle.r10_index.specs.Written.{index_of}
use Rattle.r10_body.proofs.OneMeaning.{one_list}
use Rattle.r10_machine.specs.Config.{Config}
use Rattle.r10_machine.specs.Machine.{File, shown_entries}
use Rattle.r10_machine.specs.Room.{area}
use Rattle.r10_machine.specs.Bytes.{KeepBytes}
use Rattle.r10_machine.proofs.Said.{directory_keeps, growing_kept}
use Rattle.r10_machine.specs.ControlCalls.{closed_in}
use Rattle.r10_machine.specs.Says.{IsFound, Lists, MediumSays, SaysFile}
use Rattle.r10_volume.specs.Settling.{IsSettled, SaysAs}
use Rattle.r10_volume.proofs.Turning.{keep_both}
use Rattle.r10_seal.specs.Judging.{IsSealable}
use Rattle.r10_seal.specs.declared.judging.Sealable.{Sealable}
use Rattle.r10_seal.specs.Leftover.{IsOpenOrClosed, IsLeftOpen, SealsLast, StaysOpen, shown_cost}
use Rattle.r10_seal.specs.Sealing.{ListsSealed, IsPartlySealed, IsSealing, IsUnsealed, SealsFile, sealed, sealed_bytes, sealed_entry}
use Rattle.r10_seal.proofs.LastFile.{area_is, cost, its_packets, lists, long, packets, put_below, put_bytes, put_says, put_whole, said, say, unsealed, usable}
use Rattle.r10_seal.proofs.Placing.{directory_stays, last_place}
use Rattle.r10_seal.proofs.Sealed.{sealed_longer, sealed_say}

-- ---- a time is no dashes

first_apart : (x y : ℕ) (xs ys : List ℕ) → (x ≡ y → ⊥) → not (bytes_eq (x ∷ xs) (y ∷ ys)) ≡ true
first_apart x y xs ys apart = by (x == y) (ne_eqb x y apart)
  where
    by : (b : Bool) → b ≡ false → not (b && bytes_eq xs ys) ≡ true
    by b is = rw is refl

time_closed : (p : Parts) (e : DirectoryEntry) → is_closed (record e { close_time = time_text p }) ≡ true
time_closed p e =
    first_apart (48 + p.hour / 10 % 10) 45 ((48 + p.hour % 10) ∷ (digits p.minute ++ digits p.second ++ digits p.centi)) (replicate 7 45) (λ is. omega (arith, is))

-- ---- an index has no entries

index_none : (nodes : ℕ) (ps : List Packet) → file_entries (index_of nodes ps) ≡ []
index_none nodes ps =
    let all : file_entries (ps ++ index_of nodes ps) ≡ file_entries ps ++ file_entries (index_of nodes ps) = flat_map-append packet_entries ps (index_of nodes ps) in
    nil_from_length (file_entries (index_of nodes ps))
    (omega (arith, length-append (file_entries ps) (file_entries (index_of nodes ps)), ap (λ (es : List Entry). length es) all, ap (λ (es : List Entry). length es) (index_says nodes ps)))

-- packets with the same bytes, whatever they are, are found with the index
found_with : (nodes : ℕ) (found ps : List Packet) → file_bytes found ≡ file_bytes ps → file_bytes (found ++ index_of nodes ps) ≡ sealed_bytes nodes ps
found_with nodes found ps same = flat_map-append packet_bytes found (index_of nodes ps) ∙ ap (λ (l : List ℕ). l ++ file_bytes (index_of nodes ps)) same ∙ sym (flat_map-append packet_bytes ps (index_of nodes ps))

entries_with : (nodes : ℕ) (found ps : List Packet) → file_entries (found ++ index_of nodes ps) ≡ file_entries found
entries_with nodes found ps = flat_map-append packet_entries found (index_of nodes ps) ∙ ap (λ (es : List Entry). file_entries found ++ es) (index_none nodes ps) ∙ append-nil (file_entries found)

-- ---- closed

module _ (s : Config) (old : Image) (chain : List ChainBlock) (nodes : ℕ) (files : List File) (f : File) (left : IsLeftOpen s old chain nodes files f) (whole : IsWhole old) (e : DirectoryEntry) (last : last_or None (listed_files chain) ≡ Some e) where
  abbrev ps : List Packet
  ps = packets s old chain nodes files f left whole

  abbrev g : File
  g = sealed nodes ps f

  size : length (file_bytes ps) ≡ f.size
  size = long s old chain nodes files f left whole

  has : bytes_from old f.first_block f.size ≡ file_bytes ps
  has = (unsealed s old chain nodes files f left whole).bytes_are

  first : e.first_block ≡ f.first_block
  first = (lists s old chain nodes files f left whole e last).first_block

  here : (image : Image) → PutsSome e.first_block (file_blocks (sealed_bytes nodes ps)) old image → PutsSome f.first_block (file_blocks (sealed_bytes nodes ps)) old image
  here image put = subst (λ (n : ℕ). PutsSome n (file_blocks (sealed_bytes nodes ps)) old image) first put

  pub partly_says : (from image : Image) → IsWhole from → MediumSays s from (files ++ f ∷ []) → bytes_from from f.first_block f.size ≡ bytes_from old f.first_block f.size → PutsSome e.first_block (file_blocks (sealed_bytes nodes ps)) from image
      → MediumSays s image (files ++ f ∷ [])
  partly_says from image whole_from says same put = put_says nodes s files f ps from image whole_from size (same ∙ has) (subst (λ (n : ℕ). PutsSome n (file_blocks (sealed_bytes nodes ps)) from image) first put) says

  pub partly_keeps : (image : Image) → PutsSome e.first_block (file_blocks (sealed_bytes nodes ps)) old image → KeepBytes old image (files ++ f ∷ [])
  partly_keeps image put =
      let there = here image put in
      growing_kept s old image files f whole left.held.says 0 (put_below nodes s files f ps old image whole size has there) (put_bytes nodes s files f ps old image whole size has there ∙ sym has)

  module _ (made : List ChainBlock) (image : Image) (closed : ListsSealed nodes e ps chain made old image) where
    abbrev entry : DirectoryEntry
    entry = sealed_entry nodes ps closed.time.civil e

    abbrev mid : Image
    mid = closed.between

    put : PutsSome f.first_block (file_blocks (sealed_bytes nodes ps)) old mid
    put = here mid closed.puts

    mid_whole : IsWhole mid
    mid_whole = put_whole nodes s files f ps old mid whole size has put

    mid_below : SameBelow f.first_block 0 old mid
    mid_below = put_below nodes s files f ps old mid whole size has put

    mid_bytes : bytes_from mid f.first_block f.size ≡ bytes_from old f.first_block f.size
    mid_bytes = put_bytes nodes s files f ps old mid whole size has put ∙ sym has

    shows : Shows mid f.first_block (sealed_bytes nodes ps)
    shows = subst (λ (n : ℕ). Shows mid n (sealed_bytes nodes ps)) first closed.shows

    lists_it : Lists g entry
    lists_it =
        let was = lists s old chain nodes files f left whole e last in
        record { name = was.name; first_block = was.first_block; block_count = refl; size = refl; closed = time_closed closed.time.civil entry }

    says_closed : PacketsSay (ps ++ index_of nodes ps) f.setup (shown_entries f) true
    says_closed =
        let u = unsealed s old chain nodes files f left whole in
        let with_index = sealed_say nodes (bytes_from old f.first_block f.size) f.setup ps u closed.group closed.short in
        record { file = with_index.file; setup_is = with_index.setup_is; entries_are = λ channel. with_index.entries_are channel ∙ (say s old chain nodes files f left whole).entries_are channel; closed_is = with_index.closed_is }

    made_it : SaysFile mid g
    made_it = record {
      inside = omega (arith, (said s old chain nodes files f left whole).inside, closed.puts.size, shown_length mid f.first_block (sealed_bytes nodes ps) mid_whole shows, sealed_longer nodes ps, size);
      says = (ps ++ index_of nodes ps, shows, says_closed);
    }

    relists : Relists s mid chain files f g entry
    relists =
        let place = last_place s.directory old chain e (usable s old chain nodes files f left whole) last in
        record {
          whole = mid_whole;
          there = directory_stays old mid s.directory f.first_block chain (usable s old chain nodes files f left whole) mid_below (omega (arith, place.behind, first));
          says = put_says nodes s files f ps old mid whole size has put left.held.says;
          lists = lists_it;
          made = made_it;
          first = refl;
          some = omega (arith, sealed_longer nodes ps, size);
        }

    turned : Turned (updated entry chain) (written_in chain) mid image
    turned = subst (λ (c : List ChainBlock). Turned c (written_in chain) mid image) closed.made_is closed.turned

    pub closed_says : MediumSays s image (files ++ g ∷ [])
    closed_says = made_says s mid chain files f g entry relists image turned

    pub closed_shows : bytes_from image g.first_block g.size ≡ sealed_bytes nodes ps
    closed_shows = made_bytes s mid chain files f g entry relists image g.size turned ∙ shows

    was_found : OthersAreFound mid (files ++ f ∷ [])
    was_found = found_stays old mid (files ++ f ∷ []) (growing_kept s old mid files f whole left.held.says 0 mid_below mid_bytes) left.held.found

    found_closed : g.own ≡ false → IsFound image g
    found_closed own =
        let was : IsFound old f = (all_front (λ (h : File). h.own ≡ false → IsFound old h) files f left.held.found).1 own in
        let same : was.packets ≡ ps = one_list was.packets ps was.each (unsealed s old chain nodes files f left whole).say.file.each (sym was.bytes_are ∙ has) in record {
          packets = was.packets ++ index_of nodes ps;
          each = subst (λ (l : List Packet). EachFollows [] (l ++ index_of nodes ps)) (sym same) says_closed.file.each;
          bytes_are = closed_shows ∙ sym (found_with nodes was.packets ps (sym was.bytes_are ∙ has));
          entries_are = was.entries_are ∙ sym (entries_with nodes was.packets ps);
          shown = was.shown;
          own = own;
        }

    pub closed_holds : HoldsFiles s image made None (files ++ g ∷ [])
    closed_holds = record {
      says = closed_says;
      directory = closed.turned.directory;
      found = made_found s mid chain files f g entry relists image turned was_found found_closed;
      last = tt;
    }

    -- the files keep the bytes that they showed
    pub closed_keeps : KeepBytes old image (files ++ f ∷ [])
    closed_keeps =
        both (files ++ f ∷ []) (growing_kept s old mid files f whole left.held.says 0 mid_below mid_bytes)
        (directory_keeps s mid image (written_in chain) (files ++ f ∷ []) mid_whole relists.says turned.others (reserved s mid chain files f g entry relists))
      where
        both : (fs : List File) → KeepBytes old mid fs → KeepBytes mid image fs → KeepBytes old image fs
        both [] one two = tt
        both (h ∷ fs) (one, ones) (two, twos) = (two ∙ one, both fs ones twos)

  -- two images that are closed have the same bytes
  pub closed_as : (made other : List ChainBlock) (new image : Image) → ListsSealed nodes e ps chain made old new → ListsSealed nodes e ps chain other old image → SaysAs s (files ++ g ∷ []) new image
  closed_as made other new image one two = record {
    says = closed_says other image two;
    bytes = all_with (λ (h : File). bytes_from image h.first_block h.size ≡ bytes_from new h.first_block h.size) files g (keep_both old new image files (others made new one) (others other image two))
        (closed_shows other image two ∙ sym (closed_shows made new one));
  }
    where
      others : (made : List ChainBlock) (image : Image) → ListsSealed nodes e ps chain made old image → KeepBytes old image files
      others made image closed = (all_front (λ (h : File). bytes_from image h.first_block h.size ≡ bytes_from old h.first_block h.size) files f (closed_keeps made image closed)).0

-- ---- a seal

-- what was sealed is held
pub seals_hold : (s : Config) (old new : Image) (chain made : List ChainBlock) (nodes : ℕ) (files : List File) (f : File) (e : DirectoryEntry) → IsWhole old → IsLeftOpen s old chain nodes files f → last_or None (listed_files chain) ≡ Some e
    → SealsFile old chain e nodes (512 * (length old - e.first_block)) new made → (size : ℕ) × HoldsFiles s new made None (files ++ closed_in size f ∷ [])
seals_hold s old new chain made nodes files f e whole left last seals =
    let ps = packets s old chain nodes files f left whole in
    let closed : ListsSealed nodes e ps chain made old new = subst (λ (qs : List Packet). ListsSealed nodes e qs chain made old new) (its_packets s old chain nodes files f left whole e seals.text seals.packets last seals.unsealed) seals.closed in
    (length (sealed_bytes nodes ps), closed_holds s old chain nodes files f left whole e last made new closed)

pub seals_cost : (s : Config) (old new : Image) (chain made : List ChainBlock) (nodes : ℕ) (files : List File) (f : File) (e : DirectoryEntry) → IsWhole old → IsLeftOpen s old chain nodes files f → last_or None (listed_files chain) ≡ Some e
    → SealsFile old chain e nodes (512 * (length old - e.first_block)) new made → shown_cost f ≤ area s f
seals_cost s old new chain made nodes files f e whole left last seals =
    omega (arith, seals.room, cost s old chain nodes files f left whole e seals.text seals.packets last seals.unsealed, area_is s old chain nodes files f left whole e last)

-- what may be closed has room
pub sealable_costs : (s : Config) (old : Image) (chain : List ChainBlock) (nodes area' : ℕ) (v : Sealable) (files : List File) (f : File) (e : DirectoryEntry) → IsWhole old → IsLeftOpen s old chain nodes files f → last_or None (listed_files chain) ≡ Some e
    → IsSealable (bytes_from old e.first_block e.size) area' v → area' ≡ 512 * (length old - e.first_block) → shown_cost f ≤ area s f
sealable_costs s old chain nodes area' v files f e whole left last is all =
    omega (arith, is.room, all, cost s old chain nodes files f left whole e is.text is.packets last is.unsealed, area_is s old chain nodes files f left whole e last)

-- where nothing changed, the files are stated as they were
pub still_open : (s : Config) (old new : Disk) (chain : List ChainBlock) (nodes : ℕ) (files : List File) (f : File) → IsLeftOpen s old.blocks chain nodes files f → Unchanged old new → StaysOpen s files f old new
still_open s old new chain nodes files f left same = record {
  says = subst (λ (image : Image). MediumSays s image (files ++ f ∷ [])) (sym same.reads) left.held.says;
  left = λ settled. stayed (λ image. MediumSays s image (files ++ f ∷ [])) old new same (λ image may. (settled image may).says);
}

module _ {T E : Type 0} (s : Config) (old new : Disk) (chain made : List ChainBlock) (nodes : ℕ) (files : List File) (f : File) (left : IsLeftOpen s old.blocks chain nodes files f) (e : DirectoryEntry) (last : last_or None (listed_files chain) ≡ Some e)
    (result : Result T E) where
  abbrev all : List Packet
  all = packets s old.blocks chain nodes files f left (whole_reads old)

  abbrev g' : File
  g' = sealed nodes all f

  pub seals_last : IsPartlySealed nodes e all chain old.blocks new.blocks → Leaves (IsSealing nodes e all chain old) old new → OnOk result (Settled (ListsSealed nodes e all chain made old.blocks) new) → SealsLast nodes s files f old new made result
  seals_last reads moments durable =
      let whole = whole_reads old in
      let Closed : Image → Type 0 = ListsSealed nodes e all chain made old.blocks in
      record {
        packets = all;
        unsealed = unsealed s old.blocks chain nodes files f left whole;
        grows = omega (arith, sealed_longer nodes all, long s old.blocks chain nodes files f left whole);
        holds = on_ok result (Settled Closed new) (HoldsFiles s new.blocks made None (files ++ g' ∷ []))
            (λ settled. closed_holds s old.blocks chain nodes files f left whole e last made new.blocks (settled_reads Closed new settled)) durable;
        bytes = ⊎_elim (λ put. partly_keeps s old.blocks chain nodes files f left whole e last new.blocks put) (λ closed. closed_keeps s old.blocks chain nodes files f left whole e last closed.0 new.blocks closed.1) reads;
        reads = ⊎_elim
            (λ put. inl (partly_says s old.blocks chain nodes files f left whole e last old.blocks new.blocks whole left.held.says refl put))
            (λ closed. inr (closed_says s old.blocks chain nodes files f left whole e last closed.0 new.blocks closed.1))
            reads;
        moments = λ settled. weakened (IsSealing nodes e all chain old) (IsOpenOrClosed nodes s files f all) old new
            (λ image. ⊎_elim
            (λ from. inl (
            let was = settled from.0 from.1 in
            let same : bytes_from from.0 f.first_block f.size ≡ bytes_from old.blocks f.first_block f.size =
            (all_front (λ (h : File). bytes_from from.0 h.first_block h.size ≡ bytes_from old.blocks h.first_block h.size) files f was.bytes).1 in
            partly_says s old.blocks chain nodes files f left whole e last from.0 image (whole_left old from.0 from.1) was.says same from.2
            ))
            (λ closed. inr (closed_says s old.blocks chain nodes files f left whole e last closed.0 image closed.1)))
            moments;
        settled = on_ok result (Settled Closed new) (IsSettled s (files ++ g' ∷ []) new)
            (λ settled image now. closed_as s old.blocks chain nodes files f left whole e last made made new.blocks image (settled_reads Closed new settled) (settled image now)) durable;
      }

-- ---- as laws

module _ (s : Config) (old : Image) (chain : List ChainBlock) (nodes : ℕ) (files : List File) (f : File) (e : DirectoryEntry) (qs : List Packet) (whole : IsWhole old) (left : IsLeftOpen s old chain nodes files f)
    (last : last_or None (listed_files chain) ≡ Some e) (is : IsUnsealed (bytes_from old e.first_block e.size) f.setup qs) where
  same : qs ≡ packets s old chain nodes files f left whole
  same = its_packets s old chain nodes files f left whole e f.setup qs last is

  left_says : (from image : Image) → IsWhole from → MediumSays s from (files ++ f ∷ []) → bytes_from from f.first_block f.size ≡ bytes_from old f.first_block f.size → PutsSome e.first_block (file_blocks (sealed_bytes nodes qs)) from image
      → MediumSays s image (files ++ f ∷ [])
  left_says from image whole_from says bytes put =
      partly_says s old chain nodes files f left whole e last from image whole_from says bytes (subst (λ (l : List Packet). PutsSome e.first_block (file_blocks (sealed_bytes nodes l)) from image) same put)

  closed_said : (new image : Image) (made other : List ChainBlock) → ListsSealed nodes e qs chain made old new → ListsSealed nodes e qs chain other old image → SaysAs s (files ++ sealed nodes qs f ∷ []) new image
  closed_said new image made other one two =
      subst (λ (l : List Packet). SaysAs s (files ++ sealed nodes l f ∷ []) new image) (sym same)
      (closed_as s old chain nodes files f left whole e last made other new image (subst (λ (l : List Packet). ListsSealed nodes e l chain made old new) same one) (subst (λ (l : List Packet). ListsSealed nodes e l chain other old image) same two))

pub files_left : (s : Config) (old from image : Image) (chain : List ChainBlock) (nodes : ℕ) (files : List File) (f : File) (e : DirectoryEntry) (qs : List Packet) → IsWhole old → IsLeftOpen s old chain nodes files f → last_or None (listed_files chain) ≡ Some e
    → IsUnsealed (bytes_from old e.first_block e.size) f.setup qs → IsWhole from → MediumSays s from (files ++ f ∷ []) → bytes_from from f.first_block f.size ≡ bytes_from old f.first_block f.size
    → PutsSome e.first_block (file_blocks (sealed_bytes nodes qs)) from image → MediumSays s image (files ++ f ∷ [])
files_left s old from image chain nodes files f e qs whole left last is = left_says s old chain nodes files f e qs whole left last is from image

pub files_closed : (s : Config) (old new image : Image) (chain made other : List ChainBlock) (nodes : ℕ) (files : List File) (f : File) (e : DirectoryEntry) (qs : List Packet) → IsWhole old → IsLeftOpen s old chain nodes files f
    → last_or None (listed_files chain) ≡ Some e → IsUnsealed (bytes_from old e.first_block e.size) f.setup qs → ListsSealed nodes e qs chain made old new → ListsSealed nodes e qs chain other old image → SaysAs s (files ++ sealed nodes qs f ∷ []) new image
files_closed s old new image chain made other nodes files f e qs whole left last is = closed_said s old chain nodes files f e qs whole left last is new image made other
