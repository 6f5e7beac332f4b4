-- The last file, which was left open, among the files that a recorder holds.
use Rattle.std.proofs.Common.{◌≡◌, ℕ, ◌-◌, ◌*◌, ◌≤◌, Bool, false, List, [], ◌∷◌, ◌++◌, length, take, drop, None, Some, refl, sym, ap, subst, ◌∙◌, arith, take_at}
use Rattle.std.specs.Prelude.{Option, IsSomeAnd}
use Rattle.std.specs.List.{last_or, sum_by}
use Rattle.std.proofs.lemmas.List.{take-append-drop, take_all}
use Rattle.std.proofs.lemmas.List.Concat.{flat_map-append}
use Rattle.std.proofs.lemmas.List.Sums.{sum_by-append}
use Rattle.r10_count.specs.Checks.{first_broken}
use Rattle.r10_medium.specs.Disk.{Image, IsWhole}
use Rattle.r10_medium.specs.PowerLoss.{PutsSome, SameBelow}
use Rattle.r10_medium.proofs.Bytes.{length-read_front}
use Rattle.r10_medium.proofs.PowerLoss.{below_puts}
use Rattle.r10_blockout.specs.Blocks.{Shows, blocks_for, bytes_from, file_blocks}
use Rattle.r10_blockout.proofs.Showing.{stays_shown, whole_put}
use Rattle.r10_body.specs.Content.{setup}
use Rattle.r10_body.specs.Cost.{entry_cost, file_cost}
use Rattle.r10_body.specs.Files.{PacketsSay, on_channel}
use Rattle.r10_body.specs.Packets.{Packet, file_bytes, file_entries, packet_bytes}
use Rattle.r10_body.specs.declared.entry.Entry.{Entry}
use Rattle.r10_dirblock.specs.declared.entry.Entry.{Entry as DirectoryEntry}
use Rattle.r10_dirchain.specs.Chain.{listed_files}
use Rattle.r10_dirchain.specs.Mount.{mount_rules}
use Rattle.r10_dirchain.specs.declared.chain.ChainBlock.{ChainBlock}
use Rattle.r10_dirchain.proofs.Unique.{one_directory}
use Rattle.r10_volume.specs.Holding.{HoldsFiles, OpenState}
use Rattle.r10_volume.proofs.Ends.{all_front}
use Rattle.r10_volume.proofs.Relisting.{last_file_listed, last_file_said}
use Rattle.r10_index.specs.Written.{index_of}
use Rattle.r10_judge.proofs.Places.{strict_apart}
use Rattle.r10_body.proofs.Sums.{same_sum}
use Rattle.r10_machine.specs.Config.{Config}
use Rattle.r10_machine.specs.Machine.{File, shown_entries}
use Rattle.r10_machine.specs.Room.{area, cost_of}
use Rattle.r10_machine.proofs.Said.{growing_stands}
use Rattle.r10_machine.specs.Says.{IsFound, Lists, MediumSays, SaysEach, SaysFile}
use Rattle.r10_volume.specs.Mounting.{IsUsable}
use Rattle.r10_seal.specs.Judging.{IsSealFault}
use Rattle.r10_seal.specs.Leftover.{IsLeftFault, IsLeftOpen, shown_cost}
use Rattle.r10_seal.specs.Sealing.{IsUnsealed, cost_of_packets, sealed_bytes}
use Rattle.r10_seal.specs.declared.fault.SealFault.{SealFault}
use Rattle.r10_seal.specs.declared.fault.SealFault.TheVariants.{BadFile, MediumFull, Medium, OutOfMemory}
use Rattle.r10_seal.proofs.Sealed.{one_unsealed}

-- ---- what it costs, and how many packets it has

pub same_cost : (text : List ℕ) (xs ys : List Entry) → ((channel : ℕ) → on_channel channel xs ≡ on_channel channel ys) → file_cost text xs ≡ file_cost text ys
same_cost text xs ys same = omega (arith, same_sum entry_cost xs ys same)

pub one_text : (packets : List Packet) (text other : List ℕ) (entries others : List Entry) → PacketsSay packets text entries false → PacketsSay packets other others false → text ≡ other
one_text packets text other entries others one two = let same : setup text ∷ [] ≡ setup other ∷ [] = sym one.setup_is ∙ two.setup_is in cc

-- ---- the file as it is left

module _ (s : Config) (image : Image) (chain : List ChainBlock) (nodes : ℕ) (files : List File) (f : File) (left : IsLeftOpen s image chain nodes files f) (whole : IsWhole image) where
  each : SaysEach image (listed_files chain) (files ++ f ∷ [])
  each = subst (λ (c : List ChainBlock). SaysEach image (listed_files c) (files ++ f ∷ [])) (one_directory image left.held.says.chain chain left.held.says.directory left.held.directory) left.held.says.each

  pub said : SaysFile image f
  said = last_file_said image (listed_files chain) files f each

  pub lists : (e : DirectoryEntry) → last_or None (listed_files chain) ≡ Some e → Lists f e
  lists e is = subst (λ (o : Option DirectoryEntry). IsSomeAnd o (Lists f)) is (last_file_listed image None (listed_files chain) files f each)

  pub packets : List Packet
  packets = said.says.0

  pub say : PacketsSay packets f.setup (shown_entries f) false
  unfolding packets said
  say = subst (λ (b : Bool). PacketsSay packets f.setup (shown_entries f) b) left.unclosed said.says.2

  pub unsealed : IsUnsealed (bytes_from image f.first_block f.size) f.setup packets
  unfolding packets said
  unsealed = record { bytes_are = said.says.1; say = record { file = say.file; setup_is = say.setup_is; entries_are = λ channel. refl; closed_is = say.closed_is } }

  -- the same by its entry
  same_bytes : (e : DirectoryEntry) → last_or None (listed_files chain) ≡ Some e → bytes_from image e.first_block e.size ≡ bytes_from image f.first_block f.size
  same_bytes e is = ap (λ (n : ℕ). bytes_from image n e.size) (lists e is).first_block ∙ ap (bytes_from image f.first_block) (lists e is).size

  pub unsealed_by : (e : DirectoryEntry) → last_or None (listed_files chain) ≡ Some e → IsUnsealed (bytes_from image e.first_block e.size) f.setup packets
  unsealed_by e is = subst (λ (l : List ℕ). IsUnsealed l f.setup packets) (sym (same_bytes e is)) unsealed

  pub its_packets : (e : DirectoryEntry) (text : List ℕ) (others : List Packet) → last_or None (listed_files chain) ≡ Some e → IsUnsealed (bytes_from image e.first_block e.size) text others → others ≡ packets
  its_packets e text others is u = one_unsealed (bytes_from image e.first_block e.size) text f.setup others packets u (unsealed_by e is)

  pub long : length (file_bytes packets) ≡ f.size
  unfolding packets said
  long = ap (λ (l : List ℕ). length l) (sym said.says.1) ∙ length-read_front f.size f.first_block image whole (omega (arith, said.inside))

  pub cost : (e : DirectoryEntry) (text : List ℕ) (others : List Packet) → last_or None (listed_files chain) ≡ Some e → IsUnsealed (bytes_from image e.first_block e.size) text others → cost_of_packets text others ≡ shown_cost f
  cost e text others is u =
      let same : others ≡ packets = its_packets e text others is u in
      let say_so : PacketsSay packets text (file_entries others) false = subst (λ (ps : List Packet). PacketsSay ps text (file_entries others) false) same u.say in
      ap (λ (t : List ℕ). file_cost t (file_entries others)) (one_text packets text f.setup (file_entries others) (shown_entries f) say_so say)
      ∙ ap (λ (ps : List Packet). file_cost f.setup (file_entries ps)) same
      ∙ same_cost f.setup (file_entries packets) (shown_entries f) say.entries_are

  pub area_is : (e : DirectoryEntry) → last_or None (listed_files chain) ≡ Some e → 512 * (length image - e.first_block) ≡ area s f
  area_is e is = omega (arith, left.held.says.blocks, (lists e is).first_block)

  -- ---- faults

  pub left_fault : (e : DirectoryEntry) (fault : SealFault) → last_or None (listed_files chain) ≡ Some e → IsSealFault (bytes_from image e.first_block e.size) (512 * (length image - e.first_block)) fault → IsLeftFault s f fault
  left_fault e (BadFile at) is wrong = strict_apart (bytes_from image e.first_block e.size) false at.offset at.fault wrong (f.setup, file_entries packets, (packets, (unsealed_by e is).bytes_are, (unsealed_by e is).say))
  left_fault e MediumFull is wrong = omega (arith, wrong.much, cost e wrong.text wrong.packets is wrong.unsealed, area_is e is)
  left_fault e Medium is wrong = tt
  left_fault e OutOfMemory is wrong = tt

  -- ---- where it stands

  pub mounts : first_broken (mount_rules s.directory s.blocks chain) ≡ None
  mounts = subst (λ (c : List ChainBlock). first_broken (mount_rules s.directory s.blocks c) ≡ None) (one_directory image left.held.says.chain chain left.held.says.directory left.held.directory) left.held.says.mounts

  pub usable : IsUsable s.directory image chain
  usable = record { directory = left.held.directory; rules = subst (λ (n : ℕ). first_broken (mount_rules s.directory n chain) ≡ None) (sym left.held.says.blocks) mounts }

-- ---- blocks of the file with its index, put over it

pub front_is : (nodes : ℕ) (packets : List Packet) → take (length (file_bytes packets)) (sealed_bytes nodes packets) ≡ file_bytes packets
front_is nodes packets =
    ap (take (length (file_bytes packets))) (flat_map-append packet_bytes packets (index_of nodes packets)) ∙ take_at (file_bytes packets) (file_bytes (index_of nodes packets)) (length (file_bytes packets)) refl

pub still_shown : (nodes : ℕ) (packets : List Packet) (first : ℕ) (a b : Image) → IsWhole a → PutsSome first (file_blocks (sealed_bytes nodes packets)) a b → Shows a first (file_bytes packets) → Shows b first (file_bytes packets)
still_shown nodes packets first a b whole put shows =
    let n = length (file_bytes packets) in
    subst (λ (l : List ℕ). Shows b first l) (front_is nodes packets)
    (stays_shown (sealed_bytes nodes packets) first (blocks_for (length (sealed_bytes nodes packets))) a b whole put n (subst (λ (l : List ℕ). Shows a first l) (sym (front_is nodes packets)) shows))

-- an image that says the files and has the last one's bytes goes on to say them
module _ (nodes : ℕ) (s : Config) (files : List File) (f : File) (packets : List Packet) (a b : Image) (whole : IsWhole a) (long : length (file_bytes packets) ≡ f.size) (has : bytes_from a f.first_block f.size ≡ file_bytes packets)
    (put : PutsSome f.first_block (file_blocks (sealed_bytes nodes packets)) a b) where
  pub put_whole : IsWhole b
  put_whole = whole_put (sealed_bytes nodes packets) f.first_block (blocks_for (length (sealed_bytes nodes packets))) a b whole put

  pub put_below : SameBelow f.first_block 0 a b
  put_below = below_puts f.first_block (file_blocks (sealed_bytes nodes packets)) a b put

  pub put_bytes : bytes_from b f.first_block f.size ≡ file_bytes packets
  put_bytes = ap (bytes_from b f.first_block) (sym long) ∙ still_shown nodes packets f.first_block a b whole put (ap (bytes_from a f.first_block) long ∙ has)

  pub put_says : MediumSays s a (files ++ f ∷ []) → MediumSays s b (files ++ f ∷ [])
  put_says says = growing_stands s a b files f whole put_whole says 0 put_below (put_bytes ∙ sym has)

-- ---- costs

sum_front : (n : ℕ) (es : List Entry) → sum_by entry_cost (take n es) ≤ sum_by entry_cost es
sum_front n es = omega (arith, sum_by-append entry_cost (take n es) (drop n es), ap (λ (l : List Entry). sum_by entry_cost l) (take-append-drop n es))

pub most_cost : (f : File) → shown_cost f ≤ cost_of f
most_cost f = omega (arith, sum_front f.shown f.entries)

pub whole_cost : (f : File) → f.shown ≡ length f.entries → shown_cost f ≡ cost_of f
whole_cost f whole = ap (file_cost f.setup) (take_all f.shown f.entries (omega (arith, whole)))

pub others_cost : (s : Config) (image : Image) (chain : List ChainBlock) (written : Option OpenState) (files : List File) (f : File) → HoldsFiles s image chain written (files ++ f ∷ []) → f.own ≡ false → shown_cost f ≡ cost_of f
others_cost s image chain written files f held own = whole_cost f ((all_front (λ (h : File). h.own ≡ false → IsFound image h) files f held.found).1 own).shown

-- ---- as laws

pub left_unsealed : (s : Config) (image : Image) (chain : List ChainBlock) (nodes : ℕ) (files : List File) (f : File) (e : DirectoryEntry) → IsWhole image → IsLeftOpen s image chain nodes files f → last_or None (listed_files chain) ≡ Some e
    → (packets : List Packet) × IsUnsealed (bytes_from image e.first_block e.size) f.setup packets
left_unsealed s image chain nodes files f e whole left last = (packets s image chain nodes files f left whole, unsealed_by s image chain nodes files f left whole e last)

pub fault_left : (s : Config) (image : Image) (chain : List ChainBlock) (nodes : ℕ) (files : List File) (f : File) (e : DirectoryEntry) (fault : SealFault) → IsWhole image → IsLeftOpen s image chain nodes files f → last_or None (listed_files chain) ≡ Some e
    → IsSealFault (bytes_from image e.first_block e.size) (512 * (length image - e.first_block)) fault → IsLeftFault s f fault
fault_left s image chain nodes files f e fault whole left last = left_fault s image chain nodes files f left whole e fault last
