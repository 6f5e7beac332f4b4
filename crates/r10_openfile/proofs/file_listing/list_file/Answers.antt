use Rattle.std.proofs.Common.{◌≡◌, ◌⊎◌, inl, List, [], ◌∷◌, ◌++◌, length, Some, sym, ap, ◌∙◌, subst, rules}
use Rattle.r10_medium.specs.Disk.{Image, block_at}
use Rattle.r10_medium.proofs.PowerLoss.{then_stays}
use Rattle.r10_blockout.specs.Blocks.{file_blocks}
use Rattle.r10_blockout.specs.Output.{first_of}
use Rattle.r10_body.specs.Packets.{file_bytes}
use Rattle.r10_dirchain.specs.Steps.{added, last_block, spare}
use Rattle.r10_dirchain.proofs.Turning.{published}
use Rattle.r10_dirchain.specs.declared.chain.ChainBlock.{ChainBlock}
use Rattle.r10_volume.specs.Holding.{HoldsFiles}
use Rattle.r10_machine.specs.Says.{MediumSays}
use Rattle.r10_volume.proofs.Turning.{on_both}
use Rattle.r10_openfile.proofs.Calls.{directory_stays, front_listed, front_put, last_holds, last_moments, listed_carried, listed_holds, listed_moments, listed_reads, listed_settled, turned_size}
use Rattle.r10_openfile.proofs.AtOnce.{spared_at_once, spares_puts, spares_stays, then_at_once, turns_at_once}
use Rattle.r10_openfile.proofs.file_listing.list_file.Goals as goal

pub returns-in-Err : goal.returns-in-Err
returns-in-Err g c =
    let disk = g.M.BlockMedium.disk in
    let chain = c.args.directory.now in
    let r = c.args.mux.now in
    let old = disk c.args.medium.now in
    let mid = disk c.commit_blocks.new.medium in
    let it = c.requires.carries in
    record {
      holds = search rules;
      either =
          λ s files f may. inl (last_holds s chain files f c.args.entry r old mid may (c.commit_blocks.ensures.puts f.setup f.entries may.carries)).says;
      moments =
          λ s files f may settled. last_moments s chain files f c.args.entry r old mid may (c.commit_blocks.ensures.puts f.setup f.entries may.carries) settled;
      settled = search rules;
      durable = search rules;
      carries = search rules;
      front =
          λ k less apart. front_put (first_of c.args.mux.now.out.blocks) k (file_blocks (file_bytes it.2.packets)) (disk c.args.medium.now) (disk c.commit_blocks.new.medium) (c.commit_blocks.ensures.puts it.0 it.1 it.2) less;
      at_once =
          let first = first_of c.args.mux.now.out.blocks in
          let made = added c.args.entry chain in
          let numbers = (last_block chain).number ∷ spare chain in
          let spares = spares_puts first (file_blocks (file_bytes it.2.packets)) old mid (c.commit_blocks.ensures.puts it.0 it.1 it.2) in
          spared_at_once first made (spare chain) numbers old mid spares;
      done = search rules;
      kept = search rules;
      blocks = search rules;
      counts = search rules;
    }

pub returns-in-Err-sync : goal.returns-in-Err-sync
returns-in-Err-sync g c =
    let disk = g.M.BlockMedium.disk in
    let chain = c.args.directory.now in
    let r = c.args.mux.now in
    let old = disk c.args.medium.now in
    let mid = disk c.commit_blocks.new.medium in
    let durable = disk c.sync.new.self in
    let it = c.requires.carries in
    record {
      holds = search rules;
      either =
          λ s files f may. inl (subst (λ (l : Image). MediumSays s l files) (sym c.sync.ensures.same.reads) (last_holds s chain files f c.args.entry r old mid may (c.commit_blocks.ensures.puts f.setup f.entries may.carries)).says);
      moments =
          λ s files f may settled.
          then_stays (λ image. MediumSays s image files ⊎ MediumSays s image (files ++ f ∷ [])) old mid durable (last_moments s chain files f c.args.entry r old mid may (c.commit_blocks.ensures.puts f.setup f.entries may.carries) settled) c.sync.ensures.same;
      settled = search rules;
      durable = search rules;
      carries = search rules;
      front =
          λ k less apart. ap (λ (l : Image). block_at l k) c.sync.ensures.same.reads
          ∙ front_put (first_of c.args.mux.now.out.blocks) k (file_blocks (file_bytes it.2.packets)) (disk c.args.medium.now) (disk c.commit_blocks.new.medium) (c.commit_blocks.ensures.puts it.0 it.1 it.2) less;
      at_once =
          let first = first_of c.args.mux.now.out.blocks in
          let made = added c.args.entry chain in
          let numbers = (last_block chain).number ∷ spare chain in
          let spares = spares_puts first (file_blocks (file_bytes it.2.packets)) old mid (c.commit_blocks.ensures.puts it.0 it.1 it.2) in
          spared_at_once first made (spare chain) numbers old durable (spares_stays first old mid durable spares c.sync.ensures.same);
      done = search rules;
      kept = search rules;
      blocks = ap (λ (l : Image). length l) c.sync.ensures.same.reads ∙ c.commit_blocks.ensures.blocks;
      counts = search rules;
    }

pub add-requires-clause-stands : goal.add-requires-clause-stands
add-requires-clause-stands g c =
    let disk = g.M.BlockMedium.disk in
    let chain = c.args.directory.now in
    let r = c.args.mux.now in
    let old = disk c.args.medium.now in
    let mid = disk c.commit_blocks.new.medium in
    let durable = disk c.sync.new.self in
    let it = c.requires.carries in
    directory_stays old mid durable chain (first_of r.out.blocks) (file_blocks (file_bytes it.2.packets)) c.requires.stands c.requires.below (c.commit_blocks.ensures.puts it.0 it.1 it.2) c.sync.ensures.same

pub returns : goal.returns
returns g c =
    let disk = g.M.BlockMedium.disk in
    let chain = c.args.directory.now in
    let r = c.args.mux.now in
    let old = disk c.args.medium.now in
    let mid = disk c.commit_blocks.new.medium in
    let durable = disk c.sync.new.self in
    let new = disk c.add.new.medium in
    let it = c.requires.carries in
    record {
      holds =
          λ s files f may.
          let Held : List ChainBlock → Type 0 = λ l. HoldsFiles s new.blocks l (Some (record { recording = r; shown = length r.out.entries })) (files ++ f ∷ []) in
          on_both c.add.result (Held (added c.args.entry chain)) (c.add.new.self ≡ added c.args.entry chain) (Held c.add.new.self) (λ held is. subst Held (sym is) held)
          (listed_holds s chain files f c.args.entry r old mid durable new c.add.result may (c.commit_blocks.ensures.puts f.setup f.entries may.carries)
          (c.in_default.ensures.shows f.setup f.entries may.carries) (c.commit_blocks.ensures.says f.setup f.entries may.carries may.none) c.sync.ensures.same c.in_default-sync.ensures.durable c.add.ensures.turns) c.add.ensures.done;
      either =
          λ s files f may. listed_reads s chain files f c.args.entry r old mid durable new c.add.result may (c.commit_blocks.ensures.puts f.setup f.entries may.carries)
          (c.in_default.ensures.shows f.setup f.entries may.carries) (c.commit_blocks.ensures.says f.setup f.entries may.carries may.none) c.sync.ensures.same c.in_default-sync.ensures.durable c.add.ensures.turns;
      moments =
          λ s files f may settled. listed_moments s chain files f c.args.entry r old mid durable new c.add.result may (c.commit_blocks.ensures.puts f.setup f.entries may.carries)
          (c.in_default.ensures.shows f.setup f.entries may.carries) (c.commit_blocks.ensures.says f.setup f.entries may.carries may.none) c.sync.ensures.same c.in_default-sync.ensures.durable c.add.ensures.turns settled;
      settled =
          λ s files f may. listed_settled s chain files f c.args.entry r old mid durable new c.add.result may (c.commit_blocks.ensures.puts f.setup f.entries may.carries)
          (c.in_default.ensures.shows f.setup f.entries may.carries) (c.commit_blocks.ensures.says f.setup f.entries may.carries may.none) c.sync.ensures.same c.in_default-sync.ensures.durable c.add.ensures.turns;
      durable =
          published chain (added c.args.entry chain) c.add.new.self (spare chain) ((last_block chain).number ∷ spare chain) (disk c.sync.new.self) (disk c.add.new.medium) c.add.result c.add.ensures.turns c.add.ensures.done c.add.ensures.durable;
      carries =
          let there = directory_stays old mid durable chain (first_of r.out.blocks) (file_blocks (file_bytes it.2.packets)) c.requires.stands c.requires.below (c.commit_blocks.ensures.puts it.0 it.1 it.2) c.sync.ensures.same in
          λ text entries carried spares. listed_carried chain c.args.entry r old mid durable new c.add.result text entries carried there c.requires.below spares (c.commit_blocks.ensures.puts text entries carried)
          (c.in_default.ensures.shows text entries carried) c.sync.ensures.same c.add.ensures.turns;
      front =
          λ k less apart. front_listed chain (added c.args.entry chain) (first_of c.args.mux.now.out.blocks) k (last_block chain).number (spare chain) (file_blocks (file_bytes it.2.packets)) (disk c.args.medium.now) (disk c.commit_blocks.new.medium)
          (disk c.sync.new.self) (disk c.add.new.medium) c.add.result (c.commit_blocks.ensures.puts it.0 it.1 it.2) c.sync.ensures.same c.add.ensures.turns less apart;
      at_once =
          let first = first_of c.args.mux.now.out.blocks in
          let made = added c.args.entry chain in
          let numbers = (last_block chain).number ∷ spare chain in
          let spares = spares_puts first (file_blocks (file_bytes it.2.packets)) old mid (c.commit_blocks.ensures.puts it.0 it.1 it.2) in
          then_at_once first made (spare chain) numbers old durable new (spares_stays first old mid durable spares c.sync.ensures.same)
          (turns_at_once first chain made (spare chain) numbers durable new c.add.result c.add.ensures.turns);
      done = search rules;
      kept = search rules;
      blocks =
          turned_size chain (added c.args.entry chain) (spare chain) ((last_block chain).number ∷ spare chain) (disk c.sync.new.self) (disk c.add.new.medium) c.add.result c.add.ensures.turns
          ∙ ap (λ (l : Image). length l) c.sync.ensures.same.reads ∙ c.commit_blocks.ensures.blocks;
      counts = search rules;
    }
