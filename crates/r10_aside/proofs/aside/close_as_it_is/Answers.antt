use Rattle.std.proofs.Common.{◌≡◌, Bool, true, false, cond, List, [], ◌∷◌, Option, None, Some, Ok, refl, sym, ap, ◌∙◌, subst}
use Rattle.std.specs.List.{last_or}
use Rattle.r10_medium.specs.declared.medium.MediumFault.{MediumFault}
use Rattle.r10_medium.proofs.PowerLoss.{settled_reads}
use Rattle.r10_dirblock.specs.Block.{is_closed, has_room_for_size}
use Rattle.r10_dirblock.specs.declared.entry.Entry.{Entry}
use Rattle.r10_dirchain.specs.Chain.{IsDirectory, at, listed_files}
use Rattle.r10_dirchain.specs.OnMedium.{Turned, Turns}
use Rattle.r10_dirchain.specs.Steps.{last_listing, updated}
use Rattle.r10_dirchain.specs.declared.chain.ChainBlock.{ChainBlock}
use Rattle.r10_volume.specs.Listing.{is_last_closed}
use Rattle.r10_aside.specs.Aside.{with_last_aside, SetsAside, FindsNoneOpen}
use Rattle.r10_aside.proofs.Later.{last_has_room}
use Rattle.r10_aside.proofs.Placed.{aside_is, closed_then}
use Rattle.r10_aside.proofs.aside.close_as_it_is.Goals as goal

pub update-requires-clause-room : goal.update-requires-clause-room
update-requires-clause-room g c =
    ap has_room_for_size c.closed_as_is.ensures
    ∙ last_has_room (g.M.BlockMedium.disk c.args.medium.now).blocks c.args.directory.now c.in-Some.entry c.requires (sym c.in-Some.ensures)

pub returns-in-Ok-clause-does : goal.returns-in-Ok-clause-does
returns-in-Ok-clause-does g c =
    let chain = c.args.directory.now in
    let e = c.in-Some.entry in
    let number = (at chain (last_listing chain)).number in
    let old = g.M.BlockMedium.disk c.args.medium.now in
    let new = g.M.BlockMedium.disk c.update.new.medium in
    let last : last_or None (listed_files chain) ≡ Some e = sym c.in-Some.ensures in
    let left : is_last_closed (listed_files chain) ≡ false = ap (λ (o : Option Entry). elim o [ None ↦ true | Some x ↦ is_closed x ]) last ∙ sym c.if-is_closed.ensures in
    let made : updated c.closed_as_is.result chain ≡ with_last_aside chain = ap (λ (x : Entry). updated x chain) c.closed_as_is.ensures ∙ aside_is chain e last in
    let turned = c.in-Ok.ensures.turns in
    let turns : Turns {T = Bool} {E = MediumFault} chain (with_last_aside chain) [] (number ∷ []) old new (Ok true) =
    subst (λ (l : List ChainBlock). Turns {T = Bool} {E = MediumFault} chain l [] (number ∷ []) old new (Ok true)) made
    (record { moments = turned.moments; either = turned.either; reads = turned.reads; settled = turned.settled }) in
    subst (λ (b : Bool). cond b (FindsNoneOpen {E = MediumFault} old new (Ok true)) (SetsAside {E = MediumFault} chain old new (Ok true))) (sym left)
    (record {
      answer = refl;
      turns = turns;
      synced = record { directory = (settled_reads (Turned (with_last_aside chain) (number ∷ []) old.blocks) new turns.settled).directory; synced = c.in-Ok.ensures.durable };
    })

pub returns-in-Ok-clause-usable : goal.returns-in-Ok-clause-usable
returns-in-Ok-clause-usable g c = λ reserved usable.
    let chain = c.args.directory.now in
    let e = c.in-Some.entry in
    let number = (at chain (last_listing chain)).number in
    let old = g.M.BlockMedium.disk c.args.medium.now in
    let new = g.M.BlockMedium.disk c.update.new.medium in
    let turned = settled_reads (Turned (updated c.closed_as_is.result chain) (number ∷ []) old.blocks) new c.in-Ok.ensures.turns.settled in
    closed_then reserved old.blocks new.blocks chain e usable (sym c.in-Some.ensures) turned.others.size
    (subst (λ (x : Entry). IsDirectory new.blocks (updated x chain)) c.closed_as_is.ensures turned.directory)
