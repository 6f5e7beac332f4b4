use Rattle.std.proofs.Common.{◌≡◌, Option, ap, subst, sym, ◌∙◌}
use Rattle.r10_medium.specs.Disk.{Image}
use Rattle.r10_sector.specs.Held.{AgreesBut, Slot, number_of, put_slot, recovered, slot_of}
use Rattle.r10_sector.specs.Plate.{Changes}
use Rattle.r10_sector.specs.Stored.{slot_in}
use Rattle.r10_sector.specs.Sides.{opposite}
use Rattle.r10_doublewrite.specs.Guarding.{IsGuarded}
use Rattle.r10_doublewrite.specs.Opening.{firsts_in}
use Rattle.r10_doublewrite.proofs.Guarded.{gives_then_stays}
use Rattle.r10_doublewrite.proofs.Opening.{changes_first, changes_twice, settled_guarded, settling_gives}
use Rattle.r10_doublewrite.proofs.recovery.settle.Goals as goal

pub returns-in_default-clause-gives : goal.returns-in_default-clause-gives
returns-in_default-clause-gives g c =
    let p = g.D.SectorDevice.plate c.args.device.now in let d = g.D.SectorDevice.plate c.put_stored.new.device in let side = c.args.side in
    let os = firsts_in (slot_of (opposite side) p.now) in let ns = firsts_in (slot_of side p.now) in
    let first = subst (λ (o : Option Slot). Changes (AgreesBut g.D.SectorDevice.per (firsts_in o)) p d) c.requires.older c.put_stored.ensures.changes in
    settling_gives p side c.requires.newest c.requires.durable d (changes_first os ns p d first)

pub returns-in_default-put_stored-clause-gives : goal.returns-in_default-put_stored-clause-gives
returns-in_default-put_stored-clause-gives g c =
    let p = g.D.SectorDevice.plate c.args.device.now in let d = g.D.SectorDevice.plate c.put_stored.new.device in let side = c.args.side in
    let os = firsts_in (slot_of (opposite side) p.now) in let ns = firsts_in (slot_of side p.now) in
    let first = subst (λ (o : Option Slot). Changes (AgreesBut g.D.SectorDevice.per (firsts_in o)) p d) c.requires.older c.put_stored.ensures.changes in
    let e = g.D.SectorDevice.plate c.put_stored-2.new.device in
    let second = subst (λ (o : Option Slot). Changes (AgreesBut g.D.SectorDevice.per (firsts_in o)) d e) c.requires.newer c.put_stored-2.ensures.changes in
    let both = changes_twice os ns p d e first second in
    settling_gives p side c.requires.newest c.requires.durable e both

pub returns-in_default-sync-clause-gives : goal.returns-in_default-sync-clause-gives
returns-in_default-sync-clause-gives g c =
    let p = g.D.SectorDevice.plate c.args.device.now in let d = g.D.SectorDevice.plate c.put_stored.new.device in let side = c.args.side in
    let os = firsts_in (slot_of (opposite side) p.now) in let ns = firsts_in (slot_of side p.now) in
    let first = subst (λ (o : Option Slot). Changes (AgreesBut g.D.SectorDevice.per (firsts_in o)) p d) c.requires.older c.put_stored.ensures.changes in
    let e = g.D.SectorDevice.plate c.put_stored-2.new.device in
    let second = subst (λ (o : Option Slot). Changes (AgreesBut g.D.SectorDevice.per (firsts_in o)) d e) c.requires.newer c.put_stored-2.ensures.changes in
    let both = changes_twice os ns p d e first second in
    gives_then_stays (λ (image : Image). image ≡ recovered g.D.SectorDevice.per p.now) p e (g.D.SectorDevice.plate c.sync.new.self)
    (settling_gives p side c.requires.newest c.requires.durable e both) c.sync.ensures.same

pub returns-clause-gives : goal.returns-clause-gives
returns-clause-gives g c =
    let p = g.D.SectorDevice.plate c.args.device.now in let d = g.D.SectorDevice.plate c.put_stored.new.device in let side = c.args.side in
    let os = firsts_in (slot_of (opposite side) p.now) in let ns = firsts_in (slot_of side p.now) in
    let first = subst (λ (o : Option Slot). Changes (AgreesBut g.D.SectorDevice.per (firsts_in o)) p d) c.requires.older c.put_stored.ensures.changes in
    let e = g.D.SectorDevice.plate c.put_stored-2.new.device in
    let second = subst (λ (o : Option Slot). Changes (AgreesBut g.D.SectorDevice.per (firsts_in o)) d e) c.requires.newer c.put_stored-2.ensures.changes in
    let both = changes_twice os ns p d e first second in
    gives_then_stays (λ (image : Image). image ≡ recovered g.D.SectorDevice.per p.now) p e (g.D.SectorDevice.plate c.sync.new.self)
    (settling_gives p side c.requires.newest c.requires.durable e both) c.sync.ensures.same

pub returns-clause-guarded : goal.returns-clause-guarded
returns-clause-guarded g c =
    let p = g.D.SectorDevice.plate c.args.device.now in let d = g.D.SectorDevice.plate c.put_stored.new.device in let side = c.args.side in
    let os = firsts_in (slot_of (opposite side) p.now) in let ns = firsts_in (slot_of side p.now) in
    let first = subst (λ (o : Option Slot). Changes (AgreesBut g.D.SectorDevice.per (firsts_in o)) p d) c.requires.older c.put_stored.ensures.changes in
    let e = g.D.SectorDevice.plate c.put_stored-2.new.device in
    let second = subst (λ (o : Option Slot). Changes (AgreesBut g.D.SectorDevice.per (firsts_in o)) d e) c.requires.newer c.put_stored-2.ensures.changes in
    let both = changes_twice os ns p d e first second in
    let per = g.D.SectorDevice.per in
    subst (λ (o : Option Slot). IsGuarded (g.D.SectorDevice.plate c.sync.new.self) (opposite side) (number_of o)) (sym c.requires.newer)
    (settled_guarded p side c.requires.newest e (g.D.SectorDevice.plate c.sync.new.self) both
    (c.in-Ok-put_stored.ensures.put ∙ ap (put_slot per (slot_in c.args.newer.now)) c.in-Ok.ensures.put
    ∙ ap (λ (o : Option Slot). put_slot per o (put_slot per (slot_in c.args.older.now) p.now.image)) c.requires.newer
    ∙ ap (λ (o : Option Slot). put_slot per (slot_of side p.now) (put_slot per o p.now.image)) c.requires.older)
    c.sync.ensures.same.now
    (c.in-Ok-sync.ensures.durable (c.in-Ok-put_stored.ensures.trust ∙ c.in-Ok.ensures.trust ∙ c.requires.trusted)))
