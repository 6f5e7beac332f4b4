use Rattle.r10_doublewrite.proofs.Guarded.{gives_slot, gives_placed, shows_placed, size_placed, put_placed, guarded_placed}
use Rattle.r10_doublewrite.proofs.place.commit.Goals as goal

pub returns-in-Err-clause-gives : goal.returns-in-Err-clause-gives
returns-in-Err-clause-gives g c =
    let a = g.D.SectorDevice.plate c.args.device.now in
    gives_slot a c.args.next c.args.number c.args.firsts.now c.args.blocks.now c.requires.sectors c.requires.guarded (g.D.SectorDevice.plate c.write_durably.new.device) c.write_durably.ensures.tears

pub returns-in-Err-put_in_place-clause-gives : goal.returns-in-Err-put_in_place-clause-gives
returns-in-Err-put_in_place-clause-gives g c =
    let a = g.D.SectorDevice.plate c.args.device.now in let s = g.D.SectorDevice.plate c.write_durably.new.device in
    let d = g.D.SectorDevice.plate c.put_in_place.new.device in let durable = c.in_default.ensures.durable c.requires.trusted in
    gives_placed a c.args.next c.args.number c.args.firsts.now c.args.blocks.now c.requires.sectors c.requires.guarded s c.in_default.ensures.written durable d
    (gives_slot a c.args.next c.args.number c.args.firsts.now c.args.blocks.now c.requires.sectors c.requires.guarded s c.write_durably.ensures.tears) c.put_in_place.ensures.changes

pub returns-in-Err-put_in_place-clause-shows : goal.returns-in-Err-put_in_place-clause-shows
returns-in-Err-put_in_place-clause-shows g c =
    let a = g.D.SectorDevice.plate c.args.device.now in let s = g.D.SectorDevice.plate c.write_durably.new.device in
    let d = g.D.SectorDevice.plate c.put_in_place.new.device in let durable = c.in_default.ensures.durable c.requires.trusted in
    shows_placed a c.args.next c.args.number c.args.firsts.now c.args.blocks.now c.requires.sectors c.requires.guarded s c.in_default.ensures.written durable d c.put_in_place.ensures.changes

pub returns-in-Err-put_in_place-clause-size : goal.returns-in-Err-put_in_place-clause-size
returns-in-Err-put_in_place-clause-size g c =
    let a = g.D.SectorDevice.plate c.args.device.now in let s = g.D.SectorDevice.plate c.write_durably.new.device in
    let d = g.D.SectorDevice.plate c.put_in_place.new.device in let durable = c.in_default.ensures.durable c.requires.trusted in
    size_placed a c.args.next c.args.number c.args.firsts.now c.args.blocks.now c.requires.sectors c.requires.guarded s c.in_default.ensures.written durable d c.put_in_place.ensures.changes

pub returns-clause-gives : goal.returns-clause-gives
returns-clause-gives g c =
    let a = g.D.SectorDevice.plate c.args.device.now in let s = g.D.SectorDevice.plate c.write_durably.new.device in
    let d = g.D.SectorDevice.plate c.put_in_place.new.device in let durable = c.in_default.ensures.durable c.requires.trusted in
    gives_placed a c.args.next c.args.number c.args.firsts.now c.args.blocks.now c.requires.sectors c.requires.guarded s c.in_default.ensures.written durable d
    (gives_slot a c.args.next c.args.number c.args.firsts.now c.args.blocks.now c.requires.sectors c.requires.guarded s c.write_durably.ensures.tears) c.put_in_place.ensures.changes

pub returns-clause-shows : goal.returns-clause-shows
returns-clause-shows g c =
    let a = g.D.SectorDevice.plate c.args.device.now in let s = g.D.SectorDevice.plate c.write_durably.new.device in
    let d = g.D.SectorDevice.plate c.put_in_place.new.device in let durable = c.in_default.ensures.durable c.requires.trusted in
    shows_placed a c.args.next c.args.number c.args.firsts.now c.args.blocks.now c.requires.sectors c.requires.guarded s c.in_default.ensures.written durable d c.put_in_place.ensures.changes

pub returns-clause-size : goal.returns-clause-size
returns-clause-size g c =
    let a = g.D.SectorDevice.plate c.args.device.now in let s = g.D.SectorDevice.plate c.write_durably.new.device in
    let d = g.D.SectorDevice.plate c.put_in_place.new.device in let durable = c.in_default.ensures.durable c.requires.trusted in
    size_placed a c.args.next c.args.number c.args.firsts.now c.args.blocks.now c.requires.sectors c.requires.guarded s c.in_default.ensures.written durable d c.put_in_place.ensures.changes

pub returns-clause-guarded : goal.returns-clause-guarded
returns-clause-guarded g c =
    let a = g.D.SectorDevice.plate c.args.device.now in let s = g.D.SectorDevice.plate c.write_durably.new.device in
    let d = g.D.SectorDevice.plate c.put_in_place.new.device in let durable = c.in_default.ensures.durable c.requires.trusted in
    guarded_placed a c.args.next c.args.number c.args.firsts.now c.args.blocks.now c.requires.sectors c.requires.guarded s c.in_default.ensures.written durable d c.put_in_place.ensures.changes
    (put_placed a c.args.next c.args.number c.args.firsts.now c.args.blocks.now c.requires.sectors c.requires.guarded s c.in_default.ensures.written durable d c.in_default-put_in_place.ensures.put)
