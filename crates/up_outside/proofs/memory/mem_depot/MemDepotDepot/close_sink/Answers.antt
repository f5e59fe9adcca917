use Rattle.std.proofs.Common.{refl}
use Rattle.up_outside.proofs.Rooms.{rooms-insert, rooms-close, room_of_open, keeps_others}
use Rattle.up_outside.proofs.memory.mem_depot.MemDepotDepot.close_sink.Goals as goal

pub invariant_of-self-clause-rooms : goal.invariant_of-self-clause-rooms
invariant_of-self-clause-rooms c =
    let closes = rw c.place.ensures at c.close_entry.ensures in
    rooms-close c.args.self.now.held c.args.self.now.asked.items c.close_entry.new.asked.items _ _ _ c.args.path.now c.args.self.now.rooms c.requires refl closes

pub replace-requires : goal.replace-requires
replace-requires c = room_of_open c.args.self.now.held c.args.self.now.asked.items _ c.args.path.now c.args.self.now.rooms c.requires

pub invariant_of-self-2-clause-rooms : goal.invariant_of-self-2-clause-rooms
invariant_of-self-2-clause-rooms c =
    let closes = rw c.place.ensures at c.close_entry.ensures in
    let rooms = rooms-close c.args.self.now.held c.args.self.now.asked.items c.close_entry.new.asked.items _ _ _ c.args.path.now c.args.self.now.rooms c.requires refl closes in
    rw c.replace.ensures (rooms-insert c.args.self.now.held c.close_entry.new.asked.items c.args.path.now c.into_bytes.result rooms)

pub returns-clause-held : goal.returns-clause-held
returns-clause-held c = rw c.replace.ensures (keeps_others _ _ _)
