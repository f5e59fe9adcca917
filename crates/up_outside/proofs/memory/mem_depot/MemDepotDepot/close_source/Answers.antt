use Rattle.std.proofs.Common.{refl}
use Rattle.up_outside.proofs.Rooms.{rooms-close}
use Rattle.up_outside.proofs.memory.mem_depot.MemDepotDepot.close_source.Goals as goal

pub invariant_of-self-clause-rooms : goal.invariant_of-self-clause-rooms
invariant_of-self-clause-rooms c =
    let closes = rw c.place.ensures at c.close_entry.ensures in
    rooms-close c.args.self.now.held c.args.self.now.asked.items c.close_entry.new.asked.items _ _ _ c.requires.0 c.args.self.now.rooms c.requires.1 refl closes
