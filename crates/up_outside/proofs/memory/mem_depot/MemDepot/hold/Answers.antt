use Rattle.up_outside.proofs.Rooms.{rooms-set}
use Rattle.up_outside.proofs.memory.mem_depot.MemDepot.hold.Goals as goal

pub invariant_of-self-clause-rooms : goal.invariant_of-self-clause-rooms
invariant_of-self-clause-rooms c =
    rooms-set c.args.self.now.held c.set.new.self c.args.self.now.asked.items c.args.path.now _ c.set.result c.set.ensures.set c.set.ensures.unchanged c.args.self.now.rooms
