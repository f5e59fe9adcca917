use Rattle.up_engine.proofs.SameLanes.{nothing_taken, others_stay}
use Rattle.up_engine.proofs.net.Net.take_in.Goals as goal

pub returns-clause-unchanged : goal.returns-clause-unchanged
returns-clause-unchanged g c =
    nothing_taken c.args.self.now.lanes.items c.args.i c.index_mut.result.now c.in-Some.lane c.try_receive.new.self c.try_receive.result
    c.index_mut.ensures.value c.in-Some.is c.try_receive.ensures.cap c.try_receive.ensures.first

pub returns-clause-others : goal.returns-clause-others
returns-clause-others g c =
    others_stay c.args.self.now.lanes.items c.args.i c.index_mut.result.now c.in-Some.lane c.try_receive.new.self c.requires.within
    c.index_mut.ensures.value c.in-Some.is c.try_receive.ensures.cap
