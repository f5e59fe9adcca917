use Rattle.up_engine.proofs.SameLanes.{nothing_put, others_stay}
use Rattle.up_engine.proofs.net.Net.put_in.Goals as goal

pub returns-clause-unchanged : goal.returns-clause-unchanged
returns-clause-unchanged g c =
    nothing_put c.args.self.now.lanes.items c.args.i c.index_mut.result.now c.in-Some.lane c.try_send.new.self c.try_send.result
    c.index_mut.ensures.value c.in-Some.is c.try_send.ensures.cap c.try_send.ensures.unchanged

pub returns-clause-others : goal.returns-clause-others
returns-clause-others g c =
    others_stay c.args.self.now.lanes.items c.args.i c.index_mut.result.now c.in-Some.lane c.try_send.new.self c.requires.within
    c.index_mut.ensures.value c.in-Some.is c.try_send.ensures.cap
