use Rattle.up_engine.proofs.NetTables.{lanes_next}
use Rattle.up_engine.proofs.tables.lanes_of.Goals as goal

pub loop-i-preserved : goal.loop-i-preserved
loop-i-preserved g c = record {
  lanes = rw c.push_reserved.ensures.items (lanes_next c.args.graph.now.pipes c.args.heads.now c.loop-i.i c.loop-i.lanes.items c.loop-i.invariant.lanes c.in-Ok.lane c.in-Ok.ensures);
  room = rw c.push_reserved.ensures.capacity c.loop-i.invariant.room;
}
