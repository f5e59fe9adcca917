use Rattle.std.proofs.Common.{◌≤◌, length}
use Rattle.std.specs.Vec.{vec_capacity}
use Rattle.up_engine.specs.Tables.{AreEmptyLanes}
use Rattle.up_engine.proofs.tables.lanes_of.Given as goal

abbrev pub invariant-loop-i : goal.invariant-loop-i
invariant-loop-i g l =
    record {
      lanes : AreEmptyLanes l.graph.pipes l.heads l.i l.lanes.items;
      room : length l.heads ≤ vec_capacity l.lanes;
    }
