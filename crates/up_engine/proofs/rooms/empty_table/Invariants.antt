use Rattle.std.proofs.Common.{◌≡◌, ◌≤◌, ◌-◌, length, replicate}
use Rattle.std.specs.Vec.{vec_capacity}
use Rattle.up_engine.specs.declared.object.Object.TheVariants as objects
use Rattle.up_engine.proofs.rooms.empty_table.Given as goal

abbrev pub invariant-loop-table : goal.invariant-loop-table
invariant-loop-table g l = record {
  items : l.table.items ≡ replicate (length l.table.items) objects.None;
  few : length l.table.items ≤ l.initial.count;
  room : l.initial.count ≤ vec_capacity l.table;
}

abbrev pub decreases-loop-table : goal.decreases-loop-table
decreases-loop-table g l = l.initial.count - length l.table.items
