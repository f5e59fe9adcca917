use Rattle.std.proofs.Common.{◌≡◌, ◌≤◌, length, take}
use Rattle.up_engine.proofs.rooms.filled.Given as goal

abbrev pub invariant-loop-i : goal.invariant-loop-i
invariant-loop-i g l = record {
  upto : l.i ≤ length l.initial.items;
  items : l.list.items ≡ take l.i l.initial.items;
  room : l.list.room ≡ l.initial.list.room;
}
