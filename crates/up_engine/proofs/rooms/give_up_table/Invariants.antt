use Rattle.std.proofs.Common.{All, length}
use Rattle.up_engine.specs.Rooms.{IsNone}
use Rattle.up_engine.proofs.rooms.give_up_table.Given as goal

abbrev pub invariant-loop-object : goal.invariant-loop-object
invariant-loop-object g l = All IsNone l.table.items

abbrev pub decreases-loop-object : goal.decreases-loop-object
decreases-loop-object g l = length l.table.items
