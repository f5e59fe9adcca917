use Rattle.std.proofs.Common.{◌≡◌, take}
use Rattle.up_engine.specs.Parts.{SinksTaken, sinks_at}
use Rattle.up_engine.proofs.parts.take_sinks.Given as goal

abbrev pub invariant-loop-i : goal.invariant-loop-i
invariant-loop-i g l =
    record {
      room : l.sinks.room ≡ l.initial.sinks.room;
      given : l.sinks.items ≡ sinks_at l.initial.table (take l.i l.places);
      left : SinksTaken (take l.i l.places) l.initial.table l.table;
    }
