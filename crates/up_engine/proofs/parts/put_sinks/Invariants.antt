use Rattle.std.proofs.Common.{take}
use Rattle.up_engine.proofs.PutParts.{SinksUpto}
use Rattle.up_engine.proofs.parts.put_sinks.Given as goal

abbrev pub invariant-loop-i : goal.invariant-loop-i
invariant-loop-i g l = SinksUpto l.graph.pipes (take l.i l.places) l.initial.table l.table l.initial.sinks l.sinks
