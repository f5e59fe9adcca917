use Rattle.up_engine.proofs.ClosedSoFar.{Closing}
use Rattle.up_engine.proofs.closing.close_all.Given as goal

abbrev pub invariant-loop-i : goal.invariant-loop-i
invariant-loop-i g l =
    Closing g.D.Src.Source.state g.D.Snk.Sink.state l.graph.pipes l.i (g.D.Depot.state l.initial.depot) (g.D.Depot.state l.depot)
    l.initial.table l.table l.initial.outcomes l.outcomes
