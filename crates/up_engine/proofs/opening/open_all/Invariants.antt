use Rattle.up_engine.proofs.Opened.{Opened}
use Rattle.up_engine.proofs.opening.open_all.Given as goal

abbrev pub invariant-loop-i : goal.invariant-loop-i
invariant-loop-i g l =
    Opened g.D.Src.Source.state g.D.Snk.Sink.state l.graph.pipes l.i (g.D.Depot.state l.initial.depot) (g.D.Depot.state l.depot) l.table
