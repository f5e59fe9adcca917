use Rattle.up_engine.proofs.ClosedSinks.{closes_sink}
use Rattle.up_engine.proofs.closing.close_one.Goals as goal

pub returns-in-Sink-kind : goal.returns-in-Sink-kind
returns-in-Sink-kind g c =
    rw (c.in-Sink-kind.is, c.in-Sink.is) (closes_sink g.D.Src.Source.state g.D.Snk.Sink.state c.in-Sink-kind.path c.in-Sink-kind.form c.in-Sink.sink
    (g.D.Depot.state c.args.depot.now) (g.D.Depot.state c.close_sink.new.self) (rw c.as_str.ensures.bytes at c.close_sink.ensures.held)
    c.close_sink.result c.close_sink.ensures.closes (rw c.as_str.ensures.bytes at c.close_sink.ensures.stored))
