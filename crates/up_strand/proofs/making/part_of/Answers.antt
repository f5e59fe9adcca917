use Rattle.std.proofs.Common.{Some, ap, ◌∙◌}
use Rattle.up_model.specs.Ends.{is_sink}
use Rattle.up_strand.proofs.Begun.{sink_begins}
use Rattle.up_strand.proofs.making.part_of.Goals as goal

pub returns-in-Sink-clause-stands : goal.returns-in-Sink-clause-stands
returns-in-Sink-clause-stands g c seat kind start =
    sink_begins g.K.Sink.state seat _ _ c.in-Some.sink c.of.result (kind ∙ ap Some c.in-Sink.is) c.of.ensures
    (rw c.in-Some.ensures at (start (ap is_sink c.in-Sink.is) c.in-Some.sink))
