use Rattle.up_engine.proofs.WithinStrands.{sink_due_all, sink_due_first}
use Rattle.up_engine.proofs.laws.sinks_are_due_first_parts.Goals as goal

pub returns-clause-first : goal.returns-clause-first
returns-clause-first c pipes past waiting source head place pipe well joined is within of there =
    sink_due_first pipes past waiting well joined source head place pipe is within of there

pub returns-clause-all : goal.returns-clause-all
returns-clause-all c pipes past waiting source head place pipe at well joined is within of stands had ended there =
    sink_due_all pipes past waiting well joined source head place pipe is within of there at stands had ended
