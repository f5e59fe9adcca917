-- All that a run can be seen to change: a depot, and the streams that it prints to.
use Rattle.up_outside.specs.States.{DepotState, SinkState}

pub record Seen : Type 0 where
  pub depot : DepotState
  pub out : SinkState
  pub err : SinkState

abbrev pub seen : DepotState → SinkState → SinkState → Seen
seen depot out err = record { depot = depot; out = out; err = err }
