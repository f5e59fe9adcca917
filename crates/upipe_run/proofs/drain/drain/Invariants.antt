use Rattle.std.proofs.Common.{◌≡◌, ◌≤◌, ◌-◌, length, take}
use Rattle.std.specs.Io.KnownBytes.{Appends}
use Rattle.upipe_run.specs.Filling.{IsSameSink}
use Rattle.upipe_run.proofs.drain.drain.Given as goal

abbrev pub invariant-loop-count : goal.invariant-loop-count
invariant-loop-count g l =
    let state = g.K.Sink.state in
    record {
      within : l.count ≤ length l.piece;
      bytes : Appends (state l.initial.sink).written (state l.sink).written (take l.count l.piece);
      faults : (state l.sink).faults ≡ (state l.initial.sink).faults;
      same : IsSameSink (state l.initial.sink) (state l.sink);
    }

abbrev pub decreases-loop-count : goal.decreases-loop-count
decreases-loop-count g l = length l.piece - l.count
