use Rattle.std.proofs.Common.{◌≡◌, ◌≤◌, ◌-◌, true, length, take}
use Rattle.up_strand.specs.Writing.{Receives}
use Rattle.up_strand.proofs.sink_packet.drain.Given as goal

abbrev pub invariant-loop-count : goal.invariant-loop-count
invariant-loop-count g l =
    let state = g.K.Sink.state in
    record {
      within : l.count ≤ length l.piece;
      bytes : Receives (state l.initial.sink) (state l.sink) true (take l.count l.piece);
      faults : (state l.sink).faults ≡ (state l.initial.sink).faults;
    }

abbrev pub decreases-loop-count : goal.decreases-loop-count
decreases-loop-count g l = length l.piece - l.count
