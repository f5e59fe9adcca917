use Rattle.std.proofs.Common.{◌≡◌, ◌≤◌, ◌-◌, true, take}
use Rattle.up_strand.specs.Writing.{Receives}
use Rattle.up_strand.proofs.sink_packet.write_runs.Given as goal

abbrev pub invariant-loop-at : goal.invariant-loop-at
invariant-loop-at g l =
    let state = g.K.Sink.state in
    record {
      within : l.at ≤ l.size;
      bytes : Receives (state l.initial.sink) (state l.sink) true (take l.at (g.P.LocalPacket.plain l.p).bytes);
      faults : (state l.sink).faults ≡ (state l.initial.sink).faults;
    }

abbrev pub decreases-loop-at : goal.decreases-loop-at
decreases-loop-at g l = l.size - l.at
