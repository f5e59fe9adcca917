use Rattle.std.proofs.Common.{◌≡◌, ℕ, ◌<◌, ◌≤◌, drop, get_or, length}
use Rattle.std.specs.Vec.{vec_capacity}
use Rattle.up_strand.proofs.Begun.{sinks_before}
use Rattle.up_strand.specs.Making.{HasBegun, sink_places}
use Rattle.up_strand.specs.StrandCalls.{told_of}
use Rattle.up_strand.specs.declared.node.Node.{Node}
use Rattle.up_strand.proofs.making.nodes_of.Given as goal

abbrev pub invariant-loop-i : goal.invariant-loop-i
invariant-loop-i g l =
    let state = g.K.Sink.state in
    record {
      upto : l.i ≤ length l.shape.places.items;
      count : length l.nodes.items ≡ l.i;
      room : length l.shape.places.items ≤ vec_capacity l.nodes;
      begun : (i : ℕ) (d : Node _ _) → i < l.i
          → HasBegun l.pipes l.shape g.P.LocalPacket.plain state (told_of state (sink_places l.pipes l.shape) l.initial.sinks) i (get_or l.nodes.items i d);
      values : l.values ≡ drop l.i l.initial.values;
      rest : l.sinks ≡ drop (sinks_before l.pipes l.shape l.i) l.initial.sinks;
    }
