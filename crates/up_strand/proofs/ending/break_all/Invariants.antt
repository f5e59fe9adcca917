use Rattle.std.proofs.Common.{◌≡◌, ℕ, ◌<◌, [], false, get_or}
use Rattle.up_shape.specs.Stores.{Stays}
use Rattle.up_strand.specs.Nodes.{is_pipe, is_whole}
use Rattle.up_strand.specs.Stand.{StandWith, AreAsPlaced, AreSame}
use Rattle.up_strand.specs.declared.node.Node.{Node}
use Rattle.up_strand.proofs.ending.break_all.Given as goal

abbrev pub invariant-loop-i : goal.invariant-loop-i
invariant-loop-i g l =
    let state = g.P.Store.Stash.state in
    record {
      stand : StandWith g.P.LocalPacket.plain g.K.Sink.state l.initial.nodes l.nodes [];
      ended : (i : ℕ) (d : Node _ _) → i < l.i → is_pipe (get_or l.nodes i d).part ≡ false;
      out : AreSame (λ node. node.out) l.initial.nodes l.nodes;
      short : AreSame (λ node. node.short) l.initial.nodes l.nodes;
      whole : AreSame (λ node. is_whole node.part) l.initial.nodes l.nodes;
      placed : AreAsPlaced l.initial.nodes l.nodes;
      stays : Stays (state l.initial.s) (state l.s);
    }
