use Rattle.std.proofs.Common.{◌≡◌, All, length}
use Rattle.up_shape.specs.Stores.{Stays}
use Rattle.up_strand.proofs.node.give_up_waiting.Given as goal

abbrev pub invariant-loop-p : goal.invariant-loop-p
invariant-loop-p g l =
    let packet = g.P.LocalPacket in
    let state = g.P.Store.Stash.state in
    record {
      family : All (λ p. packet.fits p (state l.initial.s).family) l.out.packets;
      tally : l.out.tally ≡ l.initial.out.tally;
      stays : Stays (state l.initial.s) (state l.s);
    }

abbrev pub decreases-loop-p : goal.decreases-loop-p
decreases-loop-p g l = length l.out.packets
