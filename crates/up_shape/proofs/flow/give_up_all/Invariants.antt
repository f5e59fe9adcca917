use Rattle.std.proofs.Common.{All, length}
use Rattle.up_shape.specs.Stores.{Stays}
use Rattle.up_shape.proofs.flow.give_up_all.Given as goal

abbrev pub invariant-loop-p : goal.invariant-loop-p
invariant-loop-p g l =
    All (λ p. g.P.LocalPacket.fits p (g.P.Store.Stash.state l.initial.s).family) l.packets
    × Stays (g.P.Store.Stash.state l.initial.s) (g.P.Store.Stash.state l.s)

abbrev pub decreases-loop-p : goal.decreases-loop-p
decreases-loop-p g l = length l.packets
