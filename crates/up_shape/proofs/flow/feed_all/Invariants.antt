use Rattle.std.proofs.Common.{All, length}
use Rattle.up_model.specs.Packet.{IsLegal}
use Rattle.up_shape.proofs.Fed.{IsFed}
use Rattle.up_shape.specs.Growth.{AreOf}
use Rattle.up_shape.specs.Stores.{Stays}
use Rattle.up_shape.proofs.flow.feed_all.Given as goal

abbrev pub invariant-loop-p : goal.invariant-loop-p
invariant-loop-p g l =
    IsFed g.P.LocalPacket.plain g.M.Module.kind g.M.Module.stands l.initial.m l.m l.initial.flow l.flow l.initial.out l.out
    × All (λ p. IsLegal (g.P.LocalPacket.plain p)) l.flow
    × All (λ p. g.P.LocalPacket.fits p (g.P.Store.Stash.state l.initial.s).family) l.flow
    × AreOf g.P.LocalPacket.fits (g.M.Module.agrees l.m) l.out.packets (g.P.Store.Stash.state l.initial.s).family
    × Stays (g.P.Store.Stash.state l.initial.s) (g.P.Store.Stash.state l.s)

abbrev pub decreases-loop-p : goal.decreases-loop-p
decreases-loop-p g l = length l.flow
