use Rattle.std.proofs.lemmas.List.Elements.{All-tail}
use Rattle.up_shape.proofs.StoreSteps.{Stays-trans}
use Rattle.up_shape.proofs.flow.give_up_all.Goals as goal

pub loop-p-preserved : goal.loop-p-preserved
loop-p-preserved g c =
    let fits = rw c.in-Some.ensures at c.loop-p.invariant.0 in (
      All-tail (λ p. g.P.LocalPacket.fits p (g.P.Store.Stash.state c.args.s.now).family) _ _ fits,
      Stays-trans _ _ _ c.loop-p.invariant.1 c.give_up.ensures.store,
    )
