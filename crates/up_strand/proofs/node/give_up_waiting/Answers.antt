use Rattle.std.proofs.Common.{◌∙◌}
use Rattle.std.proofs.lemmas.List.Elements.{All-head, All-tail}
use Rattle.up_shape.proofs.StoreSteps.{Stays-trans}
use Rattle.up_strand.proofs.node.give_up_waiting.Goals as goal

pub loop-p-preserved : goal.loop-p-preserved
loop-p-preserved g c =
    let so_far = c.loop-p.invariant in
    let fits = rw c.in-Some.ensures.packet at so_far.family in
    record {
      family = All-tail (λ p. g.P.LocalPacket.fits p (g.P.Store.Stash.state c.args.s.now).family) _ _ fits;
      tally = c.next.ensures.tally ∙ so_far.tally;
      stays = Stays-trans _ _ _ so_far.stays c.give_up.ensures.store;
    }

pub give_up-requires : goal.give_up-requires
give_up-requires g c =
    let so_far = c.loop-p.invariant in
    let fits = rw c.in-Some.ensures.packet at so_far.family in
    rw so_far.stays.same
    (record { family = All-head (λ p. g.P.LocalPacket.fits p (g.P.Store.Stash.state c.args.s.now).family) _ _ fits })
