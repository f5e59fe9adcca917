use Rattle.std.proofs.lemmas.List.Elements.{All-head, All-tail}
use Rattle.up_model.specs.Packet.{IsLegal}
use Rattle.up_shape.proofs.Fed.{not_fed, fed_next, fed_in_part}
use Rattle.up_shape.proofs.StoreSteps.{Stays-refl, Stays-trans}
use Rattle.up_shape.proofs.flow.feed_all.Goals as goal

pub loop-p-init : goal.loop-p-init
loop-p-init g c = (not_fed _ _ _ _ _ _, c.requires.legal, c.requires.packets, c.requires.family, Stays-refl _)

pub feed-requires-clause-legal : goal.feed-requires-clause-legal
feed-requires-clause-legal g c =
    let legal = rw c.in-Some.ensures at c.loop-p.invariant.1 in
    All-head (λ p. IsLegal (g.P.LocalPacket.plain p)) _ _ legal

pub feed-requires-clause-packet : goal.feed-requires-clause-packet
feed-requires-clause-packet g c =
    let fits = rw c.in-Some.ensures at c.loop-p.invariant.2 in
    rw c.loop-p.invariant.4.same (All-head (λ p. g.P.LocalPacket.fits p (g.P.Store.Stash.state c.args.s.now).family) _ _ fits)

pub loop-p-preserved : goal.loop-p-preserved
loop-p-preserved g c =
    let fed = rw c.in-Some.ensures at c.loop-p.invariant.0 in
    let legal = rw c.in-Some.ensures at c.loop-p.invariant.1 in
    let fits = rw c.in-Some.ensures at c.loop-p.invariant.2 in (
      fed_next _ _ _ _ _ _ _ _ _ _ _ _ fed c.feed.ensures.kind c.in-Ok.ensures.stands c.in-Ok.ensures.grew,
      All-tail (λ p. IsLegal (g.P.LocalPacket.plain p)) _ _ legal,
      All-tail (λ p. g.P.LocalPacket.fits p (g.P.Store.Stash.state c.args.s.now).family) _ _ fits,
      rw c.loop-p.invariant.4.same at c.feed.ensures.family,
      Stays-trans _ _ _ c.loop-p.invariant.4 c.feed.ensures.store,
    )

pub give_up_all-requires : goal.give_up_all-requires
give_up_all-requires g c =
    let fits = rw c.in-Some.ensures at c.loop-p.invariant.2 in
    rw (c.feed.ensures.store.same, c.loop-p.invariant.4.same)
    (record { family = All-tail (λ p. g.P.LocalPacket.fits p (g.P.Store.Stash.state c.args.s.now).family) _ _ fits })

pub returns-in-Err-clause-in_part : goal.returns-in-Err-clause-in_part
returns-in-Err-clause-in_part g c =
    let fed = rw c.in-Some.ensures at c.loop-p.invariant.0 in
    fed_in_part _ _ _ _ _ _ (g.met.M.Module.within c.args.m.now) _ _ _ _ _ fed c.in-Err.ensures.in_part
