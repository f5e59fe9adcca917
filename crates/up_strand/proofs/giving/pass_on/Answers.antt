use Rattle.std.proofs.Common.{◌≡◌, ◌<◌, true, false, refl, sym, ap, ◌∙◌, length, set, get_or, arith}
use Rattle.std.proofs.lemmas.List.{length-set}
use Rattle.std.proofs.lemmas.List.Elements.{All-head, All-tail}
use Rattle.up_model.specs.Packet.{IsLegal}
use Rattle.up_shape.proofs.StoreSteps.{Stays-refl, Stays-trans}
use Rattle.up_strand.proofs.Gives.{placed_itself}
use Rattle.up_strand.proofs.Lists.{all_set, pairs_set}
use Rattle.up_strand.proofs.Passing.{passes_nothing, passes_next, same_outbox, waits_less, node_here, placed_passed, inner_passed, untaken_passed, never_itself, ready_passed, wait_legal, takers_same}
use Rattle.up_strand.specs.Nodes.{IsTaking, IsAsPlaced, NodeFits, takes_from}
use Rattle.up_strand.specs.declared.node.Node.{Node}
use Rattle.up_strand.proofs.giving.pass_on.Goals as goal

pub returns-then-is_outlet-clause-passes : goal.returns-then-is_outlet-clause-passes
returns-then-is_outlet-clause-passes g c = passes_nothing g.P.LocalPacket.plain g.K.Sink.state c.args.place true c.args.nodes.now

pub packets-init : goal.packets-init
packets-init g c = record {
  passed = passes_nothing g.P.LocalPacket.plain g.K.Sink.state c.args.place true c.args.nodes.now;
  takers = c.requires.tree.1.takers c.args.place c.index-nodes-place-2.result c.requires.within;
  family = c.requires.family;
  stays = Stays-refl _;
}

pub returns-in-None-clause-passes : goal.returns-in-None-clause-passes
returns-in-None-clause-passes g c =
    let none = c.in-None.ensures.packet in
    rw (same_outbox g.P.LocalPacket.plain g.K.Sink.state c.args.place c.packets.nodes c.index-nodes-place-in-packets.result c.next.new.self none.0 none.1 c.next.ensures.tally)
    c.packets.invariant.passed

pub returns-in-None-clause-family : goal.returns-in-None-clause-family
returns-in-None-clause-family g c =
    let none = c.in-None.ensures.packet in
    rw (same_outbox g.P.LocalPacket.plain g.K.Sink.state c.args.place c.packets.nodes c.index-nodes-place-in-packets.result c.next.new.self none.0 none.1 c.next.ensures.tally)
    c.packets.invariant.family

pub give-requires-clause-takers : goal.give-requires-clause-takers
give-requires-clause-takers g c =
    let inv = c.packets.invariant in
    let now = c.packets.nodes in
    let e = c.index-nodes-place-in-packets.result in
    let place = c.args.place in
    let within : place < length now = omega (arith, c.requires.within, c.packets.auto.nodes) in
    let y : Node g.row.P.Denot g.row.K.Denot = record (get_or now place e) { out = c.next.new.self } in
    let placed = placed_passed g.P.LocalPacket.plain g.K.Sink.state place true c.args.nodes.now now inv.passed in
    takers_same place now (set now place y) _ (length-set now place y)
    (pairs_set IsAsPlaced now place y e within placed_itself (record { input = refl; takers = refl; outlet = refl; stopped = λ failed. refl; fallen = λ short. short; still = λ short sink. refl }))
    (takers_same place c.args.nodes.now now _ c.packets.auto.nodes placed inv.takers)

pub give-requires-clause-ready : goal.give-requires-clause-ready
give-requires-clause-ready g c =
    let inv = c.packets.invariant in
    let now = c.packets.nodes in
    let e = c.index-nodes-place-in-packets.result in
    let place = c.args.place in
    let within : place < length now = omega (arith, c.requires.within, c.packets.auto.nodes) in
    let ready = ready_passed g.P.LocalPacket.plain g.K.Sink.state place true c.args.nodes.now now c.packets.auto.nodes
    (λ d. never_itself c.args.nodes.now place d c.requires.within c.requires.tree) inv.passed c.requires.ready in
    all_set (λ (n : Node g.row.P.Denot g.row.K.Denot). takes_from n.input place ≡ true → IsTaking n) now place _ ready
    (λ takes. let taking = ready place e within takes in record { goes_on = taking.goes_on; gone = taking.gone })

pub give-requires-clause-legal : goal.give-requires-clause-legal
give-requires-clause-legal g c =
    let plain = g.P.LocalPacket.plain in
    let now = c.packets.nodes in
    let e = c.index-nodes-place-in-packets.result in
    let within : c.args.place < length now = omega (arith, c.requires.within, c.packets.auto.nodes) in
    let went = c.packets.invariant.passed.stand c.requires.stand.0 c.requires.stand.1 in
    let legal = wait_legal plain g.K.Sink.state now _ c.args.place e within went.stand in
    All-head (λ p. IsLegal (plain p)) _ _ (rw c.in-Some.ensures.packet at legal)

pub give-requires-clause-packet : goal.give-requires-clause-packet
give-requires-clause-packet g c =
    let inv = c.packets.invariant in
    let e = c.index-nodes-place-in-packets.result in
    let within : c.args.place < length c.packets.nodes = omega (arith, c.requires.within, c.packets.auto.nodes) in
    let fits = rw c.in-Some.ensures.packet at (inv.family c.args.place e within) in
    rw inv.stays.same (All-head (λ p. g.P.LocalPacket.fits p (g.P.Store.Stash.state c.args.s.now).family) _ _ fits)

pub give-requires-clause-family : goal.give-requires-clause-family
give-requires-clause-family g c =
    let inv = c.packets.invariant in
    let e = c.index-nodes-place-in-packets.result in
    let within : c.args.place < length c.packets.nodes = omega (arith, c.requires.within, c.packets.auto.nodes) in
    let fits = rw c.in-Some.ensures.packet at (inv.family c.args.place e within) in
    rw inv.stays.same
    (all_set (λ n. NodeFits g.P.LocalPacket.fits n (g.P.Store.Stash.state c.args.s.now).family) c.packets.nodes c.args.place _ inv.family
    (All-tail (λ p. g.P.LocalPacket.fits p (g.P.Store.Stash.state c.args.s.now).family) _ _ fits))

pub packets-smaller : goal.packets-smaller
packets-smaller g c =
    let plain = g.P.LocalPacket.plain in
    let state = g.K.Sink.state in
    let now = c.packets.nodes in
    let e = c.index-nodes-place-in-packets.result in
    let place = c.args.place in
    let within : place < length now = omega (arith, c.requires.within, c.packets.auto.nodes) in
    let y : Node g.row.P.Denot g.row.K.Denot = record (get_or now place e) { out = c.next.new.self } in
    let same : length c.give.new.nodes ≡ length now = c.give.auto.nodes ∙ length-set now place y in
    let untaken = untaken_passed plain state place true c.args.nodes.now now e c.requires.within c.requires.tree c.packets.invariant.passed in
    let here = node_here plain state place _ now c.give.new.nodes e c.in-Some.p c.next.new.self within same untaken c.in-Some.ensures.packet c.next.ensures.tally c.give.ensures.gave in
    waits_less plain state place now c.give.new.nodes e c.in-Some.p c.next.new.self within same c.in-Some.ensures.packet (λ d. ap (λ n. n.out.packets) (here d))

pub packets-preserved : goal.packets-preserved
packets-preserved g c =
    let plain = g.P.LocalPacket.plain in
    let state = g.K.Sink.state in
    let inv = c.packets.invariant in
    let now = c.packets.nodes in
    let e = c.index-nodes-place-in-packets.result in
    let place = c.args.place in
    let within : place < length now = omega (arith, c.requires.within, c.packets.auto.nodes) in
    let y : Node g.row.P.Denot g.row.K.Denot = record (get_or now place e) { out = c.next.new.self } in
    let same : length c.give.new.nodes ≡ length now = c.give.auto.nodes ∙ length-set now place y in
    let untaken = untaken_passed plain state place true c.args.nodes.now now e c.requires.within c.requires.tree inv.passed in
    let inner = inner_passed plain state place true c.args.nodes.now now c.index-nodes-place.result e c.requires.within inv.passed
    (sym c.is_outlet.ensures ∙ c.if-is_outlet.false) in
    record {
      passed = passes_next plain state place true c.args.nodes.now now c.give.new.nodes e c.in-Some.p c.next.new.self within c.packets.auto.nodes same
          untaken inner c.in-Some.ensures.packet c.next.ensures.tally c.in-Ok.ensures.gave inv.passed;
      takers = inv.takers;
      family = rw inv.stays.same at c.give.ensures.family;
      stays = Stays-trans _ _ _ inv.stays c.give.ensures.store;
    }

pub returns-in-Err-clause-passes : goal.returns-in-Err-clause-passes
returns-in-Err-clause-passes g c =
    let plain = g.P.LocalPacket.plain in
    let state = g.K.Sink.state in
    let inv = c.packets.invariant in
    let now = c.packets.nodes in
    let e = c.index-nodes-place-in-packets.result in
    let place = c.args.place in
    let within : place < length now = omega (arith, c.requires.within, c.packets.auto.nodes) in
    let y : Node g.row.P.Denot g.row.K.Denot = record (get_or now place e) { out = c.next.new.self } in
    let same : length c.give.new.nodes ≡ length now = c.give.auto.nodes ∙ length-set now place y in
    let untaken = untaken_passed plain state place true c.args.nodes.now now e c.requires.within c.requires.tree inv.passed in
    let inner = inner_passed plain state place true c.args.nodes.now now c.index-nodes-place.result e c.requires.within inv.passed
    (sym c.is_outlet.ensures ∙ c.if-is_outlet.false) in
    passes_next plain state place false c.args.nodes.now now c.give.new.nodes e c.in-Some.p c.next.new.self within c.packets.auto.nodes same
    untaken inner c.in-Some.ensures.packet c.next.ensures.tally c.in-Err.ensures.gave inv.passed

pub returns-in-Err-clause-family : goal.returns-in-Err-clause-family
returns-in-Err-clause-family g c = rw c.packets.invariant.stays.same at c.give.ensures.family
