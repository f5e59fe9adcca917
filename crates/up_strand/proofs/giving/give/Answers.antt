use Rattle.std.proofs.Common.{◌≡◌, ℕ, ◌<◌, ◌≤◌, true, false, refl, ◌∙◌, length, get_or, is_ok, arith, []}
use Rattle.up_shape.proofs.StoreSteps.{Stays-trans, Stays-refl}
use Rattle.up_strand.proofs.Gives.{and_ok, given_one, gave_next, gave_last, gave_none}
use Rattle.up_strand.proofs.Lists.{all_set, left_next}
use Rattle.up_strand.specs.Gifts.{Given}
use Rattle.up_strand.specs.Nodes.{NodeFits, takes_from}
use Rattle.up_strand.specs.Tree.{AreBetween}
use Rattle.up_strand.specs.declared.node.Node.{Node}
use Rattle.up_strand.proofs.giving.give.Goals as goal

pub loop-i-init : goal.loop-i-init
loop-i-init g c =
    let nodes = c.args.nodes.now in
    let between : AreBetween c.args.place nodes c.in-Some.field-0 = rw c.in-Some.is at c.requires.takers in
    record {
      upto = between.rising;
      done = λ k d before. gave_none g.P.LocalPacket.plain g.K.Sink.state c.args.place _ nodes nodes 0 d true c.in-Some.field-0 between k d before;
      left = λ k d behind. refl;
      same = refl;
      fits = c.requires.packet;
      family = c.requires.family;
      stays = Stays-refl _;
    }

pub loop-i-preserved : goal.loop-i-preserved
loop-i-preserved g c =
    let plain = g.P.LocalPacket.plain in
    let state = g.K.Sink.state in
    let inv = c.loop-i.invariant in
    let between : AreBetween c.args.place c.args.nodes.now c.in-Some.field-0 = rw c.in-Some.is at c.requires.takers in
    let within : c.loop-i.i < length c.loop-i.nodes = let last = between.within in omega (arith, c.loop-i.auto.nodes, c.loop-i-test.true) in
    let gave = rw inv.same at c.give_second.ensures.gave in
    let Both : is_ok c.and-given.result ≡ true → (is_ok c.give_second.result ≡ true) × (is_ok c.loop-i.given ≡ true) = λ well. and_ok _ _ (rw c.and-given.ensures at well) in
    record {
      upto = omega (arith, c.loop-i-test.true);
      done = gave_next plain state c.args.place _ c.args.nodes.now c.loop-i.nodes c.loop-i.i c.give_second.new.node
          (is_ok c.loop-i.given) (is_ok c.give_second.result) (is_ok c.and-given.result) c.index-nodes-i.result within
          (λ well. (Both well).1) (λ well. (Both well).0) inv.done inv.left gave;
      left = left_next (λ old new. Given plain state true old new []) c.args.nodes.now c.loop-i.nodes c.loop-i.i c.give_second.new.node inv.left;
      same = c.give_second.ensures.same ∙ inv.same;
      fits = rw inv.stays.same at c.give_second.ensures.packet;
      family = all_set (λ n. NodeFits g.P.LocalPacket.fits n (g.P.Store.Stash.state c.args.s.now).family) c.loop-i.nodes c.loop-i.i c.give_second.new.node
          inv.family (rw inv.stays.same at c.give_second.ensures.family);
      stays = Stays-trans _ _ _ inv.stays c.give_second.ensures.store;
    }

pub returns-in-Ok-clause-gave : goal.returns-in-Ok-clause-gave
returns-in-Ok-clause-gave g c =
    let plain = g.P.LocalPacket.plain in
    let state = g.K.Sink.state in
    let inv = c.loop-i.invariant in
    let nodes = c.args.nodes.now in
    let last = c.in-Some.field-0.last in
    let e = c.index-nodes-last.result in
    let between : AreBetween c.args.place nodes c.in-Some.field-0 = rw c.in-Some.is at c.requires.takers in
    let inside : last < length c.loop-i.nodes = let within = between.within in omega (arith, c.loop-i.auto.nodes) in
    let left : (k : ℕ) (d : Node g.row.P.Denot g.row.K.Denot) → last ≤ k → get_or c.loop-i.nodes k d ≡ get_or nodes k d = λ k d behind. inv.left k d (omega (arith, inv.upto)) in
    let takes : takes_from (get_or c.loop-i.nodes last e).input c.args.place ≡ true =
    rw (left last e (omega arith)) (between.last e) in
    let took = rw inv.same at c.take.ensures.took in
    gave_last plain state c.args.place _ nodes c.loop-i.nodes last c.take.new.self
    (is_ok c.loop-i.given) true (is_ok c.loop-i.given) e c.in-Some.field-0 refl c.loop-i.auto.nodes between
    (λ well. well) (λ well. refl) (λ k d below. inv.done k d (omega (arith, inv.upto, c.loop-i-test.false))) left
    (given_one plain state _ (get_or c.loop-i.nodes last e) c.take.new.self c.args.place _ takes took c.take.ensures.placed (λ _. c.take.ensures.taking)
    (λ _. c.in-Ok.ensures.sound))

pub returns-in-Ok-clause-family : goal.returns-in-Ok-clause-family
returns-in-Ok-clause-family g c =
    let inv = c.loop-i.invariant in
    all_set (λ n. NodeFits g.P.LocalPacket.fits n (g.P.Store.Stash.state c.args.s.now).family) c.loop-i.nodes c.in-Some.field-0.last c.take.new.self
    inv.family (rw inv.stays.same at c.take.ensures.family)

pub returns-in-Err-clause-gave : goal.returns-in-Err-clause-gave
returns-in-Err-clause-gave g c =
    let plain = g.P.LocalPacket.plain in
    let state = g.K.Sink.state in
    let inv = c.loop-i.invariant in
    let nodes = c.args.nodes.now in
    let last = c.in-Some.field-0.last in
    let e = c.index-nodes-last.result in
    let between : AreBetween c.args.place nodes c.in-Some.field-0 = rw c.in-Some.is at c.requires.takers in
    let inside : last < length c.loop-i.nodes = let within = between.within in omega (arith, c.loop-i.auto.nodes) in
    let left : (k : ℕ) (d : Node g.row.P.Denot g.row.K.Denot) → last ≤ k → get_or c.loop-i.nodes k d ≡ get_or nodes k d = λ k d behind. inv.left k d (omega (arith, inv.upto)) in
    let takes : takes_from (get_or c.loop-i.nodes last e).input c.args.place ≡ true =
    rw (left last e (omega arith)) (between.last e) in
    let took = rw inv.same at c.take.ensures.took in
    gave_last plain state c.args.place _ nodes c.loop-i.nodes last c.take.new.self
    (is_ok c.loop-i.given) false false e c.in-Some.field-0 refl c.loop-i.auto.nodes between
    (λ well. absurd (cc)) (λ well. well) (λ k d below. inv.done k d (omega (arith, inv.upto, c.loop-i-test.false))) left
    (given_one plain state _ (get_or c.loop-i.nodes last e) c.take.new.self c.args.place _ takes took c.take.ensures.placed (λ _. c.take.ensures.taking)
    (λ wrong. absurd (cc)))

pub returns-in-Err-clause-family : goal.returns-in-Err-clause-family
returns-in-Err-clause-family g c =
    let inv = c.loop-i.invariant in
    all_set (λ n. NodeFits g.P.LocalPacket.fits n (g.P.Store.Stash.state c.args.s.now).family) c.loop-i.nodes c.in-Some.field-0.last c.take.new.self
    inv.family (rw inv.stays.same at c.take.ensures.family)
