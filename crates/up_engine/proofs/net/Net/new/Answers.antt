use Rattle.std.proofs.Common.{◌≡◌, ◌-◌, ◌<◌, ◌≤◌, ℕ, List, length, Result, Ok, Err, ap, sym, ◌∙◌, subst, arith}
use Rattle.std.specs.Prelude.{OnErr}
use Rattle.std.proofs.lemmas.List.{length-map, length_push}
use Rattle.up_engine.proofs.BegunNets.{all_begin, all_taken, next_ends, none_made, rest_back, untouched}
use Rattle.up_engine.proofs.FreshNets.{fresh_fits, fresh_stands, nothing_waits, same_tables, still_taken, strand_made}
use Rattle.up_engine.proofs.GivenBack.{all_back}
use Rattle.up_engine.specs.Begun.{AreBackFrom, AreTakenOf, StrandsFit, StrandsStand, beginning}
use Rattle.up_model.specs.Plans.{heads}
use Rattle.up_model.specs.declared.pipe.Pipe.{Pipe}
use Rattle.up_plan.specs.Plan.{plan_of, plan_strand}
use Rattle.up_plan.specs.declared.plan.Plan.{Plan}
use Rattle.up_shape.proofs.StoreSteps.{Stays-refl, Stays-trans}
use Rattle.up_strand.specs.declared.strand.Strand.{Strand}
use Rattle.up_engine.proofs.net.Net.new.Goals as goal

on_error : {T E : Type 0} (P : Type 0) (result : Result T E) → P → OnErr result P
on_error P (Ok x) is = tt
on_error P (Err e) is = is

pub returns-in_err-net-clause-back : goal.returns-in_err-net-clause-back
returns-in_err-net-clause-back g c =
    let pipes = c.args.graph.now.pipes in
    let reads = g.S.Source.state in
    let writes = g.K.Sink.state in
    on_error _ c.from_residual.result (
      beginning reads writes pipes c.args.table.now,
      all_begin reads writes pipes c.args.table.now c.requires.there,
      untouched reads writes pipes c.args.table.now c.requires.there c.requires.well_formed,
    )

pub strands-init : goal.strands-init
strands-init g c =
    let none : length c.in_ok-net.net.strands.items ≡ 0 = ap length c.in_ok-net.ensures.none in
    let pipes = c.args.graph.now.pipes in
    record {
      tables = c.in_ok-net.ensures.tables;
      stand = record {
        few = omega (arith, none);
        stand = λ i d below. absurd (omega (arith, none, below));
        graphs = λ i below. absurd (omega (arith, none, below));
        places = λ i below. absurd (omega (arith, none, below));
      };
      family = λ f i d below. absurd (omega (arith, none, below));
      taken = subst (λ (n : ℕ). AreTakenOf pipes n c.args.table.now c.args.table.now) (sym none)
          (none_made g.S.Source.state g.K.Sink.state pipes c.args.table.now c.requires.there);
      stays = Stays-refl _;
    }

pub add-requires-clause-next : goal.add-requires-clause-next
add-requires-clause-next g c =
    let pipes = c.args.graph.now.pipes in
    omega (arith, c.strands-test.true, c.len.ensures, c.len-in-strands.ensures, c.strands.net.strands.ok.0, ap (λ (p : Plan). length p.strands) c.requires.plan, length-map (heads pipes) (plan_strand pipes))

pub add-requires-clause-ends : goal.add-requires-clause-ends
add-requires-clause-ends g c =
    let pipes = c.args.graph.now.pipes in
    next_ends g.S.Source.state g.K.Sink.state pipes c.args.table.now c.requires.there (length c.strands.net.strands.items) c.strands.table c.strands.invariant.taken
    (omega (arith, c.strands-test.true, c.len.ensures, c.len-in-strands.ensures, c.strands.net.strands.ok.0, ap (λ (p : Plan). length p.strands) c.requires.plan, length-map (heads pipes) (plan_strand pipes)))

pub give_back-requires-clause-stands : goal.give_back-requires-clause-stands
give_back-requires-clause-stands g c =
    let plain = g.P.LocalPacket.plain in
    let reads = g.S.Source.state in
    let writes = g.K.Sink.state in
    let pipes = c.args.graph.now.pipes in
    let table = c.args.table.now in
    let inv = c.strands.invariant in
    let none = c.in-Err.ensures.none in (
      beginning reads writes pipes table,
      subst (λ (strands : List (Strand _ _ _)). StrandsStand plain reads writes pipes strands (beginning reads writes pipes table)) (sym none) inv.stand,
      subst (λ (strands : List (Strand _ _ _)). AreBackFrom reads writes pipes (length strands) (beginning reads writes pipes table) c.add.new.table) (sym none)
          (rest_back reads writes pipes table c.requires.there c.requires.well_formed (length c.strands.net.strands.items) c.add.new.table
          (still_taken plain reads writes pipes table (length c.strands.net.strands.items) c.strands.table c.add.new.table inv.taken c.in-Err.ensures.back)),
    )

pub give_back-requires-clause-family : goal.give_back-requires-clause-family
give_back-requires-clause-family g c =
    let family = (g.P.Store.Stash.state c.strands.s).family in
    subst (λ (strands : List (Strand _ _ _)). StrandsFit strands g.P.LocalPacket.fits family) (sym c.in-Err.ensures.none) (c.strands.invariant.family family)

pub give_back-requires-clause-lanes : goal.give_back-requires-clause-lanes
give_back-requires-clause-lanes g c =
    let pipes = c.args.graph.now.pipes in
    let tables = same_tables g.P.LocalPacket.plain g.S.Source.state g.K.Sink.state pipes c.args.table.now c.strands.net c.add.new.self c.strands.invariant.tables
    c.add.ensures.room c.add.ensures.same in
    nothing_waits pipes (heads pipes) c.add.new.self.lanes.items tables.lanes

pub returns-in-Err-clause-back : goal.returns-in-Err-clause-back
returns-in-Err-clause-back g c =
    let plain = g.P.LocalPacket.plain in
    let reads = g.S.Source.state in
    let writes = g.K.Sink.state in
    let pipes = c.args.graph.now.pipes in
    let table = c.args.table.now in
    let past = beginning reads writes pipes table in
    let inv = c.strands.invariant in
    let none = c.in-Err.ensures.none in (
      past,
      all_begin reads writes pipes table c.requires.there,
      all_back pipes reads writes past c.give_back.new.table (c.give_back.ensures.back past
          (subst (λ (strands : List (Strand _ _ _)). StrandsStand plain reads writes pipes strands past) (sym none) inv.stand)
          (subst (λ (strands : List (Strand _ _ _)). AreBackFrom reads writes pipes (length strands) past c.add.new.table) (sym none)
          (rest_back reads writes pipes table c.requires.there c.requires.well_formed (length c.strands.net.strands.items) c.add.new.table
          (still_taken plain reads writes pipes table (length c.strands.net.strands.items) c.strands.table c.add.new.table inv.taken c.in-Err.ensures.back)))),
    )

pub returns-in-Err-clause-store : goal.returns-in-Err-clause-store
returns-in-Err-clause-store g c = Stays-trans _ _ _ c.strands.invariant.stays c.give_back.ensures.store

pub strands-smaller : goal.strands-smaller
strands-smaller g c =
    let added = c.in_default.ensures.added in
    let more = ap length added.added ∙ length_push c.strands.net.strands.items added.strand in
    let fewer : length c.args.plan.now.strands - length c.add.new.self.strands.items < length c.args.plan.now.strands - length c.strands.net.strands.items =
    omega (arith, more, c.strands-test.true, c.len.ensures, c.len-in-strands.ensures, c.strands.net.strands.ok.0) in
    fewer

pub strands-preserved : goal.strands-preserved
strands-preserved g c =
    let plain = g.P.LocalPacket.plain in
    let reads = g.S.Source.state in
    let writes = g.K.Sink.state in
    let pipes = c.args.graph.now.pipes in
    let inv = c.strands.invariant in
    let within : length c.strands.net.strands.items < length (heads pipes) =
    omega (arith, c.strands-test.true, c.len.ensures, c.len-in-strands.ensures, c.strands.net.strands.ok.0, ap (λ (p : Plan). length p.strands) c.requires.plan, length-map (heads pipes) (plan_strand pipes)) in
    let made = strand_made plain reads writes pipes c.args.table.now c.strands.net c.add.new.self c.strands.table c.add.new.table within c.in_default.ensures.added inv.stand inv.taken in
    record {
      tables = same_tables plain reads writes pipes c.args.table.now c.strands.net c.add.new.self inv.tables c.add.ensures.room c.add.ensures.same;
      stand = made.0;
      family = λ f. c.in_default.ensures.family f (inv.family f);
      taken = made.1;
      stays = inv.stays;
    }

-- there are as many strands as heads once none is to be made
all_made : {X : Type 0} (pipes : List Pipe) (plan : Plan) (strands : List X) → plan ≡ plan_of pipes → length plan.strands ≤ length strands → length strands ≤ length (heads pipes)
    → length strands ≡ length (heads pipes)
all_made pipes plan strands is all few = omega (arith, all, few, ap (λ (p : Plan). length p.strands) is, length-map (heads pipes) (plan_strand pipes))

pub returns-clause-stands : goal.returns-clause-stands
returns-clause-stands g c =
    let plain = g.P.LocalPacket.plain in
    let reads = g.S.Source.state in
    let writes = g.K.Sink.state in
    let pipes = c.args.graph.now.pipes in
    let inv = c.strands.invariant in
    let few = inv.stand.few in
    let count = all_made pipes c.args.plan.now c.strands.net.strands.items c.requires.plan
    (omega (arith, c.strands-test.false, c.len.ensures, c.len-in-strands.ensures, c.strands.net.strands.ok.0)) few in (
      beginning reads writes pipes c.args.table.now,
      all_begin reads writes pipes c.args.table.now c.requires.there,
      fresh_stands plain reads writes pipes c.args.table.now c.strands.net c.requires.well_formed inv.tables count inv.stand,
    )

pub returns-clause-family : goal.returns-clause-family
returns-clause-family g c f =
    let pipes = c.args.graph.now.pipes in
    let inv = c.strands.invariant in
    let few = inv.stand.few in
    let count = all_made pipes c.args.plan.now c.strands.net.strands.items c.requires.plan
    (omega (arith, c.strands-test.false, c.len.ensures, c.len-in-strands.ensures, c.strands.net.strands.ok.0)) few in
    fresh_fits g.P.LocalPacket.plain g.S.Source.state g.K.Sink.state pipes c.args.table.now c.strands.net c.requires.well_formed inv.tables count g.P.LocalPacket.fits f (inv.family f)

pub returns-clause-taken : goal.returns-clause-taken
returns-clause-taken g c =
    let pipes = c.args.graph.now.pipes in
    let inv = c.strands.invariant in
    let few = inv.stand.few in
    let count = all_made pipes c.args.plan.now c.strands.net.strands.items c.requires.plan
    (omega (arith, c.strands-test.false, c.len.ensures, c.len-in-strands.ensures, c.strands.net.strands.ok.0)) few in
    all_taken g.S.Source.state g.K.Sink.state pipes c.args.table.now c.requires.well_formed c.requires.there.size c.strands.table
    (subst (λ (n : ℕ). AreTakenOf pipes n c.args.table.now c.strands.table) count inv.taken)

pub returns-clause-store : goal.returns-clause-store
returns-clause-store g c = c.strands.invariant.stays
