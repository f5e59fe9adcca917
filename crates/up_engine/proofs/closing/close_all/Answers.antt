use Rattle.std.proofs.Common.{ℕ, ◌+◌, List, length, set, sym, ap, subst, arith}
use Rattle.std.proofs.lemmas.List.{get_or_default}
use Rattle.std.proofs.lemmas.Option.{slice_get_within}
use Rattle.up_engine.proofs.ClosedAll.{closes_all}
use Rattle.up_engine.proofs.ClosedNext.{closing_more, open_here, side_here}
use Rattle.up_engine.proofs.ClosedSoFar.{Closing, closing_none}
use Rattle.up_engine.proofs.PathPlaces.{next_has_path, next_place}
use Rattle.up_engine.specs.declared.object.Object.{Object}
use Rattle.up_engine.proofs.closing.close_all.Goals as goal

pub loop-i-init : goal.loop-i-init
loop-i-init g c = closing_none g.D.Src.Source.state g.D.Snk.Sink.state c.args.graph.now.pipes (g.D.Depot.state c.args.depot.now) c.args.table.now c.args.outcomes.now c.requires.there.1.size

pub take_out-object-requires : goal.take_out-object-requires
take_out-object-requires g c =
    let stands = next_has_path c.args.graph.now.pipes c.args.order.now c.loop-i.i c.from-at.result c.requires.order c.from-at.ensures (omega arith) in
    let short = slice_get_within c.args.graph.now.pipes c.from-at.result stands.pipe stands.there in
    omega (arith, short, c.loop-i.invariant.size)

pub at-requires : goal.at-requires
at-requires g c =
    let stands = next_has_path c.args.graph.now.pipes c.args.order.now c.loop-i.i c.from-at.result c.requires.order c.from-at.ensures (omega arith) in
    slice_get_within c.args.graph.now.pipes c.from-at.result stands.pipe stands.there

pub close_one-closed-requires-clause-side : goal.close_one-closed-requires-clause-side
close_one-closed-requires-clause-side g c κs within =
    side_here g.D.Src.Source.state g.D.Snk.Sink.state c.args.graph.now.pipes c.requires.well_formed
    c.loop-i.i c.from-at.result c.at.result.now (omega (arith, ap length c.requires.order))
    (next_place c.args.graph.now.pipes c.args.order.now c.loop-i.i c.from-at.result c.requires.order c.from-at.ensures) c.at.ensures
    (g.D.Depot.state c.args.depot.now) (g.D.Depot.state c.loop-i.depot) (g.D.Depot.state c.loop-i.depot)
    c.args.table.now c.loop-i.table c.args.outcomes.now c.loop-i.outcomes c.loop-i.invariant
    c.requires.there.0 c.requires.there.1 c.take_out-object.result c.take_out-object.ensures.value

pub close_one-closed-requires-clause-open_entry : goal.close_one-closed-requires-clause-open_entry
close_one-closed-requires-clause-open_entry g c κs within =
    open_here g.D.Src.Source.state g.D.Snk.Sink.state c.args.graph.now.pipes c.requires.well_formed
    c.loop-i.i c.from-at.result c.at.result.now (omega (arith, ap length c.requires.order))
    (next_place c.args.graph.now.pipes c.args.order.now c.loop-i.i c.from-at.result c.requires.order c.from-at.ensures) c.at.ensures
    (g.D.Depot.state c.args.depot.now) (g.D.Depot.state c.loop-i.depot) (g.D.Depot.state c.loop-i.depot)
    c.args.table.now c.loop-i.table c.args.outcomes.now c.loop-i.outcomes c.loop-i.invariant
    c.requires.there.0 c.requires.there.1 c.requires.there.2 c.take_out-object.result c.take_out-object.ensures.value

pub slice_copy_out-outcome_closed : goal.slice_copy_out-outcome_closed
slice_copy_out-outcome_closed g c =
    let short = slice_get_within c.args.graph.now.pipes c.from-at.result c.at.result.now c.at.ensures in
    omega (arith, short, c.requires.outcomes, c.loop-i.invariant.sizes)

pub bounds-outcomes-at : goal.bounds-outcomes-at
bounds-outcomes-at g c =
    let short = slice_get_within c.args.graph.now.pipes c.from-at.result c.at.result.now c.at.ensures in
    omega (arith, short, c.requires.outcomes, c.loop-i.invariant.sizes)

pub loop-i-preserved : goal.loop-i-preserved
loop-i-preserved g c =
    let closing = Closing g.D.Src.Source.state g.D.Snk.Sink.state c.args.graph.now.pipes (c.loop-i.i + 1) (g.D.Depot.state c.args.depot.now)
    (g.D.Depot.state c.close_one-closed.new.depot) c.args.table.now in
    let short = slice_get_within c.args.graph.now.pipes c.from-at.result c.at.result.now c.at.ensures in
    subst (λ (left : List (Object g.row.D-Src.Denot g.row.D-Snk.Denot)). closing left c.args.outcomes.now (set c.loop-i.outcomes c.from-at.result c.outcome_closed.result))
    (sym c.take_out-object.ensures.after)
    (closing_more g.D.Src.Source.state g.D.Snk.Sink.state c.args.graph.now.pipes c.requires.well_formed
    c.loop-i.i c.from-at.result c.at.result.now (omega (arith, ap length c.requires.order))
    (next_place c.args.graph.now.pipes c.args.order.now c.loop-i.i c.from-at.result c.requires.order c.from-at.ensures) c.at.ensures
    (g.D.Depot.state c.args.depot.now) (g.D.Depot.state c.loop-i.depot) (g.D.Depot.state c.close_one-closed.new.depot)
    c.args.table.now c.loop-i.table c.args.outcomes.now c.loop-i.outcomes c.loop-i.invariant
    (rw c.take_out-object.ensures.value at c.take_out-object.ensures.together) _ (rw c.take_out-object.ensures.value at c.close_one-closed.ensures) _ c.outcome_closed.result
    (get_or_default c.loop-i.outcomes c.from-at.result _ _ (omega (arith, short, c.requires.outcomes, c.loop-i.invariant.sizes)))
    c.outcome_closed.ensures (omega (arith, short, c.requires.outcomes)))

pub returns : goal.returns
returns g c count there =
    closes_all g.D.Src.Source.state g.D.Snk.Sink.state c.args.graph.now.pipes (g.D.Depot.state c.args.depot.now) (g.D.Depot.state c.loop-i.depot)
    c.args.table.now c.loop-i.table c.args.outcomes.now c.loop-i.outcomes
    (subst (λ (n : ℕ). Closing g.D.Src.Source.state g.D.Snk.Sink.state c.args.graph.now.pipes n (g.D.Depot.state c.args.depot.now) (g.D.Depot.state c.loop-i.depot)
    c.args.table.now c.loop-i.table c.args.outcomes.now c.loop-i.outcomes) (omega (arith, ap length c.requires.order)) c.loop-i.invariant)
    count there
