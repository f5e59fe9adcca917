use Rattle.std.proofs.Common.{◌≡◌, ℕ, List, length, Err, Some, slice_get, refl, sym, ap, ◌∙◌, arith}
use Rattle.std.proofs.lemmas.Option.{same_Some, slice_get_within}
use Rattle.up_engine.proofs.Opened.{has_place, is_empty, opened_more, opened_none, opens_all, opens_no_memory, opens_refused}
use Rattle.up_engine.proofs.PathPlaces.{HasPathAt, next_has_path, next_place}
use Rattle.up_engine.proofs.opening.open_all.Goals as goal
use Rattle.up_model.specs.declared.pipe.Pipe.{Pipe}

-- the pipe that was read there is that one
same_pipe : (pipes : List Pipe) (place : ℕ) (pipe : Pipe) (has : HasPathAt pipes place) → slice_get pipes place ≡ Some pipe → has.pipe ≡ pipe
same_pipe pipes place pipe has there = same_Some has.pipe pipe (sym has.there ∙ there)

pub loop-i-init : goal.loop-i-init
loop-i-init g c = opened_none g.D.Src.Source.state g.D.Snk.Sink.state c.args.graph.now.pipes (g.D.Depot.state c.args.depot.now) c.args.table.now c.requires.none

pub at-requires : goal.at-requires
at-requires g c =
    let stands = next_has_path c.args.graph.now.pipes c.args.order.now c.loop-i.i c.from.result c.requires.order c.from.ensures (omega arith) in
    slice_get_within c.args.graph.now.pipes c.from.result stands.pipe stands.there

pub open_one-requires-after_bounds : goal.open_one-requires-after_bounds
open_one-requires-after_bounds g c κs within =
    let stands = next_has_path c.args.graph.now.pipes c.args.order.now c.loop-i.i c.from.result c.requires.order c.from.ensures (omega arith) in
    rw (same_pipe c.args.graph.now.pipes c.from.result c.at.result.now stands c.at.ensures) at stands.has_path

pub put-requires-clause-within : goal.put-requires-clause-within
put-requires-clause-within g c =
    let stands = next_has_path c.args.graph.now.pipes c.args.order.now c.loop-i.i c.from-in-Ok.result c.requires.order c.from-in-Ok.ensures (omega arith) in
    has_place g.D.Src.Source.state g.D.Snk.Sink.state c.args.graph.now.pipes c.requires.well_formed c.loop-i.i c.from-in-Ok.result stands.pipe
    (omega (arith, ap length c.requires.order)) (next_place c.args.graph.now.pipes c.args.order.now c.loop-i.i c.from-in-Ok.result c.requires.order c.from-in-Ok.ensures) stands.there
    _ _ (g.D.Depot.state c.loop-i.depot) c.loop-i.table c.loop-i.invariant

pub put-requires-clause-empty : goal.put-requires-clause-empty
put-requires-clause-empty g c =
    let stands = next_has_path c.args.graph.now.pipes c.args.order.now c.loop-i.i c.from-in-Ok.result c.requires.order c.from-in-Ok.ensures (omega arith) in
    is_empty g.D.Src.Source.state g.D.Snk.Sink.state c.args.graph.now.pipes c.requires.well_formed c.loop-i.i c.from-in-Ok.result stands.pipe
    (omega (arith, ap length c.requires.order)) (next_place c.args.graph.now.pipes c.args.order.now c.loop-i.i c.from-in-Ok.result c.requires.order c.from-in-Ok.ensures) stands.there
    _ _ (g.D.Depot.state c.loop-i.depot) c.loop-i.table c.loop-i.invariant

pub returns-in-Err-Failed : goal.returns-in-Err-Failed
returns-in-Err-Failed g c =
    opens_refused g.D.Src.Source.state g.D.Snk.Sink.state c.args.graph.now.pipes c.loop-i.i _ _ (g.D.Depot.state c.open_one.new.depot) c.loop-i.table c.loop-i.invariant
    _ c.at.result.now (omega (arith, ap length c.requires.order)) (next_place c.args.graph.now.pipes c.args.order.now c.loop-i.i _ c.requires.order refl)
    (ap (slice_get c.args.graph.now.pipes) (sym c.from.ensures) ∙ c.at.ensures)
    (Err c.in-Err-Failed.field-0) (ap Err c.in-Err-Failed.field-0-is) c.in-Err-Failed.ensures.opens

pub returns-in-Err-NoMemory : goal.returns-in-Err-NoMemory
returns-in-Err-NoMemory g c =
    opens_no_memory g.D.Src.Source.state g.D.Snk.Sink.state c.args.graph.now.pipes c.loop-i.i _ _ (g.D.Depot.state c.open_one.new.depot) c.loop-i.table c.loop-i.invariant
    _ c.at.result.now (omega (arith, ap length c.requires.order)) (next_place c.args.graph.now.pipes c.args.order.now c.loop-i.i _ c.requires.order refl)
    (ap (slice_get c.args.graph.now.pipes) (sym c.from.ensures) ∙ c.at.ensures)
    (Err c.in-Err-NoMemory.field-0) (ap Err c.in-Err-NoMemory.field-0-is) c.in-Err-NoMemory.ensures.opens

pub loop-i-preserved : goal.loop-i-preserved
loop-i-preserved g c =
    rw c.put.ensures (opened_more g.D.Src.Source.state g.D.Snk.Sink.state c.args.graph.now.pipes c.requires.well_formed c.loop-i.i c.from-in-Ok.result c.at.result.now
    (omega (arith, ap length c.requires.order)) (next_place c.args.graph.now.pipes c.args.order.now c.loop-i.i c.from-in-Ok.result c.requires.order c.from-in-Ok.ensures)
    (ap (slice_get c.args.graph.now.pipes) (c.from-in-Ok.ensures ∙ sym c.from.ensures) ∙ c.at.ensures)
    _ _ (g.D.Depot.state c.open_one.new.depot) c.loop-i.table c.loop-i.invariant c.in-Ok.object c.in-Ok.ensures.opens)

pub returns : goal.returns
returns g c = opens_all g.D.Src.Source.state g.D.Snk.Sink.state c.args.graph.now.pipes c.loop-i.i _ _ c.loop-i.table c.loop-i.invariant (omega (arith, ap length c.requires.order))
