use Rattle.std.proofs.Common.{◌≡◌, get_or, sym, ◌∙◌, arith}
use Rattle.toml.specs.View.{array_view}
use Rattle.up_graph.proofs.Items.{length_values}
use Rattle.up_graph.proofs.PipeRuns.{going_on-start, going_on-next, going_on-refused, going_on-end}
use Rattle.up_graph.proofs.WellFormed.{pipes_count}
use Rattle.up_graph.specs.Values.{values}
use Rattle.up_graph.proofs.pipes.pipes_at.Goals as goal

pub returns-in-Err-clause-answers : goal.returns-in-Err-clause-answers
returns-in-Err-clause-answers c =
    let items = c.args.tables.now.items in
    let tables = values (array_view c.args.tables.now) in
    let place = c.loop-place.place in
    let here : c.table-item.result ≡ get_or items place c.table-item.result = rw c.deref-table-items.ensures.value at c.table-item.is in
    rw (← going_on-start tables c.args.tables.now, ← c.loop-place.invariant)
    (going_on-refused tables c.loop-place.pipes place items c.table-item.result c.in-Err.refused
    (omega (arith, c.deref-table-items.ensures.len)) (rw (← here) c.in-Err.ensures))

pub loop-place-preserved : goal.loop-place-preserved
loop-place-preserved c =
    let items = c.args.tables.now.items in
    let tables = values (array_view c.args.tables.now) in
    let place = c.loop-place.place in
    let here : c.table-item.result ≡ get_or items place c.table-item.result = rw c.deref-table-items.ensures.value at c.table-item.is in
    rw (c.in-Ok-push.ensures.added, ← c.loop-place.invariant)
    (sym (going_on-next tables c.loop-place.pipes place items c.table-item.result c.in-Ok.pipe
    (omega (arith, c.deref-table-items.ensures.len)) (rw (← here) c.in-Ok.ensures)))

pub returns-clause-answers : goal.returns-clause-answers
returns-clause-answers c =
    let items = c.args.tables.now.items in
    let tables = values (array_view c.args.tables.now) in
    sym (going_on-start tables c.args.tables.now) ∙ sym c.loop-place.invariant
    ∙ going_on-end tables c.loop-place.pipes c.loop-place.place items (omega (arith, c.deref-table-items.ensures.len))

pub returns-clause-few : goal.returns-clause-few
returns-clause-few c =
    let array = c.args.tables.now in
    let tables = values (array_view array) in
    let count = pipes_count tables 1 tables c.loop-place.pipes (returns-clause-answers c) in
    omega (arith, count, length_values array, array.ok.0, c.requires)
