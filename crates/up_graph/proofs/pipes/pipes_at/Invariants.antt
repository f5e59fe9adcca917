use Rattle.std.proofs.Common.{◌≡◌, []}
use Rattle.toml.specs.View.{array_view}
use Rattle.up_graph.proofs.PipeRuns.{going_on}
use Rattle.up_graph.specs.Values.{values}
use Rattle.up_graph.proofs.pipes.pipes_at.Given as goal

abbrev pub invariant-loop-place : goal.invariant-loop-place
invariant-loop-place l =
    going_on (values (array_view l.tables)) l.pipes l.place l.tables.items
    ≡ going_on (values (array_view l.tables)) [] 0 l.tables.items
