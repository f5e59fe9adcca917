use Rattle.std.proofs.Common.{rules, tests, ◌∙◌}
use Rattle.std.proofs.lemmas.Iterator.{YieldsList-from_slice}
use Rattle.std.proofs.lemmas.Iterator.Search.{position_from_yields_List}
use Rattle.toml.specs.View.{view}
use Rattle.up_graph.proofs.Items.{position_values}
use Rattle.up_graph.specs.Faults.{has_many_inputs}
use Rattle.up_graph.proofs.faults.many_inputs.Goals as goal

pub returns-clause-place : goal.returns-clause-place
returns-clause-place c =
    rw (position_values has_many_inputs c.args.tables.now) (
    position_from_yields_List (λ item. has_many_inputs (view item)) _ _ c.position.result c.position.ensures.ran
    (YieldsList-from_slice c.args.tables.now.items (c.iter.ensures.rest ∙ c.deref.ensures.value)) (λ x b q k. search (rules, tests))
    )
