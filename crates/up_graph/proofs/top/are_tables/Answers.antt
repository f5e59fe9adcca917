use Rattle.std.proofs.Common.{rules, tests, ◌∙◌}
use Rattle.std.proofs.lemmas.Iterator.{YieldsList-from_slice}
use Rattle.std.proofs.lemmas.Iterator.Search.{all_from_yields_List}
use Rattle.toml.specs.View.{view}
use Rattle.up_graph.proofs.Items.{all_values}
use Rattle.up_graph.specs.Top.{is_table}
use Rattle.up_graph.proofs.top.are_tables.Goals as goal

pub returns : goal.returns
returns c =
    rw (all_values is_table c.args.items.now) (
    all_from_yields_List (λ item. is_table (view item)) _ _ c.all.result c.all.ensures.ran
    (YieldsList-from_slice c.args.items.now.items (c.iter.ensures.rest ∙ c.deref.ensures.value)) (λ x b q k. search (rules, tests))
    )
