use Rattle.std.proofs.Common.{◌≤◌, ◌∙◌, sym, length, arith}
use Rattle.std.proofs.lemmas.Bool.{eqb-false}
use Rattle.toml.specs.View.{array_view}
use Rattle.up_graph.proofs.Items.{length_values, named_in-many}
use Rattle.up_graph.specs.Values.{values}
use Rattle.up_graph.proofs.values.named_in.Goals as goal

pub returns : goal.returns
returns c =
    let array = c.args.items.now in
    let some = eqb-false _ _ (sym c.is_empty.ensures ∙ c.if-is_empty.false) in
    let many : 2 ≤ length (values (array_view array)) =
    omega (arith, length_values array, array.ok.0, c.len.ensures, c.if-len-eq1.false, some) in
    named_in-many (values (array_view array)) many (sym c.are_texts.ensures ∙ c.if-not-are_texts.false)
