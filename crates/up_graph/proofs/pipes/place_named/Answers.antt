use Rattle.std.proofs.Common.{◌≡◌, Bool, length, rules, tests, ◌∙◌, arith}
use Rattle.std.specs.Prelude.{position}
use Rattle.std.proofs.lemmas.Iterator.{YieldsList-from_slice}
use Rattle.std.proofs.lemmas.Iterator.Search.{position_from_yields_List}
use Rattle.toml.specs.View.{view}
use Rattle.toml.specs.declared.value.Value.{Value}
use Rattle.up_graph.proofs.Items.{length_values, position_values}
use Rattle.up_graph.specs.Pipes.{has_name}
use Rattle.up_graph.proofs.pipes.place_named.Goals as goal

pub returns-clause-place : goal.returns-clause-place
returns-clause-place c =
    let items = c.args.tables.now.items in
    let named : Value → Bool = λ item. has_name c.args.name.now (view item) in
    let found : c.position.result ≡ position named items =
    position_from_yields_List named _ _ c.position.result c.position.ensures.ran
    (YieldsList-from_slice items (c.iter.ensures.rest ∙ c.deref.ensures.value)) (λ x b q k. search (rules, tests)) in
    let count : c.len.result ≡ length items = omega (arith, c.len.ensures, c.args.tables.now.ok.0) in
    rw (position_values (has_name c.args.name.now) c.args.tables.now, length_values c.args.tables.now, ← found, ← count)
    c.unwrap_or.ensures
