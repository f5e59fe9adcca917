-- A kind that a table gives: whether it takes from no other pipe, and the kind or the least wrong field.
use Rattle.std.specs.Prelude.{Bool}
use Rattle.toml.specs.Data.{Members}
use Rattle.up_graph.specs.Field.{Field, seen}
use Rattle.up_graph.specs.KindRows.{KindRow, own_of}
use Rattle.up_graph.specs.declared.kinds.KindAt.{KindAt}
use Rattle.up_model.specs.declared.kind.Kind.{Kind}

-- what a row gives
abbrev pub row_seen : Members → KindRow → Bool × Field Kind
row_seen table row = (row.is_source, own_of row table)

-- what the code has of it
abbrev pub kind_seen : KindAt → Bool × Field Kind
kind_seen found = (found.is_source, seen (λ kind. kind) found.kind)
