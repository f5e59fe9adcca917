-- The graph that the text of a graph file is, or the first rule that the text breaks.
use Rattle.std.specs.Prelude.{ℕ, List}
use Rattle.toml.specs.Data.{Members}
use Rattle.up_graph.specs.Answers.{Checked, ◌>>=◌}
use Rattle.up_graph.specs.Document.{document_of}
use Rattle.up_graph.specs.Faults.{graph_from}
use Rattle.up_graph.specs.Pipes.{pipes_from}
use Rattle.up_graph.specs.Top.{version_of, array_of, tables_of}
use Rattle.up_model.specs.declared.graph.Graph.{Graph}

-- the rules in their order, over a document
unfoldable pub graph_in : Members → Checked Graph
graph_in top = do
  _ ← version_of top
  found ← array_of top
  tables ← tables_of found top
  pipes ← pipes_from tables 1 tables
  graph_from tables pipes

-- the rules in their order, over a text
unfoldable pub graph_of : List ℕ → Checked Graph
graph_of text = document_of text >>= graph_in
