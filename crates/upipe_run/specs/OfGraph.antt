-- The graph of the text at a path.
use Rattle.std.specs.Prelude.{◌≡◌, ℕ, List, Some, Ok, Err}
use Rattle.std.specs.FinMap.{get}
use Rattle.up_graph.specs.Graph.{graph_of}
use Rattle.up_graph.specs.declared.graph_refused.GraphRefused.{GraphRefused}
use Rattle.up_model.specs.declared.graph.Graph.{Graph}
use Rattle.up_outside.specs.Held.{Held}

-- the text at the path has a graph, of which this is so
pub record IsOfGraph (before : Held) (path : List ℕ) (IsSo : Graph → Type 0) : Type 0 where
  pub text : List ℕ
  pub at_path : get before path ≡ Some text
  pub graph : Graph
  pub reads : graph_of text ≡ Ok graph
  pub so : IsSo graph

-- so it is of the graph of the text at the path, where there is one
abbrev pub OfGraph : Held → List ℕ → (Graph → Type 0) → Type 0
OfGraph before path IsSo =
    (text : List ℕ) (graph : Graph) → get before path ≡ Some text → graph_of text ≡ Ok graph
    → IsSo graph

-- this is so where the text at the path has no graph
abbrev pub WithoutGraph : Held → List ℕ → Type 0 → Type 0
WithoutGraph before path IsSo =
    (text : List ℕ) (refusal : GraphRefused) → get before path ≡ Some text
    → graph_of text ≡ Err refusal → IsSo
