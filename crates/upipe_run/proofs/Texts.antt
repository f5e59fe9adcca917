-- The text of a graph file that was read, and its graph.
use Rattle.std.proofs.Common.{◌≡◌, ℕ, ◌<◌, ◌≤◌, List, length, take, Option, Some, None, IfSome, Result, Ok, Err, inl, inr, refl, sym, ap, ◌∙◌, arith, length-take}
use Rattle.std.specs.FinMap.{get}
use Rattle.std.proofs.lemmas.Bool.{cases_lt, lt-ltb}
use Rattle.std.proofs.lemmas.List.{take_all}
use Rattle.up_graph.specs.Document.{document_of}
use Rattle.up_graph.specs.Graph.{graph_of}
use Rattle.up_graph.specs.declared.graph_refused.GraphRefused.{GraphRefused}
use Rattle.up_graph.specs.declared.graph_refused.GraphRefused.TheVariants as refusals
use Rattle.up_model.specs.declared.graph.Graph.{Graph}
use Rattle.up_outside.specs.Held.{Held}
use Rattle.upipe_run.specs.GraphText.{IsStartAt}
use Rattle.upipe_run.specs.OfGraph.{IsOfGraph, OfGraph}
use Rattle.upipe_run.specs.Runs.{AreAlike, HasGraph, HasNoGraph}

-- a text that is short was read whole
whole_text : (bytes text : List ℕ) (most : ℕ) → text ≡ take most bytes → length text < most → text ≡ bytes
whole_text bytes text most start short =
    let cut : length (take most bytes) < most = rw (← start) short in
    start ∙ take_all most bytes (omega (arith, length-take most bytes))

-- the text of a graph is at most the greatest
pub text-short : (text : List ℕ) (graph : Graph) → graph_of text ≡ Ok graph → length text ≤ 1048576
unfolding graph_of document_of
text-short text graph reads =
    elim (cases_lt 1048576 (length text)) [
      | inl big ↦ absurd (let wrong : Err (refusals.TooBig (length text)) ≡ Ok graph = rw (lt-ltb 1048576 (length text) big) at reads in cc)
      | inr small ↦ small
    ]

graph_of-big : (text : List ℕ) → 1048576 < length text → graph_of text ≡ Err (refusals.TooBig (length text))
unfolding graph_of document_of
graph_of-big text big = rw (lt-ltb 1048576 (length text) big) refl

alike_itself : (refusal : GraphRefused) → AreAlike refusal refusal
alike_itself (refusals.TooBig count) = tt
alike_itself refusals.NotToml = refl
alike_itself (refusals.BadVersion got) = refl
alike_itself refusals.NoPipes = refl
alike_itself (refusals.TooManyPipes count) = refl
alike_itself (refusals.BadField pipe field) = refl
alike_itself (refusals.SameName pipe) = refl
alike_itself (refusals.ManyInputs pipe) = refl
alike_itself (refusals.UnknownInput pipe) = refl
alike_itself (refusals.Cycle pipe) = refl
alike_itself (refusals.ManyOutputs pipe) = refl
alike_itself (refusals.NoOutput pipe) = refl
alike_itself (refusals.WrongFlow pipe) = refl
alike_itself (refusals.SamePath pipe) = refl
alike_itself (refusals.TooManyWorkers count) = refl
alike_itself refusals.NoMemory = refl

same_refusal : (a b : GraphRefused) (text : List ℕ) → graph_of text ≡ Err a → graph_of text ≡ Err b → a ≡ b
same_refusal a b text one other = let both : ◌≡◌ {A = Result Graph GraphRefused} (Err a) (Err b) = sym one ∙ other in cc

-- a text that was read has no graph, so the bytes at the path have none
no_graph : (before : Held) (path text : List ℕ) (refusal : GraphRefused) → IsStartAt path 1048577 text before → graph_of text ≡ Err refusal
    → HasNoGraph before path refusal
no_graph before path text refusal start refused =
    elim (cases_lt (length text) 1048577) [
      | inl short ↦
          let same : text ≡ start.bytes = whole_text start.bytes text 1048577 start.start short in
          record { text = start.bytes; at_path = start.at_path; first = refusal; refused = rw (← same) refused; alike = alike_itself refusal }
      | inr long ↦
          let is : refusal ≡ refusals.TooBig (length text) = same_refusal refusal (refusals.TooBig (length text)) text refused (graph_of-big text (omega arith)) in
          let bytes_long : 1048576 < length start.bytes = omega (arith, ap length start.start, length-take 1048577 start.bytes) in
          record {
            text = start.bytes;
            at_path = start.at_path;
            first = refusals.TooBig (length start.bytes);
            refused = graph_of-big start.bytes bytes_long;
            alike = rw is tt;
          }
    ]

pub no_graph_told : (held : Option Held) (path text : List ℕ) (refusal : GraphRefused) → IfSome held (IsStartAt path 1048577 text) → graph_of text ≡ Err refusal
    → IfSome held (λ before. HasNoGraph before path refusal)
no_graph_told None path text refusal start refused = tt
no_graph_told (Some before) path text refusal start refused = no_graph before path text refusal start refused

-- the text that was read has this graph
module _ (path text : List ℕ) (graph : Graph) (reads : graph_of text ≡ Ok graph) where
  at_path : (before : Held) → IsStartAt path 1048577 text before → get before path ≡ Some text
  at_path before start =
      let short = text-short text graph reads in
      start.at_path ∙ ap Some (sym (whole_text start.bytes text 1048577 start.start (omega arith)))

  pub is_of_graph : (before : Held) (IsSo : Graph → Type 0) → IsStartAt path 1048577 text before → IsSo graph → IsOfGraph before path IsSo
  is_of_graph before IsSo start so = record { text = text; at_path = at_path before start; graph = graph; reads = reads; so = so }

  pub at_graph : (before : Held) (P : Graph → Type 0) → IsStartAt path 1048577 text before → OfGraph before path P → P graph
  at_graph before P start of = of text graph (at_path before start) reads

  pub has_graph_told : (held : Option Held) → IfSome held (IsStartAt path 1048577 text) → IfSome held (λ before. HasGraph before path graph)
  has_graph_told None start = tt
  has_graph_told (Some before) start = record { text = text; at_path = at_path before start; reads = reads }
