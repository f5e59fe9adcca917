-- Worked examples of the parts of a strand's shape, computed.
use Rattle.std.proofs.Common.{◌≡◌, List, ℕ, [], ◌∷◌, ◌++◌, map, false, Option, Some, None, refl}
use Rattle.std.specs.Prelude.{codes}
use Rattle.up_model.specs.Plans.{outlets_of, strand_of}
use Rattle.up_model.specs.declared.form.SinkForm.TheVariants as sink_forms
use Rattle.up_model.specs.declared.form.SourceForm.TheVariants as source_forms
use Rattle.up_model.specs.declared.kind.Kind.{Kind}
use Rattle.up_model.specs.declared.kind.Kind.TheVariants.{Source, Sink, Idem, Dup}
use Rattle.up_model.specs.declared.pipe.Pipe.{Pipe}
use Rattle.up_strand.specs.Shapes.{depth_of, input_among, node_depth, node_input}

abbrev pipe : Kind → List ℕ → Option ℕ → Pipe
pipe kind worker input = record {
  name = [];
  worker = worker;
  input = input;
  select = None;
  queue = 64;
  caught = record { drop = false; cut = false; sync = false; lost = false };
  kind = kind;
}

-- a sink that stands before its `dup`, the source, the `dup`, and a pipe of another worker with a sink
abbrev branches : List Pipe
branches = pipe (Sink [] sink_forms.Raw) (codes "a") (Some 2)
    ∷ pipe (Source [] (source_forms.Raw 4096) 100) (codes "a") None
    ∷ pipe Dup (codes "a") (Some 1)
    ∷ pipe Idem (codes "b") (Some 2)
    ∷ pipe (Sink [] sink_forms.Raw) (codes "b") (Some 3)
    ∷ []

abbrev nodes : List ℕ
nodes = strand_of branches 1 ++ outlets_of branches 1

-- the nodes are the pipes in the order of the file, and then the lane
pub nodes_of_branches : nodes ≡ 0 ∷ 1 ∷ 2 ∷ 3 ∷ []
nodes_of_branches = refl

-- all but the head take from a node, the lane too
pub inputs_of_branches : map (node_input branches (strand_of branches 1) 1) nodes ≡ Some 2 ∷ None ∷ Some 1 ∷ Some 2 ∷ []
inputs_of_branches = refl

-- the sink and the lane are two steps from the source
pub depths_of_branches : map (node_depth branches 1 nodes) (0 ∷ 1 ∷ 2 ∷ 3 ∷ 4 ∷ []) ≡ 2 ∷ 0 ∷ 1 ∷ 2 ∷ 0 ∷ []
depths_of_branches = refl

-- behind a lane it is counted from the lane's head
pub behind_a_lane : (depth_of branches 3 3 ≡ 0) × (depth_of branches 3 4 ≡ 1) × (node_input branches (strand_of branches 3) 3 3 ≡ None)
behind_a_lane = (refl, refl, refl)

-- what stands behind a lane takes from none of the strand before it
pub beyond_a_lane : input_among branches (strand_of branches 1) 4 ≡ None
beyond_a_lane = refl
