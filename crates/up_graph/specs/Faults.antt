-- What is looked at between the pipes, whose fields are right. Pipes are numbered from 1 in a refusal.
use Rattle.std.specs.Prelude.{ℕ, ◌+◌, ◌<◌, Bool, true, false, List, position, codes, Option, Some, None, Ok, Err}
use Rattle.toml.specs.Data.{Data, table, get_member}
use Rattle.up_graph.specs.Answers.{Checked, ◌>>=◌}
use Rattle.up_graph.specs.Values.{named_by}
use Rattle.up_graph.specs.declared.graph_refused.GraphRefused.{GraphRefused}
use Rattle.up_graph.specs.declared.graph_refused.GraphRefused.TheVariants.{SameName, ManyInputs, UnknownInput, Cycle, ManyOutputs, NoOutput, WrongFlow, SamePath, TooManyWorkers}
use Rattle.up_model.specs.Inputs.{first_place}
use Rattle.up_model.specs.WellFormed.{has_same_name, graph_fault}
use Rattle.up_model.specs.declared.graph.Graph.{Graph}
use Rattle.up_model.specs.declared.graph_fault.GraphFault.{GraphFault}
use Rattle.up_model.specs.declared.graph_fault.GraphFault.TheVariants as faults
use Rattle.up_model.specs.declared.pipe.Pipe.{Pipe}

-- nothing is refused but the pipe at a place
abbrev pub none_at : (ℕ → GraphRefused) → Option ℕ → Checked (Unit {0})
none_at refusal None = Ok tt
none_at refusal (Some place) = Err (refusal (place + 1))

-- no name is that of an earlier pipe
abbrev pub names_differ : List Pipe → Checked (Unit {0})
names_differ pipes = none_at SameName (first_place has_same_name pipes)

-- an array of two or more texts
abbrev pub are_many : Option (Option (List ℕ)) → Bool
are_many None = false
are_many (Some None) = true
are_many (Some (Some name)) = false

-- the value is a table whose `input` is such an array
abbrev pub has_many_inputs : Data → Bool
has_many_inputs (table fields) = are_many (named_by (get_member (codes "input") fields))
has_many_inputs _ = false

-- no table has more than one input
abbrev pub one_input_each : List Data → Checked (Unit {0})
one_input_each tables = none_at ManyInputs (position has_many_inputs tables)

-- what each fault of a graph is told as
abbrev pub refusal_of : GraphFault → GraphRefused
refusal_of (faults.SameName place) = SameName (place + 1)
refusal_of (faults.UnknownInput place) = UnknownInput (place + 1)
refusal_of (faults.Cycle place) = Cycle (place + 1)
refusal_of (faults.ManyOutputs place) = ManyOutputs (place + 1)
refusal_of (faults.NoOutput place) = NoOutput (place + 1)
refusal_of (faults.WrongFlow place) = WrongFlow (place + 1)
refusal_of (faults.SamePath place) = SamePath (place + 1)
refusal_of (faults.TooManyWorkers count) = TooManyWorkers count

-- the pipe that the fault tells of stands among so many
abbrev pub StandsWithin : ℕ → GraphFault → Type 0
StandsWithin count (faults.SameName place) = place < count
StandsWithin count (faults.UnknownInput place) = place < count
StandsWithin count (faults.Cycle place) = place < count
StandsWithin count (faults.ManyOutputs place) = place < count
StandsWithin count (faults.NoOutput place) = place < count
StandsWithin count (faults.WrongFlow place) = place < count
StandsWithin count (faults.SamePath place) = place < count
StandsWithin count (faults.TooManyWorkers workers) = Unit {0}

abbrev pub told : Option GraphFault → Checked (Unit {0})
told None = Ok tt
told (Some fault) = Err (refusal_of fault)

-- the pipes have no fault
abbrev pub faultless : List Pipe → Checked (Unit {0})
faultless pipes = told (graph_fault pipes)

-- the graph of the pipes that these tables gave, where nothing is wrong between them
abbrev pub graph_from : List Data → List Pipe → Checked Graph
graph_from tables pipes = do
  _ ← names_differ pipes
  _ ← one_input_each tables
  _ ← faultless pipes
  Ok (record { pipes = pipes })
