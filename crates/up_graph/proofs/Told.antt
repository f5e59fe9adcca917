-- The pipe that a fault tells of stands in the graph.
use Rattle.std.proofs.Common.{◌≡◌, ℕ, ◌≤◌, List, length, Some, arith}
use Rattle.up_graph.specs.Faults.{StandsWithin}
use Rattle.up_model.proofs.WellFormed.{fault_is_told}
use Rattle.up_model.specs.Rules.{IsTold}
use Rattle.up_model.specs.WellFormed.{graph_fault}
use Rattle.up_model.specs.declared.graph_fault.GraphFault.{GraphFault}
use Rattle.up_model.specs.declared.graph_fault.GraphFault.TheVariants.{SameName, UnknownInput, Cycle, ManyOutputs, NoOutput, WrongFlow, SamePath, TooManyWorkers}
use Rattle.up_model.specs.declared.pipe.Pipe.{Pipe}

stands_within : (count : ℕ) (pipes : List Pipe) (fault : GraphFault) → length pipes ≤ count → IsTold pipes fault → StandsWithin count fault
stands_within count pipes (SameName place) few first = omega (arith, few, first.stands)
stands_within count pipes (UnknownInput place) few first = omega (arith, few, first.stands)
stands_within count pipes (Cycle place) few first = omega (arith, few, first.stands)
stands_within count pipes (ManyOutputs place) few first = omega (arith, few, first.stands)
stands_within count pipes (NoOutput place) few first = omega (arith, few, first.stands)
stands_within count pipes (WrongFlow place) few first = omega (arith, few, first.stands)
stands_within count pipes (SamePath place) few first = omega (arith, few, first.stands)
stands_within count pipes (TooManyWorkers workers) few many = tt

pub fault_within : (count : ℕ) (pipes : List Pipe) (fault : GraphFault) → graph_fault pipes ≡ Some fault → length pipes ≤ count → StandsWithin count fault
fault_within count pipes fault is few = stands_within count pipes fault few (fault_is_told pipes fault is)
