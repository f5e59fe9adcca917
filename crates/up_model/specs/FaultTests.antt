-- The tests of a pipe, by the names that the private code of `Graph::fault` has for them; not needed to read `WellFormed`.
use Rattle.std.specs.Prelude.{Bool}
use Rattle.std.specs.Str.{bytes_eq}
use Rattle.up_model.specs.Ends.{clash_on_path}
use Rattle.up_model.specs.Inputs.{PipeTest}
use Rattle.up_model.specs.WellFormed.{has_same_name, has_unknown_input, has_cycle, has_many_outputs, has_no_output, has_wrong_flow, has_same_path, is_first_of_worker}
use Rattle.up_model.specs.declared.faults.Common.{Common}
use Rattle.up_model.specs.declared.faults.Common.TheVariants.{Name, Path, Worker}
use Rattle.up_model.specs.declared.faults.FaultTest.TheVariants.{SameName, UnknownInput, Cycle, ManyOutputs, NoOutput, WrongFlow, SamePath, NewWorker}
use Rattle.up_model.specs.declared.faults.FaultTest.{FaultTest}
use Rattle.up_model.specs.declared.pipe.Pipe.{Pipe}

-- the test of each name
abbrev pub test_of : FaultTest → PipeTest
test_of SameName = has_same_name
test_of UnknownInput = has_unknown_input
test_of Cycle = has_cycle
test_of ManyOutputs = has_many_outputs
test_of NoOutput = has_no_output
test_of WrongFlow = has_wrong_flow
test_of SamePath = has_same_path
test_of NewWorker = is_first_of_worker

-- the two pipes have this in common
abbrev pub are_alike : Common → Pipe → Pipe → Bool
are_alike Name a b = bytes_eq a.name b.name
are_alike Path a b = clash_on_path a.kind b.kind
are_alike Worker a b = bytes_eq a.worker b.worker
