-- How a run ended, and which pipe decides it.
use Rattle.std.specs.Prelude.{ℕ, List, slice_get, slice_index_or, Option, Some, None}
use Rattle.std.specs.Option.{option_map_or}
use Rattle.up_engine.specs.declared.run_outcome.RunOutcome.{RunOutcome}
use Rattle.up_engine.specs.declared.run_outcome.RunOutcome.TheVariants as runs
use Rattle.up_graph.specs.declared.graph_refused.GraphRefused.{GraphRefused}
use Rattle.up_graph.specs.declared.graph_refused.GraphRefused.TheVariants as refusals
use Rattle.up_model.specs.Outcomes.{deciding}
use Rattle.up_model.specs.declared.outcome.Outcome.{Outcome}
use Rattle.up_model.specs.declared.outcome.Outcome.TheVariants as outcomes
use Rattle.up_model.specs.declared.pipe.Pipe.{Pipe}
use Rattle.up_report.specs.declared.fault.Fault.TheVariants.{Graph, Read, Write, BadFrame, TooLong}
use Rattle.upipe_run.specs.declared.ending.Ending.{Ending}
use Rattle.upipe_run.specs.declared.ending.Ending.TheVariants.{Whole, Faulty, NoMemory}
use Rattle.upipe_run.specs.declared.program.FileRun.{FileRun}
use Rattle.upipe_run.specs.declared.program.FileRun.TheVariants as files

-- want of memory isn't a refusal of the text
abbrev pub IsOfText : GraphRefused → Type 0
IsOfText refusals.NoMemory = ⊥
IsOfText refusal = Unit {0}

-- the ending of a run whose graph file was refused
abbrev pub refused_ending : GraphRefused → Ending
refused_ending refusals.NoMemory = NoMemory
refused_ending refusal = Faulty (Graph refusal)

-- the ending that a pipe decides which came to this; one without a cause decides nothing
abbrev pub ending_by : Pipe → Outcome → Ending
ending_by pipe outcomes.Whole = Whole
ending_by pipe outcomes.ReadFault = Faulty (Read pipe.name)
ending_by pipe outcomes.WriteFault = Faulty (Write pipe.name)
ending_by pipe (outcomes.BadFrame offset) = Faulty (BadFrame pipe.name offset)
ending_by pipe (outcomes.TooLong limit) = Faulty (TooLong pipe.name limit)
ending_by pipe outcomes.Broken = Whole
ending_by pipe outcomes.NoMemory = Whole

-- the ending of a graph whose pipes came to these: the first in file order with a cause of its own decides
abbrev pub ending_told : List Pipe → List Outcome → Option ℕ → Ending
ending_told pipes ends None = Whole
ending_told pipes ends (Some place) = option_map_or
    (λ pipe. ending_by pipe (slice_index_or ends place outcomes.Whole)) (slice_get pipes place) Whole

abbrev pub ending_of : List Pipe → RunOutcome → Ending
ending_of pipes (runs.Ended ends tallies) = ending_told pipes ends (deciding ends)
ending_of pipes runs.NoMemory = NoMemory

-- the ending that came of a graph file
abbrev pub ending_came : FileRun → Ending
ending_came (files.Ended graph outcomes) =
    ending_told graph.pipes outcomes (deciding outcomes)
ending_came (files.Stopped ending) = ending
