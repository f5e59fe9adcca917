-- The status of each fault.
use Rattle.std.specs.Prelude.{ℕ}
use Rattle.up_graph.specs.declared.graph_refused.GraphRefused.{GraphRefused}
use Rattle.up_graph.specs.declared.graph_refused.GraphRefused.TheVariants as refusals
use Rattle.up_report.specs.declared.fault.Fault.{Fault}
use Rattle.up_report.specs.declared.fault.Fault.TheVariants.{Usage, Graph, ReadGraph, Read, Write, WriteReport, BadFrame, TooLong}

-- a text without a graph is answered by 3
abbrev pub refusal_status : GraphRefused → ℕ
refusal_status (refusals.TooBig len) = 3
refusal_status refusals.NotToml = 3
refusal_status (refusals.BadVersion got) = 3
refusal_status refusals.NoPipes = 3
refusal_status (refusals.TooManyPipes count) = 3
refusal_status (refusals.BadField pipe field) = 3
refusal_status (refusals.SameName pipe) = 3
refusal_status (refusals.ManyInputs pipe) = 3
refusal_status (refusals.UnknownInput pipe) = 3
refusal_status (refusals.Cycle pipe) = 3
refusal_status (refusals.ManyOutputs pipe) = 3
refusal_status (refusals.NoOutput pipe) = 3
refusal_status (refusals.WrongFlow pipe) = 3
refusal_status (refusals.SamePath pipe) = 3
refusal_status (refusals.TooManyWorkers count) = 3
refusal_status refusals.NoMemory = 7

abbrev pub status_of : Fault → ℕ
status_of Usage = 2
status_of (Graph refused) = refusal_status refused
status_of ReadGraph = 4
status_of (Read pipe) = 4
status_of (Write pipe) = 5
status_of WriteReport = 5
status_of (BadFrame pipe offset) = 6
status_of (TooLong pipe limit) = 8
