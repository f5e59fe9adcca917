-- The line of each fault.
use Rattle.std.specs.Prelude.{ℕ, ◌/◌, ◌%◌, ◌==◌, Bool, false, ◌&&◌, not, if◌then◌else◌, List, [], ◌∷◌, ◌++◌, flat_map, codes, decimal}
use Rattle.std.specs.Fmt.{digit_glyph}
use Rattle.up_base.specs.Name.{is_within}
use Rattle.up_graph.specs.declared.graph_refused.GraphRefused.{GraphRefused}
use Rattle.up_graph.specs.declared.graph_refused.GraphRefused.TheVariants as refusals
use Rattle.up_report.specs.declared.fault.Fault.{Fault}
use Rattle.up_report.specs.declared.fault.Fault.TheVariants.{Usage, Graph, ReadGraph, Read, Write, WriteReport, BadFrame, TooLong}

-- a digit to the base 16, in lower case
abbrev pub hex_digit : ℕ → ℕ
hex_digit digit = digit_glyph false digit

-- the bytes that are printed as they are: 0x20 to 0x7E, but for the backslash
abbrev pub is_plain : ℕ → Bool
is_plain byte = is_within 0x20 0x7e byte && not (byte == 92)

-- another byte is printed as `\x` and its two digits
abbrev pub escape : ℕ → List ℕ
escape byte =
    if is_plain byte
    then byte ∷ []
    else 92 ∷ 120 ∷ hex_digit (byte / 16) ∷ hex_digit (byte % 16) ∷ []

abbrev pub escaped : List ℕ → List ℕ
escaped text = flat_map escape text

-- the pipe of a number, or the top of the graph file, whose number is 0
abbrev pub pipe_text : ℕ → List ℕ
pipe_text pipe = if pipe == 0 then codes "top" else codes "pipe " ++ decimal pipe

-- what is told of a pipe of a graph file
abbrev pub told_of_pipe : ℕ → List ℕ → List ℕ
told_of_pipe pipe words = codes "upipe: graph: " ++ pipe_text pipe ++ codes ": " ++ words

-- what is told of a graph file
abbrev pub refusal_text : GraphRefused → List ℕ
refusal_text (refusals.TooBig len) = codes "upipe: graph: too big"
refusal_text refusals.NotToml = codes "upipe: graph: not toml"
refusal_text (refusals.BadVersion got) = codes "upipe: graph: bad version"
refusal_text refusals.NoPipes = codes "upipe: graph: no pipes"
refusal_text (refusals.TooManyPipes count) = codes "upipe: graph: too many pipes: " ++ decimal count
refusal_text (refusals.BadField pipe field) =
    told_of_pipe pipe (codes "bad field " ++ escaped field)
refusal_text (refusals.SameName pipe) = told_of_pipe pipe (codes "name used twice")
refusal_text (refusals.ManyInputs pipe) = told_of_pipe pipe (codes "more than one input")
refusal_text (refusals.UnknownInput pipe) = told_of_pipe pipe (codes "unknown input")
refusal_text (refusals.Cycle pipe) = told_of_pipe pipe (codes "cycle")
refusal_text (refusals.ManyOutputs pipe) = told_of_pipe pipe (codes "more than one output")
refusal_text (refusals.NoOutput pipe) = told_of_pipe pipe (codes "no output")
refusal_text (refusals.WrongFlow pipe) = told_of_pipe pipe (codes "wrong flow")
refusal_text (refusals.SamePath pipe) = told_of_pipe pipe (codes "path used twice")
refusal_text (refusals.TooManyWorkers count) = codes "upipe: graph: too many workers: " ++ decimal count
refusal_text refusals.NoMemory = codes "upipe: out of memory"

-- what is told of a fault
abbrev pub fault_text : Fault → List ℕ
fault_text Usage =
    codes "usage: upipe check GRAPH | upipe run [--single] [--pool] GRAPH | upipe work [--single] N"
fault_text (Graph refused) = refusal_text refused
fault_text ReadGraph = codes "upipe: read fault: graph"
fault_text (Read pipe) = codes "upipe: read fault: pipe " ++ pipe
fault_text (Write pipe) = codes "upipe: write fault: pipe " ++ pipe
fault_text WriteReport = codes "upipe: write fault: report"
fault_text (BadFrame pipe offset) =
    codes "upipe: bad frame: pipe " ++ pipe ++ codes " offset " ++ decimal offset
fault_text (TooLong pipe limit) =
    codes "upipe: too long: pipe " ++ pipe ++ codes " limit " ++ decimal limit

-- the fault's line, ended by a line feed
abbrev pub fault_bytes : Fault → List ℕ
fault_bytes fault = fault_text fault ++ 10 ∷ []

-- the line of want of memory
abbrev pub no_memory_bytes : List ℕ
no_memory_bytes = codes "upipe: out of memory" ++ 10 ∷ []
