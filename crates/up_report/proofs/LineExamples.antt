-- Worked examples of the lines of faults, computed.
use Rattle.std.proofs.Common.{◌≡◌, ℕ, List, [], ◌∷◌, ◌++◌, Some, pos, refl}
use Rattle.std.specs.Prelude.{codes}
use Rattle.std.specs.Fmt.{digits}
use Rattle.up_graph.specs.declared.graph_refused.GraphRefused.TheVariants as refusals
use Rattle.up_report.specs.Lines.{escaped, fault_bytes, no_memory_bytes}
use Rattle.up_report.specs.declared.fault.Fault.TheVariants.{Usage, Graph, ReadGraph, Read, Write, WriteReport, BadFrame, TooLong}

-- the text, ended by a line feed
abbrev line : List ℕ → List ℕ
line text = text ++ 10 ∷ []

pub usage :
    fault_bytes Usage ≡ line (codes "usage: upipe check GRAPH | upipe run [--single] [--pool] GRAPH | upipe work [--single] N")
usage = refl

pub too_big : fault_bytes (Graph (refusals.TooBig 1048577)) ≡ line (codes "upipe: graph: too big")
too_big = refl

pub not_toml : fault_bytes (Graph refusals.NotToml) ≡ line (codes "upipe: graph: not toml")
not_toml = refl

pub bad_version : fault_bytes (Graph (refusals.BadVersion (Some (pos 2)))) ≡ line (codes "upipe: graph: bad version")
bad_version = refl

pub no_pipes : fault_bytes (Graph refusals.NoPipes) ≡ line (codes "upipe: graph: no pipes")
no_pipes = refl

pub too_many_pipes :
    fault_bytes (Graph (refusals.TooManyPipes 257)) ≡ line (codes "upipe: graph: too many pipes: 257")
unfolding digits
too_many_pipes = refl

pub bad_field_at_the_top :
    fault_bytes (Graph (refusals.BadField 0 (codes "name"))) ≡ line (codes "upipe: graph: top: bad field name")
bad_field_at_the_top = refl

pub bad_field_of_a_pipe :
    fault_bytes (Graph (refusals.BadField 12 (codes "limit"))) ≡ line (codes "upipe: graph: pipe 12: bad field limit")
unfolding digits
bad_field_of_a_pipe = refl

pub name_used_twice : fault_bytes (Graph (refusals.SameName 2)) ≡ line (codes "upipe: graph: pipe 2: name used twice")
unfolding digits
name_used_twice = refl

pub more_than_one_input : fault_bytes (Graph (refusals.ManyInputs 2)) ≡ line (codes "upipe: graph: pipe 2: more than one input")
unfolding digits
more_than_one_input = refl

pub unknown_input : fault_bytes (Graph (refusals.UnknownInput 2)) ≡ line (codes "upipe: graph: pipe 2: unknown input")
unfolding digits
unknown_input = refl

pub cycle : fault_bytes (Graph (refusals.Cycle 2)) ≡ line (codes "upipe: graph: pipe 2: cycle")
unfolding digits
cycle = refl

pub more_than_one_output : fault_bytes (Graph (refusals.ManyOutputs 2)) ≡ line (codes "upipe: graph: pipe 2: more than one output")
unfolding digits
more_than_one_output = refl

pub no_output : fault_bytes (Graph (refusals.NoOutput 2)) ≡ line (codes "upipe: graph: pipe 2: no output")
unfolding digits
no_output = refl

pub wrong_flow : fault_bytes (Graph (refusals.WrongFlow 2)) ≡ line (codes "upipe: graph: pipe 2: wrong flow")
unfolding digits
wrong_flow = refl

pub path_used_twice : fault_bytes (Graph (refusals.SamePath 2)) ≡ line (codes "upipe: graph: pipe 2: path used twice")
unfolding digits
path_used_twice = refl

pub too_many_workers : fault_bytes (Graph (refusals.TooManyWorkers 17)) ≡ line (codes "upipe: graph: too many workers: 17")
unfolding digits
too_many_workers = refl

-- a tab, a backslash, 0x7F and the two bytes of `é`
pub escapes :
    escaped (97 ∷ 9 ∷ 92 ∷ 127 ∷ 195 ∷ 169 ∷ 126 ∷ 32 ∷ [])
    ≡ codes "a" ++ 92 ∷ codes "x09" ++ 92 ∷ codes "x5c" ++ 92 ∷ codes "x7f" ++ 92 ∷ codes "xc3" ++ 92 ∷ codes "xa9~ "
escapes = refl

pub graph_not_read : fault_bytes ReadGraph ≡ line (codes "upipe: read fault: graph")
graph_not_read = refl

pub not_read : fault_bytes (Read (codes "capture")) ≡ line (codes "upipe: read fault: pipe capture")
not_read = refl

pub not_written : fault_bytes (Write (codes "archive")) ≡ line (codes "upipe: write fault: pipe archive")
not_written = refl

pub too_long :
    fault_bytes (TooLong (codes "capture") 1099511627776) ≡ line (codes "upipe: too long: pipe capture limit 1099511627776")
unfolding digits
too_long = refl

pub report_not_written : fault_bytes WriteReport ≡ line (codes "upipe: write fault: report")
report_not_written = refl

pub bad_frame : fault_bytes (BadFrame (codes "capture") 188) ≡ line (codes "upipe: bad frame: pipe capture offset 188")
unfolding digits
bad_frame = refl

pub no_memory : no_memory_bytes ≡ line (codes "upipe: out of memory")
no_memory = refl
