-- Worked examples of the first fault of a graph, computed, and of the bounds of a pipe.
use Rattle.std.proofs.Common.{◌≡◌, ℕ, ◌+◌, ◌-◌, [], ◌∷◌, ◌++◌, List, Option, Some, None, map, true, false, refl, arith}
use Rattle.std.specs.Prelude.{codes}
use Rattle.std.specs.List.{range_with_len}
use Rattle.up_model.proofs.ExampleChain.{pipe, raw_source, three_pipes}
use Rattle.up_model.proofs.ExampleTree.{tree}
use Rattle.up_model.specs.WellFormed.{graph_fault, IsPipe, IsWellFormed, is_wrong_for, are_too_many, are_too_few}
use Rattle.up_model.specs.declared.fan_out.FanOut.TheVariants as fans
use Rattle.up_model.specs.declared.form.SinkForm.TheVariants as sink_forms
use Rattle.up_model.specs.declared.graph_fault.GraphFault.TheVariants.{SameName, UnknownInput, Cycle, ManyOutputs, NoOutput, WrongFlow, SamePath, TooManyWorkers}
use Rattle.up_model.specs.declared.kind.Kind.{Kind}
use Rattle.up_model.specs.declared.kind.Kind.TheVariants.{Sink, Idem, Null, Dup}
use Rattle.up_model.specs.declared.pipe.Pipe.{Pipe}

-- a source that reads `in`
abbrev capture : Pipe
capture = pipe (codes "capture") None (raw_source 4096 100)

abbrev idem : List ℕ → ℕ → Pipe
idem name input = pipe name (Some input) Idem

abbrev writes : List ℕ → ℕ → List ℕ → Pipe
writes name input path = pipe name (Some input) (Sink path sink_forms.Raw)

abbrev archive : ℕ → Pipe
archive input = writes (codes "archive") input (codes "out")

abbrev backup : ℕ → Pipe
backup input = writes (codes "backup") input (codes "copy")

-- a chain, and a tree with two sources on one path, a sink before its input, and a `dup` with two consumers
pub faultless : (graph_fault three_pipes ≡ None) × (graph_fault tree ≡ None)
faultless = (refl, refl)

-- of two pipes with one name the later is named
pub name_twice : graph_fault (capture ∷ idem (codes "pass") 0 ∷ idem (codes "pass") 1 ∷ archive 2 ∷ []) ≡ Some (SameName 2)
name_twice = refl

-- names that differ in case are two
pub two_names : graph_fault (capture ∷ idem (codes "pass") 0 ∷ idem (codes "Pass") 1 ∷ archive 2 ∷ []) ≡ None
two_names = refl

-- a graph of two has no place 2
pub input_past_the_last : (graph_fault (capture ∷ archive 2 ∷ []) ≡ Some (UnknownInput 1)) × (graph_fault (archive 1 ∷ capture ∷ []) ≡ None)
input_past_the_last = (refl, refl)

-- a cycle of two, which feeds a sink that stands before it; a pipe that takes its own output; and a cycle beside a chain
pub cycles :
    (graph_fault (archive 2 ∷ idem (codes "a") 2 ∷ pipe (codes "b") (Some 1) Dup ∷ []) ≡ Some (Cycle 0))
    × (graph_fault (idem (codes "a") 0 ∷ []) ≡ Some (Cycle 0))
    × (graph_fault (capture ∷ archive 0 ∷ idem (codes "a") 3 ∷ idem (codes "b") 2 ∷ []) ≡ Some (Cycle 2))
cycles = (refl, refl, refl)

-- an `idem` and a source feed one, a `dup` feeds two
pub two_consumers :
    (graph_fault (capture ∷ idem (codes "pass") 0 ∷ archive 1 ∷ backup 1 ∷ []) ≡ Some (ManyOutputs 1))
    × (graph_fault (capture ∷ archive 0 ∷ backup 0 ∷ []) ≡ Some (ManyOutputs 0))
    × (graph_fault (capture ∷ pipe (codes "both") (Some 0) Dup ∷ archive 1 ∷ backup 1 ∷ []) ≡ None)
two_consumers = (refl, refl, refl)

-- a source, an `idem` and a `dup` with no consumer; a `dup` with one; a `null` needs none
pub no_consumer :
    (graph_fault (capture ∷ []) ≡ Some (NoOutput 0))
    × (graph_fault (capture ∷ idem (codes "pass") 0 ∷ []) ≡ Some (NoOutput 1))
    × (graph_fault (capture ∷ pipe (codes "both") (Some 0) Dup ∷ []) ≡ Some (NoOutput 1))
    × (graph_fault (capture ∷ pipe (codes "both") (Some 0) Dup ∷ archive 1 ∷ []) ≡ None)
    × (graph_fault (capture ∷ pipe (codes "end") (Some 0) Null ∷ []) ≡ None)
no_consumer = (refl, refl, refl, refl, refl)

-- a `null` and a sink put nothing out, and a source isn't split
pub wrong_flows :
    (graph_fault (capture ∷ pipe (codes "end") (Some 0) Null ∷ archive 1 ∷ []) ≡ Some (WrongFlow 2))
    × (graph_fault (capture ∷ archive 0 ∷ backup 1 ∷ []) ≡ Some (WrongFlow 2))
    × (graph_fault (capture ∷ record (archive 0) { select = Some 256 } ∷ []) ≡ Some (WrongFlow 1))
wrong_flows = (refl, refl, refl)

-- of a split output a consumer takes what it selects, of another it takes all
pub selecting :
    (is_wrong_for fans.Selected None ≡ true) × (is_wrong_for fans.Selected (Some 0) ≡ false)
    × (is_wrong_for fans.All None ≡ false) × (is_wrong_for fans.All (Some 0) ≡ true)
selecting = (refl, refl, refl, refl)

-- a split output feeds two or more, and at least one
pub split_consumers : (are_too_many fans.Selected 2 ≡ false) × (are_too_few fans.Selected 0 ≡ true) × (are_too_few fans.Selected 1 ≡ false)
split_consumers = (refl, refl, refl)

-- two sources may read one path
pub sources_on_one_path : graph_fault (capture ∷ archive 0 ∷ record capture { name = codes "again" } ∷ backup 2 ∷ []) ≡ None
sources_on_one_path = refl

-- a sink may write no path that a source reads or another sink writes, and the later of the two is named
pub one_path :
    (graph_fault (capture ∷ writes (codes "archive") 0 (codes "in") ∷ []) ≡ Some (SamePath 1))
    × (graph_fault (writes (codes "archive") 1 (codes "in") ∷ capture ∷ []) ≡ Some (SamePath 1))
    × (graph_fault (capture ∷ pipe (codes "both") (Some 0) Dup ∷ archive 1 ∷ writes (codes "backup") 1 (codes "out") ∷ []) ≡ Some (SamePath 3))
one_path = (refl, refl, refl)

-- a pipe with a name, a worker and, where it is a sink, a path of one letter
abbrev numbered : ℕ → Option ℕ → Kind → Pipe
numbered number input kind = let letter = (97 + number) ∷ [] in record (pipe letter input kind) { worker = letter }

-- a source, a `dup` and the sinks that it feeds, each on a worker of its own
abbrev fan : ℕ → List Pipe
fan count =
    numbered 0 None (raw_source 4096 100) ∷ numbered 1 (Some 0) Dup
    ∷ map (λ number. numbered number (Some 1) (Sink ((97 + number) ∷ []) sink_forms.Raw)) (range_with_len 2 (count - 2))

-- sixteen workers are enough for as many pipes as there are, seventeen are too many
pub workers :
    (graph_fault (fan 16) ≡ None) × (graph_fault (fan 17) ≡ Some (TooManyWorkers 17))
    × (graph_fault (fan 16 ++ record (archive 1) { worker = 97 ∷ [] } ∷ []) ≡ None)
workers = (refl, refl, refl)

-- where two faults apply, that of the earlier row is named, at whatever place it stands
pub earlier_row :
    (graph_fault (idem (codes "pass") 9 ∷ idem (codes "pass") 9 ∷ []) ≡ Some (SameName 1))
    × (graph_fault (idem (codes "a") 0 ∷ idem (codes "b") 9 ∷ []) ≡ Some (UnknownInput 1))
    × (graph_fault (capture ∷ archive 0 ∷ backup 0 ∷ idem (codes "a") 3 ∷ []) ≡ Some (Cycle 3))
    × (graph_fault (idem (codes "stray") 1 ∷ capture ∷ archive 1 ∷ []) ≡ Some (ManyOutputs 1))
    × (graph_fault (capture ∷ archive 0 ∷ backup 1 ∷ record capture { name = codes "again" } ∷ []) ≡ Some (NoOutput 3))
    × (graph_fault (capture ∷ writes (codes "archive") 0 (codes "in") ∷ backup 1 ∷ []) ≡ Some (WrongFlow 2))
    × (graph_fault (fan 17 ++ writes (codes "archive") 1 (codes "c") ∷ []) ≡ Some (SamePath 17))
earlier_row = (refl, refl, refl, refl, refl, refl, refl)

-- a lane has 1 to 4,096 items
pub queues :
    (IsPipe (record capture { queue = 0 }) → ⊥) × (IsPipe (record capture { queue = 4097 }) → ⊥)
queues = (λ is. omega (arith, is.queue.0), λ is. omega (arith, is.queue.1))

-- a packet identifier is at most 8,191
pub selects : IsPipe (record capture { select = Some 8192 }) → ⊥
selects is = omega (arith, is.select 8192 refl)

-- a source has no input, and any other pipe has one
pub inputs : (IsPipe (record capture { input = Some 0 }) → ⊥) × (IsPipe (pipe (codes "pass") None Idem) → ⊥)
inputs = (λ is. let apart = is.input in cc, λ is. let apart = is.input in cc)

-- a graph has a pipe
pub none : IsWellFormed [] → ⊥
none is = omega (arith, is.some)
