-- The paths of a graph, in the order in which they are opened, and what became of each.
use Rattle.std.specs.Prelude.{◌≡◌, ◌≢◌, ℕ, List, [], ◌++◌, map, slice_get, true, Option, Some, None, unwrap_or, if◌then◌else◌}
use Rattle.std.specs.FinMap.{get}
use Rattle.std.specs.List.{Contains, filter}
use Rattle.std.specs.Option.{option_map_or}
use Rattle.up_model.specs.Ends.{is_sink, is_source, path_of}
use Rattle.up_model.specs.Inputs.{ends_at_source, passes_at, places}
use Rattle.up_model.specs.Plans.{ends_at_sink}
use Rattle.up_model.specs.declared.kind.Kind.{Kind}
use Rattle.up_model.specs.declared.pipe.Pipe.{Pipe}
use Rattle.up_outside.specs.Asked.{entry}
use Rattle.up_outside.specs.Held.{Held}
use Rattle.up_outside.specs.declared.asked.Entry.{Entry}
use Rattle.up_outside.specs.declared.asked.Mark.{Mark}
use Rattle.up_outside.specs.declared.asked.Side.{Side}
use Rattle.up_outside.specs.declared.asked.Side.TheVariants as sides

-- the pipes that have a path, in the order in which their paths are opened: sources, then sinks,
-- each in file order
abbrev pub path_places : List Pipe → List ℕ
path_places pipes = filter (passes_at ends_at_source pipes) (places pipes)
    ++ filter (passes_at ends_at_sink pipes) (places pipes)

-- the side on which the path of a pipe of this kind is opened: a source's is read, a sink's is
-- written, and of any other kind none is opened
abbrev pub side_of : Kind → Option Side
side_of kind =
    if is_source kind then Some sides.Source else (if is_sink kind then Some sides.Sink else None)

-- what stands for an open where none is: its path is empty, as no pipe's is
abbrev pub no_entry : Mark → Entry
no_entry mark = entry [] sides.Source mark

-- an open of the path of a pipe of this kind, and what became of it
abbrev pub entry_of : Kind → Mark → Entry
entry_of kind mark = option_map_or
    (λ side. entry (unwrap_or (path_of kind) []) side mark) (side_of kind) (no_entry mark)

-- so of the pipe at a place
abbrev pub entry_at : List Pipe → ℕ → Mark → Entry
entry_at pipes place mark =
    option_map_or (λ pipe. entry_of pipe.kind mark) (slice_get pipes place) (no_entry mark)

-- an entry for each of these pipes, by what became of the open at each place
abbrev pub entries_at : List Pipe → (ℕ → Mark) → List ℕ → List Entry
entries_at pipes marks places = map (λ place. entry_at pipes place (marks place)) places

-- no pipe is a sink on this path
abbrev pub IsNoSinkPath : List Pipe → List ℕ → Type 0
IsNoSinkPath pipes path =
    (place : ℕ) (pipe : Pipe) → slice_get pipes place ≡ Some pipe
    → passes_at ends_at_sink pipes place ≡ true → path_of pipe.kind ≢ Some path

-- every path but those of the sinks among some places has what it had
abbrev pub KeepsPathsBut : List Pipe → List ℕ → Held → Held → Type 0
KeepsPathsBut pipes some before after = (path : List ℕ)
    → ((place : ℕ) (pipe : Pipe) → Contains some place → slice_get pipes place ≡ Some pipe
    → passes_at ends_at_sink pipes place ≡ true → path_of pipe.kind ≢ Some path)
    → get after path ≡ get before path

-- the paths of the pipes at some places have what they had
abbrev pub KeepsPathsOf : List Pipe → List ℕ → Held → Held → Type 0
KeepsPathsOf pipes some before after = (place : ℕ) (pipe : Pipe) (path : List ℕ)
    → Contains some place → slice_get pipes place ≡ Some pipe → path_of pipe.kind ≡ Some path
    → get after path ≡ get before path

-- every path that is no sink's has what it had
abbrev pub KeepsOtherPaths : List Pipe → Held → Held → Type 0
KeepsOtherPaths pipes before after =
    (path : List ℕ) → IsNoSinkPath pipes path → get after path ≡ get before path
