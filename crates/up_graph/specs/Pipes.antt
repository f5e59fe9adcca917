-- The pipes of a file, in its order.
use Rattle.std.specs.Prelude.{ℕ, suc, Bool, false, List, [], ◌∷◌, length, position, unwrap_or, codes, Option, Some, None, Ok, Err, if◌then◌else◌}
use Rattle.std.specs.Str.{bytes_eq}
use Rattle.toml.specs.Data.{Data, table, string, Members, get_member}
use Rattle.up_graph.specs.Answers.{Checked, ◌>>=◌}
use Rattle.up_graph.specs.Field.{Field, field_map, both, given}
use Rattle.up_graph.specs.KindRows.{KindRow, a_kind, own_of, pipe_name}
use Rattle.up_graph.specs.Top.{numbered}
use Rattle.up_graph.specs.Values.{an_input}
use Rattle.up_model.specs.declared.catch_set.CatchSet.{CatchSet}
use Rattle.up_model.specs.declared.kind.Kind.{Kind}
use Rattle.up_model.specs.declared.limits.TheConstants.{DEFAULT_QUEUE}
use Rattle.up_model.specs.declared.pipe.Pipe.{Pipe}

-- the text at `name` is this one
abbrev pub is_name_text : List ℕ → Option Data → Bool
is_name_text name (Some (string text)) = bytes_eq text name
is_name_text name _ = false

-- the value is a table of this name
abbrev pub has_name : List ℕ → Data → Bool
has_name name (table fields) = is_name_text name (get_member (codes "name") fields)
has_name name _ = false

-- the place of the first table of the name, or a place that isn't there
abbrev pub place_named : List ℕ → List Data → ℕ
place_named name tables = unwrap_or (position (has_name name) tables) (length tables)

-- two or more names, which no pipe of a graph has, stand as a place that isn't there
abbrev pub place_of : List Data → Option (List ℕ) → ℕ
place_of tables (Some name) = place_named name tables
place_of tables None = length tables

-- the place of the pipe whose output a pipe takes
abbrev pub input_of : List Data → Members → Field ℕ
input_of tables fields = field_map (place_of tables) (given an_input fields)

-- a source takes no other pipe's output
abbrev pub taken_by : Bool → List Data → Members → Field (Option ℕ)
taken_by is_source tables fields =
    if is_source then Ok None else field_map Some (input_of tables fields)

-- no kind of event is caught
abbrev pub caught_nothing : CatchSet
caught_nothing = record { drop = false; cut = false; sync = false; lost = false }

abbrev pub pipe_from : Kind → List ℕ → Option ℕ → Pipe
pipe_from kind name input = record {
  name = name;
  worker = codes "main";
  input = input;
  select = None;
  queue = DEFAULT_QUEUE;
  caught = caught_nothing;
  kind = kind;
}

-- the pipe of a kind, or the least wrong field
abbrev pub pipe_with : KindRow → List Data → Members → Field Pipe
pipe_with row tables fields =
    field_map (λ found. pipe_from found.0 found.1.0 found.1.1)
    (both (own_of row fields)
    (both (given pipe_name fields) (taken_by row.is_source tables fields)))

-- a table that names no kind has the wrong field `kind` alone
abbrev pub pipe_by : Field KindRow → List Data → Members → Field Pipe
pipe_by (Ok row) tables fields = pipe_with row tables fields
pipe_by (Err key) tables fields = Err key

-- the pipe of a table among the tables of all pipes
abbrev pub pipe_of : List Data → Members → Field Pipe
pipe_of tables fields = pipe_by (given a_kind fields) tables fields

-- a value that is no table names no kind
abbrev pub pipe_in : List Data → Data → Field Pipe
pipe_in tables (table fields) = pipe_of tables fields
pipe_in tables _ = Err (codes "kind")

-- the pipes of the values, of which the first has this number, among the tables of all pipes
unfoldable pub pipes_from : List Data → ℕ → List Data → Checked (List Pipe)
pipes_from tables number [] = Ok []
pipes_from tables number (first ∷ others) = do
  pipe ← numbered number (pipe_in tables first)
  pipes ← pipes_from tables (suc number) others
  Ok (pipe ∷ pipes)
