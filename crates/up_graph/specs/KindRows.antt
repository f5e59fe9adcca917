-- The kinds of graph files: a row a kind.
use Rattle.std.specs.Prelude.{◌-◌, ◌^◌, ℕ, ℤ, Bool, true, false, List, [], ◌∷◌, ◌++◌, codes, map, Option, Some, None, option_and_then, Ok, Err, if◌then◌else◌}
use Rattle.std.specs.Option.{is_some}
use Rattle.std.specs.Str.{bytes_eq}
use Rattle.toml.specs.Data.{Data, Members, as_str}
use Rattle.up_graph.specs.AttrValue.{attr_value}
use Rattle.up_graph.specs.Field.{Field, field_map, both, Rule, given, known_alone}
use Rattle.up_graph.specs.Form.{block, form, sink_form, source_form}
use Rattle.up_graph.specs.Values.{a_name, a_path, a_number, a_shift, an_input}
use Rattle.up_model.specs.declared.kind.Kind.{Kind}
use Rattle.up_model.specs.declared.kind.Kind.TheVariants.{Source, Sink, Idem, Null, Dup, Skip, SetAttr, DelAttr, MatchAttr, Delay}
use Rattle.up_model.specs.declared.limits.TheConstants.{MAX_LIMIT, MAX_PACKET}

-- a field by its name, and whether what stands there is right
pub record FieldTest : Type 0 where
  pub name : List ℕ
  pub is_right : Option Data → Bool

abbrev pub test_of : {A : Type 0} → Rule A → FieldTest
test_of rule = record { name = rule.name; is_right = λ found. is_some (rule.value found) }

-- a kind: whether it takes from no other pipe, the tests of its own fields in a table, and what they give
pub record KindRow : Type 0 where
  pub is_source : Bool
  pub own : Members → List FieldTest
  pub kind : Members → Field Kind

abbrev pub path : Rule (List ℕ)
path = a_path (codes "path")

abbrev pub limit : Rule ℕ
limit = a_number (codes "limit") 0 MAX_LIMIT (Some MAX_LIMIT)

abbrev pub source_row : KindRow
source_row = record {
  is_source = true;
  own = λ table.
      test_of path ∷ test_of form ∷ test_of (block (given form table)) ∷ test_of limit ∷ [];
  kind = λ table.
      field_map (λ found. Source found.0 found.1.0 found.1.1)
      (both (given path table) (both (source_form table) (given limit table)));
}

abbrev pub sink_row : KindRow
sink_row = record {
  is_source = false;
  own = λ table. test_of path ∷ test_of form ∷ [];
  kind = λ table.
      field_map (λ found. Sink found.0 (sink_form found.1))
      (both (given path table) (given form table));
}

abbrev pub bytes : Rule ℕ
bytes = a_number (codes "bytes") 0 MAX_PACKET None

abbrev pub skip_row : KindRow
skip_row = record {
  is_source = false;
  own = λ table. test_of bytes ∷ [];
  kind = λ table. field_map Skip (given bytes table);
}

abbrev pub attr : Rule (List ℕ)
attr = a_name (codes "attr")

abbrev pub setattr_row : KindRow
setattr_row = record {
  is_source = false;
  own = λ table. test_of attr ∷ test_of attr_value ∷ [];
  kind = λ table.
      field_map (λ found. SetAttr found.0 found.1)
      (both (given attr table) (given attr_value table));
}

abbrev pub delattr_row : KindRow
delattr_row = record {
  is_source = false;
  own = λ table. test_of attr ∷ [];
  kind = λ table. field_map DelAttr (given attr table);
}

abbrev pub high : Rule ℕ
high = a_number (codes "high") 0 (2 ^ 64 - 1) (Some (2 ^ 64 - 1))

-- the greatest `low`: the `high` of the table, where that is right
abbrev pub greatest_low : Field ℕ → ℕ
greatest_low (Ok high) = high
greatest_low (Err key) = 2 ^ 64 - 1

abbrev pub low : Members → Rule ℕ
low table = a_number (codes "low") 0 (greatest_low (given high table)) (Some 0)

abbrev pub match_attr_row : KindRow
match_attr_row = record {
  is_source = false;
  own = λ table. test_of attr ∷ test_of (low table) ∷ test_of high ∷ [];
  kind = λ table.
      field_map (λ found. MatchAttr found.0 found.1.0 found.1.1)
      (both (given attr table) (both (given (low table) table) (given high table)));
}

abbrev pub by : Rule ℤ
by = a_shift (codes "by")

abbrev pub delay_row : KindRow
delay_row = record {
  is_source = false;
  own = λ table. test_of by ∷ [];
  kind = λ table. field_map Delay (given by table);
}

-- a kind without fields of its own
abbrev pub plain_row : Kind → KindRow
plain_row kind = record { is_source = false; own = λ table. []; kind = λ table. Ok kind }

abbrev pub row_of : List ℕ → Option KindRow
row_of word =
    if bytes_eq word (codes "source") then Some source_row
    else if bytes_eq word (codes "sink") then Some sink_row
    else if bytes_eq word (codes "idem") then Some (plain_row Idem)
    else if bytes_eq word (codes "null") then Some (plain_row Null)
    else if bytes_eq word (codes "dup") then Some (plain_row Dup)
    else if bytes_eq word (codes "skip") then Some skip_row
    else if bytes_eq word (codes "setattr") then Some setattr_row
    else if bytes_eq word (codes "delattr") then Some delattr_row
    else if bytes_eq word (codes "match_attr") then Some match_attr_row
    else if bytes_eq word (codes "delay") then Some delay_row
    else None

-- the word of a kind
abbrev pub a_kind : Rule KindRow
a_kind = record {
  name = codes "kind";
  value = λ found. option_and_then row_of (option_and_then as_str found);
}

abbrev pub pipe_name : Rule (List ℕ)
pipe_name = a_name (codes "name")

-- a source has no input
abbrev pub inputs_of : KindRow → List FieldTest
inputs_of row = if row.is_source then [] else test_of an_input ∷ []

-- the fields that a pipe of the kind can have, and their tests in this table
abbrev pub fields_of : KindRow → Members → List FieldTest
fields_of row table = (test_of pipe_name ∷ test_of a_kind ∷ inputs_of row) ++ row.own table

abbrev pub names_of : KindRow → Members → List (List ℕ)
names_of row table = map (λ test. test.name) (fields_of row table)

-- the kind that a table gives which has no fields but these
abbrev pub own_of : KindRow → Members → Field Kind
own_of row table =
    field_map (λ found. found.1)
    (both (known_alone (names_of row table) table) (row.kind table))
