-- Which field is told as wrong, of a pipe and of the top, in the words of the rules: no order of looking plays a part.
use Rattle.std.specs.Prelude.{◌≡◌, ℕ, ◌<◌, Bool, true, false, ◌&&◌, ◌||◌, not, List, [], ◌∷◌, slice_get, codes, Option, Some, None, Ok}
use Rattle.std.specs.Cmp.Lexicographic.{slice_cmp}
use Rattle.std.specs.List.{list_all, list_any}
use Rattle.std.specs.Ordering.{nat_cmp}
use Rattle.std.specs.declared.cmp.Ordering.TheVariants.{Less}
use Rattle.std.specs.Str.{bytes_eq}
use Rattle.toml.specs.Data.{Data, array, table, Items, Members, get_member}
use Rattle.up_graph.specs.Document.{document_of}
use Rattle.up_graph.specs.Field.{is_among, keys}
use Rattle.up_graph.specs.KindRows.{FieldTest, KindRow, a_kind, fields_of, names_of}
use Rattle.up_graph.specs.Top.{is_table}
use Rattle.up_graph.specs.Values.{values}

-- the field has this name, and what stands there, or that nothing does, isn't right
abbrev pub is_refused : List ℕ → Members → FieldTest → Bool
is_refused key fields test = bytes_eq test.name key && not (test.is_right (get_member key fields))

-- something stands there, and the kind has no such field
abbrev pub is_not_allowed : KindRow → List ℕ → Members → Bool
is_not_allowed row key fields = is_among key (keys fields) && not (is_among key (names_of row fields))

-- the field is wrong in the table of a pipe of this kind
abbrev pub is_wrong : KindRow → Members → List ℕ → Bool
is_wrong row fields key =
    list_any (is_refused key fields) (fields_of row fields) || is_not_allowed row key fields

-- the first of the two names comes first in byte order
abbrev pub IsBefore : List ℕ → List ℕ → Type 0
IsBefore key other = slice_cmp nat_cmp key other ≡ Less

-- the key is wrong, and no wrong one comes before it
pub record IsLeast (wrong : List ℕ → Bool) (key : List ℕ) : Type 0 where
  pub wrong_itself : wrong key ≡ true
  pub least : (other : List ℕ) → wrong other ≡ true → IsBefore other key → ⊥

-- what is told of a table: `kind` alone where it names no kind, else the least wrong field
abbrev pub IsToldOf : Option KindRow → Members → List ℕ → Type 0
IsToldOf None fields key = key ≡ codes "kind"
IsToldOf (Some row) fields key = IsLeast (is_wrong row fields) key

-- the table names a kind, and no field is wrong
abbrev pub HasNoWrong : Option KindRow → Members → Type 0
HasNoWrong None fields = ⊥
HasNoWrong (Some row) fields = (key : List ℕ) → is_wrong row fields key ≡ true → ⊥

-- the kind that a table names
abbrev pub kind_in : Members → Option KindRow
kind_in fields = a_kind.value (get_member (codes "kind") fields)

-- of these tables the one at the place is told of, for this field, and none before it has a wrong one
pub record TellsOf (tables : List Data) (place : ℕ) (key : List ℕ) : Type 0 where
  pub fields : Members
  pub stands : slice_get tables place ≡ Some (table fields)
  pub told : IsToldOf (kind_in fields) fields key
  pub before : (earlier : ℕ) (other : Members) → earlier < place
      → slice_get tables earlier ≡ Some (table other) → HasNoWrong (kind_in other) other

-- what stands at `pipe` is an array of tables
abbrev pub has_tables : Option Data → Bool
has_tables (Some (array pipes)) = list_all is_table (values pipes)
has_tables _ = false

-- the key stands at the top and is none of its two, or it is `pipe` and no array of tables stands there
abbrev pub is_wrong_at_top : Members → List ℕ → Bool
is_wrong_at_top top key =
    (is_among key (keys top) && not (is_among key (codes "pipe" ∷ codes "version" ∷ [])))
    || (bytes_eq (codes "pipe") key && not (has_tables (get_member (codes "pipe") top)))

-- the text is a document, of whose top this is told
pub record TellsLeastAtTop (text : List ℕ) (key : List ℕ) : Type 0 where
  pub top : Members
  pub document : document_of text ≡ Ok top
  pub told : IsLeast (is_wrong_at_top top) key

-- the text is a document with an array of tables, of which this is told
pub record TellsLeastWrong (text : List ℕ) (place : ℕ) (key : List ℕ) : Type 0 where
  pub top : Members
  pub pipes : Items
  pub document : document_of text ≡ Ok top
  pub stands : get_member (codes "pipe") top ≡ Some (array pipes)
  pub tells : TellsOf (values pipes) place key
