-- A graph that is read is well formed.
use Rattle.std.proofs.Common.{inl, inr, ◌≡◌, ℕ, suc, ◌≤◌, Bool, true, false, not, List, [], ◌∷◌, All, length, Option, Some, None, Result, Ok, Err, refl, arith}
use Rattle.std.specs.Prelude.{codes, ◌&&◌, ◌==◌, ◌-◌, ◌^◌, int_le, nat_lt, pos, negsuc, IfOk, IfSome}
use Rattle.std.specs.Int.Signed.{le_z_yes}
use Rattle.std.specs.List.{list_all}
use Rattle.std.specs.Option.{is_some}
use Rattle.std.specs.Str.{is_utf8}
use Rattle.std.proofs.lemmas.Bool.{and_parts, cases_Bool}
use Rattle.std.proofs.lemmas.Bool.Decides.{nat_tests}
use Rattle.std.proofs.lemmas.List.Elements.{All-nil, All-cons}
use Rattle.toml.specs.Data.{Data, string, integer, boolean, array, table, Members, get_member}
use Rattle.up_base.specs.Name.{is_name, is_within}
use Rattle.up_graph.proofs.Found.{mapped, weaker, both_by, both_too, anything, given_too, made_too, then_too, numbered_too}
use Rattle.up_graph.proofs.Rows.{each_kind}
use Rattle.up_graph.specs.Answers.{Answers, Checked}
use Rattle.up_graph.specs.AttrValue.{attr_value, is_legal_text, value_or_void}
use Rattle.up_graph.specs.Faults.{names_differ, one_input_each, faultless, told, graph_from}
use Rattle.up_graph.specs.Field.{Field, field_map, both, given, or_wrong}
use Rattle.up_graph.specs.Form.{block, form, form_with, in_blocks, sink_form, source_form}
use Rattle.up_graph.specs.Graph.{graph_in}
use Rattle.up_graph.specs.KindRows.{KindRow, a_kind, attr, by, bytes, greatest_low, high, limit, low, path, pipe_name, own_of, source_row, sink_row, skip_row, setattr_row, delattr_row, match_attr_row, delay_row}
use Rattle.up_graph.specs.Pipes.{pipe_from, pipe_with, pipe_by, pipe_in, pipes_from, taken_by, input_of}
use Rattle.up_graph.specs.Top.{array_in, array_of, counted, is_table, numbered, tables_in, tables_of, version_of}
use Rattle.up_graph.specs.Values.{a_name, a_number, number_in, number_or, shift_in, text_that, values}
use Rattle.up_graph.specs.declared.form.Form.{Form}
use Rattle.up_graph.specs.declared.form.Form.TheVariants.{Raw, Framed}
use Rattle.up_graph.specs.declared.graph_refused.GraphRefused.{GraphRefused}
use Rattle.up_model.specs.Delay.{IsShift, least_shift, greatest_shift}
use Rattle.up_model.specs.Ends.{IsPath, IsSinkForm, IsSourceForm, is_path, is_source}
use Rattle.up_model.specs.FrameFronts.{is_size_of, is_value_of}
use Rattle.up_model.specs.Kinds.{IsWithinBounds}
use Rattle.up_model.specs.MatchAttr.{AreBounds}
use Rattle.up_model.specs.SetAttr.{IsAttribute}
use Rattle.up_model.specs.Value.{IsLegalValue}
use Rattle.up_model.specs.WellFormed.{IsPipe, IsWellFormed, graph_fault}
use Rattle.up_model.specs.declared.form.SourceForm.TheVariants as source_forms
use Rattle.up_model.specs.declared.graph.Graph.{Graph}
use Rattle.up_model.specs.declared.graph_fault.GraphFault.{GraphFault}
use Rattle.up_model.specs.declared.kind.Kind.{Kind}
use Rattle.up_model.specs.declared.limits.TheConstants.{DEFAULT_BLOCK, MAX_BLOCK, MAX_LIMIT, MAX_PACKET, MAX_PIPES}
use Rattle.up_model.specs.declared.pipe.Pipe.{Pipe}
use Rattle.up_model.specs.declared.value.Value.TheVariants.{Unsigned, Words}
use Rattle.up_model.specs.declared.value_type.ValueType.TheVariants as types

text_right : (passes : List ℕ → Bool) (found : Option Data) → IfSome (text_that passes found) (λ text. passes text ≡ true)
text_right passes None = tt
text_right passes (Some (string text)) =
    elim (cases_Bool (passes text)) [
      | inl right ↦ rw right right
      | inr wrong ↦ rw wrong tt
    ]
text_right passes (Some value) = tt

abbrev IsBetween : ℕ → ℕ → ℕ → Type 0
IsBetween least most number = (least ≤ number) × (number ≤ most)

number_right : (least most : ℕ) (value : Data) → IfSome (number_in least most value) (IsBetween least most)
number_right least most (integer (pos number)) =
    elim (cases_Bool (is_within least most number)) [
      | inl within ↦ rw within (grind (arith, nat_tests, within), grind (arith, nat_tests, within))
      | inr beyond ↦ rw beyond tt
    ]
number_right least most (integer (negsuc number)) = tt
number_right least most value = tt

number_or_right : (missing : Option ℕ) (least most : ℕ) (found : Option Data) → IfSome missing (IsBetween least most)
    → IfSome (number_or missing least most found) (IsBetween least most)
number_or_right missing least most None fits = fits
number_or_right missing least most (Some value) fits = number_right least most value

number_given : (key : List ℕ) (missing : Option ℕ) (least most : ℕ) (fields : Members) → IfSome missing (IsBetween least most)
    → IfOk (given (a_number key least most missing) fields) (IsBetween least most)
number_given key missing least most fields fits =
    given_too key (IsBetween least most) (number_or missing least most (get_member key fields)) (number_or_right missing least most (get_member key fields) fits)

path_right : (fields : Members) → IfOk (given path fields) IsPath
path_right fields =
    given_too path.name IsPath (path.value (get_member path.name fields)) (as_path _ (text_right (λ text. is_utf8 text && is_path text) (get_member path.name fields)))
  where
    as_path : (found : Option (List ℕ)) → IfSome found (λ text. (is_utf8 text && is_path text) ≡ true) → IfSome found IsPath
    as_path None holds = tt
    as_path (Some text) holds = and_parts (is_utf8 text) (is_path text) holds

-- the fields of a kind that a row gives are within their bounds
abbrev IsRight : KindRow → Type 0
IsRight row = (fields : Members) → IfOk (row.kind fields) (λ kind. IsWithinBounds kind × (is_source kind ≡ row.is_source))

blocks_right : (found : Option Data) → IfSome (in_blocks found) IsSourceForm
blocks_right found =
    made_too source_forms.Raw (IsBetween 1 MAX_BLOCK) IsSourceForm (number_or (Some DEFAULT_BLOCK) 1 MAX_BLOCK found)
    (number_or_right (Some DEFAULT_BLOCK) 1 MAX_BLOCK found (omega arith, omega arith)) (λ block within. within)

block_right : (beside : Field Form) (found : Option Data) → IfSome (form_with beside found) IsSourceForm
block_right (Ok Raw) found = blocks_right found
block_right (Ok Framed) None = tt
block_right (Ok Framed) (Some value) = tt
block_right (Err key) None = (omega arith, omega arith)
block_right (Err key) (Some value) = tt

source_form_right : (fields : Members) → IfOk (source_form fields) IsSourceForm
source_form_right fields =
    let blocks = block (given form fields) in
    let forms = both (given form fields) (given blocks fields) in
    mapped _ forms IsSourceForm
    (weaker forms (λ found. Unit {0} × IsSourceForm found.1) _ (λ found right. right.1)
    (both_too (λ form. Unit {0}) IsSourceForm (given form fields) (given blocks fields) (anything (given form fields))
    (given_too blocks.name IsSourceForm (blocks.value (get_member blocks.name fields)) (block_right (given form fields) (get_member blocks.name fields)))))

source_right : IsRight source_row
source_right fields =
    let ends = both (source_form fields) (given limit fields) in
    mapped _ (both (given path fields) ends) _
    (weaker (both (given path fields) ends)
    (λ found. IsPath found.0 × (IsSourceForm found.1.0 × IsBetween 0 MAX_LIMIT found.1.1)) _ (λ found right. ((right.0, right.1.0, right.1.1.1), refl))
    (both_too IsPath (λ others. IsSourceForm others.0 × IsBetween 0 MAX_LIMIT others.1) (given path fields) ends (path_right fields)
    (both_too IsSourceForm (IsBetween 0 MAX_LIMIT) (source_form fields) (given limit fields) (source_form_right fields)
    (number_given (codes "limit") (Some MAX_LIMIT) 0 MAX_LIMIT fields (omega arith, omega arith)))))

sink_form_right : (form : Form) → IsSinkForm (sink_form form)
sink_form_right Raw = tt
sink_form_right Framed = tt

sink_right : IsRight sink_row
sink_right fields =
    let own = both (given path fields) (given form fields) in
    mapped _ own _
    (weaker own (λ found. IsPath found.0 × Unit {0}) _ (λ found right. ((right.0, sink_form_right found.1), refl))
    (both_too IsPath (λ form. Unit {0}) (given path fields) (given form fields) (path_right fields) (anything (given form fields))))

skip_right : IsRight skip_row
skip_right fields =
    mapped _ (given bytes fields) _ (weaker (given bytes fields) (IsBetween 0 MAX_PACKET) _ (λ number right. (right.1, refl))
    (number_given (codes "bytes") None 0 MAX_PACKET fields tt))

named_right : (key : List ℕ) (fields : Members) → IfOk (given (a_name key) fields) (λ name. is_name name ≡ true)
named_right key fields = given_too key _ (text_that is_name (get_member key fields)) (text_right is_name (get_member key fields))

value_legal : (found : Option Data) → IfSome (value_or_void found) IsLegalValue
value_legal None = tt
value_legal (Some (boolean flag)) = tt
value_legal (Some (integer number)) =
    made_too Unsigned (IsBetween 0 (2 ^ 64 - 1)) IsLegalValue (number_in 0 (2 ^ 64 - 1) (integer number)) (number_right 0 (2 ^ 64 - 1) (integer number))
    (λ number within. omega (arith, within.1))
value_legal (Some (string text)) =
    made_too Words (λ text. is_legal_text text ≡ true) IsLegalValue (text_that is_legal_text (Some (string text))) (text_right is_legal_text (Some (string text)))
    (λ text is. let parts = and_parts (is_value_of types.Words text) (is_size_of types.Words (length text)) is in (parts.0, grind (arith, nat_tests, parts.1)))
value_legal (Some value) = tt

setattr_right : IsRight setattr_row
setattr_right fields =
    mapped _ (both (given attr fields) (given attr_value fields)) _
    (weaker (both (given attr fields) (given attr_value fields)) (λ found. IsAttribute found.0 found.1) _ (λ found right. (right, refl))
    (both_too (λ name. is_name name ≡ true) IsLegalValue (given attr fields) (given attr_value fields) (named_right (codes "attr") fields)
    (given_too attr_value.name IsLegalValue (value_or_void (get_member attr_value.name fields)) (value_legal (get_member attr_value.name fields)))))

delattr_right : IsRight delattr_row
delattr_right fields = mapped _ (given attr fields) _ (weaker (given attr fields) _ _ (λ attr right. (tt, refl)) (anything (given attr fields)))

bounds_right : (fields : Members) → IfOk (both (given (low fields) fields) (given high fields)) (λ bounds. AreBounds bounds.0 bounds.1)
bounds_right fields =
    weaker (both (given (low fields) fields) (given high fields)) _ _ (λ bounds right. (right.0.1, omega (arith, right.1.1)))
    (both_by (λ found. IsBetween 0 (greatest_low found)) (IsBetween 0 (2 ^ 64 - 1)) (given (low fields) fields) (given high fields)
    (number_given (codes "low") (Some 0) 0 (greatest_low (given high fields)) fields (omega arith, omega arith))
    (number_given (codes "high") (Some (2 ^ 64 - 1)) 0 (2 ^ 64 - 1) fields (omega arith, omega arith)))

match_attr_right : IsRight match_attr_row
match_attr_right fields =
    let bounds = both (given (low fields) fields) (given high fields) in
    mapped _ (both (given attr fields) bounds) _
    (weaker (both (given attr fields) bounds) (λ found. Unit {0} × AreBounds found.1.0 found.1.1) _ (λ found right. (right.1, refl))
    (both_too (λ name. Unit {0}) (λ bounds. AreBounds bounds.0 bounds.1) (given attr fields) bounds (anything (given attr fields)) (bounds_right fields)))

shift_right : (found : Option Data) → IfSome (shift_in found) IsShift
shift_right None = tt
shift_right (Some (integer number)) =
    elim (cases_Bool (int_le least_shift number && int_le number greatest_shift)) [
      | inl within ↦ rw within (as_shift (and_parts (int_le least_shift number) (int_le number greatest_shift) within))
      | inr beyond ↦ rw beyond tt
    ]
  where
    as_shift : (int_le least_shift number ≡ true) × (int_le number greatest_shift ≡ true) → IsShift number
    as_shift parts = (le_z_yes (rw parts.0 tt), le_z_yes (rw parts.1 tt))
shift_right (Some value) = tt

delay_right : IsRight delay_row
delay_right fields =
    mapped _ (given by fields) _
    (weaker (given by fields) IsShift _ (λ by right. (right, refl)) (given_too by.name IsShift (shift_in (get_member by.name fields)) (shift_right (get_member by.name fields))))

taken_right : (is : Bool) (tables : List Data) (fields : Members) → IfOk (taken_by is tables fields) (λ input. is_some input ≡ not is)
taken_right true tables fields = refl
taken_right false tables fields = mapped Some (input_of tables fields) _ (weaker (input_of tables fields) (λ place. Unit {0}) _ (λ place holds. refl) (anything (input_of tables fields)))

made : (kind : Kind) (name : List ℕ) (input : Option ℕ) → IsWithinBounds kind → is_name name ≡ true → is_some input ≡ not (is_source kind) → IsPipe (pipe_from kind name input)
made kind name input within named taken = record {
  name = named;
  worker = refl;
  input = taken;
  select = λ number is. absurd cc;
  queue = (omega arith, omega arith);
  kind = within;
}

pipe_right : (row : KindRow) → IsRight row → (tables : List Data) (fields : Members) → IfOk (pipe_with row tables fields) IsPipe
pipe_right row right tables fields =
    let ends = both (given pipe_name fields) (taken_by row.is_source tables fields) in
    mapped _ (both (own_of row fields) ends) IsPipe
    (weaker (both (own_of row fields) ends) _ _
    (λ found holds. made found.0 found.1.0 found.1.1 holds.0.0 holds.1.0 (rw holds.0.1 holds.1.1))
    (both_too _ _ (own_of row fields) ends
    (mapped _ (both _ (row.kind fields)) _ (weaker (both _ (row.kind fields)) _ _ (λ found holds. holds.1) (both_too (λ known. Unit {0}) _ _ (row.kind fields) (anything _) (right fields))))
    (both_too _ _ (given pipe_name fields) (taken_by row.is_source tables fields) (named_right (codes "name") fields) (taken_right row.is_source tables fields))))

found_right : (row : Option KindRow) → IfSome row IsRight → (key : List ℕ) (tables : List Data) (fields : Members)
    → IfOk (pipe_by (or_wrong key row) tables fields) IsPipe
found_right None right key tables fields = tt
found_right (Some row) right key tables fields = pipe_right row right tables fields

kind_right : (found : Option Data) → IfSome (a_kind.value found) IsRight
kind_right = each_kind IsRight (record {
  source = source_right;
  sink = sink_right;
  idem = λ fields. (tt, refl);
  null = λ fields. (tt, refl);
  dup = λ fields. (tt, refl);
  skip = skip_right;
  setattr = setattr_right;
  delattr = delattr_right;
  match_attr = match_attr_right;
  delay = delay_right;
})

value_right : (tables : List Data) (value : Data) → IfOk (pipe_in tables value) IsPipe
value_right tables (table fields) = found_right (a_kind.value (get_member a_kind.name fields)) (kind_right (get_member a_kind.name fields)) a_kind.name tables fields
value_right tables value = tt

-- as many pipes as values, each within its bounds
pub pipes_right : (tables : List Data) (number : ℕ) (left : List Data) → IfOk (pipes_from tables number left) (λ pipes. All IsPipe pipes × (length pipes ≡ length left))
unfolding pipes_from
pipes_right tables number [] = (All-nil _, refl)
pipes_right tables number (value ∷ left) =
    then_too (numbered number (pipe_in tables value)) _ IsPipe _ (numbered_too number (pipe_in tables value) IsPipe (value_right tables value))
    (λ pipe is_pipe. then_too (pipes_from tables (suc number) left) _ _ _ (pipes_right tables (suc number) left)
    (λ pipes right. (All-cons IsPipe pipe pipes is_pipe right.0, omega (arith, right.1))))

pub pipes_count : (tables : List Data) (number : ℕ) (left : List Data) (pipes : List Pipe) → pipes_from tables number left ≡ Ok pipes → length pipes ≡ length left
pipes_count tables number left pipes is = let right = rw is at (pipes_right tables number left) in right.1

-- 1 to 256 of them
abbrev AreFew : List Data → Type 0
AreFew values = (1 ≤ length values) × (length values ≤ MAX_PIPES)

counted_right : (values : List Data) → IfOk (counted values) (λ _. AreFew values)
counted_right values =
    elim (cases_Bool (length values == 0)) [
      | inl none ↦ rw none tt
      | inr some ↦ elim (cases_Bool (nat_lt MAX_PIPES (length values))) [
        | inl many ↦ rw (some, many) tt
        | inr few ↦ rw (some, few) (grind (arith, nat_tests, some), grind (arith, nat_tests, few))
      ]
    ]

array_right : (found : Option Data) → IfOk (array_in found) (λ found. IfSome found AreFew)
array_right None = tt
array_right (Some (array items)) = then_too (counted (values items)) _ (λ _. AreFew (values items)) _ (counted_right (values items)) (λ _ few. few)
array_right (Some value) = tt

tables_right : (found : Option (List Data)) (top : Members) → IfSome found AreFew → IfOk (tables_of found top) AreFew
tables_right found top few =
    numbered_too 0 (field_map (λ found. found.1) (both _ (tables_in found))) AreFew
    (mapped _ (both _ (tables_in found)) AreFew (weaker (both _ (tables_in found)) _ _ (λ pair holds. holds.1) (both_too (λ known. Unit {0}) AreFew _ (tables_in found) (anything _) (in_array found few))))
  where
    in_array : (found : Option (List Data)) → IfSome found AreFew → IfOk (tables_in found) AreFew
    in_array None few = tt
    in_array (Some values) few =
        elim (cases_Bool (list_all is_table values)) [
          | inl all ↦ rw all few
          | inr not_all ↦ rw not_all tt
        ]

told_none : (fault : Option GraphFault) → IfOk (told fault) (λ _. fault ≡ None)
told_none None = refl
told_none (Some fault) = tt

any_rule : {A : Type 0} (found : Checked A) → IfOk found (λ value. Unit {0})
any_rule (Ok value) = tt
any_rule (Err refused) = tt

graph_right : (tables : List Data) (pipes : List Pipe) → AreFew tables → All IsPipe pipes × (length pipes ≡ length tables)
    → IfOk (graph_from tables pipes) (λ graph. IsWellFormed graph.pipes)
graph_right tables pipes few right =
    then_too (names_differ pipes) _ (λ _. Unit {0}) _ (any_rule (names_differ pipes))
    (λ _ _. then_too (one_input_each tables) _ (λ _. Unit {0}) _ (any_rule (one_input_each tables))
    (λ _ _. then_too (faultless pipes) _ (λ _. graph_fault pipes ≡ None) _ (told_none (graph_fault pipes))
    (λ _ none. record { some = omega (arith, few.0, right.1); few = omega (arith, few.1, right.1); each = right.0; faultless = none })))

-- the graph of a document is well formed
document_right : (top : Members) → IfOk (graph_in top) (λ graph. IsWellFormed graph.pipes)
unfolding graph_in
document_right top =
    then_too (version_of top) _ (λ _. Unit {0}) _ (any_rule (version_of top))
    (λ _ _. then_too (array_of top) _ (λ found. IfSome found AreFew) _ (array_right (get_member (codes "pipe") top))
    (λ found few. then_too (tables_of found top) _ AreFew _ (tables_right found top few)
    (λ tables some. then_too (pipes_from tables 1 tables) _ (λ pipes. All IsPipe pipes × (length pipes ≡ length tables)) _ (pipes_right tables 1 tables)
    (λ pipes right. graph_right tables pipes some right))))

-- what is read of a document is well formed
pub read_right : (read : Result Graph GraphRefused) (top : Members) → Answers (λ graph. graph) read (graph_in top) → IfOk read (λ graph. IsWellFormed graph.pipes)
read_right (Ok graph) top is = rw is at (document_right top)
read_right (Err refused) top is = tt
