-- The field that is told of a pipe is its least wrong one.
use Rattle.std.proofs.Common.{inl, inr, ◌≡◌, ℕ, zero, suc, ◌+◌, ◌<◌, Bool, true, false, List, [], ◌∷◌, length, Option, Some, None, Ok, Err, refl, ap, ◌∙◌, slice_get, subst, arith}
use Rattle.std.specs.Prelude.{nat_lt, ◌==◌, ◌||◌, codes, position, IfErr, IfOk, IfSome, if◌then◌else◌}
use Rattle.std.specs.List.{list_all, list_any}
use Rattle.std.specs.Str.{bytes_eq, is_utf8}
use Rattle.std.proofs.Math.Bool.{or-false}
use Rattle.std.proofs.lemmas.Bool.{cases_Bool}
use Rattle.std.proofs.lemmas.List.Folds.{list_any-append}
use Rattle.toml.specs.Data.{Data, array, integer, table, Items, Members, get_member}
use Rattle.toml.specs.Parse.{parse_document}
use Rattle.up_graph.proofs.Found.{mapped, weaker, both_too, anything, numbered_too}
use Rattle.up_graph.proofs.Rows.{each_kind}
use Rattle.up_graph.proofs.Judged.{Judges, both_judges, given_judges, known_judges, map_judges, same_judges, same_bytes}
use Rattle.up_graph.specs.Answers.{Checked, ◌>>=◌}
use Rattle.up_graph.specs.AttrValue.{attr_value}
use Rattle.up_graph.specs.Document.{document_of, parsed}
use Rattle.up_graph.specs.Faults.{faultless, graph_from, has_many_inputs, names_differ, none_at, one_input_each, told}
use Rattle.up_graph.specs.Field.{Field, Rule, both, field_map, given, known_alone, keys, or_wrong}
use Rattle.up_graph.specs.Graph.{graph_in, graph_of}
use Rattle.up_graph.specs.Form.{block, form, source_form}
use Rattle.up_graph.specs.KindRows.{FieldTest, KindRow, a_kind, attr, by, bytes, high, inputs_of, limit, low, names_of, own_of, path, pipe_name, source_row, test_of}
use Rattle.up_graph.specs.LeastWrong.{HasNoWrong, IsToldOf, TellsLeastWrong, TellsOf, is_not_allowed, is_refused, is_wrong, kind_in}
use Rattle.up_graph.specs.Pipes.{pipe_by, pipe_in, pipe_with, pipes_from, taken_by}
use Rattle.up_graph.specs.Top.{array_in, array_of, counted, is_one, is_table, numbered, tables_in, tables_of, version_is, version_of}
use Rattle.up_graph.specs.Values.{an_input, values}
use Rattle.up_graph.specs.declared.graph_refused.GraphRefused.{GraphRefused}
use Rattle.up_graph.specs.declared.graph_refused.GraphRefused.TheVariants.{TooBig, NotToml, BadVersion, NoPipes, TooManyPipes, BadField, SameName, ManyInputs}
use Rattle.up_model.specs.Inputs.{first_place}
use Rattle.up_model.specs.WellFormed.{graph_fault, has_same_name}
use Rattle.up_model.specs.declared.graph.Graph.{Graph}
use Rattle.up_model.specs.declared.graph_fault.GraphFault.{GraphFault}
use Rattle.up_model.specs.declared.graph_fault.GraphFault.TheVariants as faults
use Rattle.up_model.specs.declared.limits.TheConstants.{MAX_GRAPH, MAX_PIPES}
use Rattle.up_model.specs.declared.pipe.Pipe.{Pipe}

-- one of these fields is refused
abbrev are_refused : Members → List FieldTest → List ℕ → Bool
are_refused fields tests key = list_any (is_refused key fields) tests

-- a row tells the least wrong one of its own fields
abbrev TellsOwn : KindRow → Type 0
TellsOwn row = (fields : Members) → Judges (row.kind fields) (are_refused fields (row.own fields))

one_own : (a : Bool) → (a || false) ≡ a
one_own a = or-false a

two_own : (a b : Bool) → (a || (b || false)) ≡ (a || b)
two_own a b = ap (λ last. a || last) (or-false b)

three_own : (a b c : Bool) → (a || (b || (c || false))) ≡ (a || (b || c))
three_own a b c = rw (or-false c) refl

source_own : (a b c d : Bool) → (a || (b || (c || (d || false)))) ≡ (a || ((b || c) || d))
source_own true b c d = refl
source_own false true c d = refl
source_own false false c d = ap (λ last. c || last) (or-false d)

-- a kind of one own field, of two, and of three, the last two of which are read together
one_tell : {A B : Type 0} (f : A → B) (a : Rule A) (fields : Members) → Judges (field_map f (given a fields)) (are_refused fields (test_of a ∷ []))
one_tell f a fields =
    map_judges _ f (given a fields)
    (same_judges _ _ (given a fields) (λ key. one_own (is_refused key fields (test_of a))) (given_judges a fields))

two_judge : {A B : Type 0} (a : Rule A) (b : Rule B) (fields : Members)
    → Judges (both (given a fields) (given b fields)) (λ key. is_refused key fields (test_of a) || is_refused key fields (test_of b))
two_judge a b fields = both_judges _ _ (given a fields) (given b fields) (given_judges a fields) (given_judges b fields)

two_tell : {A B C : Type 0} (f : A × B → C) (a : Rule A) (b : Rule B) (fields : Members)
    → Judges (field_map f (both (given a fields) (given b fields))) (are_refused fields (test_of a ∷ test_of b ∷ []))
two_tell f a b fields =
    map_judges _ f (both (given a fields) (given b fields))
    (same_judges _ _ (both (given a fields) (given b fields))
    (λ key. two_own (is_refused key fields (test_of a)) (is_refused key fields (test_of b))) (two_judge a b fields))

three_tell : {A B C D : Type 0} (f : A × (B × C) → D) (a : Rule A) (b : Rule B) (c : Rule C) (fields : Members)
    → Judges (field_map f (both (given a fields) (both (given b fields) (given c fields)))) (are_refused fields (test_of a ∷ test_of b ∷ test_of c ∷ []))
three_tell f a b c fields =
    let others = both (given b fields) (given c fields) in
    map_judges _ f (both (given a fields) others)
    (same_judges _ _ (both (given a fields) others)
    (λ key. three_own (is_refused key fields (test_of a)) (is_refused key fields (test_of b)) (is_refused key fields (test_of c)))
    (both_judges _ _ (given a fields) others (given_judges a fields) (two_judge b c fields)))

-- a source's form comes of two fields
source_tells : TellsOwn source_row
source_tells fields =
    let blocks = block (given form fields) in
    let ends = both (source_form fields) (given limit fields) in
    map_judges _ _ (both (given path fields) ends)
    (same_judges _ _ (both (given path fields) ends)
    (λ key. source_own (is_refused key fields (test_of path)) (is_refused key fields (test_of form)) (is_refused key fields (test_of blocks)) (is_refused key fields (test_of limit)))
    (both_judges _ _ (given path fields) ends (given_judges path fields)
    (both_judges _ _ (source_form fields) (given limit fields)
    (map_judges _ _ (both (given form fields) (given blocks fields)) (two_judge form blocks fields)) (given_judges limit fields))))

plain_tells : (fields : Members) (key : List ℕ) → are_refused fields [] key ≡ true → ⊥
plain_tells fields key is = absurd cc

kind_tells : (found : Option Data) → IfSome (a_kind.value found) TellsOwn
kind_tells = each_kind TellsOwn (record {
  source = source_tells;
  sink = λ fields. two_tell _ path form fields;
  idem = plain_tells;
  null = plain_tells;
  dup = plain_tells;
  skip = λ fields. one_tell _ bytes fields;
  setattr = λ fields. two_tell _ attr attr_value fields;
  delattr = λ fields. one_tell _ attr fields;
  match_attr = λ fields. three_tell _ attr (low fields) high fields;
  delay = λ fields. one_tell _ by fields;
})

taken_tells : (row : KindRow) (tables : List Data) (fields : Members) → Judges (taken_by row.is_source tables fields) (are_refused fields (inputs_of row))
taken_tells row tables fields = by_kind row.is_source
  where
    by_kind : (is : Bool) → Judges (taken_by is tables fields) (are_refused fields (if is then [] else test_of an_input ∷ []))
    by_kind true = plain_tells fields
    by_kind false =
        map_judges _ _ (field_map _ (given an_input fields)) (map_judges _ _ (given an_input fields)
        (same_judges _ (are_refused fields (test_of an_input ∷ [])) (given an_input fields) (λ key. one_own (is_refused key fields (test_of an_input))) (given_judges an_input fields)))

-- the kind is right where it is found
kind_found : (row : KindRow) (fields : Members) → kind_in fields ≡ Some row → (key : List ℕ) → is_refused key fields (test_of a_kind) ≡ false
kind_found row fields is key = by_name (bytes_eq (codes "kind") key) refl
  where
    by_name : (same : Bool) → bytes_eq (codes "kind") key ≡ same → is_refused key fields (test_of a_kind) ≡ false
    by_name false other = rw other refl
    by_name true same = let key_is : codes "kind" ≡ key = same_bytes (codes "kind") key same in rw (← key_is, is) refl

-- the parts of a pipe's table, as they are read and as they are listed
in_order : (unknown own name input : Bool) → ((name || (false || input)) || own) || unknown ≡ ((unknown || own) || (name || input))
in_order true true true true = refl
in_order true true true false = refl
in_order true true false true = refl
in_order true true false false = refl
in_order true false true true = refl
in_order true false true false = refl
in_order true false false true = refl
in_order true false false false = refl
in_order false true true true = refl
in_order false true true false = refl
in_order false true false true = refl
in_order false true false false = refl
in_order false false true true = refl
in_order false false true false = refl
in_order false false false true = refl
in_order false false false false = refl

wrong_parts : (row : KindRow) (fields : Members) → kind_in fields ≡ Some row → (key : List ℕ)
    → is_wrong row fields key
    ≡ ((is_not_allowed row key fields || are_refused fields (row.own fields) key) || (is_refused key fields (test_of pipe_name) || are_refused fields (inputs_of row) key))
wrong_parts row fields is key =
    rw (list_any-append (is_refused key fields) (test_of pipe_name ∷ test_of a_kind ∷ inputs_of row) (row.own fields), kind_found row fields is key)
    (in_order (is_not_allowed row key fields) (are_refused fields (row.own fields) key) (is_refused key fields (test_of pipe_name)) (are_refused fields (inputs_of row) key))

pipe_tells : (row : KindRow) → TellsOwn row → (tables : List Data) (fields : Members) → kind_in fields ≡ Some row → Judges (pipe_with row tables fields) (is_wrong row fields)
pipe_tells row tells tables fields is =
    let ends = both (given pipe_name fields) (taken_by row.is_source tables fields) in
    let own = both (known_alone (names_of row fields) fields) (row.kind fields) in
    map_judges _ _ (both (own_of row fields) ends)
    (same_judges _ (is_wrong row fields) (both (own_of row fields) ends) (wrong_parts row fields is)
    (both_judges _ _ (own_of row fields) ends
    (map_judges _ _ own (both_judges _ _ (known_alone (names_of row fields) fields) (row.kind fields) (known_judges (names_of row fields) (keys fields)) (tells fields)))
    (both_judges _ _ (given pipe_name fields) (taken_by row.is_source tables fields) (given_judges pipe_name fields) (taken_tells row tables fields))))

-- what is told of a table whose kind is this one
abbrev Tells : Field Pipe → Option KindRow → Members → Type 0
Tells (Ok pipe) kind fields = HasNoWrong kind fields
Tells (Err key) kind fields = IsToldOf kind fields key

as_told : (row : KindRow) (fields : Members) (found : Field Pipe) → Judges found (is_wrong row fields) → Tells found (Some row) fields
as_told row fields (Ok pipe) judged = judged
as_told row fields (Err key) judged = judged

by_kind : (tables : List Data) (fields : Members) (kind : Option KindRow) → kind_in fields ≡ kind → IfSome kind TellsOwn
    → Tells (pipe_by (or_wrong (codes "kind") kind) tables fields) kind fields
by_kind tables fields None is tells = refl
by_kind tables fields (Some row) is tells = as_told row fields (pipe_with row tables fields) (pipe_tells row tells tables fields is)

table_tells : (tables : List Data) (fields : Members) → Tells (pipe_in tables (table fields)) (kind_in fields) fields
table_tells tables fields = by_kind tables fields (kind_in fields) refl (kind_tells (get_member (codes "kind") fields))

-- a pipe among these, of which the first has this number, is told of
pub record IsAmong (left : List Data) (number told : ℕ) (key : List ℕ) : Type 0 where
  place : ℕ
  pub number_is : told ≡ number + place
  tells : TellsOf left place key

later_told : (fields : Members) (others : List Data) (number told : ℕ) (key : List ℕ) → HasNoWrong (kind_in fields) fields
    → IsAmong others (suc number) told key → IsAmong (table fields ∷ others) number told key
later_told fields others number told key none found = record {
  place = suc found.place;
  number_is = omega (arith, found.number_is);
  tells = record {
    fields = found.tells.fields;
    stands = found.tells.stands;
    told = found.tells.told;
    before = earlier;
  };
}
  where
    earlier : (place : ℕ) (other : Members) → place < suc found.place → slice_get (table fields ∷ others) place ≡ Some (table other) → HasNoWrong (kind_in other) other
    earlier zero other before is = let same : fields ≡ other = cc in rw same at none
    earlier (suc place) other before is = found.tells.before place other (omega (arith, before)) is

rest_fails : (rest : Checked (List Pipe)) (pipe : Pipe) (refused : GraphRefused) → (rest >>= (λ pipes. Ok (pipe ∷ pipes))) ≡ Err refused → rest ≡ Err refused
rest_fails (Ok pipes) pipe refused is = absurd cc
rest_fails (Err other) pipe refused is = let same : other ≡ refused = cc in ap Err same

first_told : (fields : Members) (others : List Data) (number told : ℕ) (key : List ℕ) (found : Field Pipe) (rest : Checked (List Pipe)) → Tells found (kind_in fields) fields
    → (rest ≡ Err (BadField told key) → IsAmong others (suc number) told key)
    → (numbered number found >>= (λ pipe. rest >>= (λ pipes. Ok (pipe ∷ pipes)))) ≡ Err (BadField told key) → IsAmong (table fields ∷ others) number told key
first_told fields others number told key (Ok pipe) rest tells later is =
    later_told fields others number told key tells (later (rest_fails rest pipe (BadField told key) is))
first_told fields others number told key (Err wrong) rest tells later is =
    let same : wrong ≡ key = cc in
    let this : number ≡ told = cc in
    record {
      place = 0;
      number_is = omega (arith, this);
      tells = record {
        fields = fields;
        stands = refl;
        told = rw same at tells;
        before = λ earlier other before. absurd (omega (arith, before));
      };
    }

pub pipes_told : (tables left : List Data) (number told : ℕ) (key : List ℕ) → list_all is_table left ≡ true
    → pipes_from tables number left ≡ Err (BadField told key) → IsAmong left number told key
unfolding pipes_from
pipes_told tables [] number told key all is = absurd cc
pipes_told tables (table fields ∷ others) number told key all is =
    first_told fields others number told key (pipe_in tables (table fields)) (pipes_from tables (suc number) others) (table_tells tables fields)
    (pipes_told tables others (suc number) told key all) is
pipes_told tables (value ∷ others) number told key all is = absurd cc

-- no field is told
abbrev pub TellsNoField : GraphRefused → Type 0
TellsNoField (BadField number key) = ⊥
TellsNoField refused = Unit {0}

pub elsewhere : {A : Type 0} (found : Checked A) (number : ℕ) (key : List ℕ) → IfErr found TellsNoField → found ≡ Err (BadField number key) → ⊥
elsewhere found number key no_field is = rw is at no_field

if_too : {A : Type 0} (is : Bool) (one other : Checked A) → IfErr one TellsNoField → IfErr other TellsNoField → IfErr (if is then one else other) TellsNoField
if_too true one other of_one of_other = of_one
if_too false one other of_one of_other = of_other

parsed_elsewhere : (found : Option Members) → IfErr (parsed found) TellsNoField
parsed_elsewhere None = tt
parsed_elsewhere (Some top) = tt

pub document_elsewhere : (text : List ℕ) → IfErr (document_of text) TellsNoField
unfolding document_of
document_elsewhere text =
    if_too (nat_lt MAX_GRAPH (length text)) (Err (TooBig (length text))) (if is_utf8 text then parsed (parse_document text) else Err NotToml) tt
    (if_too (is_utf8 text) (parsed (parse_document text)) (Err NotToml) (parsed_elsewhere (parse_document text)) tt)

pub version_elsewhere : (found : Option Data) → IfErr (version_is found) TellsNoField
version_elsewhere None = tt
version_elsewhere (Some (integer got)) = if_too (is_one got) (Ok tt) (Err (BadVersion (Some got))) tt tt
version_elsewhere (Some value) = tt

next_elsewhere : {A B : Type 0} (found : Checked A) (next : A → Checked B) → IfErr found TellsNoField → ((value : A) → IfErr (next value) TellsNoField) → IfErr (found >>= next) TellsNoField
next_elsewhere (Ok value) next of_found of_next = of_next value
next_elsewhere (Err refused) next of_found of_next = of_found

counted_elsewhere : (pipes : List Data) → IfErr (counted pipes) TellsNoField
counted_elsewhere pipes =
    if_too (length pipes == 0) (Err NoPipes) (if nat_lt MAX_PIPES (length pipes) then Err (TooManyPipes (length pipes)) else Ok tt) tt
    (if_too (nat_lt MAX_PIPES (length pipes)) (Err (TooManyPipes (length pipes))) (Ok tt) tt tt)

pub array_elsewhere : (found : Option Data) → IfErr (array_in found) TellsNoField
array_elsewhere None = tt
array_elsewhere (Some (array items)) = next_elsewhere (counted (values items)) _ (counted_elsewhere (values items)) (λ _. tt)
array_elsewhere (Some value) = tt

-- the top isn't told as a pipe
top_elsewhere : {A : Type 0} (found : Field A) (place : ℕ) (key : List ℕ) → numbered 0 found ≡ Err (BadField (place + 1) key) → ⊥
top_elsewhere (Ok value) place key is = absurd cc
top_elsewhere (Err wrong) place key is = let same : 0 ≡ place + 1 = cc in omega (arith, same)

place_elsewhere : (refusal : ℕ → GraphRefused) → ((number : ℕ) → TellsNoField (refusal number)) → (found : Option ℕ) → IfErr (none_at refusal found) TellsNoField
place_elsewhere refusal other None = tt
place_elsewhere refusal other (Some place) = other (place + 1)

fault_elsewhere : (fault : Option GraphFault) → IfErr (told fault) TellsNoField
fault_elsewhere None = tt
fault_elsewhere (Some (faults.SameName place)) = tt
fault_elsewhere (Some (faults.UnknownInput place)) = tt
fault_elsewhere (Some (faults.Cycle place)) = tt
fault_elsewhere (Some (faults.ManyOutputs place)) = tt
fault_elsewhere (Some (faults.NoOutput place)) = tt
fault_elsewhere (Some (faults.WrongFlow place)) = tt
fault_elsewhere (Some (faults.SamePath place)) = tt
fault_elsewhere (Some (faults.TooManyWorkers count)) = tt

pub between_elsewhere : (tables : List Data) (pipes : List Pipe) → IfErr (graph_from tables pipes) TellsNoField
between_elsewhere tables pipes =
    next_elsewhere (names_differ pipes) _ (place_elsewhere SameName (λ number. tt) (first_place has_same_name pipes))
    (λ _. next_elsewhere (one_input_each tables) _ (place_elsewhere ManyInputs (λ number. tt) (position has_many_inputs tables))
    (λ _. next_elsewhere (faultless pipes) _ (fault_elsewhere (graph_fault pipes)) (λ _. tt)))

abbrev refused_with : {A : Type 0} → GraphRefused → Checked A
refused_with refused = Err refused

-- where two rules tell this, and the first doesn't, the second does
pub second_tells : {A B : Type 0} (found : Checked A) (next : A → Checked B) (told : GraphRefused) → (found ≡ Err told → ⊥)
    → (found >>= next) ≡ Err told → (value : A) × (found ≡ Ok value) × (next value ≡ Err told)
second_tells (Ok value) next told not_here is = (value, refl, is)
second_tells {A = A} (Err refused) next told not_here is =
    let same : refused ≡ told = cc in
    absurd (not_here (ap (refused_with {A = A}) same))

array_found : (found : Option Data) (tables : List Data) → array_in found ≡ Ok (Some tables) → (items : Items) × (found ≡ Some (array items)) × (tables ≡ values items)
array_found None tables is = absurd cc
array_found (Some (array items)) tables is = (items, refl, counted_found (counted (values items)) is)
  where
    counted_found : (found : Checked (Unit {0})) → (found >>= (λ _. Ok (Some (values items)))) ≡ Ok (Some tables) → tables ≡ values items
    counted_found (Ok value) is = cc
    counted_found (Err refused) is = absurd cc
array_found (Some value) tables is = absurd cc

are_tables : (found : Option (List Data)) → IfOk (tables_in found) (λ tables. (found ≡ Some tables) × (list_all is_table tables ≡ true))
are_tables None = tt
are_tables (Some tables) =
    elim (cases_Bool (list_all is_table tables)) [
      | inl all ↦ rw all (refl, all)
      | inr not_all ↦ rw not_all tt
    ]

pub tables_found : (found : Option (List Data)) (top : Members) (tables : List Data) → tables_of found top ≡ Ok tables → (found ≡ Some tables) × (list_all is_table tables ≡ true)
tables_found found top tables is =
    let P : List Data → Type 0 = λ tables. (found ≡ Some tables) × (list_all is_table tables ≡ true) in
    let all : IfOk (tables_of found top) P =
    numbered_too 0 (field_map (λ pair. pair.1) (both _ (tables_in found))) P
    (mapped (λ pair. pair.1) (both _ (tables_in found)) P
    (weaker (both _ (tables_in found)) (λ pair. Unit {0} × P pair.1) _ (λ pair holds. holds.1)
    (both_too (λ known. Unit {0}) P _ (tables_in found) (anything _) (are_tables found)))) in
    rw is at all

pub least_wrong_is_told : (text : List ℕ) (place : ℕ) (key : List ℕ) → graph_of text ≡ Err (BadField (place + 1) key) → TellsLeastWrong text place key
unfolding graph_of graph_in
least_wrong_is_told text place key is =
    let told : GraphRefused = BadField (place + 1) key in
    let (top, document, after_document) = second_tells (document_of text) graph_in told (elsewhere _ (place + 1) key (document_elsewhere text)) is in
    let (_, _, after_version) = second_tells (version_of top) _ told (elsewhere _ (place + 1) key (version_elsewhere (get_member (codes "version") top))) after_document in
    let (found, found_is, after_array) = second_tells (array_of top) _ told (elsewhere _ (place + 1) key (array_elsewhere (get_member (codes "pipe") top))) after_version in
    let (tables, tables_is, after_tables) = second_tells (tables_of found top) _ told (top_elsewhere _ place key) after_array in
    let (some, all) = tables_found found top tables tables_is in
    let (items, stands, values_is) = array_found (get_member (codes "pipe") top) tables (found_is ∙ ap Ok some) in
    let pipe_fails : pipes_from tables 1 tables ≡ Err (BadField (place + 1) key) = last_fails (pipes_from tables 1 tables) (graph_from tables) (between_elsewhere tables) after_tables in
    let among = pipes_told tables tables 1 (place + 1) key all pipe_fails in
    let here : among.place ≡ place = omega (arith, among.number_is) in
    record {
      top = top;
      pipes = items;
      document = document;
      stands = stands;
      tells = subst (λ (at : ℕ). TellsOf (values items) at key) here
          (subst (λ (these : List Data). TellsOf these among.place key) values_is among.tells);
    }
  where
    last_fails : (found : Checked (List Pipe)) (next : List Pipe → Checked Graph) → ((pipes : List Pipe) → IfErr (next pipes) TellsNoField)
        → (found >>= next) ≡ Err (BadField (place + 1) key) → found ≡ Err (BadField (place + 1) key)
    last_fails (Ok pipes) next other is = absurd (elsewhere (next pipes) (place + 1) key (other pipes) is)
    last_fails (Err refused) next other is = let same : refused ≡ BadField (place + 1) key = cc in ap Err same
