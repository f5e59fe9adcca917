-- The key that is told of the top is its least wrong one.
use Rattle.std.proofs.Common.{inl, inr, ◌≡◌, ℕ, Bool, true, false, List, [], ◌∷◌, Option, Some, None, Ok, Err, refl, ap, arith}
use Rattle.std.specs.Prelude.{◌&&◌, not, codes}
use Rattle.std.specs.List.{list_all}
use Rattle.std.specs.Str.{bytes_eq}
use Rattle.std.proofs.lemmas.Bool.{and_parts, cases_Bool}
use Rattle.toml.specs.Data.{Data, array, Members, get_member}
use Rattle.up_graph.proofs.Judged.{Judges, both_judges, its_own, known_judges, map_judges, same_bytes, wrong_alone}
use Rattle.up_graph.proofs.LeastWrong.{array_elsewhere, between_elsewhere, document_elsewhere, elsewhere, pipes_told, second_tells, tables_found, version_elsewhere}
use Rattle.up_graph.specs.Answers.{Checked, ◌>>=◌}
use Rattle.up_graph.specs.Document.{document_of}
use Rattle.up_graph.specs.Faults.{graph_from}
use Rattle.up_graph.specs.Field.{Field, both, field_map, keys, known_alone}
use Rattle.up_graph.specs.Graph.{graph_in, graph_of}
use Rattle.up_graph.specs.LeastWrong.{IsLeast, TellsLeastAtTop, has_tables, is_wrong_at_top}
use Rattle.up_graph.specs.Pipes.{pipes_from}
use Rattle.up_graph.specs.Top.{array_in, array_of, counted, is_table, numbered, tables_in, tables_of, version_of}
use Rattle.up_graph.specs.Values.{values}
use Rattle.up_graph.specs.declared.graph_refused.GraphRefused.{GraphRefused}
use Rattle.up_graph.specs.declared.graph_refused.GraphRefused.TheVariants.{BadField}

-- the key is `pipe`, where no array of tables stands
abbrev is_no_array : Bool → List ℕ → Bool
is_no_array has key = bytes_eq (codes "pipe") key && not has

-- nothing is wrong with an array of tables
nothing_wrong : (key : List ℕ) → is_no_array true key ≡ true → ⊥
nothing_wrong key wrong = let contra : not true ≡ true = (and_parts (bytes_eq (codes "pipe") key) (not true) wrong).1 in absurd cc

-- what is no array of tables is told by its key
alone : IsLeast (is_no_array false) (codes "pipe")
alone =
    wrong_alone (codes "pipe") (is_no_array false) (rw (its_own (codes "pipe")) refl)
    (λ key wrong. same_bytes (codes "pipe") key (and_parts (bytes_eq (codes "pipe") key) (not false) wrong).0)

tables_judged : (pipes : List Data) → Judges (tables_in (Some pipes)) (is_no_array (list_all is_table pipes))
tables_judged pipes =
    elim (cases_Bool (list_all is_table pipes)) [
      | inl all ↦ rw all nothing_wrong
      | inr not_all ↦ rw not_all alone
    ]

rows_found : (counted : Checked (Unit {0})) (rows : List Data) (found : Option (List Data)) → (counted >>= (λ _. Ok (Some rows))) ≡ Ok found → Some rows ≡ found
rows_found (Ok value) rows found is = cc
rows_found (Err refused) rows found is = absurd cc

array_judged : (stands : Option Data) (found : Option (List Data)) → array_in stands ≡ Ok found → Judges (tables_in found) (is_no_array (has_tables stands))
array_judged None found is = absurd cc
array_judged (Some (array items)) found is = rw (← rows_found (counted (values items)) (values items) found is) (tables_judged (values items))
array_judged (Some value) found is = let none : None ≡ found = cc in rw (← none) alone

top_judged : (top : Members) (found : Option (List Data)) → array_of top ≡ Ok found
    → Judges (field_map (λ found. found.1) (both (known_alone (codes "pipe" ∷ codes "version" ∷ []) top) (tables_in found))) (is_wrong_at_top top)
top_judged top found is =
    let known = known_alone (codes "pipe" ∷ codes "version" ∷ []) top in
    map_judges _ _ (both known (tables_in found))
    (both_judges _ _ known (tables_in found) (known_judges (codes "pipe" ∷ codes "version" ∷ []) (keys top))
    (array_judged (get_member (codes "pipe") top) found is))

-- what is told by the number 0 is told of these fields
told_of : {A : Type 0} (found : Field A) (wrong : List ℕ → Bool) (key : List ℕ) → Judges found wrong → numbered 0 found ≡ Err (BadField 0 key) → IsLeast wrong key
told_of (Ok value) wrong key judged is = absurd cc
told_of (Err told) wrong key judged is = let same : told ≡ key = cc in rw same at judged

abbrev as_refused : {A : Type 0} → GraphRefused → Checked A
as_refused refused = Err refused

-- where a rule tells this, and what follows doesn't, the first of the two does
first_tells : {A B : Type 0} (found : Checked A) (next : A → Checked B) (told : GraphRefused) → ((value : A) → found ≡ Ok value → next value ≡ Err told → ⊥)
    → (found >>= next) ≡ Err told → found ≡ Err told
first_tells (Ok value) next told not_later is = absurd (not_later value refl is)
first_tells {A = A} (Err refused) next told not_later is = let same : refused ≡ told = cc in ap (as_refused {A = A}) same

-- no pipe is told by the number 0
pipes_not_told : (found : Option (List Data)) (top : Members) (key : List ℕ) (tables : List Data) → tables_of found top ≡ Ok tables
    → (pipes_from tables 1 tables >>= (λ pipes. graph_from tables pipes)) ≡ Err (BadField 0 key) → ⊥
pipes_not_told found top key tables are is =
    let all = (tables_found found top tables are).1 in
    let pipe_told : pipes_from tables 1 tables ≡ Err (BadField 0 key) =
    first_tells (pipes_from tables 1 tables) (λ pipes. graph_from tables pipes) (BadField 0 key)
    (λ pipes _. elsewhere (graph_from tables pipes) 0 key (between_elsewhere tables pipes)) is in
    let among = pipes_told tables tables 1 0 key all pipe_told in
    omega (arith, among.number_is)

pub least_at_top_is_told : (text : List ℕ) (key : List ℕ) → graph_of text ≡ Err (BadField 0 key) → TellsLeastAtTop text key
unfolding graph_of graph_in
least_at_top_is_told text key is =
    let told : GraphRefused = BadField 0 key in
    let (top, document, after_document) = second_tells (document_of text) graph_in told (elsewhere _ 0 key (document_elsewhere text)) is in
    let (_, _, after_version) = second_tells (version_of top) _ told (elsewhere _ 0 key (version_elsewhere (get_member (codes "version") top))) after_document in
    let (found, found_is, after_array) = second_tells (array_of top) _ told (elsewhere _ 0 key (array_elsewhere (get_member (codes "pipe") top))) after_version in
    let at_top : tables_of found top ≡ Err told = first_tells (tables_of found top) _ told (pipes_not_told found top key) after_array in
    record {
      top = top;
      document = document;
      told = told_of _ (is_wrong_at_top top) key (top_judged top found found_is) at_top;
    }
