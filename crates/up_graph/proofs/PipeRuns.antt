-- The pipes that were read, and those that are left.
use Rattle.std.proofs.Common.{◌≡◌, ℕ, ◌+◌, ◌<◌, ◌≤◌, List, [], ◌∷◌, ◌++◌, length, get_or, drop, map, Vec, Global, Ok, Err, refl, sym, ap, ◌∙◌, append_assoc, add-one}
use Rattle.std.proofs.lemmas.List.{append-nil, drop_all, drop_more}
use Rattle.toml.specs.Data.{Data}
use Rattle.toml.specs.View.{array_view, view}
use Rattle.toml.specs.declared.value.Value.{Value}
use Rattle.up_graph.proofs.Items.{values_view}
use Rattle.up_graph.specs.Answers.{Answers, Checked, ◌>>=◌}
use Rattle.up_graph.specs.Pipes.{pipe_in, pipes_from}
use Rattle.up_graph.specs.Top.{numbered}
use Rattle.up_graph.specs.Values.{values}
use Rattle.up_graph.specs.declared.graph_refused.GraphRefused.{GraphRefused}
use Rattle.up_graph.specs.declared.graph_refused.GraphRefused.TheVariants.{NoMemory}
use Rattle.up_model.specs.declared.pipe.Pipe.{Pipe}

-- these pipes, and then those that are found
abbrev pub with_front : List Pipe → Checked (List Pipe) → Checked (List Pipe)
with_front front (Ok found) = Ok (front ++ found)
with_front front (Err refused) = Err refused

-- what is answered, where these pipes were read and the items from a place on are left
abbrev pub going_on : List Data → List Pipe → ℕ → List Value → Checked (List Pipe)
going_on tables front place items = with_front front (pipes_from tables (place + 1) (map view (drop place items)))

one_more : (front : List Pipe) (pipe : Pipe) (others : Checked (List Pipe))
    → with_front front (others >>= (λ pipes. Ok (pipe ∷ pipes))) ≡ with_front (front ++ pipe ∷ []) others
one_more front pipe (Ok pipes) = ap Ok (sym (append_assoc front (pipe ∷ []) pipes))
one_more front pipe (Err refused) = refl

none_before : (found : Checked (List Pipe)) → with_front [] found ≡ found
none_before (Ok pipes) = refl
none_before (Err refused) = refl

-- the next pipe is read
pub going_on-next : (tables : List Data) (front : List Pipe) (place : ℕ) (items : List Value) (item : Value) (pipe : Pipe)
    → place < length items → numbered (place + 1) (pipe_in tables (view (get_or items place item))) ≡ Ok pipe
    → going_on tables front place items ≡ going_on tables (front ++ pipe ∷ []) (place + 1) items
unfolding pipes_from
going_on-next tables front place items item pipe within found =
    rw (drop_more items place item within, found, add-one (place + 1)) (one_more front pipe _)

fails : (front : List Pipe) (refused : GraphRefused) (wanted : Checked Pipe) (next : Pipe → Checked (List Pipe))
    → Answers (λ pipe. pipe) (Err refused) wanted → Answers (λ pipes. pipes) (Err refused) (with_front front (wanted >>= next))
fails front NoMemory wanted next is = tt
fails front refused wanted next is = rw is refl

-- the next pipe is refused
pub going_on-refused : (tables : List Data) (front : List Pipe) (place : ℕ) (items : List Value) (item : Value) (refused : GraphRefused)
    → place < length items → Answers (λ pipe. pipe) (Err refused) (numbered (place + 1) (pipe_in tables (view (get_or items place item))))
    → Answers (λ pipes. pipes) (Err refused) (going_on tables front place items)
unfolding pipes_from
going_on-refused tables front place items item refused within is = rw (drop_more items place item within) (fails front refused _ _ is)

-- no item is left
pub going_on-end : (tables : List Data) (front : List Pipe) (place : ℕ) (items : List Value) → length items ≤ place → going_on tables front place items ≡ Ok front
unfolding pipes_from
going_on-end tables front place items beyond = rw (drop_all place items beyond) (ap Ok (append-nil front))

-- nothing is read yet
pub going_on-start : (tables : List Data) (array : Vec Value Global) → going_on tables [] 0 array.items ≡ pipes_from tables 1 (values (array_view array))
going_on-start tables array = none_before _ ∙ ap (pipes_from tables 1) (sym (values_view array))
