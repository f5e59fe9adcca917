-- What is looked at before the pipes: the version, the number of pipes, the keys at the top.
use Rattle.std.specs.Prelude.{ℕ, ℤ, pos, negsuc, Bool, false, List, [], ◌∷◌, length, codes, nat_lt, ◌==◌, Option, Some, None, Ok, Err, if◌then◌else◌}
use Rattle.std.specs.List.{list_all}
use Rattle.std.specs.Option.{is_some}
use Rattle.toml.specs.Data.{Data, integer, array, as_table, Members, get_member}
use Rattle.up_graph.specs.Answers.{Checked, ◌>>=◌}
use Rattle.up_graph.specs.Field.{Field, field_map, both, known_alone}
use Rattle.up_graph.specs.Values.{values}
use Rattle.up_graph.specs.declared.graph_refused.GraphRefused.TheVariants.{BadVersion, NoPipes, TooManyPipes, BadField}
use Rattle.up_model.specs.declared.limits.TheConstants.{MAX_PIPES}

-- the integer is 1
abbrev pub is_one : ℤ → Bool
is_one (pos n) = n == 1
is_one (negsuc n) = false

-- what stands at `version` is the integer 1
abbrev pub version_is : Option Data → Checked (Unit {0})
version_is (Some (integer got)) = if is_one got then Ok tt else Err (BadVersion (Some got))
version_is _ = Err (BadVersion None)

-- the version of a file is 1
abbrev pub version_of : Members → Checked (Unit {0})
version_of top = version_is (get_member (codes "version") top)

-- there are 1 to 256 of them
abbrev pub counted : List Data → Checked (Unit {0})
counted pipes =
    if length pipes == 0 then Err NoPipes
    else if nat_lt MAX_PIPES (length pipes) then Err (TooManyPipes (length pipes))
    else Ok tt

-- what stands at `pipe`: nothing, an array, or something else
abbrev pub array_in : Option Data → Checked (Option (List Data))
array_in None = Err NoPipes
array_in (Some (array pipes)) = counted (values pipes) >>= (λ _. Ok (Some (values pipes)))
array_in (Some _) = Ok None

-- the array at `pipe`, which has 1 to 256 items; what is no array is refused later
abbrev pub array_of : Members → Checked (Option (List Data))
array_of top = array_in (get_member (codes "pipe") top)

abbrev pub is_table : Data → Bool
is_table value = is_some (as_table value)

-- `pipe` is an array of tables
abbrev pub tables_in : Option (List Data) → Field (List Data)
tables_in (Some pipes) = if list_all is_table pipes then Ok pipes else Err (codes "pipe")
tables_in None = Err (codes "pipe")

-- the wrong field of a pipe, by its number, or of the top, whose number is 0
abbrev pub numbered : {A : Type 0} → ℕ → Field A → Checked A
numbered number (Ok value) = Ok value
numbered number (Err key) = Err (BadField number key)

-- the tables of the pipes, where no other key stands at the top
abbrev pub tables_of : Option (List Data) → Members → Checked (List Data)
tables_of found top =
    numbered 0 (field_map (λ found. found.1)
    (both (known_alone (codes "pipe" ∷ codes "version" ∷ []) top)
    (tables_in found)))
