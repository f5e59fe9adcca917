-- The fields of a table: each has a value, or is wrong and told by its name.
use Rattle.std.specs.Prelude.{ℕ, Bool, List, [], ◌∷◌, Option, Some, None, Result, Ok, Err, if◌then◌else◌}
use Rattle.std.specs.List.{list_any}
use Rattle.std.specs.Str.{bytes_eq}
use Rattle.std.specs.Borrow.{Bor}
use Rattle.std.specs.Ordering.{nat_cmp, match_ordering}
use Rattle.std.specs.Cmp.Lexicographic.{slice_cmp}
use Rattle.toml.specs.Data.{Data, Members, no_members, member, get_member}

-- what a field gives, or the name of the wrong field
abbrev pub Field : Type 0 → Type 0
Field A = Result A (List ℕ)

-- what a reader of the code answers
abbrev pub seen : {A B : Type 0} → (A → B) → Result A (Bor (List ℕ)) → Field B
seen view (Ok value) = Ok (view value)
seen view (Err key) = Err key.now

-- a function of what a field gives
abbrev pub field_map : {A B : Type 0} → (A → B) → Field A → Field B
field_map f (Ok value) = Ok (f value)
field_map f (Err key) = Err key

-- the lesser of two names in byte order
abbrev pub lesser : List ℕ → List ℕ → List ℕ
lesser a b = match_ordering (slice_cmp nat_cmp b a) b a a

-- both values, or the least wrong field
abbrev pub both : {A B : Type 0} → Field A → Field B → Field (A × B)
both (Ok a) (Ok b) = Ok (a, b)
both (Ok a) (Err key) = Err key
both (Err key) (Ok b) = Err key
both (Err first) (Err second) = Err (lesser first second)

-- the rule of a field: its name, and what it gives for what stands there, where that is right
pub record Rule (A : Type 0) : Type 0 where
  pub name : List ℕ
  pub value : Option Data → Option A

-- the value, or the wrong field
abbrev pub or_wrong : {A : Type 0} → List ℕ → Option A → Field A
or_wrong key (Some value) = Ok value
or_wrong key None = Err key

-- what a table gives by a rule
abbrev pub given : {A : Type 0} → Rule A → Members → Field A
given rule table = or_wrong rule.name (rule.value (get_member rule.name table))

-- the key is one of the names
abbrev pub is_among : List ℕ → List (List ℕ) → Bool
is_among key names = list_any (bytes_eq key) names

-- the keys of a table
abbrev pub keys : Members → List (List ℕ)
keys no_members = []
keys (member key value others) = key ∷ keys others

-- the key is known, or wrong
abbrev pub is_known : List (List ℕ) → List ℕ → Field (Unit {0})
is_known known key = if is_among key known then Ok tt else Err key

-- each key is known, or the least of the others is wrong
abbrev pub each_known : List (List ℕ) → List (List ℕ) → Field (Unit {0})
each_known known [] = Ok tt
each_known known (key ∷ others) =
    field_map (λ found. found.1) (both (is_known known key) (each_known known others))

-- no other keys stand in the table
abbrev pub known_alone : List (List ℕ) → Members → Field (Unit {0})
known_alone known table = each_known known (keys table)
