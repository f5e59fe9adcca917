-- The keys of a table, one after the other.
use Rattle.std.proofs.Common.{◌≡◌, ℕ, Bool, true, false, List, [], ◌∷◌, ◌++◌, map, Less, Equal, Greater, Ordering, String, Global, string_bytes, Bor, Ok, Err, refl, ap, ◌∙◌, sym, inl, inr}
use Rattle.std.specs.Prelude.{◌||◌, IfErr}
use Rattle.std.specs.List.{AllByRecursion, list_any}
use Rattle.std.specs.List.Sorted.{IsStrictlySortedBy}
use Rattle.std.specs.Map.{keys_of}
use Rattle.std.specs.Ordering.{nat_cmp, match_ordering, ordering_reverse}
use Rattle.std.specs.Cmp.Lexicographic.{slice_cmp}
use Rattle.std.specs.Str.{bytes_eq}
use Rattle.std.specs.String.{string_cmp}
use Rattle.std.proofs.lemmas.Bool.{cases_Bool}
use Rattle.std.proofs.lemmas.Cmp.{nat_list_cmp_total}
use Rattle.std.proofs.lemmas.List.Folds.{list_any-append}
use Rattle.toml.proofs.Views.{Entry}
use Rattle.toml.specs.View.{members_view}
use Rattle.up_graph.specs.Field.{Field, field_map, both, keys, is_among, is_known, each_known}

abbrev pub spelled : List (String Global) → List (List ℕ)
spelled = map string_bytes

abbrev pub read_out : List (Bor (List ℕ)) → List (List ℕ)
read_out = map (λ name. name.now)

-- whether all keys that are left are known
abbrev pub left_known : List (Bor (List ℕ)) → List (String Global) → Field (Unit {0})
left_known known left = each_known (read_out known) (spelled left)

pub keys-view : (entries : List Entry) → keys (members_view entries) ≡ spelled (keys_of entries)
keys-view [] = refl
keys-view (entry ∷ entries) = ap (λ others. string_bytes entry.0 ∷ others) (keys-view entries)

is_among-read_out : (key : List ℕ) (known : List (Bor (List ℕ))) → list_any (λ name. bytes_eq key name.now) known ≡ is_among key (read_out known)
is_among-read_out key [] = refl
is_among-read_out key (name ∷ known) = rw (is_among-read_out key known) refl

-- a key is known where it is common or an own one
pub is_among-both : (key : List ℕ) (common own : List (Bor (List ℕ))) (a b : Bool) → list_any (λ name. bytes_eq key name.now) common ≡ a
    → list_any (λ name. bytes_eq key name.now) own ≡ b → is_among key (read_out (common ++ own)) ≡ (a || b)
is_among-both key common own a b in_common in_own =
    sym (is_among-read_out key (common ++ own)) ∙ list_any-append _ common own ∙ rw (in_common, in_own) refl

known_first : (others : Field (Unit {0})) → field_map (λ found. found.1) (both {A = Unit {0}} (Ok tt) others) ≡ others
known_first (Ok value) = refl
known_first (Err key) = refl

-- a known key changes nothing
pub left_known-next : (known : List (Bor (List ℕ))) (left next : List (String Global)) (key : String Global) → left ≡ key ∷ next
    → is_among (string_bytes key) (read_out known) ≡ true → left_known known left ≡ left_known known next
left_known-next known left next key is among = rw (is, among) (known_first _)

-- the key comes before these
abbrev IsBelow : List ℕ → List (List ℕ) → Type 0
IsBelow key others = AllByRecursion (λ other. slice_cmp nat_cmp key other ≡ Less) others

either : (P : List ℕ → Type 0) (o : Ordering) (a b : List ℕ) → P a → P b → P (match_ordering o b a a)
either P Less a b of_a of_b = of_b
either P Equal a b of_a of_b = of_a
either P Greater a b of_a of_b = of_a

both_above : (P : List ℕ → Type 0) (first others : Field (Unit {0})) → IfErr first P → IfErr others P → IfErr (field_map (λ found. found.1) (both first others)) P
both_above P (Ok value) (Ok other) of_first of_others = tt
both_above P (Ok value) (Err key) of_first of_others = of_others
both_above P (Err key) (Ok value) of_first of_others = of_first
both_above P (Err key) (Err other) of_first of_others = either P (slice_cmp nat_cmp other key) key other of_first of_others

known_above : (P : List ℕ → Type 0) (known : List (List ℕ)) (key : List ℕ) → P key → IfErr (is_known known key) P
known_above P known key holds =
    elim (cases_Bool (is_among key known)) [
      | inl among ↦ rw among tt
      | inr other ↦ rw other holds
    ]

-- what is told of keys that come after a key comes after it
told_above : (known : List (List ℕ)) (key : List ℕ) (others : List (List ℕ)) → IsBelow key others
    → IfErr (each_known known others) (λ told. slice_cmp nat_cmp key told ≡ Less)
told_above known key [] below = tt
told_above known key (other ∷ others) below =
    both_above _ (is_known known other) (each_known known others) (known_above _ known other below.0) (told_above known key others below.1)

least_first : (key : List ℕ) (others : Field (Unit {0})) → IfErr others (λ told. slice_cmp nat_cmp key told ≡ Less)
    → field_map (λ found. found.1) (both {A = Unit {0}} (Err key) others) ≡ Err key
least_first key (Ok value) above = refl
least_first key (Err told) above =
    let after : slice_cmp nat_cmp told key ≡ Greater = nat_list_cmp_total.antisymm told key ∙ ap ordering_reverse above in
    rw after refl

below_spelled : (key : String Global) (others : List (String Global)) → AllByRecursion (λ other. string_cmp key other ≡ Less) others → IsBelow (string_bytes key) (spelled others)
below_spelled key [] below = tt
below_spelled key (other ∷ others) below = (below.0, below_spelled key others below.1)

-- another key is the wrong field, as those after it are greater
pub left_known-other : (known : List (Bor (List ℕ))) (left next : List (String Global)) (key : String Global) → left ≡ key ∷ next → IsStrictlySortedBy string_cmp left
    → is_among (string_bytes key) (read_out known) ≡ false → left_known known left ≡ Err (string_bytes key)
unfolding IsStrictlySortedBy
left_known-other known left next key is sorted other =
    let ascending : IsStrictlySortedBy string_cmp (key ∷ next) = rw is at sorted in
    rw (is, other) (least_first (string_bytes key) _ (told_above (read_out known) (string_bytes key) (spelled next) (below_spelled key next ascending.0)))

-- those that are left ascend
pub sorted-next : (left next : List (String Global)) (key : String Global) → left ≡ key ∷ next → IsStrictlySortedBy string_cmp left → IsStrictlySortedBy string_cmp next
unfolding IsStrictlySortedBy
sorted-next left next key is sorted =
    let ascending : IsStrictlySortedBy string_cmp (key ∷ next) = rw is at sorted in
    ascending.1
