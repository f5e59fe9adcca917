-- Lists of attributes whose names rise, and the maps that they stand for.
use Rattle.std.proofs.Common.{◌≡◌, ℕ, ◌<◌, ◌≤◌, List, [], length, get_or, set, Bool, true, false, not, T, Option, Some, None, Ordering, Less, Equal, Greater, slice_get, is_some, refl, sym, ap, ◌∙◌, subst, cond}
use Rattle.std.specs.Ordering.{nat_cmp, eq_by_cmp, is_eq, ordering_index}
use Rattle.std.specs.Cmp.{eq_by_cmp_equiv, alike_right}
use Rattle.std.specs.Cmp.Lexicographic.{slice_cmp, nat_list_cmp_total}
use Rattle.std.specs.FinMap as map
use Rattle.std.specs.FinMap.{from_sorted, entries, entries-from_sorted, entries-insert, get-from_sorted, get-remove, len-entries, empty_of_len, same_map, same_entries_map, slice_cmp-IsAntisymmetric, nat_cmp-IsAntisymmetric}
use Rattle.std.specs.FinMap.Entries.{find, put, where_key, is_sorted, is_sorted-put, is_sorted-where_key, find-where_key}
use Rattle.std.specs.List.{insert, remove, HoldsAt}
use Rattle.std.specs.List.Sorted.{IsNonDecreasingBy, IsPartitionPoint}
use Rattle.std.proofs.lemmas.Option.{slice_get-get_or}
use Rattle.up_model.proofs.SortedEntries.{searchable, apart, put-there, put-missing, find-there, find-missing, where_key-there, where_key-missing}
use Rattle.up_model.specs.Attrs.{Attrs}
use Rattle.up_model.specs.declared.value.Value.{Value}
use Rattle.up_model.specs.declared.value.Value.TheVariants.{Void}

-- a name and its value
abbrev pub Attr : Type 0
Attr = List ℕ × Value

-- names by their bytes
abbrev pub by_name : List ℕ → List ℕ → Ordering
by_name = slice_cmp nat_cmp

-- the names strictly rise
abbrev pub HasOrder : List Attr → Type 0
HasOrder list = T (is_sorted by_name list)

-- the map of a list in order
abbrev pub attrs_of : List Attr → Attrs
attrs_of list = from_sorted list

-- the list is in order, and stands for the map
pub record StandsFor (list : List Attr) (attrs : Attrs) : Type 0 where
  pub order : HasOrder list
  pub is : attrs_of list ≡ attrs

-- the attribute at the place has the name
abbrev pub IsAt : List Attr → List ℕ → ℕ → Type 0
IsAt list name at = HoldsAt (λ attr. by_name attr.0 name ≡ Equal) list at

-- the names below the place are less, and those from it on greater
abbrev pub IsGap : List Attr → List ℕ → ℕ → Type 0
IsGap list name at = IsPartitionPoint (λ attr. by_name attr.0 name ≡ Less) (λ attr. by_name attr.0 name ≡ Greater) list at

-- what a search in a list in order answers, where it doesn't find the name
pub gap : (list : List Attr) (name : List ℕ) (at : ℕ) → HasOrder list
    → (IsNonDecreasingBy (λ attr. ordering_index (by_name attr.0 name)) list → IsGap list name at) → IsGap list name at
gap list name at order found = found (searchable nat_list_cmp_total list name order)

-- the list with the attribute put in its place stands for the map with it
pub is_put : (list new : List Attr) (name : List ℕ) (value : Value) → HasOrder list → new ≡ put by_name name value list
    → StandsFor new (map.insert (attrs_of list) name value)
is_put list new name value order is =
    let ordered : HasOrder new = subst HasOrder (sym is) (is_sorted-put by_name nat_list_cmp_total name value list order) in
    record {
      order = ordered;
      is =
          same_entries_map _ _
          (entries-from_sorted by_name new ordered
          ∙ is
          ∙ sym (entries-insert nat_list_cmp_total (attrs_of list) name value ∙ ap (put by_name name value) (entries-from_sorted by_name list order)));
    }

-- the list with another value at the name's place
pub set-there : (list new : List Attr) (name : List ℕ) (value : Value) (at : ℕ) → HasOrder list → at < length list → IsAt list name at
    → HoldsAt (λ attr. new ≡ set list at (attr.0, value)) list at → StandsFor new (map.insert (attrs_of list) name value)
set-there list new name value at order within here is =
    let d : Attr = (name, value) in
    is_put list new name value order (is d ∙ sym (put-there nat_list_cmp_total name value list at d order within here))

-- the list with the attribute at its gap
pub set-missing : (list new : List Attr) (name : List ℕ) (value : Value) (at : ℕ) → HasOrder list → at ≤ length list → IsGap list name at
    → new ≡ insert list at (name, value) → StandsFor new (map.insert (attrs_of list) name value)
set-missing list new name value at order within cut is =
    is_put list new name value order (is ∙ sym (put-missing nat_list_cmp_total name value list at within cut))

-- the value at the name's place is the one that the map has
pub get-there : (list : List Attr) (name : List ℕ) (value : Value) (at : ℕ) → HasOrder list → at < length list → IsAt list name at
    → HoldsAt (λ attr. attr.1 ≡ value) list at → map.get (attrs_of list) name ≡ Some value
get-there list name value at order within here is =
    let d : Attr = (name, value) in
    get-from_sorted by_name list name order ∙ find-there nat_list_cmp_total name list at d order within here ∙ ap Some (is d)

-- a name that stands at a place is in the map
pub contains-there : (list : List Attr) (name : List ℕ) (at : ℕ) → HasOrder list → at < length list → IsAt list name at
    → map.contains_key (attrs_of list) name ≡ true
contains-there list name at order within here =
    let d : Attr = (name, Void) in
    ap is_some (get-from_sorted by_name list name order ∙ find-there nat_list_cmp_total name list at d order within here)

-- a name that has a gap isn't in the map
pub get-missing : (list : List Attr) (name : List ℕ) (at : ℕ) → HasOrder list → IsGap list name at
    → map.get (attrs_of list) name ≡ None
get-missing list name at order cut =
    get-from_sorted by_name list name order ∙ find-missing nat_list_cmp_total name list (apart nat_list_cmp_total name list at cut)

-- the list without the attributes of a name stands for the map without the name
pub without : (list new : List Attr) (name : List ℕ) → HasOrder list → new ≡ where_key by_name (λ x. not (eq_by_cmp by_name name x)) list
    → StandsFor new (map.remove (attrs_of list) name)
without list new name order is =
    let kept = λ (x : List ℕ). not (eq_by_cmp by_name name x) in
    let ordered : HasOrder new = subst HasOrder (sym is) (is_sorted-where_key by_name kept list order) in
    record {
      order = ordered;
      is =
          same_map nat_list_cmp_total (slice_cmp-IsAntisymmetric nat_cmp-IsAntisymmetric) _ _
          (λ q. get-from_sorted by_name new q ordered
          ∙ ap (find by_name q) is
          ∙ find-where_key by_name kept q (λ x tied. ap (λ r. not (is_eq r)) (sym (alike_right nat_list_cmp_total q x name tied))) list
          ∙ flipped (eq_by_cmp by_name name q) (find by_name q list)
          ∙ ap (λ b. cond b None (find by_name q list)) ((eq_by_cmp_equiv nat_list_cmp_total).symm name q)
          ∙ ap (cond (eq_by_cmp by_name q name) None) (sym (get-from_sorted by_name list q order))
          ∙ sym (get-remove nat_list_cmp_total (attrs_of list) name q));
    }
  where
    flipped : {X : Type 0} (b : Bool) (found : Option X) → cond (not b) found None ≡ cond b None found
    flipped true found = refl
    flipped false found = refl

-- the list without the name's place
pub remove-there : (list new : List Attr) (name : List ℕ) (at : ℕ) → HasOrder list → at < length list → IsAt list name at
    → new ≡ remove list at → StandsFor new (map.remove (attrs_of list) name)
remove-there list new name at order within here is =
    without list new name order (is ∙ sym (where_key-there nat_list_cmp_total name list at order within here))

-- where the name isn't there, nothing is taken away
pub remove-missing : (list : List Attr) (name : List ℕ) (at : ℕ) → HasOrder list → IsGap list name at
    → attrs_of list ≡ map.remove (attrs_of list) name
remove-missing list name at order cut =
    (without list list name order (sym (where_key-missing nat_list_cmp_total name list (apart nat_list_cmp_total name list at cut)))).is

-- the map has as many attributes as the list
pub len-list : (list : List Attr) → HasOrder list → map.len (attrs_of list) ≡ length list
len-list list order = len-entries (attrs_of list) ∙ ap length (entries-from_sorted by_name list order)

-- an empty list stands for the empty map
pub no_attrs : (list : List Attr) → list ≡ [] → attrs_of list ≡ map.empty
no_attrs list is = empty_of_len _ (len-list list (subst HasOrder (sym is) tt) ∙ ap length is)

-- the attributes of the map stand in the order of the list
pub entries-at : (list : List Attr) (at : ℕ) (attr : Attr) (value : Value) → HasOrder list → at < length list → attr ≡ get_or list at attr → value ≡ attr.1
    → slice_get (entries (attrs_of list)) at ≡ Some (attr.0, value)
entries-at list at attr value order within here is =
    ap (λ all. slice_get all at) (entries-from_sorted by_name list order)
    ∙ slice_get-get_or list at attr within
    ∙ ap Some (sym here)
    ∙ ap (λ v. Some (attr.0, v)) (sym is)
