-- The values of an array, and the items that it has in the code.
use Rattle.std.proofs.Common.{◌≡◌, ◌≤◌, Bool, true, Some, None, List, [], ◌∷◌, length, map, Vec, Global, refl, ap, ◌∙◌, arith}
use Rattle.std.specs.List.{list_all, position, position_or_len}
use Rattle.std.proofs.lemmas.List.Folds.{list_all-map}
use Rattle.std.proofs.lemmas.List.{length-map}
use Rattle.toml.specs.Data.{Data}
use Rattle.toml.specs.View.{array_view, items_of, view}
use Rattle.toml.specs.declared.value.Value.{Value}
use Rattle.up_graph.specs.Values.{is_text, named_in, values}

values_of : (items : List Data) → values (items_of items) ≡ items
values_of [] = refl
values_of (value ∷ items) = ap (λ others. value ∷ others) (values_of items)

pub values_view : (array : Vec Value Global) → values (array_view array) ≡ map view array.items
values_view array = values_of (map view array.items)

pub all_values : (passes : Data → Bool) (array : Vec Value Global) → list_all passes (values (array_view array)) ≡ list_all (λ item. passes (view item)) array.items
all_values passes array = ap (list_all passes) (values_view array) ∙ list_all-map passes view array.items

pub length_values : (array : Vec Value Global) → length (values (array_view array)) ≡ length array.items
length_values array = ap length (values_view array) ∙ length-map array.items view

position_or_len-map : {X Y : Type 0} (passes : Y → Bool) (f : X → Y) (xs : List X) → position_or_len passes (map f xs) ≡ position_or_len (λ x. passes (f x)) xs
position_or_len-map passes f [] = refl
position_or_len-map passes f (x ∷ xs) = rw (position_or_len-map passes f xs) refl

pub position_values : (passes : Data → Bool) (array : Vec Value Global) → position passes (values (array_view array)) ≡ position (λ item. passes (view item)) array.items
position_values passes array = rw (values_view array, length-map array.items view, position_or_len-map passes view array.items) refl

pub named_in-many : (items : List Data) → 2 ≤ length items → list_all is_text items ≡ true → Some None ≡ named_in items
named_in-many [] many texts = absurd (omega (arith, many))
named_in-many (item ∷ []) many texts = absurd (omega (arith, many))
named_in-many (first ∷ second ∷ others) many texts = rw texts refl
