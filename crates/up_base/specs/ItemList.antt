-- What the calls of a list do: of a list of items, and of a list of words.
use Rattle.std.specs.Prelude.{◌≡◌, ℕ, List, [], ◌∷◌, ◌++◌, Option, Some, MatchOption, Result, IfErr, slice_get}
use Rattle.up_base.specs.declared.item_list.NoRoom.{NoRoom}

-- the item was added at the end
abbrev pub AddsItem : {T : Type 0} → T → List T → List T → Type 0
AddsItem item old new = new ≡ old ++ item ∷ []

-- the item that found no room is handed back
abbrev pub HandsBack : {T : Type 0} → T → Result (Unit {0}) (NoRoom T) → Type 0
HandsBack item result = IfErr result (λ refused. refused.back ≡ item)

-- the item stands at this place, counted from 0
abbrev pub IsAt : {T : Type 0} → List T → ℕ → T → Type 0
IsAt items place item = slice_get items place ≡ Some item

-- the first item was taken out, or there was none
abbrev pub TakesFirst : {T : Type 0} → List T → List T → Option T → Type 0
TakesFirst old new taken = MatchOption taken ((old ≡ []) × (new ≡ [])) (λ first. old ≡ first ∷ new)
