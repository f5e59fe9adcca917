-- Items that are spelled one after the other.
use Rattle.std.proofs.Common.{◌≡◌, ℕ, zero, suc, ◌+◌, ◌≤◌, List, [], ◌∷◌, ◌++◌, length, take, map, All, append-nil, append_assoc, Some, slice_get, sym, ap, subst, ◌∙◌}
use Rattle.std.specs.List.{flat_map}
use Rattle.std.proofs.lemmas.List.{take_all}
use Rattle.std.proofs.lemmas.List.Concat.{flat_map-append}
use Rattle.std.proofs.lemmas.List.Elements.{All-head, All-tail}
use Rattle.up_model.proofs.PlainSteps.{take_next}

-- what holds of all holds of the one at a place
pub holds_there : {X : Type 0} (P : X → Type 0) (items : List X) (place : ℕ) (item : X) → All P items → slice_get items place ≡ Some item → P item
holds_there P [] place item all there = absurd cc
holds_there P (first ∷ items) zero item all there =
    let same : first ≡ item = cc in
    subst P same (All-head P first items all)
holds_there P (first ∷ items) (suc place) item all there = holds_there P items place item (All-tail P first items all) there

-- so of what is made of each
pub holds_mapped : {X Y : Type 0} (P : Y → Type 0) (made : X → Y) (items : List X) (place : ℕ) (item : X) → All P (map made items)
    → slice_get items place ≡ Some item → P (made item)
holds_mapped P made [] place item all there = absurd cc
holds_mapped P made (first ∷ items) zero item all there =
    let same : first ≡ item = cc in
    subst (λ x. P (made x)) same (All-head P (made first) (map made items) all)
holds_mapped P made (first ∷ items) (suc place) item all there =
    holds_mapped P made items place item (All-tail P (made first) (map made items) all) there

-- one item more is spelled
pub one_more : {X : Type 0} (spelled : X → List ℕ) (items : List X) (place : ℕ) (item : X) (old so_far : List ℕ) → slice_get items place ≡ Some item
    → so_far ≡ old ++ flat_map spelled (take place items) → so_far ++ spelled item ≡ old ++ flat_map spelled (take (place + 1) items)
one_more spelled items place item old so_far there before =
    ap (λ front. front ++ spelled item) before
    ∙ append_assoc old (flat_map spelled (take place items)) (spelled item)
    ∙ ap (λ all. old ++ all)
    (sym
    (ap (flat_map spelled) (take_next items place item there)
    ∙ flat_map-append spelled (take place items) (item ∷ [])
    ∙ ap (λ last. flat_map spelled (take place items) ++ last) (append-nil (spelled item))))

-- all are spelled, once none is left
pub all_spelled : {X : Type 0} (spelled : X → List ℕ) (items : List X) (place : ℕ) (old new : List ℕ) → length items ≤ place
    → new ≡ old ++ flat_map spelled (take place items) → new ≡ old ++ flat_map spelled items
all_spelled spelled items place old new past so_far = so_far ∙ ap (λ all. old ++ flat_map spelled all) (take_all place items past)
