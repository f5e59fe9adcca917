-- The attributes of a list, one after the other.
use Rattle.std.proofs.Common.{◌≡◌, ℕ, ◌+◌, ◌<◌, ◌≤◌, List, [], ◌∷◌, ◌++◌, length, take, drop, map, append-nil, take-append-drop, Some, sym, ap, subst, ◌∙◌}
use Rattle.std.specs.Prelude.{All, slice_get}
use Rattle.std.specs.List.{flat_map}
use Rattle.std.proofs.lemmas.List.{take_all}
use Rattle.std.proofs.lemmas.List.Concat.{flat_map-append}
use Rattle.std.proofs.lemmas.List.Elements.{All-nil, All-cons, All-head, All-tail, All-get_or}
use Rattle.std.proofs.lemmas.Option.{slice_get_within, get_or_from_slice_get}
use Rattle.up_frame.proofs.Parts.{of_first, of_second}
use Rattle.up_frame.specs.Writing.{AddsPart}
use Rattle.up_model.proofs.AttrLists.{Attr}
use Rattle.up_model.proofs.PlainSteps.{take_next}
use Rattle.up_model.specs.FrameSpelling.{attribute_bytes}
use Rattle.up_model.specs.Value.{IsLegalValue}

-- the value at a place is legal, where all are
pub legal_there : (list : List Attr) (place : ℕ) (attr : Attr) → All IsLegalValue (map (λ e. e.1) list) → slice_get list place ≡ Some attr
    → IsLegalValue attr.1
legal_there list place attr legal there =
    let within : place < length list = slice_get_within list place attr there in
    let all : All (λ e. IsLegalValue e.1) list = All-unmap list legal in
    subst (λ e. IsLegalValue e.1) (get_or_from_slice_get list place attr attr there) (All-get_or (λ e. IsLegalValue e.1) list place attr within all)
  where
    All-unmap : (list : List Attr) → All IsLegalValue (map (λ e. e.1) list) → All (λ e. IsLegalValue e.1) list
    All-unmap [] legal = All-nil (λ e. IsLegalValue e.1)
    All-unmap (e ∷ list) legal =
        All-cons (λ e. IsLegalValue e.1) e list (All-head IsLegalValue e.1 (map (λ e. e.1) list) legal)
        (All-unmap list (All-tail IsLegalValue e.1 (map (λ e. e.1) list) legal))

-- one attribute more
pub one_more : (list : List Attr) (place : ℕ) (attr : Attr) → slice_get list place ≡ Some attr
    → flat_map attribute_bytes (take (place + 1) list) ≡ flat_map attribute_bytes (take place list) ++ attribute_bytes attr
one_more list place attr there =
    ap (flat_map attribute_bytes) (take_next list place attr there)
    ∙ flat_map-append attribute_bytes (take place list) (attr ∷ [])
    ∙ ap (λ last. flat_map attribute_bytes (take place list) ++ last) (append-nil (attribute_bytes attr))

-- a part of the attribute at a place, behind those before it
pub part_there : (old between new : List ℕ) (list : List Attr) (place : ℕ) (attr : Attr) → slice_get list place ≡ Some attr
    → between ≡ old ++ flat_map attribute_bytes (take place list) → AddsPart between new (attribute_bytes attr)
    → AddsPart old new (flat_map attribute_bytes list)
part_there old between new list place attr there before part =
    let whole : flat_map attribute_bytes (take (place + 1) list) ++ flat_map attribute_bytes (drop (place + 1) list) ≡ flat_map attribute_bytes list =
    sym (flat_map-append attribute_bytes (take (place + 1) list) (drop (place + 1) list))
    ∙ ap (flat_map attribute_bytes) (take-append-drop (place + 1) list) in
    let joined : (flat_map attribute_bytes (take place list) ++ attribute_bytes attr) ++ flat_map attribute_bytes (drop (place + 1) list) ≡ flat_map attribute_bytes list =
    ap (λ front. front ++ flat_map attribute_bytes (drop (place + 1) list)) (sym (one_more list place attr there)) ∙ whole in
    subst (AddsPart old new) joined
    (of_first old new (flat_map attribute_bytes (take place list) ++ attribute_bytes attr) (flat_map attribute_bytes (drop (place + 1) list))
    (of_second old between new (flat_map attribute_bytes (take place list)) (attribute_bytes attr) before part))

-- all of them, once none is left
pub all_there : (old new : List ℕ) (list : List Attr) (place : ℕ) → length list ≤ place
    → new ≡ old ++ flat_map attribute_bytes (take place list) → new ≡ old ++ flat_map attribute_bytes list
all_there old new list place past so_far = so_far ∙ ap (λ all. old ++ flat_map attribute_bytes all) (take_all place list past)
