-- The tables of a net, one more entry at a time.
use Rattle.std.proofs.Common.{◌≡◌, ℕ, ◌+◌, List, [], ◌∷◌, ◌++◌, map, take, get_or, Option, Some, None, slice_get, sym, ap, ◌∙◌, subst, arith, inl, inr}
use Rattle.std.proofs.lemmas.Bool.{cases_lt}
use Rattle.std.proofs.lemmas.List.{get_or_append_left, get_or_push, length_push, map_more}
use Rattle.std.proofs.lemmas.Option.{get_or_from_slice_get, slice_get_within}
use Rattle.up_engine.specs.Tables.{AreEmptyLanes, IsEmptyLane}
use Rattle.up_model.specs.declared.pipe.Pipe.{Pipe}
use Rattle.up_queue.specs.Lane.{Lane}

pub mapped_next : {X Y : Type 0} (f : X → Y) (xs : List X) (i : ℕ) (x : X) → slice_get xs i ≡ Some x → map f (take (i + 1) xs) ≡ map f (take i xs) ++ f x ∷ []
mapped_next f xs i x there =
    map_more f xs i x (slice_get_within xs i x there) ∙ ap (λ y. map f (take i xs) ++ f y ∷ []) (get_or_from_slice_get xs i x x there)

module _ {P : Type 0} (pipes : List Pipe) (heads : List ℕ) (count : ℕ) (lanes : List (Option (Lane P))) (so_far : AreEmptyLanes pipes heads count lanes) where
  pub lanes_next : (lane : Option (Lane P)) → IsEmptyLane pipes (get_or heads count 0) lane → AreEmptyLanes pipes heads (count + 1) (lanes ++ lane ∷ [])
  lanes_next lane is = record {
    size = length_push lanes lane ∙ ap (λ n. n + 1) so_far.size;
    each = λ i below. let size = so_far.size in elim (cases_lt i count) [
      | inl before ↦ subst (IsEmptyLane pipes (get_or heads i 0)) (sym (get_or_append_left lanes (lane ∷ []) None i (omega (arith, size, before)))) (so_far.each i before)
      | inr after ↦
          let last : i ≡ count = omega (arith, after, below) in
          subst (λ (n : ℕ). IsEmptyLane pipes (get_or heads n 0) (get_or (lanes ++ lane ∷ []) n None)) (sym last)
          (subst (IsEmptyLane pipes (get_or heads count 0)) (sym (get_or_push lanes lane None count size)) is)
    ];
  }
