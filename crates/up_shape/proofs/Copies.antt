-- A map is made again by inserting its entries in their order.
use Rattle.std.proofs.Common.{◌≡◌, ℕ, zero, suc, ◌+◌, ◌≤◌, List, [], ◌∷◌, length, take, ◌&&◌, Bool, true, false, T, Some, refl, sym, ap, ◌∙◌, arith, add-one}
use Rattle.std.proofs.lemmas.List.{take_all, nil_from_length}
use Rattle.std.specs.Prelude.{slice_get}
use Rattle.std.specs.declared.cmp.Ordering.{Ordering}
use Rattle.std.specs.declared.cmp.Ordering.TheVariants.{Less, Equal, Greater}
use Rattle.std.specs.Ordering.{is_lt, ordering_reverse}
use Rattle.std.specs.Cmp.{IsTotalOrder}
use Rattle.std.specs.FinMap.{FinMap, entries, entries_sorted, entries-insert, same_entries_map, empty, len, len-entries, len-empty, insert}
use Rattle.std.specs.FinMap.Entries.{put, below_all, is_sorted, by_order}

both : (a b : Bool) → T (a && b) → T a × T b
both true b p = (tt, p)
both false b p = absurd p

less : (r : Ordering) → T (is_lt r) → r ≡ Less
less Less p = refl
less Equal p = absurd p
less Greater p = absurd p

module _ {K X : Type 0} {R : K → K → Ordering} (o : IsTotalOrder R) where
  -- a key below all of a list is below each
  below_each : (low k : K) (v : X) (es : List (K × X)) (i : ℕ) → T (below_all R low es) → slice_get es i ≡ Some (k, v)
      → R low k ≡ Less
  below_each low k v [] i below at = absurd (cc)
  below_each low k v (e ∷ es) zero below at =
      let same : e ≡ (k, v) = cc in
      sym (ap (λ f. R low f.0) same) ∙ less _ (both _ _ below).0
  below_each low k v (e ∷ es) (suc i) below at = below_each low k v es i (both _ _ below).1 at

  -- the next entry is put at the end of those before it
  put_next : (es : List (K × X)) (i : ℕ) (k : K) (v : X) → T (is_sorted R es) → slice_get es i ≡ Some (k, v)
      → put R k v (take i es) ≡ take (suc i) es
  put_next [] i k v sorted at = absurd (cc)
  put_next (e ∷ es) zero k v sorted at =
      let same : e ≡ (k, v) = cc in
      ap (λ f. f ∷ []) (sym same)
  put_next (e ∷ es) (suc i) k v sorted at =
      let parts = both _ _ sorted in
      let later : R k e.0 ≡ Greater = o.antisymm k e.0 ∙ ap ordering_reverse (below_each e.0 k v es i parts.0 at) in
      ap (λ r. by_order r ((k, v) ∷ e ∷ take i es) ((e.0, v) ∷ take i es) (e ∷ put R k v (take i es))) later
      ∙ ap (λ rest. e ∷ rest) (put_next es i k v parts.1 at)

  -- a map with the first entries of another has one more of them after the next is inserted
  pub next_copied : (whole made : FinMap R X) (i : ℕ) (k : K) (v : X) → slice_get (entries whole) i ≡ Some (k, v)
      → entries made ≡ take i (entries whole) → entries (insert made k v) ≡ take (i + 1) (entries whole)
  next_copied whole made i k v at front =
      rw add-one (entries-insert o made k v ∙ ap (put R k v) front ∙ put_next (entries whole) i k v (entries_sorted whole) at)

module _ {K X : Type 0} {R : K → K → Ordering} where
  -- an empty map has no entries
  pub entries-empty : (made : FinMap R X) → made ≡ empty → entries made ≡ []
  entries-empty made none = nil_from_length _ (sym (len-entries made) ∙ ap len none ∙ len-empty R X)

  -- a map with all entries of another is the same
  pub all_copied : (whole made : FinMap R X) (i : ℕ) → len whole ≤ i → entries made ≡ take i (entries whole) → made ≡ whole
  all_copied whole made i all front =
      let covers : length (entries whole) ≤ i = omega (arith, len-entries whole) in
      same_entries_map made whole (front ∙ take_all i (entries whole) covers)
