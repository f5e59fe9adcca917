-- Searches in a list of entries whose keys rise, and edits of it.
use Rattle.std.proofs.Common.{◌≡◌, ℕ, zero, suc, ◌+◌, ◌<◌, ◌≤◌, List, [], ◌∷◌, length, get_or, set, Bool, true, false, cond, not, ◌&&◌, T, Some, None, Ordering, Less, Equal, Greater, inl, inr, refl, sym, ap, ◌∙◌, arith, add-one}
use Rattle.std.specs.Ordering.{is_eq, is_lt, ordering_reverse, eq_by_cmp, ordering_index}
use Rattle.std.specs.Cmp.{IsTotalOrder, alike_right}
use Rattle.std.specs.FinMap.Entries.{find, put, where_key, below_all, is_sorted, by_order}
use Rattle.std.specs.List.{insert, remove, HoldsAt, AllWithin}
use Rattle.std.specs.List.Sorted.{IsSortedBy, IsNonDecreasingBy, IsPartitionPoint}
use Rattle.std.proofs.lemmas.List.Sorted.{searchable_from_sorted}
use Rattle.std.proofs.lemmas.Bool.{cases_lt}

pub first : (a b : Bool) → T (a && b) → T a
first true b p = tt
first false b p = p

pub second : (a b : Bool) → T (a && b) → T b
second true b p = p
second false b p = absurd p

pub less : (r : Ordering) → T (is_lt r) → r ≡ Less
less Less p = refl
less Equal p = absurd p
less Greater p = absurd p

module _ {K : Type 0} {R : K → K → Ordering} (o : IsTotalOrder R) where
  -- the other way round an order is reversed
  turned : (x y : K) (r : Ordering) → R x y ≡ r → R y x ≡ ordering_reverse r
  turned x y r e = o.antisymm y x ∙ ap ordering_reverse e

module _ {K X : Type 0} {R : K → K → Ordering} (o : IsTotalOrder R) where
  -- a key below all of a list is below each
  below : (k : K) (es : List (K × X)) (at : ℕ) (d : K × X) → T (below_all R k es) → at < length es → R k (get_or es at d).0 ≡ Less
  below k [] at d h within = absurd (omega arith)
  below k (e ∷ es) zero d h within = less _ (first _ _ h)
  below k (e ∷ es) (suc at) d h within = below k es at d (second _ _ h) (omega arith)

  -- no key is less than the one before it
  rises : (es : List (K × X)) → T (is_sorted R es) → IsSortedBy (λ a b. is_lt (R a.0 b.0)) es
  rises [] sorted at d from within = absurd (omega arith)
  rises (e ∷ es) sorted zero d from within =
      ap is_lt (turned o e.0 (get_or es 0 d).0 Less (below e.0 es 0 d (first _ _ sorted) (omega arith)))
  rises (e ∷ es) sorted (suc at) d from within =
      let rest : is_lt (R (get_or es (at + 1) d).0 (get_or es at d).0) ≡ false = rises es (second _ _ sorted) at d (omega arith) (omega arith) in
      rw add-one (rw add-one at rest)

  -- a search for a key may halve a list in order
  pub searchable : (es : List (K × X)) (k : K) → T (is_sorted R es) → IsNonDecreasingBy (λ e. ordering_index (R e.0 k)) es
  searchable es k sorted = searchable_from_sorted o (λ e. e.0) es k (rises es sorted)

  -- the entry before one with the key is less
  before : (e : K × X) (es : List (K × X)) (at : ℕ) (k : K) → T (is_sorted R (e ∷ es)) → at < length es
      → HoldsAt (λ f. R f.0 k ≡ Equal) es at → R k e.0 ≡ Greater
  before e es at k sorted within here =
      let f = get_or es at e in
      turned o e.0 k Less (sym (alike_right o f.0 k e.0 (here e)) ∙ below e.0 es at e (first _ _ sorted) within)

  -- at the place of a key that stands there, only the value changes
  pub put-there : (k : K) (v : X) (es : List (K × X)) (at : ℕ) (d : K × X) → T (is_sorted R es) → at < length es
      → HoldsAt (λ e. R e.0 k ≡ Equal) es at → put R k v es ≡ set es at ((get_or es at d).0, v)
  put-there k v [] at d sorted within here = absurd (omega arith)
  put-there k v (e ∷ es) zero d sorted within here =
      ap (λ r. by_order r ((k, v) ∷ e ∷ es) ((e.0, v) ∷ es) (e ∷ put R k v es)) (turned o e.0 k Equal (here d))
  put-there k v (e ∷ es) (suc at) d sorted within here =
      ap (λ r. by_order r ((k, v) ∷ e ∷ es) ((e.0, v) ∷ es) (e ∷ put R k v es)) (before e es at k sorted (omega arith) here)
      ∙ ap (λ rest. e ∷ rest) (put-there k v es at d (second _ _ sorted) (omega arith) here)

  -- without the first place
  tail_cut : (e : K × X) (es : List (K × X)) (at : ℕ) (k : K)
      → IsPartitionPoint (λ f. R f.0 k ≡ Less) (λ f. R f.0 k ≡ Greater) (e ∷ es) (suc at)
      → IsPartitionPoint (λ f. R f.0 k ≡ Less) (λ f. R f.0 k ≡ Greater) es at
  tail_cut e es at k cut =
      (λ j d from within. cut.0 (suc j) d (omega arith) (omega arith), λ j d from within. cut.1 (suc j) d (omega arith) (omega arith))

  -- a key that doesn't stand there goes between the less and the greater
  pub put-missing : (k : K) (v : X) (es : List (K × X)) (at : ℕ) → at ≤ length es
      → IsPartitionPoint (λ e. R e.0 k ≡ Less) (λ e. R e.0 k ≡ Greater) es at → put R k v es ≡ insert es at (k, v)
  put-missing k v [] zero within cut = refl
  put-missing k v [] (suc at) within cut = absurd (omega arith)
  put-missing k v (e ∷ es) zero within cut =
      ap (λ r. by_order r ((k, v) ∷ e ∷ es) ((e.0, v) ∷ es) (e ∷ put R k v es)) (turned o e.0 k Greater (cut.1 0 e (omega arith) (omega arith)))
  put-missing k v (e ∷ es) (suc at) within cut =
      ap (λ r. by_order r ((k, v) ∷ e ∷ es) ((e.0, v) ∷ es) (e ∷ put R k v es)) (turned o e.0 k Less (cut.0 0 e (omega arith) (omega arith)))
      ∙ ap (λ rest. e ∷ rest) (put-missing k v es at (omega arith) (tail_cut e es at k cut))

  -- no key of the list is the one that is missing
  pub apart : (k : K) (es : List (K × X)) (at : ℕ) → IsPartitionPoint (λ e. R e.0 k ≡ Less) (λ e. R e.0 k ≡ Greater) es at
      → AllWithin (λ e. eq_by_cmp R k e.0 ≡ false) es 0 (length es)
  apart k es at cut j d from within =
      elim (cases_lt j at) [
        | inl before ↦ ap is_eq (turned o (get_or es j d).0 k Less (cut.0 j d (omega arith) before))
        | inr behind ↦ ap is_eq (turned o (get_or es j d).0 k Greater (cut.1 j d behind within))
      ]

  -- a key that no entry has isn't found
  pub find-missing : (k : K) (es : List (K × X)) → AllWithin (λ e. eq_by_cmp R k e.0 ≡ false) es 0 (length es) → find R k es ≡ None
  find-missing k [] none = refl
  find-missing k (e ∷ es) none =
      ap (λ b. cond b (Some e.1) (find R k es)) (none 0 e (omega arith) (omega arith))
      ∙ find-missing k es (λ j d from within. none (suc j) d (omega arith) (omega arith))

  -- and without it the list is the same
  pub where_key-missing : (k : K) (es : List (K × X)) → AllWithin (λ e. eq_by_cmp R k e.0 ≡ false) es 0 (length es)
      → where_key R (λ x. not (eq_by_cmp R k x)) es ≡ es
  where_key-missing k [] none = refl
  where_key-missing k (e ∷ es) none =
      let rest = where_key R (λ x. not (eq_by_cmp R k x)) es in
      ap (λ b. cond (not b) (e ∷ rest) rest) (none 0 e (omega arith) (omega arith))
      ∙ ap (λ kept. e ∷ kept) (where_key-missing k es (λ j d from within. none (suc j) d (omega arith) (omega arith)))

  -- the value at the place of a key is the one that is found
  pub find-there : (k : K) (es : List (K × X)) (at : ℕ) (d : K × X) → T (is_sorted R es) → at < length es
      → HoldsAt (λ e. R e.0 k ≡ Equal) es at → find R k es ≡ Some (get_or es at d).1
  find-there k [] at d sorted within here = absurd (omega arith)
  find-there k (e ∷ es) zero d sorted within here =
      ap (λ r. cond (is_eq r) (Some e.1) (find R k es)) (turned o e.0 k Equal (here d))
  find-there k (e ∷ es) (suc at) d sorted within here =
      ap (λ r. cond (is_eq r) (Some e.1) (find R k es)) (before e es at k sorted (omega arith) here)
      ∙ find-there k es at d (second _ _ sorted) (omega arith) here

  -- the list without a key that stands at a place is the list without that place
  pub where_key-there : (k : K) (es : List (K × X)) (at : ℕ) → T (is_sorted R es) → at < length es
      → HoldsAt (λ e. R e.0 k ≡ Equal) es at → where_key R (λ x. not (eq_by_cmp R k x)) es ≡ remove es at
  where_key-there k [] at sorted within here = absurd (omega arith)
  where_key-there k (e ∷ es) zero sorted within here =
      let rest = where_key R (λ x. not (eq_by_cmp R k x)) es in
      let same : R k e.0 ≡ Equal = turned o e.0 k Equal (here e) in
      ap (λ r. cond (not (is_eq r)) (e ∷ rest) rest) same
      ∙ where_key-missing k es (λ j d from inside. ap is_eq (o.congr k e.0 (get_or es j d).0 same ∙ below e.0 es j d (first _ _ sorted) inside))
  where_key-there k (e ∷ es) (suc at) sorted within here =
      let rest = where_key R (λ x. not (eq_by_cmp R k x)) es in
      ap (λ r. cond (not (is_eq r)) (e ∷ rest) rest) (before e es at k sorted (omega arith) here)
      ∙ ap (λ kept. e ∷ kept) (where_key-there k es at (second _ _ sorted) (omega arith) here)
