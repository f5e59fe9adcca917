-- What is so of all that a net holds, after a step.
use Rattle.std.proofs.Common.{◌≡◌, ◌≢◌, ℕ, List, [], ◌∷◌, ◌++◌, get_or, All, Option, None, sym, subst, arith, inl, inr}
use Rattle.std.proofs.lemmas.Bool.Decides.{eqb_tells}
use Rattle.std.proofs.lemmas.List.Elements.{All-head, All-push, All-tail}
use Rattle.up_engine.proofs.Standing.{IsSameButAt}
use Rattle.up_engine.specs.Nets.{NetFits, items_at}
use Rattle.up_engine.specs.declared.net.Net.{Net}
use Rattle.up_queue.specs.Lane.{Lane}
use Rattle.up_queue.specs.declared.item.Item.{Item}
use Rattle.up_strand.specs.StrandCalls.{ItemFits}
use Rattle.up_strand.specs.Strands.{StrandFits}
use Rattle.up_strand.specs.declared.strand.Strand.{Strand}

-- the first item is as all are
pub first_is : {X : Type 0} (Q : X → Type 0) (items rest : List X) (item : X) → items ≡ item ∷ rest → All Q items → Q item
first_is Q items rest item first all = All-head Q item rest (subst (All Q) first all)

module _ {P : Type 0} (Q : Item P → Type 0) (old new : List (Option (Lane P))) (i : ℕ) (item : Item P)
    (others : (k : ℕ) → k ≢ i → get_or new k None ≡ get_or old k None) (all : (k : ℕ) → All Q (items_at old k)) where
  all_there : All Q (items_at new i) → (k : ℕ) → All Q (items_at new k)
  all_there here k = elim (eqb_tells k i) [
    | inl at ↦ subst (λ (n : ℕ). All Q (items_at new n)) (sym at.1) here
    | inr other ↦ subst (λ (lane : Option (Lane P)). All Q (items_at (lane ∷ []) 0)) (sym (others k other.1)) (all k)
  ]

  -- of the items of all lanes, where one was taken
  pub rest_are : items_at old i ≡ item ∷ items_at new i → (k : ℕ) → All Q (items_at new k)
  rest_are first = all_there (All-tail Q item (items_at new i) (subst (All Q) first (all i)))

  -- and where one was added
  pub more_are : items_at new i ≡ items_at old i ++ item ∷ [] → Q item → (k : ℕ) → All Q (items_at new k)
  more_are added good = all_there (subst (All Q) (sym added) (All-push Q (items_at old i) item (all i) good))

module _ {P S K F : Type 0} (fits : P → F → Type 0) (family : F) where
  pub fits_on : (net new : Net P S K) (i : ℕ) → IsSameButAt net new i → NetFits net fits family
      → ((d : Strand P S K) → StrandFits (get_or new.strands.items i d) fits family)
      → ((k : ℕ) → All (ItemFits fits family) (items_at new.lanes.items k)) → NetFits new fits family
  fits_on net new i same fit here lanes = record {
    strands = λ k d within. elim (eqb_tells k i) [
      | inl at ↦ subst (λ (n : ℕ). StrandFits (get_or new.strands.items n d) fits family) (sym at.1) (here d)
      | inr other ↦
          let count = same.strand_count in
          subst (λ (s : Strand P S K). StrandFits s fits family) (sym (same.strands k d other.1)) (fit.strands k d (omega (arith, count, within)))
    ];
    lanes = lanes;
  }
