-- What the trials of strands need of lists.
use Rattle.std.proofs.Common.{◌<◌, zero, suc, sym, subst, arith, ◌≡◌, ℕ, ◌+◌, ◌++◌, List, [], ◌∷◌, length, take, get_or, Bool, Option, None, Some, slice_get, ap, ◌∙◌}
use Rattle.std.specs.List.{All, Contains}
use Rattle.std.specs.Prelude.{MatchOption}
use Rattle.std.proofs.lemmas.List.Elements.{All-append, Contains-get_or}
use Rattle.std.proofs.lemmas.Option.{get_or_from_slice_get, slice_get_within}
use Rattle.up_model.specs.Plans.{strand_of}
use Rattle.up_model.specs.declared.pipe.Pipe.{Pipe}
use Rattle.up_strand.specs.Strands.{StrandFits}
use Rattle.up_strand.specs.declared.strand.Strand.{Strand}

-- of packets that fit any store a strand fits
all_trivial : {X : Type 0} (xs : List X) → All (λ _. Unit {0}) xs
all_trivial xs = λ k d inside. tt

none_kept : {P : Type 0} (kept : Option P) → MatchOption kept (Unit {0}) (λ _. Unit {0})
none_kept None = tt
none_kept (Some p) = tt

pub all_fit : {P S K F : Type 0} (strand : Strand P S K) (family : F) → StrandFits strand (λ _ _. Unit {0}) family
all_fit strand family = record {
  nodes = λ i d inside. all_trivial (get_or strand.tree.nodes.items i d).out.packets;
  kept = none_kept strand.kept;
}

-- the first of a list, and the rest, are as all are
pub first_is : {X : Type 0} (Q : X → Type 0) (old new : List X) (x : X) → old ≡ x ∷ new → All Q old → Q x
first_is Q old new x is all = subst (λ xs. All Q xs) is all 0 x (omega arith)

pub rest_are : {X : Type 0} (Q : X → Type 0) (old new : List X) (x : X) → old ≡ x ∷ new → All Q old → All Q new
rest_are Q old new x is all = λ k d inside. subst (λ xs. All Q xs) is all (suc k) d (omega (arith, inside))

pub added_are : {X : Type 0} (Q : X → Type 0) (old new : List X) (x : X) → new ≡ old ++ x ∷ [] → All Q old → Q x → All Q new
added_are Q old new x is all here = subst (λ xs. All Q xs) (sym is) (All-append Q old (x ∷ []) all (λ k d inside. only k d inside))
  where
    only : (k : ℕ) (d : _) → k < 1 → Q (get_or (x ∷ []) k d)
    only zero d inside = here
    only (suc k) d inside = absurd (omega (arith, inside))

-- what stands at a place of the list of a strand's pipes is one of them
pub is_own : (pipes others : List Pipe) (head other : ℕ) (places : List ℕ) (k place : ℕ) → others ≡ pipes → other ≡ head
    → places ≡ strand_of pipes head → slice_get places k ≡ Some place → Contains (strand_of others other) place
is_own pipes others head other places k place same_pipes same_head are there =
    let inside : Contains places place =
    subst (Contains places) (get_or_from_slice_get places k place place there) (Contains-get_or places k place (slice_get_within places k place there)) in
    rw same_pipes (rw same_head (subst (λ own. Contains own place) are inside))
