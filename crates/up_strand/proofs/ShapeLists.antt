-- Lists of places, and of the strands of a plan.
use Rattle.std.proofs.Common.{◌≡◌, Bool, ℕ, zero, suc, ◌+◌, ◌<◌, List, [], ◌∷◌, ◌++◌, length, map, take, get_or, Some, slice_get, refl, ap, sym, ◌∙◌, subst, arith}
use Rattle.std.specs.List.{Contains, filter, range_with_len}
use Rattle.std.specs.List.Sorted.{IsPermutation, IsNonDecreasingBy}
use Rattle.std.proofs.lemmas.List.Elements.{Contains-get_or, filter-append}
use Rattle.std.proofs.lemmas.List.FromFn.{length-range_with_len, get_or-range_with_len}
use Rattle.std.proofs.lemmas.List.Sorted.{Contains-permutation, IsPermutation-sym, length_permutation}
use Rattle.std.proofs.lemmas.List.{take_more, map-append, get_or-map, get_or_default, length-append, length-map}
use Rattle.std.proofs.lemmas.Option.{get_or_from_slice_get, same_Some, slice_get_within}
use Rattle.up_model.specs.Plans.{heads, strand_of}
use Rattle.up_model.specs.declared.pipe.Pipe.{Pipe}
use Rattle.up_plan.specs.Plan.{plan_strand}
use Rattle.up_plan.specs.declared.plan.PlanStrand.{PlanStrand}
use Rattle.up_strand.specs.Tree.{IsOrder}

-- one item more of a list
pub take_next : {X : Type 0} (xs : List X) (i : ℕ) (x : X) → slice_get xs i ≡ Some x → take (i + 1) xs ≡ take i xs ++ x ∷ []
take_next xs i x there =
    take_more xs i x (slice_get_within xs i x there) ∙ ap (λ y. take i xs ++ y ∷ []) (get_or_from_slice_get xs i x x there)

-- how many pass a test among one item more of a list
pub one_more_passes : {X : Type 0} (p : X → Bool) (xs : List X) (i : ℕ) (x : X) → slice_get xs i ≡ Some x
    → length (filter p (take (i + 1) xs)) ≡ length (filter p (take i xs)) + length (filter p (x ∷ []))
one_more_passes p xs i x there =
    ap (λ ys. length (filter p ys)) (take_next xs i x there) ∙ ap length (filter-append p (take i xs) (x ∷ []))
    ∙ length-append (filter p (take i xs)) (filter p (x ∷ []))

pub map_next : {X Y : Type 0} (f : X → Y) (xs : List X) (i : ℕ) (x : X) → slice_get xs i ≡ Some x
    → map f (take (i + 1) xs) ≡ map f (take i xs) ++ f x ∷ []
map_next f xs i x there = ap (map f) (take_next xs i x there) ∙ map-append f (take i xs) (x ∷ [])

-- an item of a mapped list comes from one
mapped_from : {X Y : Type 0} (f : X → Y) (xs : List X) (i : ℕ) (y : Y) → slice_get (map f xs) i ≡ Some y → (x : X) × (f x ≡ y)
mapped_from f [] i y is = absurd (cc)
mapped_from f (x ∷ xs) zero y is = (x, same_Some (f x) y is)
mapped_from f (x ∷ xs) (suc i) y is = mapped_from f xs i y is

-- a strand of a plan with this head has the pipes of its strand
pub strand_found : (pipes : List Pipe) (strands : List PlanStrand) (i head : ℕ) (strand : PlanStrand) → strands ≡ map (plan_strand pipes) (heads pipes)
    → slice_get strands i ≡ Some strand → strand.head ≡ head → strand.pipes ≡ strand_of pipes head
strand_found pipes strands i head strand planned there is =
    let from = mapped_from (plan_strand pipes) (heads pipes) i strand (ap (λ (s : List PlanStrand). slice_get s i) (sym planned) ∙ there) in
    let same : from.0 ≡ head = ap (λ (s : PlanStrand). s.head) from.1 ∙ is in
    ap (λ (s : PlanStrand). s.pipes) (sym from.1) ∙ ap (strand_of pipes) same

-- what is sorted of the first numbers is an order of them
pub sorted_order : (rank : ℕ → ℕ) (count : ℕ) (order : List ℕ) → IsPermutation (range_with_len 0 count) order → IsNonDecreasingBy rank order
    → IsOrder rank count order
sorted_order rank count order moved rises = record {
  once = length_permutation (range_with_len 0 count) order moved ∙ length-range_with_len 0 count;
  within = λ k d inside.
      let there = Contains-permutation order (range_with_len 0 count) (get_or order k d) (IsPermutation-sym (range_with_len 0 count) order moved)
      (Contains-get_or order k d inside) in
      omega (arith, there.1, length-range_with_len 0 count, sym there.2, get_or-range_with_len 0 count there.0 (get_or order k d) (omega (arith, there.1, length-range_with_len 0 count)));
  all = λ place inside.
      let there : Contains (range_with_len 0 count) place = (place, omega (arith, inside, length-range_with_len 0 count), get_or-range_with_len 0 count place place inside ∙ omega arith) in
      let at = Contains-permutation (range_with_len 0 count) order place moved there in
      (at.0, at.1, λ d. get_or_default order at.0 d place at.1 ∙ at.2);
  rising = λ k l d upto inside. rises k l d upto inside;
}

-- the heads of a plan's strands are all heads
heads_of_strands : (pipes : List Pipe) (places : List ℕ) → map (λ (strand : PlanStrand). strand.head) (map (plan_strand pipes) places) ≡ places
heads_of_strands pipes [] = refl
heads_of_strands pipes (place ∷ places) = ap (λ rest. place ∷ rest) (heads_of_strands pipes places)

pub planned_heads : (pipes : List Pipe) (strands : List PlanStrand) → strands ≡ map (plan_strand pipes) (heads pipes)
    → map (λ (strand : PlanStrand). strand.head) strands ≡ heads pipes
planned_heads pipes strands planned = ap (map (λ (strand : PlanStrand). strand.head)) planned ∙ heads_of_strands pipes (heads pipes)

-- the head of each strand of a plan is a head
pub head_there : (pipes : List Pipe) (strands : List PlanStrand) (i : ℕ) (strand : PlanStrand) → strands ≡ map (plan_strand pipes) (heads pipes)
    → slice_get strands i ≡ Some strand → Contains (heads pipes) strand.head
head_there pipes strands i strand planned there =
    let count : length strands ≡ length (heads pipes) = ap length planned ∙ length-map _ _ in
    let within : i < length (heads pipes) = omega (arith, slice_get_within strands i strand there, count) in
    let at : get_or strands i strand ≡ plan_strand pipes (get_or (heads pipes) i 0) =
    ap (λ (s : List PlanStrand). get_or s i strand) planned ∙ get_or-map (plan_strand pipes) (heads pipes) i 0 strand within in
    let head : get_or (heads pipes) i 0 ≡ strand.head =
    ap (λ (s : PlanStrand). s.head) (sym at ∙ get_or_from_slice_get strands i strand strand there) in
    subst (Contains (heads pipes)) head (Contains-get_or (heads pipes) i 0 within)
