-- Lists of places.
use Rattle.std.proofs.Common.{◌≡◌, ℕ, zero, suc, ◌+◌, ◌<◌, ◌≤◌, List, [], ◌∷◌, ◌++◌, length, map, take, Bool, true, false, ◌||◌, ◌==◌, refl, ap, ◌∙◌, sym, arith, inl, inr, add-one}
use Rattle.std.proofs.lemmas.List.Elements.{filter-append, filter_agree}
use Rattle.std.proofs.lemmas.List.Folds.{list_any_more}
use Rattle.std.proofs.lemmas.List.FromFn.{length-map-range_with_len, get_or-map-range_with_len}
use Rattle.std.proofs.lemmas.List.{map-append}
use Rattle.std.proofs.lemmas.Option.{slice_get_past, slice_get_cases}
use Rattle.std.specs.List.{filter, list_any, range_with_len}
use Rattle.std.specs.Option.{option_map_or}
use Rattle.std.specs.Str.{bytes_eq}
use Rattle.up_model.proofs.Places.{reached-nowhere}
use Rattle.up_model.specs.Inputs.{passes_at, places}
use Rattle.up_model.specs.Plans as plans
use Rattle.up_model.specs.declared.pipe.Pipe.{Pipe}
use Rattle.up_plan.specs.HeadTable.{has_head, head_of_each}

-- one number more at the end
range_with_len-suc : (a n j : ℕ) → a + n ≡ j → range_with_len a (suc n) ≡ range_with_len a n ++ j ∷ []
range_with_len-suc a zero j last = let same : a ≡ j = omega arith in ap (λ x. x ∷ []) same
range_with_len-suc a (suc n) j last = ap (λ rest. a ∷ rest) (range_with_len-suc (a + 1) n j (omega arith))

pub filter-more : (test : ℕ → Bool) (n : ℕ) → filter test (range_with_len 0 (n + 1)) ≡ filter test (range_with_len 0 n) ++ filter test (n ∷ [])
filter-more test n =
    ap (λ count. filter test (range_with_len 0 count)) (add-one n)
    ∙ ap (filter test) (range_with_len-suc 0 n n (omega arith)) ∙ filter-append test (range_with_len 0 n) (n ∷ [])

pub map-filter-more : {T : Type 0} (f : ℕ → T) (test : ℕ → Bool) (n : ℕ)
    → map f (filter test (range_with_len 0 (n + 1))) ≡ map f (filter test (range_with_len 0 n)) ++ map f (filter test (n ∷ []))
map-filter-more f test n = ap (map f) (filter-more test n) ∙ map-append f (filter test (range_with_len 0 n)) (filter test (n ∷ []))

or-true : (a b : Bool) → b ≡ true → (a || b) ≡ true
or-true true b is = refl
or-true false b is = is

-- a pipe that has the worker stands before the place
pub any_before-true : (pipes : List Pipe) (worker : List ℕ) (earlier place : ℕ) → earlier < place
    → passes_at (plans.runs_on worker) pipes earlier ≡ true → list_any (λ pipe. bytes_eq pipe.worker worker) (take place pipes) ≡ true
any_before-true [] worker earlier place before runs = cc
any_before-true (p ∷ pipes) worker earlier zero before runs = absurd (omega arith)
any_before-true (p ∷ pipes) worker zero (suc place) before runs = rw runs refl
any_before-true (p ∷ pipes) worker (suc earlier) (suc place) before runs =
    or-true (bytes_eq p.worker worker) _ (any_before-true pipes worker earlier place (omega arith) runs)

pub any_before-more : (pipes : List Pipe) (worker : List ℕ) (place : ℕ) → place < length pipes
    → list_any (λ pipe. bytes_eq pipe.worker worker) (take place pipes) ≡ false
    → passes_at (plans.runs_on worker) pipes place ≡ false → list_any (λ pipe. bytes_eq pipe.worker worker) (take (place + 1) pipes) ≡ false
any_before-more pipes worker place within none other =
    elim (slice_get_cases pipes place).1 [
      | inl there ↦
          let here : bytes_eq there.0.worker worker ≡ false = rw there.2 at other in
          list_any_more (λ pipe. bytes_eq pipe.worker worker) pipes place there.0 within ∙ rw (none, there.3) here
      | inr past ↦ absurd (omega (arith, past.0))
    ]

-- who has a head, by the head of each
has_head-each : (pipes : List Pipe) (head place : ℕ)
    → has_head (head_of_each pipes) head place ≡ option_map_or (λ own. own == head) (plans.head_of pipes place) false
has_head-each pipes head place =
    elim (slice_get_cases (head_of_each pipes) place).1 [
      | inl there ↦
          let within : place < length pipes = omega (arith, there.1, length-map-range_with_len (plans.head_of pipes) 0 (length pipes)) in
          let own : there.0 ≡ plans.head_of pipes place =
          sym there.3 ∙ get_or-map-range_with_len (plans.head_of pipes) 0 (length pipes) place place there.0 within (omega arith) in
          rw there.2 (ap (λ own. option_map_or (λ own. own == head) own false) own)
      | inr past ↦
          let outside : length pipes ≤ place = omega (arith, past.0, length-map-range_with_len (plans.head_of pipes) 0 (length pipes)) in
          rw (past.1, reached-nowhere plans.is_head pipes place (length pipes) (slice_get_past pipes place outside)) refl
    ]

pub strand-of_each : (pipes : List Pipe) (head : ℕ)
    → filter (has_head (head_of_each pipes) head) (range_with_len 0 (length (head_of_each pipes))) ≡ plans.strand_of pipes head
strand-of_each pipes head =
    rw length-map-range_with_len (filter_agree _ _ (has_head-each pipes head) (places pipes))

pub head_of_each_length : (pipes : List Pipe) → length (head_of_each pipes) ≡ length pipes
head_of_each_length pipes = length-map-range_with_len (plans.head_of pipes) 0 (length pipes)
