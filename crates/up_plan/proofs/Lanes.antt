-- How many lanes there are, and where each comes from.
use Rattle.std.proofs.Common.{◌≡◌, ◌≢◌, ℕ, ◌+◌, List, [], ◌∷◌, length, Option, Some, None, slice_get, Bool, true, false, ◌&&◌, ◌||◌, refl, ap, ◌∙◌, arith, inl, inr, count_by}
use Rattle.std.proofs.lemmas.Bool.{cases_Bool}
use Rattle.std.proofs.lemmas.List.Filters.{length-filter_both}
use Rattle.std.proofs.lemmas.List.Sums.{length-filter}
use Rattle.std.proofs.lemmas.Option.{slice_get_cases}
use Rattle.std.proofs.lemmas.Slice.Eq.{bytes_eq-Decides}
use Rattle.std.specs.List.{Contains, filter}
use Rattle.std.specs.Option.{option_map_or}
use Rattle.std.specs.Prelude.{not}
use Rattle.std.specs.Str.{bytes_eq}
use Rattle.up_model.proofs.Places.{count_of_all}
use Rattle.up_model.specs.Ends.{is_source}
use Rattle.up_model.specs.Inputs.{passes_at, places}
use Rattle.up_model.specs.Plans.{is_head, heads, is_fed, lanes, changes_worker}
use Rattle.up_model.specs.declared.pipe.Pipe.{Pipe}
use Rattle.up_model.proofs.Members.{kept_passes, kept_was_there}
use Rattle.up_plan.specs.Laws.{ComesFromElsewhere}
use Rattle.up_plan.specs.Plan.{worker_at}

-- to keep by one test and then by another is to keep by both
pub filter_twice : {X : Type 0} (first second both : X → Bool) → ((x : X) → both x ≡ (first x && second x))
    → (xs : List X) → filter second (filter first xs) ≡ filter both xs
filter_twice first second both is [] = refl
filter_twice first second both is (x ∷ xs) =
    let rest = filter_twice first second both is xs in
    elim (cases_Bool (first x)) [
      | inl kept ↦ elim (cases_Bool (second x)) [
        | inl stays ↦ rw (kept, stays, is x, kept, stays) (ap (λ xs. x ∷ xs) rest)
        | inr goes ↦ rw (kept, goes, is x, kept, goes) rest
      ]
      | inr left ↦ rw (left, is x, left) rest
    ]

source_only : (source changes : Bool) → source ≡ ((source || changes) && not (not source))
source_only true changes = refl
source_only false true = refl
source_only false false = refl

by_change : (source changes : Bool) → not source ≡ true → (source || changes) ≡ true → changes ≡ true
by_change true changes no_source begins = cc
by_change false changes no_source begins = begins

differ : (a b : List ℕ) → not (bytes_eq a b) ≡ true → a ≢ b
differ a b is same = let yes = (bytes_eq-Decides a b).1 same in let no = rw yes at is in cc

module _ (pipes : List Pipe) where
  abbrev is_source_at : ℕ → Bool
  is_source_at place = option_map_or (λ pipe. is_source pipe.kind) (slice_get pipes place) false

  sources_are_other_heads : (place : ℕ) → is_source_at place ≡ (passes_at is_head pipes place && not (passes_at is_fed pipes place))
  sources_are_other_heads place = elim (slice_get_cases pipes place).1 [
    | inl there ↦ rw there.2 (source_only (is_source there.0.kind) (changes_worker pipes there.0))
    | inr past ↦ rw past.1 refl
  ]

  pub lanes_and_sources : length (lanes pipes) + count_by (λ pipe. is_source pipe.kind) pipes ≡ length (heads pipes)
  lanes_and_sources =
      let fed = passes_at is_fed pipes in
      let all : length (lanes pipes) + length (filter (λ place. not (fed place)) (heads pipes)) ≡ length (heads pipes) =
      length-filter_both fed (λ place. not (fed place)) (λ place. refl) (heads pipes) in
      let others : length (filter (λ place. not (fed place)) (heads pipes)) ≡ length (filter is_source_at (places pipes)) =
      ap length (filter_twice (passes_at is_head pipes) (λ place. not (fed place)) is_source_at sources_are_other_heads (places pipes)) in
      let counted = count_of_all (λ pipe. is_source pipe.kind) pipes ∙ length-filter (λ pipe. is_source pipe.kind) pipes in
      omega (arith, all, others, counted)

  other_worker : (input : Option ℕ) (pipe : Pipe) → pipe.input ≡ input → changes_worker pipes pipe ≡ true
      → (from : ℕ) × (input ≡ Some from) × (worker_at pipes from ≡ pipe.worker → ⊥)
  other_worker None pipe is changes = let fails = rw is at changes in cc
  other_worker (Some from) pipe is changes = elim (slice_get_cases pipes from).1 [
    | inl there ↦
        let differs : not (bytes_eq there.0.worker pipe.worker) ≡ true = rw (is, there.2) at changes in
        (from, refl, rw there.2 (differ there.0.worker pipe.worker differs))
    | inr past ↦ let fails = rw (is, past.1) at changes in cc
  ]

  pub lane_comes_from_elsewhere : (head : ℕ) → Contains (lanes pipes) head → ComesFromElsewhere pipes head
  lane_comes_from_elsewhere head there =
      let fed = kept_passes (passes_at is_fed pipes) (heads pipes) head there in
      let first = kept_passes (passes_at is_head pipes) (places pipes) head (kept_was_there (passes_at is_fed pipes) (heads pipes) head there) in
      elim (slice_get_cases pipes head).1 [
        | inl own ↦
            let no_source : not (is_source own.0.kind) ≡ true = rw own.2 at fed in
            let begins : (is_source own.0.kind || changes_worker pipes own.0) ≡ true = rw own.2 at first in
            let from = other_worker own.0.input own.0 refl (by_change _ _ no_source begins) in
            record {
              input = from.0;
              takes = rw own.2 from.1;
              other = rw own.2 from.2;
            }
        | inr past ↦ let fails = rw past.1 at fed in cc
      ]
