-- Every pipe is in one strand, and a strand is joined by its inputs and runs on one worker.
use Rattle.std.proofs.Common.{◌≡◌, ◌≢◌, ℕ, zero, suc, ◌<◌, ◌==◌, List, length, Option, Some, None, slice_get, Bool, true, false, ◌||◌, refl, ap, sym, arith, inl, inr, eq-eqb}
use Rattle.std.proofs.lemmas.Bool.Decides.{Decides-eqb}
use Rattle.std.proofs.lemmas.Option.{slice_get_within}
use Rattle.std.proofs.lemmas.Bool.{cases_Bool}
use Rattle.std.proofs.lemmas.Slice.Eq.{bytes_eq-Decides}
use Rattle.std.specs.Str.{bytes_eq}
use Rattle.std.specs.List.{Contains}
use Rattle.std.specs.Option.{option_map_or}
use Rattle.std.specs.Prelude.{not}
use Rattle.up_model.proofs.AlongInputs.{same_along, starts_at, weaker_reaches}
use Rattle.up_model.proofs.Members.{filter_has, kept_once, kept_passes, passing_pipe, passing_places_have, places_have}
use Rattle.up_model.proofs.Places.{reached-here}
use Rattle.up_model.proofs.Steps.{found_passes, step_more, step_of}
use Rattle.up_model.proofs.WellFormed.{comes_to_source}
use Rattle.up_model.specs.Ends.{is_source}
use Rattle.up_model.specs.Inputs.{passes_at, places, ends_at_source, reached_within}
use Rattle.up_model.specs.Plans.{is_head, heads, head_of, strand_of, changes_worker}
use Rattle.up_model.specs.WellFormed.{IsWellFormed}
use Rattle.up_model.specs.declared.pipe.Pipe.{Pipe}
use Rattle.up_plan.specs.Laws.{IsInOneStrand, IsFedWithin}
use Rattle.up_plan.specs.Plan.{worker_at}

-- the two are one, where the test of a strand passes
pub same_head : (own : Option ℕ) (head : ℕ) → option_map_or (λ own. own == head) own false ≡ true → own ≡ Some head
same_head None head is = cc
same_head (Some own) head is = ap Some ((Decides-eqb own head).0 is)

one_of : (a b : Bool) → a ≡ true → (a || b) ≡ true
one_of a b is = rw is refl

no_other : (a b : Bool) → (a || b) ≡ false → b ≡ false
no_other true b is = cc
no_other false b is = is

same_bytes : (a b : List ℕ) → not (bytes_eq a b) ≡ false → a ≡ b
same_bytes a b is = elim (cases_Bool (bytes_eq a b)) [
  | inl same ↦ (bytes_eq-Decides a b).0 same
  | inr differ ↦ let other = rw differ at is in cc
]

module _ (pipes : List Pipe) where
  -- a source is a head, so a pipe that comes to one comes to a head
  pub has_head_of : (place : ℕ) → IsWellFormed pipes → place < length pipes → (head : ℕ) × (head_of pipes place ≡ Some head)
  has_head_of place formed within =
      let source = comes_to_source pipes formed place within in
      weaker_reaches ends_at_source pipes is_head (λ place pipe source. one_of (is_source pipe.kind) (changes_worker pipes pipe) source)
      (length pipes) place source.source source.reached

  has_pipe : (head place : ℕ) → head_of pipes place ≡ Some head → place < length pipes
  has_pipe head place is =
      let start = starts_at is_head pipes (length pipes) place head is in slice_get_within pipes place start.0 start.1

  pub strand_has : (head place : ℕ) → head_of pipes place ≡ Some head → Contains (strand_of pipes head) place
  strand_has head place is =
      filter_has _ (places pipes) place (places_have pipes place (has_pipe head place is)) (rw is (eq-eqb head head refl))

  pub in_strand : (head place : ℕ) → Contains (strand_of pipes head) place → head_of pipes place ≡ Some head
  in_strand head place there = same_head (head_of pipes place) head (kept_passes _ (places pipes) place there)

  pub own_head : (head : ℕ) → Contains (heads pipes) head → head_of pipes head ≡ Some head
  own_head head there =
      let here = passing_pipe is_head pipes head (kept_passes (passes_at is_head pipes) (places pipes) head there) in
      let within : head < length pipes = slice_get_within pipes head here.0 here.1 in
      reached-here is_head pipes head here.0 here.1 (length pipes) here.2 (omega (arith, within))

  -- a pipe that has a head is in its strand, once, and in no other
  pub in_one_strand : (head place : ℕ) → head_of pipes place ≡ Some head → IsInOneStrand pipes place
  in_one_strand head place is =
      let found = found_passes is_head pipes (length pipes) place head is in
      record {
        head = head;
        is_head = passing_places_have is_head pipes head (rw found.1 found.2);
        within = strand_has head place is;
        once = kept_once _ place (length pipes) (has_pipe head place is) (rw is (eq-eqb head head refl));
        alone = λ other there. let own = in_strand other place there in cc;
      }

  joined_within : (steps head place : ℕ) → steps ≡ length pipes → reached_within steps is_head pipes place ≡ Some head → place ≢ head → IsFedWithin pipes head place
  joined_within zero head place all is other = cc
  joined_within (suc steps) head place all is other =
      let step = step_of is_head pipes steps place head is in
      elim step.way [
        | inl here ↦ absurd (other here.1)
        | inr further ↦ record {
          input = further.1;
          takes = rw step.at further.2;
          within = strand_has head further.1 (rw (← all) (step_more is_head pipes steps further.1 head further.3));
        }
      ]

  pub strand_is_joined : (head place : ℕ) → Contains (strand_of pipes head) place → place ≢ head → IsFedWithin pipes head place
  strand_is_joined head place there other = joined_within (length pipes) head place refl (in_strand head place there) other

  -- a pipe that is no head has its input's worker
  same_worker : (place input : ℕ) (pipe from : Pipe) → slice_get pipes place ≡ Some pipe → slice_get pipes input ≡ Some from
      → is_head pipes place pipe ≡ false → pipe.input ≡ Some input → worker_at pipes place ≡ worker_at pipes input
  same_worker place input pipe from here there no_head takes =
      let unchanged : changes_worker pipes pipe ≡ false = no_other (is_source pipe.kind) _ no_head in
      let same : not (bytes_eq from.worker pipe.worker) ≡ false = rw (takes, there) at unchanged in
      rw (here, there) (sym (same_bytes from.worker pipe.worker same))

  pub on_one_worker : (head place : ℕ) → Contains (strand_of pipes head) place → worker_at pipes place ≡ worker_at pipes head
  on_one_worker head place there =
      same_along is_head pipes (worker_at pipes) same_worker (length pipes) place head (in_strand head place there)
