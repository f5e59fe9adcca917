-- The sums of each pipe, and what the sources put out, where memory didn't run out.
use Rattle.std.proofs.Common.{◌≡◌, ℕ, List, [], ◌∷◌, length, map, min, sum, sum_by, filter, Bool, true, false, Option, Some, slice_get, refl, sym, ap, ◌∙◌, arith, inl, inr}
use Rattle.std.specs.Prelude.{unwrap_or}
use Rattle.std.proofs.lemmas.Bool.{cases_Bool}
use Rattle.std.proofs.lemmas.List.Sums.{sum-map, sum_by-cons}
use Rattle.up_engine.proofs.FirstParts.{due_is}
use Rattle.up_engine.proofs.CutAtHeads.{head_takes}
use Rattle.up_engine.specs.Flows.{IsPastOf}
use Rattle.up_model.proofs.FedSources.{fed_source}
use Rattle.up_model.specs.Ends.{is_source}
use Rattle.up_model.specs.Kinds.{module_kind}
use Rattle.up_model.specs.Meaning.{Doing, done_by, flow_by, input_by, selected, tally_of, taken_by, to_sources, wholly, work_at}
use Rattle.up_model.specs.Packet.{Flow}
use Rattle.up_model.specs.Tallies.{greatest_sum, past_own_probe, stopped, uncaught}
use Rattle.up_model.specs.declared.kind.Kind.{Kind}
use Rattle.up_model.specs.declared.kind.Kind.TheVariants.{Source}
use Rattle.up_model.specs.declared.pipe.Pipe.{Pipe}
use Rattle.up_model.specs.declared.tally.Tally.{Tally}
use Rattle.up_strand.specs.History.{History, doing, head_flow, sums_at, to_head}
use Rattle.up_strand.specs.StrandCalls.{flow_due}

-- the sums of a pipe that does this with what it takes
abbrev pub sums_with : Doing → List Pipe → ℕ → Pipe → Flow → Tally
sums_with does pipes place pipe taken = uncaught pipe.caught (stopped (done_by does place (module_kind (selected pipes place) pipe.kind) taken).tally)

-- so those of a pipe of a strand
pub sums_of_strand : (h : History) (place : ℕ) (pipe : Pipe) → slice_get h.pipes place ≡ Some pipe
    → sums_at h place ≡ sums_with (doing h.ended) h.pipes place pipe (flow_due h place pipe (doing h.ended))
sums_of_strand h place pipe there =
    let fed = to_head h.head (head_flow h) in
    ap (λ (o : Option Pipe). past_own_probe o (stopped (work_at (doing h.ended) h.pipes fed (flow_by (doing h.ended) h.pipes fed) place o).tally)) there

-- and those that the graph means
pub sums_meant : (pipes : List Pipe) (given : ℕ → Flow) (place : ℕ) (pipe : Pipe) → slice_get pipes place ≡ Some pipe
    → tally_of pipes given place ≡ sums_with wholly pipes place pipe (input_by wholly pipes (to_sources pipes given) place pipe)
sums_meant pipes given place pipe there =
    let fed = to_sources pipes given in
    ap (λ (o : Option Pipe). past_own_probe o (stopped (work_at wholly pipes fed (flow_by wholly pipes fed) place o).tally)) there

-- a source puts out what it is fed
put_by : (does : Doing) (place : ℕ) (numbers : List ℕ) (kind : Kind) (taken : Flow) → is_source kind ≡ true → (done_by does place (module_kind numbers kind) taken).tally.put ≡ length taken
put_by does place numbers (Source path form limit) taken is = refl
put_by does place numbers kind taken is = absurd (cc)

pub source_puts : (h : History) (pipes : List Pipe) (place : ℕ) (pipe : Pipe) → IsPastOf pipes place h → slice_get pipes place ≡ Some pipe → is_source pipe.kind ≡ true
    → (sums_at h place).put ≡ min (length (head_flow h)) greatest_sum
source_puts h pipes place pipe strand there is =
    let own : slice_get h.pipes place ≡ Some pipe = ap (λ (ps : List Pipe). slice_get ps place) strand.graph ∙ there in
    let taken : flow_due h place pipe (doing h.ended) ≡ head_flow h =
    due_is pipes place place h pipe (doing h.ended) strand ∙ head_takes (doing h.ended) pipes place (head_flow h) pipe in
    ap (λ (sums : Tally). sums.put) (sums_of_strand h place pipe own)
    ∙ ap (λ n. min n greatest_sum) (put_by (doing h.ended) place (selected h.pipes place) pipe.kind (flow_due h place pipe (doing h.ended)) is ∙ ap length taken)

-- what a source takes is what it carries
pub source_input : (does : Doing) (pipes : List Pipe) (given : ℕ → Flow) (place : ℕ) (pipe : Pipe) → slice_get pipes place ≡ Some pipe → is_source pipe.kind ≡ true
    → input_by does pipes (to_sources pipes given) place pipe ≡ given place
source_input does pipes given place pipe there is =
    ap (λ fed. unwrap_or fed (taken_by pipes (flow_by does pipes (to_sources pipes given)) pipe)) (fed_source pipes given place pipe there is)

module _ {X : Type 0} (all some : X → Bool) (of to : X → ℕ) (same : (x : X) → some x ≡ true → (all x ≡ true) × (of x ≡ to x))
    (none : (x : X) → some x ≡ false → all x ≡ true → of x ≡ 0) where
  sum_by_some : (xs : List X) → sum_by of (filter all xs) ≡ sum_by to (filter some xs)
  sum_by_some [] = refl
  sum_by_some (x ∷ xs) =
      let rest = sum_by_some xs in
      elim (cases_Bool (some x)) [
        | inl here ↦
            let one = same x here in
            let each = one.1 in
            let both : sum_by of (x ∷ filter all xs) ≡ sum_by to (x ∷ filter some xs) = omega (arith, each, rest, sum_by-cons of x (filter all xs), sum_by-cons to x (filter some xs)) in
            rw (here, one.0) both
        | inr other ↦ elim (cases_Bool (all x)) [
          | inl kept ↦
              let zero = none x other kept in
              let left : sum_by of (x ∷ filter all xs) ≡ sum_by to (filter some xs) = omega (arith, zero, rest, sum_by-cons of x (filter all xs)) in
              rw (other, kept) left
          | inr gone ↦ rw (other, gone) rest
        ]
      ]

  -- a sum over those that pass a test, of which only those that pass a second add something, is the sum over these
  pub sum_of_some : (xs : List X) → sum (map of (filter all xs)) ≡ sum (map to (filter some xs))
  sum_of_some xs = sum-map of (filter all xs) ∙ sum_by_some xs ∙ sym (sum-map to (filter some xs))

module _ {X : Type 0} (of : X → ℕ) (all : X → Bool) (none : (x : X) → all x ≡ true → of x ≡ 0) where
  sum_by_none : (xs : List X) → sum_by of (filter all xs) ≡ 0
  sum_by_none [] = refl
  sum_by_none (x ∷ xs) =
      let rest = sum_by_none xs in
      elim (cases_Bool (all x)) [
        | inl kept ↦
            let zero = none x kept in
            let left : sum_by of (x ∷ filter all xs) ≡ 0 = omega (arith, zero, rest, sum_by-cons of x (filter all xs)) in
            rw kept left
        | inr gone ↦ rw gone rest
      ]

  -- a sum of nothing
  pub sum_of_none : (xs : List X) → sum (map of (filter all xs)) ≡ 0
  sum_of_none xs = sum-map of (filter all xs) ∙ sum_by_none xs
