-- The strands of a graph by their numbers: the places of each, and how the plan tells them.
use Rattle.std.proofs.Common.{◌≡◌, ℕ, ◌<◌, List, length, get_or, Some, slice_get, refl, sym, ap, ◌∙◌, subst, arith}
use Rattle.std.specs.Prelude.{option_map}
use Rattle.std.specs.List.{Contains}
use Rattle.std.proofs.lemmas.List.{length-map}
use Rattle.std.proofs.lemmas.List.Elements.{Contains-get_or}
use Rattle.std.proofs.lemmas.List.FromFn.{get_or-range_with_len, length-range_with_len}
use Rattle.std.proofs.lemmas.Option.{same_Some, slice_get-get_or, slice_get-map, slice_get_within}
use Rattle.up_engine.proofs.Fillers.{head_number, head_there, same_head}
use Rattle.up_engine.proofs.OwnSources.{source_is_own_head}
use Rattle.up_engine.proofs.PathPlaces.{kept_apart}
use Rattle.up_engine.specs.Begun.{places_at}
use Rattle.up_engine.specs.Nets.{head_at}
use Rattle.up_engine.specs.Parts.{AreApart, IsStrandOf}
use Rattle.up_model.proofs.Members.{kept_passes, kept_was_there, passing_pipe, passing_places_have}
use Rattle.up_model.proofs.Steps.{found_passes}
use Rattle.up_model.specs.Inputs.{ends_at_source, passes_at, places}
use Rattle.up_model.specs.Plans.{head_of, heads, is_head, is_in_strand, strand_of}
use Rattle.up_model.specs.WellFormed.{IsWellFormed}
use Rattle.up_model.specs.declared.pipe.Pipe.{Pipe}
use Rattle.up_plan.proofs.OneStrand.{has_head_of, own_head, strand_has}
use Rattle.up_plan.specs.Plan.{plan_of, plan_strand}
use Rattle.up_plan.specs.declared.plan.Plan.{Plan}
use Rattle.up_plan.specs.declared.plan.PlanStrand.{PlanStrand}

module _ (pipes : List Pipe) where
  pub heads_apart : AreApart (heads pipes)
  heads_apart = kept_apart (passes_at is_head pipes) (length pipes)

  -- what stands in a strand has its head
  pub in_strand_of : (head place : ℕ) → Contains (strand_of pipes head) place → head_of pipes place ≡ Some head
  in_strand_of head place there = same_head (head_of pipes place) head (kept_passes _ (places pipes) place there)

  pub strand_within : (head place : ℕ) → Contains (strand_of pipes head) place → place < length pipes
  strand_within head place there =
      let stands = kept_was_there _ (places pipes) place there in
      let within = stands.1 in
      omega (arith, within, sym stands.2, length-range_with_len 0 (length pipes), get_or-range_with_len 0 (length pipes) stands.0 place (omega (arith, within, length-range_with_len 0 (length pipes))))

  -- a place stands in the strand of one number alone
  pub own_number : (i j place : ℕ) → i < length (heads pipes) → j < length (heads pipes) → Contains (places_at pipes i) place → Contains (places_at pipes j) place
      → i ≡ j
  own_number i j place i_within j_within one other =
      heads_apart i j i_within j_within
      (same_Some _ _ (sym (in_strand_of (head_at pipes i) place one) ∙ in_strand_of (head_at pipes j) place other))

  -- each place stands in the strand of some number
  pub number_of : (place : ℕ) → IsWellFormed pipes → place < length pipes
      → (i : ℕ) × (i < length (heads pipes)) × Contains (places_at pipes i) place
  number_of place well within =
      let own = has_head_of pipes place well within in
      let found = found_passes is_head pipes (length pipes) place own.0 own.1 in
      let number = head_number pipes own.0 (passing_places_have is_head pipes own.0 (rw found.1 found.2)) in
      (number.0, number.1, subst (λ (head : ℕ). Contains (strand_of pipes head) place) (sym number.2) (strand_has pipes own.0 place own.1))

  -- the strand of a head, as one whose objects are taken out and put back
  pub strand_of_head : (head : ℕ) → Contains (heads pipes) head → IsStrandOf pipes head (strand_of pipes head)
  strand_of_head head is = record {
    within = λ k below. strand_within head (get_or (strand_of pipes head) k 0) (Contains-get_or (strand_of pipes head) k 0 below);
    apart = kept_apart (is_in_strand pipes head) (length pipes);
    has_head = strand_has pipes head head (own_head pipes head is);
    one_source = λ place there source.
        let one = passing_pipe ends_at_source pipes place source in
        source_is_own_head pipes place head one.0 one.1 one.2 (in_strand_of head place there);
  }

  -- the strands of the plan, by their numbers
  pub planned_at : (i : ℕ) → i < length (heads pipes) → slice_get (plan_of pipes).strands i ≡ Some (plan_strand pipes (head_at pipes i))
  planned_at i within = slice_get-map (plan_strand pipes) (heads pipes) i ∙ ap (option_map (plan_strand pipes)) (slice_get-get_or (heads pipes) i 0 within)

  pub planned : (i : ℕ) (own : PlanStrand) → slice_get (plan_of pipes).strands i ≡ Some own → (i < length (heads pipes)) × (own ≡ plan_strand pipes (head_at pipes i))
  planned i own is =
      let within : i < length (heads pipes) = omega (arith, slice_get_within _ i own is, length-map (heads pipes) (plan_strand pipes)) in
      (within, same_Some own _ (sym is ∙ planned_at i within))

  -- the strand of a number, as the plan has it
  pub record IsOwn (i : ℕ) (own : PlanStrand) : Type 0 where
    pub within : i < length (heads pipes)
    pub head : own.head ≡ head_at pipes i
    pub places : own.pipes ≡ places_at pipes i
    pub own_places : own.pipes ≡ strand_of pipes own.head
    pub is_head : Contains (heads pipes) own.head
    pub strand : IsStrandOf pipes own.head own.pipes

  pub own_of : (plan : Plan) (i n : ℕ) (own : PlanStrand) → plan ≡ plan_of pipes → n ≡ i → slice_get plan.strands n ≡ Some own → IsOwn i own
  own_of plan i n own is number at =
      let own_is = planned i own (ap (slice_get (plan_of pipes).strands) (sym number) ∙ ap (λ (p : Plan). slice_get p.strands n) (sym is) ∙ at) in
      let is_head = head_there pipes i own_is.0 in
      record {
        within = own_is.0;
        head = ap (λ (o : PlanStrand). o.head) own_is.1;
        places = ap (λ (o : PlanStrand). o.pipes) own_is.1;
        own_places = rw own_is.1 refl;
        is_head = rw own_is.1 is_head;
        strand = rw own_is.1 (strand_of_head (head_at pipes i) is_head);
      }
