use Rattle.std.proofs.Common.{◌≡◌, ℕ, ◌<◌, ◌≤◌, List, length, Some, slice_get, refl, sym, ap, ◌∙◌, subst, arith}
use Rattle.std.specs.Prelude.{option_and_then}
use Rattle.std.specs.List.{Contains}
use Rattle.std.proofs.lemmas.Option.{slice_get-get_or, slice_get_within}
use Rattle.up_engine.proofs.Fillers.{filler_is_head, head_number, input_is}
use Rattle.up_engine.proofs.Numbered.{in_strand_of, planned, planned_at}
use Rattle.up_engine.specs.Joins.{filler_of}
use Rattle.up_engine.specs.Nets.{head_at}
use Rattle.up_model.specs.Plans.{head_of, heads, strand_of}
use Rattle.up_model.specs.declared.pipe.Pipe.{Pipe}
use Rattle.up_plan.proofs.OneStrand.{strand_has}
use Rattle.up_plan.specs.Plan.{plan_of, plan_strand}
use Rattle.up_plan.specs.declared.plan.Plan.{Plan}
use Rattle.up_plan.specs.declared.plan.PlanStrand.{PlanStrand}
use Rattle.up_engine.proofs.tables.filler_of.Goals as goal

module _ (pipes : List Pipe) (head input : ℕ) (pipe : Pipe) (there : slice_get pipes head ≡ Some pipe) (takes : pipe.input ≡ Some input)
    (plan : Plan) (is_plan : plan ≡ plan_of pipes) where
  filled_from : (filler : ℕ) → filler_of pipes head ≡ Some filler → head_of pipes input ≡ Some filler
  filled_from filler filled = sym (ap (option_and_then (head_of pipes)) (input_is pipes head pipe there ∙ takes)) ∙ filled

  here_is_filler : (i filler : ℕ) (own : PlanStrand) → slice_get plan.strands i ≡ Some own → Contains own.pipes input → filler_of pipes head ≡ Some filler
      → slice_get (heads pipes) i ≡ Some filler
  here_is_filler i filler own at has filled =
      let is = planned pipes i own (ap (λ (p : Plan). slice_get p.strands i) (sym is_plan) ∙ at) in
      let has_it : Contains (strand_of pipes (head_at pipes i)) input = subst (λ (o : PlanStrand). Contains o.pipes input) is.1 has in
      let of = in_strand_of pipes (head_at pipes i) input has_it in
      slice_get-get_or (heads pipes) i 0 is.0 ∙ sym of ∙ filled_from filler filled

  some_has_it : (count filler : ℕ) → length plan.strands ≤ count → filler_of pipes head ≡ Some filler
      → ((k : ℕ) (strand : PlanStrand) → k < count → slice_get plan.strands k ≡ Some strand → Contains strand.pipes input → ⊥) → ⊥
  some_has_it count filler all filled none =
      let number = head_number pipes filler (filler_is_head pipes filler head filled) in
      let at = ap (λ (p : Plan). slice_get p.strands number.0) is_plan ∙ planned_at pipes number.0 number.1 in
      let within : number.0 < count = omega (arith, all, slice_get_within plan.strands number.0 _ at) in
      none number.0 (plan_strand pipes (head_at pipes number.0)) within at
      (subst (λ (h : ℕ). Contains (strand_of pipes h) input) (sym number.2) (strand_has pipes filler input (filled_from filler filled)))

pub returns-then-has_place : goal.returns-then-has_place
returns-then-has_place c filler filled =
    here_is_filler c.args.graph.now.pipes c.args.head c.in-Some.input c.at.result.now
    (ap (slice_get c.args.graph.now.pipes) (sym c.from.ensures) ∙ c.at.ensures) c.in-Some.is c.args.plan.now c.requires.plan
    c.loop-i.i filler c.at-in-loop-i.result.now c.at-in-loop-i.ensures (c.if-has_place.ensures.0 refl) filled

pub returns : goal.returns
returns c filler filled =
    absurd (some_has_it c.args.graph.now.pipes c.args.head c.in-Some.input c.at.result.now
    (ap (slice_get c.args.graph.now.pipes) (sym c.from.ensures) ∙ c.at.ensures) c.in-Some.is c.args.plan.now c.requires.plan
    c.loop-i.i filler (omega arith) filled c.loop-i.invariant)
