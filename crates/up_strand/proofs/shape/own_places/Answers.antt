use Rattle.std.proofs.Common.{◌≡◌, length, map, get_or, ap, sym, ◌∙◌, arith, inl, inr}
use Rattle.std.proofs.lemmas.Bool.{cases_lt}
use Rattle.std.proofs.lemmas.List.{get_or-map, length-map}
use Rattle.std.proofs.lemmas.Option.{get_or_from_slice_get}
use Rattle.std.proofs.lemmas.Result.{IfOk-weaker}
use Rattle.up_model.specs.Plans.{heads}
use Rattle.up_plan.specs.Plan.{plan_strand}
use Rattle.up_strand.proofs.ShapeLists.{strand_found}
use Rattle.up_strand.proofs.shape.own_places.Goals as goal

pub returns-then-strand-head : goal.returns-then-strand-head
returns-then-strand-head c =
    IfOk-weaker c.copied.result _ _
    (λ own copied pipes planned there.
    copied ∙ strand_found pipes c.args.plan.now.strands c.loop-i.i c.args.head c.at-strand.result.now (ap (λ p. p.strands) planned) c.at-strand.ensures
    c.if-strand-head.true)
    c.copied.ensures

pub loop-i-preserved : goal.loop-i-preserved
loop-i-preserved c k d before is =
    elim (cases_lt k c.loop-i.i) [
      | inl earlier ↦ c.loop-i.invariant k d earlier is
      | inr here ↦
          let same : k ≡ c.loop-i.i = omega arith in
          let at : get_or c.args.plan.now.strands c.loop-i.i d ≡ c.at-strand.result.now = get_or_from_slice_get c.args.plan.now.strands c.loop-i.i _ d c.at-strand.ensures in
          c.if-strand-head.false (ap (λ s. s.head) (sym at) ∙ ap (λ n. (get_or c.args.plan.now.strands n d).head) (sym same) ∙ is)
    ]

pub returns : goal.returns
returns c pipes planned there =
    let strands : c.args.plan.now.strands ≡ map (plan_strand pipes) (heads pipes) = ap (λ p. p.strands) planned in
    let head = c.args.head in
    let count : length c.args.plan.now.strands ≡ length (heads pipes) = ap length strands ∙ length-map _ _ in
    let found = get_or-map (plan_strand pipes) (heads pipes) there.0 head (plan_strand pipes head) there.1 in
    absurd (c.loop-i.invariant there.0 (plan_strand pipes head) (omega (arith, there.1, count, c.loop-i-test.false)) (ap (λ s. (get_or s there.0 (plan_strand pipes head)).head) strands ∙ ap (λ s. s.head) found ∙ there.2))
