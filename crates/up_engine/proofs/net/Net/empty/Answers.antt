use Rattle.std.proofs.Common.{◌≡◌, ℕ, List, length, ap, sym, ◌∙◌, subst}
use Rattle.std.proofs.lemmas.List.{length-map}
use Rattle.up_engine.proofs.FreshNets.{nothing_waits, planned_apart, planned_heads, planned_within}
use Rattle.up_engine.specs.Tables.{AreEmptyLanes}
use Rattle.up_model.specs.Plans.{heads}
use Rattle.up_plan.specs.Plan.{plan_strand}
use Rattle.up_plan.specs.declared.plan.Plan.{Plan}
use Rattle.up_engine.proofs.net.Net.empty.Goals as goal

pub numbers_of-requires-clause-within : goal.numbers_of-requires-clause-within
numbers_of-requires-clause-within g c i below =
    let pipes = c.args.graph.now.pipes in
    let are = planned_heads pipes c.args.plan.now c.deref.result.now c.requires.plan (c.deref.ensures.value ∙ c.in_ok-heads.ensures) in
    rw c.len.ensures (planned_within pipes c.deref.result.now are i below)

pub numbers_of-requires-clause-apart : goal.numbers_of-requires-clause-apart
numbers_of-requires-clause-apart g c =
    let pipes = c.args.graph.now.pipes in
    planned_apart pipes c.deref.result.now (planned_heads pipes c.args.plan.now c.deref.result.now c.requires.plan (c.deref.ensures.value ∙ c.in_ok-heads.ensures))

pub fillers_of-requires-clause-places : goal.fillers_of-requires-clause-places
fillers_of-requires-clause-places g c =
    let pipes = c.args.graph.now.pipes in
    planned_within pipes c.deref-2.result.now
    (planned_heads pipes c.args.plan.now c.deref-2.result.now c.requires.plan (c.deref-2.ensures.value ∙ c.in_ok-heads.ensures))

pub lanes_of-requires-clause-places : goal.lanes_of-requires-clause-places
lanes_of-requires-clause-places g c =
    let pipes = c.args.graph.now.pipes in
    planned_within pipes c.deref-3.result.now
    (planned_heads pipes c.args.plan.now c.deref-3.result.now c.requires.plan (c.deref-3.ensures.value ∙ c.in_ok-heads.ensures))

pub end_lanes-requires : goal.end_lanes-requires
end_lanes-requires g c = nothing_waits c.args.graph.now.pipes c.deref-3.result.now c.in_ok-lanes.lanes.items c.in_ok-lanes.ensures

pub returns-clause-tables : goal.returns-clause-tables
returns-clause-tables g c =
    let pipes = c.args.graph.now.pipes in
    let plan = c.args.plan.now in
    let are = planned_heads pipes plan c.in_ok-heads.heads.items c.requires.plan c.in_ok-heads.ensures in
    let one = c.deref.ensures.value ∙ are in
    let two = c.deref-2.ensures.value ∙ are in
    let three = c.deref-3.ensures.value ∙ are in
    let count : c.len-count.result ≡ length (heads pipes) =
    c.len-count.ensures ∙ ap (λ (p : Plan). length p.strands) c.requires.plan ∙ length-map (heads pipes) (plan_strand pipes) in
    record {
      head_places = are;
      lanes = subst (λ (own : List ℕ). AreEmptyLanes pipes own (length own) c.in_ok-lanes.lanes.items) three c.in_ok-lanes.ensures;
      filler_count = c.in_ok-fillers.ensures.count ∙ ap length two;
      fillers = rw two at c.in_ok-fillers.ensures.fillers;
      number_count = c.in_ok-numbers.ensures.count ∙ c.len.ensures;
      numbers = rw one at c.in_ok-numbers.ensures.numbers;
      pump_count = c.in_ok-pumps.ensures.count ∙ count;
      pumps = rw count at c.in_ok-pumps.ensures.ready;
      room = rw (sym count) c.in-Ok.ensures.capacity;
    }
