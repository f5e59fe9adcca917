use Rattle.std.proofs.Common.{◌≡◌, map, subst}
use Rattle.up_model.specs.Kinds.{work_of}
use Rattle.up_model.specs.Packet.{Flow}
use Rattle.up_model.specs.Work.{no_work}
use Rattle.up_model.specs.declared.kind.Kind.{Kind}
use Rattle.up_shape.proofs.Trials.{of_both, came_of_work}
use Rattle.up_shape.specs.Growth.{Grew}
use Rattle.up_shape.specs.Trials.{kind_with, all_bytes}
use Rattle.up_shape.specs.VecPackets.{plain_of}
use Rattle.up_shape.proofs.trial.tried.Goals as goal

pub returns-in-Ok-run_flow : goal.returns-in-Ok-run_flow
returns-in-Ok-run_flow g c =
    let of_work : Kind → Flow → Type 0 = λ kind flow. Grew plain_of c.new-out.result c.run_flow.new.out no_work (work_of kind flow) in
    let grew : of_work (g.M.Module.kind c.set_all.new.m) (map plain_of c.in-Ok-flow_of.flow) = c.in-Ok-run_flow.ensures.grew in
    let of_kind = subst (λ kind. of_work kind (map plain_of c.in-Ok-flow_of.flow)) c.in-Ok.ensures.kind grew in
    let of_flow = subst (of_work (kind_with c.args.trial.now.set.now (g.M.Module.kind c.args.m))) c.in-Ok-flow_of.ensures.flow of_kind in
    record {
      came =
          of_both _ _ _ c.came_of.result
          (λ came. came_of_work _ (all_bytes c.args.trial.now.taken.now) _ _ came c.new-out.ensures.packets c.new-out.ensures.tally of_flow)
          c.came_of.ensures.put c.came_of.ensures.sums;
    }
