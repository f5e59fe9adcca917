use Rattle.std.proofs.Common.{[], map, subst}
use Rattle.std.proofs.lemmas.Result.{on_ok_weaker, on_err_weaker}
use Rattle.up_model.specs.Kinds.{settled_work, work_of}
use Rattle.up_model.specs.declared.kind.Kind.{Kind}
use Rattle.up_shape.proofs.WholeFlows.{ended, ended_in_part, begun}
use Rattle.up_shape.specs.Growth.{Grew, GrewInPart}
use Rattle.up_shape.proofs.flow.run_flow.Goals as goal

pub returns-in-Ok-clause-grew : goal.returns-in-Ok-clause-grew
returns-in-Ok-clause-grew g c =
    let plain = g.P.LocalPacket.plain in
    let flow = map plain c.args.flow in
    let of_kind : Kind → Type 0 = λ kind. Grew plain c.feed_all.new.out c.finish.new.out (settled_work kind flow) (work_of kind flow) in
    on_ok_weaker c.finish.result
    (λ owed. ended plain _ (g.met.M.Module.within c.args.m) flow _ _ _ (c.in-Ok.ensures.grew [] c.requires.fresh) (subst of_kind c.in-Ok.ensures.kind owed))
    (c.finish.ensures.grew flow (c.in-Ok.ensures.stands [] c.requires.fresh))

pub returns-in-Ok-clause-in_part : goal.returns-in-Ok-clause-in_part
returns-in-Ok-clause-in_part g c =
    let plain = g.P.LocalPacket.plain in
    let flow = map plain c.args.flow in
    let of_kind : Kind → Type 0 = λ kind. GrewInPart plain c.feed_all.new.out c.finish.new.out (settled_work kind flow) (work_of kind flow) in
    on_err_weaker c.finish.result
    (λ owed. ended_in_part plain _ (g.met.M.Module.within c.args.m) flow _ _ _ (c.in-Ok.ensures.grew [] c.requires.fresh) (subst of_kind c.in-Ok.ensures.kind owed))
    (c.finish.ensures.in_part flow (c.in-Ok.ensures.stands [] c.requires.fresh))

pub returns-in-Err-clause-in_part : goal.returns-in-Err-clause-in_part
returns-in-Err-clause-in_part g c =
    begun g.P.LocalPacket.plain _ (g.met.M.Module.within c.args.m) (map g.P.LocalPacket.plain c.args.flow) _ _ (c.in-Err.ensures.in_part [] c.requires.fresh)
