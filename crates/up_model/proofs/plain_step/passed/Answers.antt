use Rattle.std.proofs.Common.{◌≡◌, ◌++◌}
use Rattle.std.specs.Option.{option_to_list}
use Rattle.up_model.specs.Packetwise.{put_of}
use Rattle.up_model.proofs.PlainSteps.{passed_next}
use Rattle.up_model.proofs.plain_step.passed.Goals as goal

pub loop-place-preserved : goal.loop-place-preserved
loop-place-preserved g c =
    let put : c.put_out.new.put ≡ c.loop-place.put ++ option_to_list (put_of c.in_ok-verdict.field-0) = c.in_ok-put_out.ensures in
    let next = passed_next (g.S.PlainStep.step c.args.step.now) c.args.flow.now c.loop-place.put c.loop-place.place c.at.result.now c.at.ensures c.loop-place.invariant in
    rw (put, c.in_ok-verdict.ensures) next
