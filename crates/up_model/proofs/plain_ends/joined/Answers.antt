use Rattle.std.proofs.Common.{◌≡◌, ◌++◌, rules}
use Rattle.up_model.proofs.PlainSteps.{joined_next}
use Rattle.up_model.proofs.plain_ends.joined.Goals as goal

pub loop-place-preserved : goal.loop-place-preserved
loop-place-preserved c =
    let added : c.append.new.self ≡ c.loop-place.bytes ++ c.at.result.now.bytes = search rules in
    rw added (joined_next c.args.flow.now c.loop-place.bytes c.loop-place.place c.at.result.now c.at.ensures c.loop-place.invariant)
