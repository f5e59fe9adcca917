use Rattle.std.proofs.Common.{rules, ◌≡◌, take, arith}
use Rattle.std.proofs.lemmas.List.Elements.{All-more}
use Rattle.std.proofs.lemmas.List.{take_all}
use Rattle.std.proofs.lemmas.Option.{get_or_from_slice_get}
use Rattle.up_model.specs.WellFormed.{IsPipe}
use Rattle.up_model.proofs.well_formed.are_pipes.Goals as goal

pub loop-place-preserved : goal.loop-place-preserved
loop-place-preserved c =
    let pipes = c.args.pipes.now in
    let place = c.loop-place.place in
    let pipe = c.at.result.now in
    let here = get_or_from_slice_get pipes place pipe pipe c.at.ensures in
    let is_pipe : IsPipe pipe = search rules in
    All-more IsPipe pipes place pipe (omega arith) c.loop-place.invariant (rw here is_pipe)

pub returns : goal.returns
returns c =
    let pipes = c.args.pipes.now in
    let all : take c.loop-place.place pipes ≡ pipes = take_all _ _ (omega arith) in
    (λ yes. rw all at c.loop-place.invariant, search rules)
