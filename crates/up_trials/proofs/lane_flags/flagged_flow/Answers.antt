use Rattle.std.proofs.Common.{subst}
use Rattle.std.proofs.lemmas.List.Elements.{All-push}
use Rattle.std.proofs.lemmas.Option.{get_or_from_slice_get, slice_get_within}
use Rattle.up_model.specs.Packet.{IsLegal}
use Rattle.up_trials.proofs.lane_flags.flagged_flow.Goals as goal

pub loop-k-preserved : goal.loop-k-preserved
loop-k-preserved g c =
    let packet = c.at.result.now in
    let within = slice_get_within c.args.flow.now c.loop-k.k packet c.at.ensures in
    let legal : IsLegal packet =
    subst IsLegal (get_or_from_slice_get c.args.flow.now c.loop-k.k packet packet c.at.ensures)
    (c.requires c.loop-k.k packet within) in
    rw c.in-Ok.ensures.added
    (All-push IsLegal c.loop-k.came c.flagged-packet.result c.loop-k.invariant (c.flagged-packet.ensures legal))
