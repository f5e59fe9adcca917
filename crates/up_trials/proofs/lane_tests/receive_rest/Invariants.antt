use Rattle.std.proofs.Common.{◌≡◌, length}
use Rattle.up_trials.proofs.lane_tests.receive_rest.Given as goal
use Rattle.up_trials.specs.Standing.{IsAtWork, CanBeTaken}

abbrev pub invariant-loop-strand : goal.invariant-loop-strand
invariant-loop-strand g l =
    let plain = g.P.LocalPacket.plain in
    let fits = g.P.LocalPacket.fits in
    let family = (g.P.Store.Stash.state l.s).family in
    record {
      work : IsAtWork plain fits family l.strand;
      items : CanBeTaken plain fits family l.lane.items;
      same : family ≡ (g.P.Store.Stash.state l.initial.s).family;
    }

abbrev pub decreases-loop-strand : goal.decreases-loop-strand
decreases-loop-strand g l = length l.lane.items
