use Rattle.up_trials.proofs.lane_tests.run_until_full.Given as goal
use Rattle.up_trials.specs.Standing.{IsAtWork, CanBeTaken}

abbrev pub invariant-loop : goal.invariant-loop
invariant-loop g l =
    let plain = g.P.LocalPacket.plain in
    let fits = g.P.LocalPacket.fits in
    let family = (g.P.Store.Stash.state l.s).family in
    record {
      first : IsAtWork plain fits family l.first;
      second : IsAtWork plain fits family l.second;
      items : CanBeTaken plain fits family l.lane.items;
    }
