use Rattle.up_trials.proofs.run.run_source.Given as goal
use Rattle.up_trials.specs.Standing.{IsAtWork}

abbrev pub invariant-loop : goal.invariant-loop
invariant-loop g l = IsAtWork g.P.LocalPacket.plain g.P.LocalPacket.fits (g.P.Store.Stash.state l.s).family l.strand
