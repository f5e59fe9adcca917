use Rattle.up_trials.proofs.run.give_all.Given as goal
use Rattle.up_trials.specs.Standing.{IsAtWork}

abbrev pub invariant-loop-item : goal.invariant-loop-item
invariant-loop-item g l = IsAtWork g.P.LocalPacket.plain g.P.LocalPacket.fits (g.P.Store.Stash.state l.s).family l.strand
