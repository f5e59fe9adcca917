use Rattle.up_strand.specs.Strands.{StandsForSome, StrandFits}
use Rattle.upipe_bench.proofs.run.run.Given as goal

abbrev pub invariant-loop : goal.invariant-loop
invariant-loop g l =
    record {
      stands : StandsForSome g.P.LocalPacket.plain g.S.Source.state g.K.Sink.state l.strand;
      family : StrandFits l.strand g.P.LocalPacket.fits (g.P.Store.Stash.state l.s).family;
    }
