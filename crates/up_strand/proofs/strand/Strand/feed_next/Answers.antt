use Rattle.std.proofs.Common.{Bool, subst}
use Rattle.up_strand.proofs.Trees.{are_where}
use Rattle.up_strand.specs.Steps.{TreeTook, taken_where}
use Rattle.up_strand.proofs.strand.Strand.feed_next.Goals as goal

pub returns-clause-went : goal.returns-clause-went
returns-clause-went g c =
    let went = c.feed.ensures.went in
    record {
      took = subst (λ (b : Bool). TreeTook g.P.LocalPacket.plain g.K.Sink.state c.args.self.now.tree c.feed.new.self.tree (taken_where b (g.P.LocalPacket.plain c.args.p)))
          c.requires.long went.took;
      is = are_where _ _ went.is;
      fitting = went.fitting;
    }
