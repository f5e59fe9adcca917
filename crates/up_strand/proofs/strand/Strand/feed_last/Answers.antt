use Rattle.std.proofs.Common.{Bool, [], ◌∷◌, subst}
use Rattle.up_strand.proofs.Trees.{still_going, tree_on}
use Rattle.up_strand.specs.Steps.{TreeTook, taken_where}
use Rattle.up_strand.proofs.strand.Strand.feed_last.Goals as goal

pub end-requires : goal.end-requires
end-requires g c =
    record {
      going = still_going g.P.LocalPacket.plain g.K.Sink.state g.P.LocalPacket.fits _ _ c.args.self.now.tree c.feed.new.self.tree _ c.feed.ensures.store.same
          c.requires.going c.feed.ensures.went;
    }

pub returns-clause-went : goal.returns-clause-went
returns-clause-went g c =
    let fed = subst (λ (b : Bool). TreeTook g.P.LocalPacket.plain g.K.Sink.state c.args.self.now.tree c.feed.new.self.tree (taken_where b (g.P.LocalPacket.plain c.args.p)))
    c.requires.long c.feed.ensures.went.took in
    record {
      took = tree_on g.P.LocalPacket.plain g.K.Sink.state c.args.self.now.tree c.feed.new.self.tree c.end.new.self.tree (g.P.LocalPacket.plain c.args.p ∷ []) []
          fed c.end.ensures.went.took;
      is = c.end.ensures.went.is;
      fitting = rw c.feed.ensures.store.same at c.end.ensures.went.fitting;
    }
