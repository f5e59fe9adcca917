use Rattle.std.proofs.Common.{[], None, refl, ◌∙◌}
use Rattle.up_strand.proofs.Gives.{placed_on}
use Rattle.up_strand.proofs.Lists.{pairs_on}
use Rattle.up_strand.proofs.Passing.{stand_on}
use Rattle.up_strand.proofs.Trees.{are_going, are_taking}
use Rattle.up_strand.specs.Nodes.{IsAsPlaced}
use Rattle.up_strand.proofs.tree.feed_nodes.Goals as goal

pub feed_head-requires-clause-taking : goal.feed_head-requires-clause-taking
feed_head-requires-clause-taking g c = are_taking _ _ c.requires.are

pub returns-in-Ok-clause-took : goal.returns-in-Ok-clause-took
returns-in-Ok-clause-took g c =
    record { stand = c.feed_head.ensures.stand; placed = c.feed_head.ensures.placed; count = c.feed_head.auto.nodes }

pub returns-in-Ok-clause-are : goal.returns-in-Ok-clause-are
returns-in-Ok-clause-are g c =
    are_going c.feed_head.new.nodes c.in-Ok.ensures.settled (c.in-Ok.ensures.sound (c.requires.are.going refl refl)) c.feed_head.ensures.taking

pub returns-in-Err-clause-took : goal.returns-in-Err-clause-took
returns-in-Err-clause-took g c = record {
  stand = stand_on g.P.LocalPacket.plain g.K.Sink.state c.args.nodes.now c.feed_head.new.nodes c.give_up_all.new.nodes _ [] c.feed_head.auto.nodes
      c.feed_head.ensures.placed c.feed_head.ensures.stand c.give_up_all.ensures.took.stand;
  placed = pairs_on IsAsPlaced IsAsPlaced IsAsPlaced c.args.nodes.now c.feed_head.new.nodes c.give_up_all.new.nodes c.feed_head.auto.nodes placed_on
      c.feed_head.ensures.placed c.give_up_all.ensures.took.placed;
  count = c.give_up_all.auto.nodes ∙ c.feed_head.auto.nodes;
}

pub returns-in-Err-clause-are : goal.returns-in-Err-clause-are
returns-in-Err-clause-are g c = c.give_up_all.ensures.are None (λ other. c.feed_head.ensures.taking)
