use Rattle.std.proofs.Common.{[], Some, refl, ◌∙◌}
use Rattle.up_model.specs.declared.outcome.Outcome.TheVariants as outcomes
use Rattle.up_strand.proofs.Gives.{placed_on}
use Rattle.up_strand.proofs.Lists.{pairs_on}
use Rattle.up_strand.proofs.Passing.{stand_on}
use Rattle.up_strand.proofs.Trees.{are_done, are_taking}
use Rattle.up_strand.specs.Nodes.{IsAsPlaced}
use Rattle.up_strand.proofs.tree.end_nodes.Goals as goal

pub end_all-requires-clause-taking : goal.end_all-requires-clause-taking
end_all-requires-clause-taking g c = are_taking _ _ c.requires.are

pub returns-in-Ok-clause-took : goal.returns-in-Ok-clause-took
returns-in-Ok-clause-took g c =
    record { stand = c.end_all.ensures.stand; placed = c.end_all.ensures.placed; count = c.end_all.auto.nodes }

pub returns-in-Ok-clause-are : goal.returns-in-Ok-clause-are
returns-in-Ok-clause-are g c =
    are_done c.end_all.new.nodes c.in-Ok.ensures.settled (c.in-Ok.ensures.done (c.requires.are.going refl refl))

pub returns-in-Err-clause-took : goal.returns-in-Err-clause-took
returns-in-Err-clause-took g c = record {
  stand = stand_on g.P.LocalPacket.plain g.K.Sink.state c.args.nodes.now c.end_all.new.nodes c.give_up_all.new.nodes [] [] c.end_all.auto.nodes
      c.end_all.ensures.placed c.end_all.ensures.stand c.give_up_all.ensures.took.stand;
  placed = pairs_on IsAsPlaced IsAsPlaced IsAsPlaced c.args.nodes.now c.end_all.new.nodes c.give_up_all.new.nodes c.end_all.auto.nodes placed_on
      c.end_all.ensures.placed c.give_up_all.ensures.took.placed;
  count = c.give_up_all.auto.nodes ∙ c.end_all.auto.nodes;
}

pub returns-in-Err-clause-are : goal.returns-in-Err-clause-are
returns-in-Err-clause-are g c = c.give_up_all.ensures.are (Some outcomes.Whole) (λ other. absurd (other refl))
