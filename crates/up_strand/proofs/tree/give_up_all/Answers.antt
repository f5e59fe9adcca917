use Rattle.up_strand.proofs.Trees.{are_fallen}
use Rattle.up_strand.proofs.tree.give_up_all.Goals as goal

pub returns-clause-took : goal.returns-clause-took
returns-clause-took g c = record { stand = c.fall.ensures.stand; placed = c.fall.ensures.placed; count = c.fall.auto.nodes }

pub returns-clause-are : goal.returns-clause-are
returns-clause-are g c ended taking =
    are_fallen c.args.nodes.now c.fall.new.nodes ended c.fall.auto.nodes c.fall.ensures.placed c.fall.ensures.given_up (λ other. c.fall.ensures.taking (taking other))
