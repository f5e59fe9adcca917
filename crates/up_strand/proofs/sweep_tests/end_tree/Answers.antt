use Rattle.up_strand.proofs.Sweeping.{swept_on}
use Rattle.up_strand.proofs.sweep_tests.end_tree.Goals as goal

pub feed-requires-clause-swept : goal.feed-requires-clause-swept
feed-requires-clause-swept g c =
    swept_on c.args.order.now c.args.nodes.now c.fall.new.nodes c.fall.auto.nodes c.fall.ensures.placed c.requires.swept

pub feed-requires-clause-stand : goal.feed-requires-clause-stand
feed-requires-clause-stand g c = (_, (c.fall.ensures.stand c.requires.stand.0 c.requires.stand.1).stand)
