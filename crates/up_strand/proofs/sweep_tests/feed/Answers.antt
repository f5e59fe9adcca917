use Rattle.up_strand.proofs.Sweeping.{swept_on}
use Rattle.up_strand.proofs.sweep_tests.feed.Goals as goal

pub returns-clause-swept : goal.returns-clause-swept
returns-clause-swept g c =
    swept_on c.args.order.now c.args.nodes.now c.feed_head.new.nodes c.feed_head.auto.nodes c.feed_head.ensures.placed c.requires.swept
