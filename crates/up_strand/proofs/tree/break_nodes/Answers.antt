use Rattle.up_strand.proofs.Trees.{are_broken}
use Rattle.up_strand.proofs.tree.break_nodes.Goals as goal

pub returns-clause-took : goal.returns-clause-took
returns-clause-took g c = record { stand = c.break_all.ensures.stand; placed = c.break_all.ensures.placed; count = c.break_all.auto.nodes }

pub returns-clause-are : goal.returns-clause-are
returns-clause-are g c short outcome other are =
    let broke = c.break_all.ensures in
    are_broken c.args.nodes.now c.break_all.new.nodes short outcome c.break_all.auto.nodes broke.placed broke.ended broke.out broke.short broke.whole other are
