use Rattle.up_engine.proofs.StrandParts.{puts_parts}
use Rattle.up_engine.proofs.parts.put_back.Goals as goal

pub returns : goal.returns
returns g c =
    puts_parts c.args.graph.now.pipes c.args.own.now.head c.args.own.now.pipes c.requires.strand c.args.table.now c.put_source.new.table c.put_sinks.new.table
    c.args.parts.source c.args.parts.sinks c.requires.source c.requires.table c.requires.none (rw c.from.ensures at c.put_source.ensures) c.put_sinks.ensures
