use Rattle.std.proofs.Common.{ap, ◌∙◌}
use Rattle.up_engine.proofs.StrandParts.{takes_parts}
use Rattle.up_engine.specs.Parts.{sinks_at}
use Rattle.up_engine.proofs.parts.take_parts.Goals as goal

pub returns-clause-taken : goal.returns-clause-taken
returns-clause-taken g c =
    let (pipes, strand, ends, size) = c.requires.strand in
    let places = c.args.own.now.pipes in
    let left = rw c.from.ensures at c.take_source-source.ensures.left in
    takes_parts pipes c.args.own.now.head places strand c.args.table.now c.take_sinks.new.table size ends
    (rw left at c.take_sinks.ensures.left)
    (record { source = c.take_source-source.result; sinks = c.into_list.result })
    (rw c.from.ensures at c.take_source-source.ensures.source)
    (c.into_list.ensures ∙ c.take_sinks.ensures.given ∙ ap (λ t. sinks_at t places) left)
