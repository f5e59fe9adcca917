use Rattle.std.proofs.Common.{ap, sym, ◌∙◌, ◌++◌, ◌∷◌, []}
use Rattle.up_engine.proofs.NetTables.{mapped_next}
use Rattle.up_engine.proofs.tables.heads_of.Goals as goal

pub loop-i-preserved : goal.loop-i-preserved
loop-i-preserved c =
    c.in_ok-push.ensures.items ∙ ap (λ l. l ++ c.at.result.now.head ∷ []) c.loop-i.invariant
    ∙ sym (mapped_next (λ strand. strand.head) c.args.plan.now.strands c.loop-i.i c.at.result.now c.at.ensures)
