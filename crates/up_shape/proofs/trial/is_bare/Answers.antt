use Rattle.std.proofs.Common.{◌≤◌, length, sym, ◌∙◌}
use Rattle.std.proofs.lemmas.Bool.{leb-true}
use Rattle.up_model.specs.declared.limits.TheConstants.{MAX_PACKET}
use Rattle.up_shape.proofs.Trials.{bare_is_legal}
use Rattle.up_shape.proofs.trial.is_bare.Goals as goal

pub returns-then-attr_count-eq0-clause-legal : goal.returns-then-attr_count-eq0-clause-legal
returns-then-attr_count-eq0-clause-legal g c small =
    let few : length (g.P.LocalPacket.plain c.args.p.now).bytes ≤ MAX_PACKET = rw c.size.ensures at (leb-true _ _ small) in
    bare_is_legal _ (sym c.attr_count.ensures ∙ c.if-attr_count-eq0.true) few
