use Rattle.std.proofs.Common.{◌<◌, ◌∙◌, ap, inr, rules, sym}
use Rattle.std.specs.FinMap as map
use Rattle.up_base.specs.Name.{is_name}
use Rattle.up_model.specs.declared.limits.TheConstants.{MAX_ATTRS}
use Rattle.up_trials.proofs.plain_copies.give_attr.Goals as goal

pub returns-clause-legal : goal.returns-clause-legal
returns-clause-legal g c =
    let plain = g.P.LocalPacket.plain in
    let room : map.len (plain c.args.p.now).attrs < MAX_ATTRS = search rules in
    rw c.in-Ok.ensures.set
    (c.packets_stay_legal.ensures.set (plain c.args.p.now) _ _ c.requires.legal (ap is_name (sym c.bytes.ensures.bytes) ∙ c.bytes.ensures.name) (search rules) (inr room))
