use Rattle.std.proofs.Common.{◌<◌, ◌∙◌, ap, inr, rules, sym}
use Rattle.std.specs.FinMap as map
use Rattle.up_base.specs.Name.{is_name}
use Rattle.up_model.specs.declared.limits.TheConstants.{MAX_ATTRS}
use Rattle.up_trials.proofs.lane_flags.add_flag.Goals as goal

pub returns : goal.returns
returns g c = λ legal.
    let room : map.len c.args.packet.now.attrs < MAX_ATTRS = search rules in
    rw c.in-Ok.ensures.set
    (c.packets_stay_legal.ensures.set c.args.packet.now _ _ legal (ap is_name (sym c.bytes.ensures.bytes) ∙ c.bytes.ensures.name) tt (inr room))
