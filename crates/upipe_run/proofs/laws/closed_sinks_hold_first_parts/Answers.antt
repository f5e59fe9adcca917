use Rattle.upipe_run.proofs.LeftFirst.{leaves_first}
use Rattle.upipe_run.proofs.laws.closed_sinks_hold_first_parts.Goals as goal

pub returns : goal.returns
returns c = leaves_first
