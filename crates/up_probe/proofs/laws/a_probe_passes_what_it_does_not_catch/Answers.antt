use Rattle.std.proofs.Common.{sym, ap, ◌∙◌}
use Rattle.up_model.specs.Tallies.{nothing, stopped, uncaught}
use Rattle.up_probe.proofs.Passed.{behind_probe, nothing-plus, nothing_behind}
use Rattle.up_probe.proofs.laws.a_probe_passes_what_it_does_not_catch.Goals as goal
use Rattle.up_probe.specs.Thrown.{events_sums}

pub returns : goal.returns
returns c set events old new one none thrown =
    behind_probe set events nothing old new one (none ∙ sym (nothing_behind set)) thrown
    ∙ ap (λ s. uncaught set (stopped s)) (nothing-plus (events_sums events))
