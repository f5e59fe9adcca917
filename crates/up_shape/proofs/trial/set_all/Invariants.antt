use Rattle.std.proofs.Common.{◌≡◌, [], drop}
use Rattle.up_shape.specs.Trials.{kind_with}
use Rattle.up_shape.proofs.trial.set_all.Given as goal

abbrev pub invariant-loop-option : goal.invariant-loop-option
invariant-loop-option g l =
    g.M.Module.stands l.m []
    × (kind_with (drop l.option-index l.options) (g.M.Module.kind l.m) ≡ kind_with l.options (g.M.Module.kind l.initial.m))
