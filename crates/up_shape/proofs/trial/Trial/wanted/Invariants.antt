use Rattle.std.proofs.Common.{◌≡◌, ◌++◌, drop}
use Rattle.up_shape.specs.Trials.{all_bytes, copies}
use Rattle.up_shape.proofs.trial.Trial.wanted.Given as goal

abbrev pub invariant-loop-bytes : goal.invariant-loop-bytes
invariant-loop-bytes l = copies l.put ++ all_bytes (drop l.bytes-index l.bytes-items) ≡ all_bytes l.bytes-items
