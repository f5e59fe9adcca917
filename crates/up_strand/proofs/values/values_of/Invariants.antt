use Rattle.std.proofs.Common.{◌≡◌, map, take}
use Rattle.up_strand.proofs.values.values_of.Given as goal
use Rattle.up_strand.specs.Values.{value_at}

abbrev pub invariant-loop-place : goal.invariant-loop-place
invariant-loop-place l =
    l.values ≡ map (value_at l.pipes) (take l.place-index l.places)
