use Rattle.std.proofs.Common.{◌≡◌, ◌++◌, map, length}
use Rattle.up_shape.specs.Trials.{copies}
use Rattle.up_shape.specs.VecPackets.{plain_of}
use Rattle.up_shape.proofs.trial.came_of.Given as goal

abbrev pub invariant-loop-packet : goal.invariant-loop-packet
invariant-loop-packet l =
    copies l.put ++ map (λ p. (plain_of p).bytes) l.out.packets ≡ map (λ p. (plain_of p).bytes) l.initial.out.packets

abbrev pub decreases-loop-packet : goal.decreases-loop-packet
decreases-loop-packet l = length l.out.packets
