use Rattle.std.proofs.Common.{length}
use Rattle.up_shape.proofs.trial.give_up_outbox.Given as goal

abbrev pub decreases-loop-packet : goal.decreases-loop-packet
decreases-loop-packet l = length l.out.packets
