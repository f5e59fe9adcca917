use Rattle.std.proofs.Common.{◌≡◌, take}
use Rattle.up_model.specs.Packet.{joined}
use Rattle.up_model.proofs.plain_ends.joined.Given as goal

abbrev pub invariant-loop-place : goal.invariant-loop-place
invariant-loop-place l = l.bytes ≡ joined (take l.place l.flow)
