use Rattle.std.proofs.Common.{◌≡◌, ◌++◌, take}
use Rattle.std.specs.FinMap.{entries}
use Rattle.std.specs.List.{flat_map}
use Rattle.up_model.specs.FrameSpelling.{attribute_bytes}
use Rattle.up_frame.proofs.writing.put_attributes.Given as goal

abbrev pub invariant-loop-i : goal.invariant-loop-i
invariant-loop-i g l = l.out ≡ l.initial.out ++ flat_map attribute_bytes (take l.i (entries (g.P.LocalPacket.plain l.p).attrs))
