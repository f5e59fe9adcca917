use Rattle.std.proofs.Common.{◌≡◌, ◌++◌, take}
use Rattle.std.specs.FinMap.{entries}
use Rattle.std.specs.List.{flat_map}
use Rattle.up_model.specs.FrameSpelling.{attribute_bytes}
use Rattle.up_model.proofs.plain_spelling.put_attributes.Given as goal

abbrev pub invariant-loop-place : goal.invariant-loop-place
invariant-loop-place l = l.out ≡ l.initial.out ++ flat_map attribute_bytes (take l.place (entries l.attrs))
