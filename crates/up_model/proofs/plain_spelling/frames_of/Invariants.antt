use Rattle.std.proofs.Common.{◌≡◌, take}
use Rattle.up_model.specs.FrameSpelling.{frames_of}
use Rattle.up_model.proofs.plain_spelling.frames_of.Given as goal

abbrev pub invariant-loop-place : goal.invariant-loop-place
invariant-loop-place l = l.bytes ≡ frames_of (take l.place l.flow)
