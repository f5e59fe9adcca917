use Rattle.std.proofs.Common.{length, ap, sym, arith}
use Rattle.up_model.proofs.FrameStreams.{all_within, only_one}
use Rattle.up_model.specs.FrameStreams.{Stream}
use Rattle.up_model.proofs.frame_laws.whole_frames_are_all.Goals as goal

pub returns-clause-framed : goal.returns-clause-framed
returns-clause-framed c bytes below = (all_within (length bytes) bytes (omega arith) below).framed

pub returns-clause-none : goal.returns-clause-none
returns-clause-none c bytes below = (all_within (length bytes) bytes (omega arith) below).none

pub returns-clause-only : goal.returns-clause-only
returns-clause-only c bytes flow rest below framed none =
    let same = sym (only_one flow bytes rest below framed none) in
    (ap (λ (s : Stream). s.flow) same, ap (λ (s : Stream). s.rest) same)
