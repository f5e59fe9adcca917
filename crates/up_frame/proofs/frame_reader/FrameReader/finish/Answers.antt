use Rattle.std.proofs.Common.{sym, ◌∙◌}
use Rattle.up_frame.proofs.frame_reader.FrameReader.finish.Goals as goal

pub returns-in-Some : goal.returns-in-Some
returns-in-Some c = record { cut = λ bytes given stands. sym (c.cut.ensures bytes given stands) ∙ c.in-Some.is }

pub returns : goal.returns
returns c = record { cut = λ bytes given stands. sym (c.cut.ensures bytes given stands) ∙ c.in-None.is }
