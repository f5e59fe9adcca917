use Rattle.up_model.proofs.FrameStreams.{no_other}
use Rattle.up_model.proofs.frame_laws.no_frame_begins_another.Goals as goal

pub returns : goal.returns
returns c = no_other
