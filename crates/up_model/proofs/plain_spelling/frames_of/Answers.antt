use Rattle.std.proofs.Common.{[], ◌∙◌}
use Rattle.up_model.proofs.PlainSpelling.{one_more}
use Rattle.up_model.specs.FrameSpelling.{frame_of}
use Rattle.up_model.proofs.plain_spelling.frames_of.Goals as goal

pub loop-place-preserved : goal.loop-place-preserved
loop-place-preserved c =
    c.in_ok-put_frame.ensures
    ∙ one_more frame_of c.args.flow.now c.loop-place.place c.at.result.now [] c.loop-place.bytes c.at.ensures c.loop-place.invariant
