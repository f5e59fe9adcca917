use Rattle.std.proofs.Common.{◌++◌}
use Rattle.up_model.specs.FrameStreams.{whole_frames}
use Rattle.upipe_bench.proofs.pieces.Reading.feed.Goals as goal

pub returns-in-Ok : goal.returns-in-Ok
returns-in-Ok c bytes read =
    c.take_all.ensures (bytes ++ c.args.piece.now) (whole_frames bytes) ((c.in-Ok.ensures.fed bytes (whole_frames bytes) read.0).0, read.1)
