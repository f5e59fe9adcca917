use Rattle.std.proofs.Common.{refl}
use Rattle.up_frame.proofs.GivenFrames.{piece_added}
use Rattle.up_frame.proofs.frame_reader.FrameReader.add.Goals as goal

pub returns-clause-added : goal.returns-clause-added
returns-clause-added c bytes given stands =
    piece_added c.args.self.now _ c.args.piece.now bytes given c.requires.whole c.in_ok-extend_from_slice.ensures.items refl refl refl refl stands
