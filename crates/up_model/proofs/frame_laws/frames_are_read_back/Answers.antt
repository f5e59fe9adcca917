use Rattle.up_model.proofs.FramePackets.{packet_takes, packet_again}
use Rattle.up_model.proofs.frame_laws.frames_are_read_back.Goals as goal

pub returns-clause-again : goal.returns-clause-again
returns-clause-again c = packet_again

pub returns-clause-spelled : goal.returns-clause-spelled
returns-clause-spelled c bytes packet rest below read =
    let frame = packet_takes bytes (packet, rest) below read in
    (frame.legal, frame.takes.parts)
