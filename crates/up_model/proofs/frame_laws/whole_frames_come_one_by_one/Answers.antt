use Rattle.std.proofs.Common.{ap}
use Rattle.up_model.proofs.FrameStreams.{one_by_one, all_back, neither}
use Rattle.up_model.specs.FrameSpelling.{frames_of}
use Rattle.up_model.specs.FrameStreams.{Stream}
use Rattle.up_model.proofs.frame_laws.whole_frames_come_one_by_one.Goals as goal

pub returns-clause-frames : goal.returns-clause-frames
returns-clause-frames c packet bytes legal = ap (λ (s : Stream). s.flow) (one_by_one packet bytes legal)

pub returns-clause-rest : goal.returns-clause-rest
returns-clause-rest c packet bytes legal = ap (λ (s : Stream). s.rest) (one_by_one packet bytes legal)

pub returns-clause-all : goal.returns-clause-all
returns-clause-all c flow legal =
    let back = all_back flow legal in
    (ap (λ (s : Stream). s.flow) back, ap (λ (s : Stream). s.rest) back)

pub returns-clause-neither : goal.returns-clause-neither
returns-clause-neither c flow legal = neither (frames_of flow) (ap (λ (s : Stream). s.rest) (all_back flow legal))
