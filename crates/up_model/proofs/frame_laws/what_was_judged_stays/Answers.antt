use Rattle.up_model.proofs.FrameMoreBytes.{stays_broken}
use Rattle.up_model.proofs.FrameRests.{whole_of_more, rest_of_more}
use Rattle.up_model.proofs.frame_laws.what_was_judged_stays.Goals as goal

pub returns-clause-frames : goal.returns-clause-frames
returns-clause-frames c = whole_of_more

pub returns-clause-rest : goal.returns-clause-rest
returns-clause-rest c = rest_of_more

pub returns-clause-broken : goal.returns-clause-broken
returns-clause-broken c = stays_broken
