use Rattle.up_trials.proofs.Trials.{is_own}
use Rattle.up_trials.proofs.outcome_tests.told_of.Goals as goal

pub outcome-requires : goal.outcome-requires
outcome-requires g c =
    let was = c.requires in
    record {
      within = (was.0, was.1, is_own _ _ _ _ _ _ _ was.2 was.3 c.own_pipes-own.ensures.pipes c.at-pipe.ensures);
    }
