use Rattle.up_trials.proofs.Trials.{all_fit}
use Rattle.up_trials.proofs.outcome_tests.what_a_pipe_came_to_is_told_at_any_time.Goals as goal

pub finish-left-requires : goal.finish-left-requires
finish-left-requires g c =
    let was = c.take_end.ensures.of in
    record {
      stands = (was.0, was.1);
      holds = all_fit _ _;
    }
