use Rattle.up_trials.proofs.Trials.{all_fit}
use Rattle.up_trials.proofs.outcome_tests.a_fault_of_its_own_is_told_at_once_of_a_sink_and_of_a_source.Goals as goal

pub finish-left-requires : goal.finish-left-requires
finish-left-requires g c =
    let was = c.read_more-2.ensures.of in
    record {
      stands = (was.0, was.1);
      holds = all_fit _ _;
    }
