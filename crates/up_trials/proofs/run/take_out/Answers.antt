use Rattle.up_trials.proofs.Trials.{all_fit}
use Rattle.up_trials.proofs.run.take_out.Goals as goal

pub returns : goal.returns
returns g =
    let was = g.requires.work.stands in
    record {
      work = record {
        stands = (_, (g.next_out.ensures.gave was.0 g.args.lane g.requires.want was.1).stands);
        holds = all_fit _ _;
      };
    }
