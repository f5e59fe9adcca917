use Rattle.up_trials.proofs.run.take_one.Goals as goal

pub returns : goal.returns
returns g c =
    let was = c.requires.work.stands in
    record {
      work = record {
        stands = (_, (c.next_out-item.ensures.gave was.0 c.args.lane c.requires.want was.1).stands);
        holds = rw c.copy_item-item.ensures.family (c.next_out-item.ensures.family _ c.requires.work.holds).0;
      };
    }
