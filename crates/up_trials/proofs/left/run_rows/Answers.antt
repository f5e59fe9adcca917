use Rattle.up_trials.proofs.left.run_rows.Goals as goal

pub run_source-requires : goal.run_source-requires
run_source-requires g c = record {
  work = c.strand-strand.ensures.work _;
}
