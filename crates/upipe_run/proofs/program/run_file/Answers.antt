use Rattle.std.proofs.Common.{inr, refl}
use Rattle.up_engine.specs.declared.run_outcome.RunOutcome.TheVariants as runs
use Rattle.upipe_run.proofs.RanFiles.{causes_ran, causes_refused, others_ran, ran_whole, whole_ran}
use Rattle.upipe_run.proofs.Texts.{has_graph_told}
use Rattle.upipe_run.proofs.program.run_file.Goals as goal

pub returns-in-Err-clause-causes : goal.returns-in-Err-clause-causes
returns-in-Err-clause-causes g c =
    let state = g.D.Depot.state in
    let read = c.in-Ok.ensures in
    let answers = rw c.deref.ensures.value at c.in-Err.ensures.answers in
    rw c.refused_ending.ensures (causes_refused c.args.path.now (state c.args.depot.now) (state c.read_text.new.depot) c.in-Ok.text.items c.in-Err.refused
    (record { asked = read.asked; held = read.held; counts = read.counts }) read.read answers)

pub returns-in-Ended-clause-whole : goal.returns-in-Ended-clause-whole
returns-in-Ended-clause-whole g c is =
    let state = g.D.Depot.state in
    let reads = rw c.deref.ensures.value at c.in-Ok-read_graph.ensures.answers in
    let ran = rw c.in-Ended.is at c.run_one_thread.ensures.ran in
    whole_ran c.args.path.now c.in-Ok.text.items c.in-Ok-read_graph.graph reads (state c.args.depot.now) (state c.read_text.new.depot)
    (state c.run_one_thread.new.depot) c.in-Ok.ensures.read c.in-Ok.ensures.held (ran_whole _ _ _ _ _ _ ran is)

pub returns-in-Ended-clause-others : goal.returns-in-Ended-clause-others
returns-in-Ended-clause-others g c =
    let state = g.D.Depot.state in
    let reads = rw c.deref.ensures.value at c.in-Ok-read_graph.ensures.answers in
    others_ran c.args.path.now c.in-Ok.text.items c.in-Ok-read_graph.graph reads (state c.args.depot.now) (state c.read_text.new.depot)
    (state c.run_one_thread.new.depot) c.in-Ok.ensures.read c.in-Ok.ensures.held c.run_one_thread.ensures.ran.others

pub returns-in-NoMemory-clause-others : goal.returns-in-NoMemory-clause-others
returns-in-NoMemory-clause-others g c =
    let state = g.D.Depot.state in
    let reads = rw c.deref.ensures.value at c.in-Ok-read_graph.ensures.answers in
    others_ran c.args.path.now c.in-Ok.text.items c.in-Ok-read_graph.graph reads (state c.args.depot.now) (state c.read_text.new.depot)
    (state c.run_one_thread.new.depot) c.in-Ok.ensures.read c.in-Ok.ensures.held c.run_one_thread.ensures.ran.others

pub returns-in-Ended-clause-causes : goal.returns-in-Ended-clause-causes
returns-in-Ended-clause-causes g c =
    let state = g.D.Depot.state in
    let graph = c.in-Ok-read_graph.graph in
    let read = c.in-Ok.ensures in
    let reads = rw c.deref.ensures.value at c.in-Ok-read_graph.ensures.answers in
    let outcome = runs.Ended c.in-Ended.outcomes c.in-Ended.tallies in
    causes_ran c.args.path.now (state c.args.depot.now) (state c.run_one_thread.new.depot) graph.pipes outcome
    (record {
      mid = state c.read_text.new.depot;
      read = record { asked = read.asked; held = read.held; counts = read.counts };
      graph = graph;
      of_text = has_graph_told c.args.path.now c.in-Ok.text.items graph reads (state c.args.depot.now).held read.read;
      well = c.in-Ok-read_graph.ensures.well_formed;
      drew = _;
      draws = _;
      outcome = outcome;
      ran = rw c.in-Ended.is at c.run_one_thread.ensures.ran;
      so = refl;
    })

pub returns-in-NoMemory-clause-causes : goal.returns-in-NoMemory-clause-causes
returns-in-NoMemory-clause-causes g c =
    let state = g.D.Depot.state in
    let graph = c.in-Ok-read_graph.graph in
    let read = c.in-Ok.ensures in
    let reads = rw c.deref.ensures.value at c.in-Ok-read_graph.ensures.answers in
    inr (record {
      mid = state c.read_text.new.depot;
      read = record { asked = read.asked; held = read.held; counts = read.counts };
      graph = graph;
      of_text = has_graph_told c.args.path.now c.in-Ok.text.items graph reads (state c.args.depot.now).held read.read;
      well = c.in-Ok-read_graph.ensures.well_formed;
      drew = _;
      draws = _;
      outcome = runs.NoMemory;
      ran = rw c.in-NoMemory.is at c.run_one_thread.ensures.ran;
      so = refl;
    })
