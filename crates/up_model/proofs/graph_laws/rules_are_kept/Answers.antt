use Rattle.up_model.proofs.WellFormed.{names_differ, input_there, comes_to_source, feeds_rightly, takes_rightly, paths_differ, few_workers}
use Rattle.up_model.proofs.graph_laws.rules_are_kept.Goals as goal

pub returns-clause-names : goal.returns-clause-names
returns-clause-names c pipes a b one other well is also same = names_differ pipes well a b one other is also same

pub returns-clause-inputs : goal.returns-clause-inputs
returns-clause-inputs c pipes place input pipe well is of = input_there pipes well place input pipe is of

pub returns-clause-sources : goal.returns-clause-sources
returns-clause-sources c pipes place well within = comes_to_source pipes well place within

pub returns-clause-outputs : goal.returns-clause-outputs
returns-clause-outputs c pipes place pipe well is = feeds_rightly pipes well place pipe is

pub returns-clause-flows : goal.returns-clause-flows
returns-clause-flows c pipes place at pipe input well is of there = takes_rightly pipes well place at pipe input is of there

pub returns-clause-paths : goal.returns-clause-paths
returns-clause-paths c pipes a b one other path well is also of of_other free = paths_differ pipes well a b one other path is also of of_other free

pub returns-clause-workers : goal.returns-clause-workers
returns-clause-workers c pipes well = few_workers pipes well
