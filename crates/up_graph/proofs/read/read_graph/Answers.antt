use Rattle.toml.specs.View.{table_view}
use Rattle.up_graph.proofs.WellFormed.{read_right}
use Rattle.up_graph.proofs.read.read_graph.Goals as goal

pub returns-in-Ok-clause-well_formed : goal.returns-in-Ok-clause-well_formed
returns-in-Ok-clause-well_formed c = read_right c.graph_in.result (table_view c.in-Ok.table) c.graph_in.ensures
