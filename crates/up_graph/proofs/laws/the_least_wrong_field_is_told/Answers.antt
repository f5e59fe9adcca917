use Rattle.up_graph.proofs.LeastAtTop.{least_at_top_is_told}
use Rattle.up_graph.proofs.LeastWrong.{least_wrong_is_told}
use Rattle.up_graph.proofs.laws.the_least_wrong_field_is_told.Goals as goal

pub returns-clause-of_pipes : goal.returns-clause-of_pipes
returns-clause-of_pipes c = least_wrong_is_told

pub returns-clause-of_the_top : goal.returns-clause-of_the_top
returns-clause-of_the_top c = least_at_top_is_told
