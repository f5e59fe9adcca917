use Rattle.up_model.proofs.FedSources.{fed_reached, sources_more}
use Rattle.up_model.proofs.graph_laws.sources_are_fed.Goals as goal

pub returns-clause-reached : goal.returns-clause-reached
returns-clause-reached c pipes given place = fed_reached pipes given place

pub returns-clause-more : goal.returns-clause-more
returns-clause-more c pipes given more longer place = sources_more pipes given more longer place
