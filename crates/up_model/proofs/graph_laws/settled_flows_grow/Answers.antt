use Rattle.std.proofs.Common.{length}
use Rattle.up_model.proofs.GraphFlows.{flows_grow, so_far-grows, so_far-wholly}
use Rattle.up_model.proofs.WellFormed.{are_bounded}
use Rattle.up_model.specs.Meaning.{so_far, wholly}
use Rattle.up_model.proofs.graph_laws.settled_flows_grow.Goals as goal

pub returns-clause-longer : goal.returns-clause-longer
returns-clause-longer c pipes fed more place well feeds =
    flows_grow pipes so_far so_far so_far-grows (are_bounded pipes well) fed more feeds (length pipes) place

pub returns-clause-whole : goal.returns-clause-whole
returns-clause-whole c pipes fed more place well feeds =
    flows_grow pipes so_far wholly so_far-wholly (are_bounded pipes well) fed more feeds (length pipes) place
