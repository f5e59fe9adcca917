use Rattle.up_model.proofs.GrownBytes.{sink_bytes_grow}
use Rattle.up_model.proofs.GraphFlows.{so_far-grows, so_far-wholly}
use Rattle.up_model.proofs.WellFormed.{are_bounded}
use Rattle.up_model.specs.Meaning.{so_far, wholly}
use Rattle.up_model.proofs.graph_laws.settled_bytes_grow.Goals as goal

pub returns-clause-longer : goal.returns-clause-longer
returns-clause-longer c pipes given more sink well within gives =
    sink_bytes_grow pipes so_far so_far so_far-grows (are_bounded pipes well) given more gives sink within

pub returns-clause-whole : goal.returns-clause-whole
returns-clause-whole c pipes given more sink well within gives =
    sink_bytes_grow pipes so_far wholly so_far-wholly (are_bounded pipes well) given more gives sink within
