use Rattle.up_engine.proofs.FirstParts.{is_given_first}
use Rattle.up_model.proofs.Members.{kept_was_there}
use Rattle.up_model.specs.Inputs.{passes_at}
use Rattle.up_model.specs.Plans.{heads, is_fed}
use Rattle.up_engine.proofs.laws.heads_are_given_first_parts.Goals as goal

pub returns-clause-heads : goal.returns-clause-heads
returns-clause-heads c pipes past waiting source head pipe well joined is of there =
    (is_given_first pipes past waiting well joined source head pipe is of there).stands

pub returns-clause-lanes : goal.returns-clause-lanes
returns-clause-lanes c pipes past waiting source lane filler pipe well joined is filled of there =
    (is_given_first pipes past waiting well joined source lane pipe (kept_was_there (passes_at is_fed pipes) (heads pipes) lane is) of there).sent filler is filled
