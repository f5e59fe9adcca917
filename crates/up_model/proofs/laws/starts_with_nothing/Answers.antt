use Rattle.up_model.proofs.EveryKind.{lawful}
use Rattle.up_model.proofs.laws.starts_with_nothing.Goals as goal

pub returns-clause-settled : goal.returns-clause-settled
returns-clause-settled c kind within =
    let flows = (lawful kind).flows within in
    λ i. record { flow = flows.settles_nothing i; tally = flows.settles_no_sums i }

pub returns-clause-whole : goal.returns-clause-whole
returns-clause-whole c kind within =
    let flows = (lawful kind).flows within in
    λ i. record { flow = flows.owes_nothing i; tally = flows.owes_no_sums i }
