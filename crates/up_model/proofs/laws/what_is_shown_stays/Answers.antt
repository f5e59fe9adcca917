use Rattle.up_model.proofs.Shown.{shown_each, shown_of_all, told_unshown, unshown_within, whole_unshown}
use Rattle.up_model.proofs.laws.what_is_shown_stays.Goals as goal

pub returns-clause-stays : goal.returns-clause-stays
returns-clause-stays c = shown_of_all

pub returns-clause-within : goal.returns-clause-within
returns-clause-within c = unshown_within

pub returns-clause-whole : goal.returns-clause-whole
returns-clause-whole c = whole_unshown

pub returns-clause-each : goal.returns-clause-each
returns-clause-each c = shown_each

pub returns-clause-only : goal.returns-clause-only
returns-clause-only c = told_unshown
