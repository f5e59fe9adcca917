use Rattle.up_model.proofs.MovedDates.{all_pass, date_is_moved, other_stays}
use Rattle.up_model.proofs.laws.dates_are_moved.Goals as goal

pub returns-clause-all : goal.returns-clause-all
returns-clause-all c = all_pass

pub returns-clause-dates : goal.returns-clause-dates
returns-clause-dates c = date_is_moved

pub returns-clause-others : goal.returns-clause-others
returns-clause-others c = other_stays
