use Rattle.up_frame.proofs.reading.behind_frame.Goals as goal

pub returns-clause-front : goal.returns-clause-front
returns-clause-front c = (_, c.in_ok-rest.ensures.front.1)
