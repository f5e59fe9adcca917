use Rattle.up_frame.proofs.Parts.{refused, of_first}
use Rattle.up_frame.proofs.writing.put_attribute.Goals as goal

pub returns-in_err-put_name-clause-part : goal.returns-in_err-put_name-clause-part
returns-in_err-put_name-clause-part c = refused _ (of_first _ _ _ _ c.in_err-put_name.ensures.part)
