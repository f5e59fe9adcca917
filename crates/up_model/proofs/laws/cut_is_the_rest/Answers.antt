use Rattle.std.proofs.Common.{arith}
use Rattle.up_model.proofs.MatchAttr.{match_attr_cuts}
use Rattle.up_model.proofs.Packetwise.{work_cuts}
use Rattle.up_model.proofs.SetAttr.{setattr_cuts}
use Rattle.up_model.proofs.Skip.{skip_cuts}
use Rattle.up_model.specs.DelAttr.{delattr_step}
use Rattle.up_model.specs.Delay.{delay_step}
use Rattle.up_model.specs.MatchAttr.{match_attr_step}
use Rattle.up_model.specs.Packetwise.{drops, passes_on}
use Rattle.up_model.specs.SetAttr.{setattr_step}
use Rattle.up_model.specs.Skip.{skip_step}
use Rattle.up_model.proofs.laws.cut_is_the_rest.Goals as goal

pub returns-clause-idem : goal.returns-clause-idem
returns-clause-idem c taken = work_cuts passes_on (λ packet. omega arith) taken

pub returns-clause-dup : goal.returns-clause-dup
returns-clause-dup c taken = work_cuts passes_on (λ packet. omega arith) taken

pub returns-clause-null : goal.returns-clause-null
returns-clause-null c taken = work_cuts drops (λ packet. tt) taken

pub returns-clause-skip : goal.returns-clause-skip
returns-clause-skip c bytes taken = work_cuts (skip_step bytes) (skip_cuts bytes) taken

pub returns-clause-setattr : goal.returns-clause-setattr
returns-clause-setattr c attr value taken = work_cuts (setattr_step attr value) (setattr_cuts attr value) taken

pub returns-clause-match_attr : goal.returns-clause-match_attr
returns-clause-match_attr c attr low high taken = work_cuts (match_attr_step attr low high) (match_attr_cuts attr low high) taken

pub returns-clause-delattr : goal.returns-clause-delattr
returns-clause-delattr c attr taken = work_cuts (delattr_step attr) (λ packet. omega arith) taken

pub returns-clause-delay : goal.returns-clause-delay
returns-clause-delay c by taken = work_cuts (delay_step by) (λ packet. omega arith) taken
