use Rattle.up_strand.proofs.Writes.{receives_more}
use Rattle.up_strand.proofs.node.write_unless_failed.Goals as goal

pub returns-in-Ok-clause-bytes : goal.returns-in-Ok-clause-bytes
returns-in-Ok-clause-bytes g c start before received =
    let works = rw c.if-failed.false at received in
    rw c.if-failed.false (receives_more _ _ _ _ _ _ works c.in-Ok.ensures.bytes)

pub returns-in-Err-Failed-clause-bytes : goal.returns-in-Err-Failed-clause-bytes
returns-in-Err-Failed-clause-bytes g c start before received =
    let works = rw c.if-failed.false at received in
    receives_more _ _ _ _ _ _ works c.in-Err-Failed.ensures.bytes

pub returns-in-Err-NoMemory-clause-bytes : goal.returns-in-Err-NoMemory-clause-bytes
returns-in-Err-NoMemory-clause-bytes g c start before received =
    let works = rw c.if-failed.false at received in
    receives_more _ _ _ _ _ _ works c.in-Err-NoMemory.ensures.bytes
