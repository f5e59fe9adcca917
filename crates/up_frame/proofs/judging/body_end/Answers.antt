use Rattle.std.proofs.Common.{arith}
use Rattle.up_frame.proofs.GoingOn.{whole, short}
use Rattle.up_frame.proofs.judging.body_end.Goals as goal

pub returns-then-bytes-judged-clause-front : goal.returns-then-bytes-judged-clause-front
returns-then-bytes-judged-clause-front c =
    let few = c.if-bytes-judged.true in
    short c.args.judged c.args.bytes.now c.requires.all (omega (arith, few, c.requires.within)) c.requires.within

pub returns-clause-front : goal.returns-clause-front
returns-clause-front c =
    let enough = c.if-bytes-judged.false in
    whole c.args.judged c.args.bytes.now c.requires.all (omega (arith, enough, c.requires.within))
