use Rattle.std.proofs.Common.{sym}
use Rattle.up_base.proofs.Numbers.{big_endian-halves}
use Rattle.up_base.proofs.number.read_u64.Goals as goal

pub returns : goal.returns
returns c = rw (c.from.ensures, c.from-2.ensures, c.read_u32.ensures, c.read_u32-2.ensures) (sym (big_endian-halves c.args.b.now c.args.at 4 4 c.requires))
