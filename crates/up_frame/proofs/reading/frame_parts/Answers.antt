use Rattle.std.proofs.Common.{arith}
use Rattle.up_frame.proofs.FoundFrames.{are_bytes, begins}
use Rattle.up_frame.proofs.reading.frame_parts.Goals as goal

pub returns-clause-whole : goal.returns-clause-whole
returns-clause-whole c =
    begins c.args.bytes.now c.parts.result (are_bytes c.args.bytes.now (λ i. omega (arith, c.type_inv.bytes i))) c.parts.ensures
