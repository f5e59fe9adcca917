use Rattle.std.proofs.Common.{rules, ap, arith}
use Rattle.up_strand.proofs.ReadPackets.{read_as}
use Rattle.up_strand.specs.Reads.{is_fault}
use Rattle.up_strand.proofs.source_packet.read_packet.Goals as goal

pub returns-in-Fault-clause-reads : goal.returns-in-Fault-clause-reads
returns-in-Fault-clause-reads g c =
    let filled = c.fill_room-count.ensures in
    let short = filled.fault c.in-Fault.is in
    read_as g.P.LocalPacket.plain c.args.block c.args.left c.min-want.result _ _ _ c.fill_room-count.result _ filled.fits (search rules) (search rules) (search rules)
    filled.fills (ap is_fault c.in-Fault.is) (λ count. (omega (arith, count, short), omega (arith, count, short)))
