use Rattle.std.proofs.Common.{◌≡◌, ◌<◌, inr, true, arith}
use Rattle.std.specs.FinMap.{len}
use Rattle.up_base.specs.Name.{is_name}
use Rattle.up_model.specs.Value.{lent, IsLegalValue}
use Rattle.up_model.specs.declared.limits.TheConstants.{MAX_ATTRS}
use Rattle.up_shape.specs.VecPackets.{plain_of}
use Rattle.up_basic.proofs.attr_packets.set.Goals as goal

pub returns : goal.returns
returns g c =
    let named : is_name c.args.name.now ≡ true = rw c.bytes.ensures.bytes at c.bytes.ensures.name in
    let right : IsLegalValue (lent c.view.result) = rw c.view.ensures c.requires.value in
    let room : len (plain_of c.args.packet.now).attrs < MAX_ATTRS = omega arith in
    let set = rw c.expect.ensures at c.set_attr.ensures.set in
    record { legal = rw set (c.packets_stay_legal.ensures.set (plain_of c.args.packet.now) c.args.name.now _ c.requires.legal named right (inr room)) }
