use Rattle.std.proofs.Common.{◌≡◌, ◌<◌, inr, true, rules, arith}
use Rattle.std.specs.FinMap.{len, insert}
use Rattle.up_base.specs.Name.{is_name}
use Rattle.up_model.proofs.Legality.{with_attr}
use Rattle.up_model.specs.Value.{IsLegalValue}
use Rattle.up_model.specs.declared.limits.TheConstants.{MAX_ATTRS}
use Rattle.up_model.proofs.plain_packet_tests.set.Goals as goal

pub returns : goal.returns
returns g c =
    let packet = c.args.packet.now in
    let named : is_name c.in_ok-name.name ≡ true = search rules in
    let legal : IsLegalValue c.args.value = search rules in
    let room : len packet.attrs < MAX_ATTRS = omega arith in
    let set : c.set.new.self ≡ insert packet.attrs c.in_ok-name.name c.args.value = search rules in
    rw set (with_attr packet c.requires c.in_ok-name.name c.args.value named legal (inr room))
