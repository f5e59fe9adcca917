use Rattle.std.proofs.Common.{◌≡◌, true, subst, sym, inr, rules}
use Rattle.up_base.specs.Name.{is_name}
use Rattle.up_model.specs.Packet.{IsLegal}
use Rattle.up_shape.specs.VecPackets.{plain_of}
use Rattle.upipe_bench.proofs.frames.set_attr.Goals as goal

pub returns : goal.returns
returns c =
    let named : is_name c.in_ok-name.name ≡ true = subst (λ name. is_name name ≡ true) c.bytes.ensures.bytes c.bytes.ensures.name in
    subst IsLegal (sym c.in_ok-set_attr.ensures.set)
    (c.packets_stay_legal.ensures.set (plain_of c.args.packet.now) _ _ c.requires.legal named c.requires.size (inr (search rules)))
