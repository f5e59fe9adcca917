use Rattle.std.proofs.Common.{◌≡◌, ◌∙◌, sym}
use Rattle.up_model.specs.Kinds.{work_of, settled_work}
use Rattle.up_shape.proofs.Growths.{owes_nothing}
use Rattle.up_shape.proofs.packetwise.PacketwiseModule.finish.Goals as goal

pub returns-clause-grew : goal.returns-clause-grew
returns-clause-grew g c fed stands =
    let k = c.args.self.step in
    let same : work_of (g.K.Options.kind k) fed ≡ settled_work (g.K.Options.kind k) fed = g.met.K.PacketStep.owes_nothing k fed ∙ sym (g.met.K.PacketStep.settles k fed) in
    rw same (owes_nothing _ _ _)
