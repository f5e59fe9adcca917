use Rattle.std.proofs.Common.{◌≡◌, ◌∙◌, length, rules, refl, ap, sym}
use Rattle.up_model.specs.Kinds.{settled_work}
use Rattle.up_model.specs.Tallies.{added, of_passed, of_dropped}
use Rattle.up_shape.specs.Passing.{plain_verdict}
use Rattle.up_shape.proofs.Growths.{puts_one, puts_none}
use Rattle.up_shape.proofs.PacketGrowths.{one_passes, one_drops, none_put, if_refused}
use Rattle.up_shape.proofs.packetwise.PacketwiseModule.feed.Goals as goal

pub returns-in_ok-put_out-in-Passes-clause-grew : goal.returns-in_ok-put_out-in-Passes-clause-grew
returns-in_ok-put_out-in-Passes-clause-grew g c fed stands =
    let k = c.args.self.now.step in
    let plain = g.P.LocalPacket.plain in
    let tally : c.add_tally.new.self.tally ≡ added c.args.out.now.tally (of_passed c.in-Passes.cut) = search rules in
    let is = rw c.in-Passes.is at c.in_ok-packet.ensures.passed in
    puts_one plain _ _ _ _ _ (of_passed c.in-Passes.cut) (c.add_tally.ensures.packets ∙ c.in_ok-put_out-in-Passes.ensures.added) tally
    (one_passes (g.K.PacketStep.step k) (settled_work (g.K.Options.kind k)) (g.met.K.PacketStep.settles k) fed (plain c.args.p) _ c.in-Passes.cut is)

pub returns-in_err-put_out-in-Passes-clause-in_part : goal.returns-in_err-put_out-in-Passes-clause-in_part
returns-in_err-put_out-in-Passes-clause-in_part g c fed stands =
    let k = c.args.self.now.step in
    if_refused _ _
    (none_put (g.K.PacketStep.step k) (settled_work (g.K.Options.kind k)) (g.met.K.PacketStep.settles k) fed _ _ _ _ c.in_err-put_out-in-Passes.ensures.unchanged c.put_out.ensures.tally)

pub returns-in-Drops-clause-grew : goal.returns-in-Drops-clause-grew
returns-in-Drops-clause-grew g c fed stands =
    let k = c.args.self.now.step in
    let plain = g.P.LocalPacket.plain in
    let tally : c.add_tally-in-Drops.new.self.tally ≡ added c.args.out.now.tally (of_dropped (length (plain c.args.p).bytes)) = search rules in
    let is = rw c.in-Drops.is at c.in_ok-packet.ensures.passed in
    puts_none plain _ _ _ _ (of_dropped (length (plain c.args.p).bytes)) c.add_tally-in-Drops.ensures.packets tally
    (one_drops (g.K.PacketStep.step k) (settled_work (g.K.Options.kind k)) (g.met.K.PacketStep.settles k) fed (plain c.args.p) is)

pub returns-in_err-packet-clause-in_part : goal.returns-in_err-packet-clause-in_part
returns-in_err-packet-clause-in_part g c fed stands =
    let k = c.args.self.now.step in
    if_refused _ _
    (none_put (g.K.PacketStep.step k) (settled_work (g.K.Options.kind k)) (g.met.K.PacketStep.settles k) fed _ _ _ _ refl refl)
