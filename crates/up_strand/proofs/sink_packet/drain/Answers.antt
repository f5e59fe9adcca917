use Rattle.std.proofs.Common.{arith, ℕ, true, refl, subst, sym, ◌∙◌, length-take, length-drop}
use Rattle.up_strand.proofs.Writes.{receives_next, same_summed, taken_more}
use Rattle.up_strand.specs.Writing.{Receives}
use Rattle.up_strand.proofs.sink_packet.drain.Goals as goal

pub loop-count-preserved : goal.loop-count-preserved
loop-count-preserved g c =
    let state = g.K.Sink.state in
    let so_far = c.loop-count.invariant in
    let step = c.in-Ok.ensures in
    record {
      within = omega (arith, step.bound.1, length-take {A = ℕ}, length-drop {A = ℕ});
      bytes = subst (Receives (state c.args.sink.now) (state c.write.new.self) true)
          (sym (taken_more c.loop-count.count c.in-Ok.more c.args.piece.now))
          (receives_next _ _ _ c.in-Ok.more _ _ so_far.bytes step.writes.bytes (same_summed _ _ _ step.writes.place step.writes.sum));
      faults = step.writes.faults.stays refl ∙ so_far.faults;
    }
