use Rattle.std.proofs.Common.{arith, ℕ, refl, subst, sym, ◌∙◌, length-take, length-drop}
use Rattle.std.specs.Io.KnownBytes.{Appends}
use Rattle.std.proofs.KnownBytes.{Appends-trans}
use Rattle.upipe_run.proofs.Parts.{taken_more}
use Rattle.upipe_run.proofs.Counting.{same_on, same_summed}
use Rattle.upipe_run.proofs.drain.drain.Goals as goal

pub loop-count-preserved : goal.loop-count-preserved
loop-count-preserved g c =
    let state = g.K.Sink.state in
    let so_far = c.loop-count.invariant in
    let step = c.in_ok-count.ensures in
    record {
      within = omega (arith, step.bound.1, length-take {A = ℕ}, length-drop {A = ℕ});
      bytes = subst (Appends (state c.args.sink.now).written (state c.write.new.self).written)
          (sym (taken_more c.loop-count.count c.in_ok-count.field-0 c.args.piece.now))
          (Appends-trans _ _ _ _ _ so_far.bytes step.writes.bytes);
      faults = step.writes.faults.stays refl ∙ so_far.faults;
      same = same_on _ _ _ so_far.same (same_summed _ _ _ step.writes.place step.writes.sum);
    }
