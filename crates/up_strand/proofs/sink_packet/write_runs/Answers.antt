use Rattle.std.proofs.Common.{arith, true, false, refl, subst, sym, ◌∙◌}
use Rattle.up_strand.proofs.Writes.{receives_more, receives_front, run_more, run_rest}
use Rattle.up_strand.specs.Writing.{Receives}
use Rattle.up_strand.proofs.sink_packet.write_runs.Goals as goal

pub returns-in-Err-clause-bytes : goal.returns-in-Err-clause-bytes
returns-in-Err-clause-bytes g c =
    let state = g.K.Sink.state in
    let run = c.bytes_at-run.ensures.run in
    subst (Receives (state c.args.sink.now) (state c.drain.new.sink) false) (run_rest c.loop-at.at _ _ run)
    (receives_front _ _ _ _ run.0 (receives_more _ _ _ _ _ _ c.loop-at.invariant.bytes c.drain.ensures.bytes))

pub loop-at-preserved : goal.loop-at-preserved
loop-at-preserved g c =
    let state = g.K.Sink.state in
    let so_far = c.loop-at.invariant in
    record {
      within = omega (arith, c.bytes_at-run.ensures.within, c.size-size.ensures);
      bytes = subst (Receives (state c.args.sink.now) (state c.drain.new.sink) true)
          (sym (run_more c.loop-at.at _ _ c.bytes_at-run.ensures.run))
          (receives_more _ _ _ _ _ _ so_far.bytes c.in-Ok.ensures.bytes);
      faults = c.in-Ok.ensures.faults.counts.stays refl ∙ so_far.faults;
    }
