use Rattle.std.proofs.Common.{◌⊎◌, List, ℕ, refl, subst}
use Rattle.upipe_run.specs.Tells.{CutsLine, WritesLine}
use Rattle.upipe_run.proofs.Drained.{drained}
use Rattle.upipe_run.proofs.tell.tell_no_memory.Goals as goal

pub returns : goal.returns
returns g c =
    let old = g.E.Sink.state c.args.err.now in
    let new = g.E.Sink.state c.drain.new.sink in
    record {
      status_is = refl;
      line = subst (λ (line : List ℕ). WritesLine old new line ⊎ CutsLine old new line) c.as_bytes.ensures.value
          (drained old new _ c.drain.result c.drain.ensures.whole c.drain.ensures.part c.drain.ensures.faults);
    }
