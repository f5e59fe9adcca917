use Rattle.std.proofs.Common.{rules, ◌≡◌, refl, subst, inl, inr}
use Rattle.up_report.specs.Lines.{fault_bytes}
use Rattle.upipe_run.specs.Tells.{CutsLine, WritesLine}
use Rattle.upipe_run.proofs.Drained.{cut_line, failed_line}
use Rattle.upipe_run.proofs.tell.tell.Goals as goal

pub returns-in-Err-Failed : goal.returns-in-Err-Failed
returns-in-Err-Failed g c =
    let old = g.E.Sink.state c.args.err.now in
    let new = g.E.Sink.state c.drain.new.sink in
    let line : c.as_slice.result.now ≡ fault_bytes c.args.fault.now = search rules in
    inl (record {
      status_is = c.status-in-Err-Failed.ensures;
      line = subst (WritesLine old new) line
          (failed_line old new _ c.in-Err-Failed.ensures.part (rw c.in-Err-Failed.field-0-is at c.in-Err-Failed.ensures.faults));
    })

pub returns-in-Ok : goal.returns-in-Ok
returns-in-Ok g c =
    let old = g.E.Sink.state c.args.err.now in
    let new = g.E.Sink.state c.drain.new.sink in
    let line : c.as_slice.result.now ≡ fault_bytes c.args.fault.now = search rules in
    inr (inl (record {
      status_is = refl;
      line = subst (CutsLine old new) line
          (cut_line old new _ c.in-Err-NoMemory.ensures.part (rw c.in-Err-NoMemory.field-0-is at c.in-Err-NoMemory.ensures.faults));
    }))
