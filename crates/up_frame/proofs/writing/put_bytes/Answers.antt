use Rattle.std.proofs.Common.{◌++◌, take, drop, take-append-drop, append_assoc, sym, ap, ◌∙◌, arith}
use Rattle.up_frame.proofs.Parts.{refused, up_to, run_more}
use Rattle.up_frame.proofs.writing.put_bytes.Goals as goal

pub returns-in_err-append-clause-part : goal.returns-in_err-append-clause-part
returns-in_err-append-clause-part g c =
    let bytes = (g.P.LocalPacket.plain c.args.p.now).bytes in
    let at = c.loop-at.at in
    refused _ (up_to _ _ (take at bytes) (drop at bytes) bytes (take-append-drop at bytes) (c.in_err-append.ensures.unchanged ∙ c.loop-at.invariant.added))

pub loop-at-preserved : goal.loop-at-preserved
loop-at-preserved g c =
    let bytes = (g.P.LocalPacket.plain c.args.p.now).bytes in
    let run = c.bytes_at-run.ensures.run in
    record {
      within = omega (arith, c.bytes_at-run.ensures.within, c.size-size.ensures);
      added = c.in_ok-append.ensures.added ∙ ap (λ front. front ++ c.bytes_at-run.result.now) c.loop-at.invariant.added
          ∙ append_assoc _ (take c.loop-at.at bytes) c.bytes_at-run.result.now
          ∙ ap (λ front. c.args.out.now ++ front) (sym (run_more c.loop-at.at _ _ run));
    }
