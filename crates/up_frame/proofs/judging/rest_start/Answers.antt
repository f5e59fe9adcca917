use Rattle.std.proofs.Common.{◌≡◌, length, ap, sym, subst, Ok, Err, arith}
use Rattle.std.proofs.lemmas.List.{length-drop}
use Rattle.up_frame.proofs.FedBytes.{passed_more, passed_all}
use Rattle.up_frame.proofs.FoundFrames.{are_bytes}
use Rattle.up_frame.proofs.GoingOn.{from_place}
use Rattle.up_frame.specs.Judging.{IsJudged, IsAllJudged, EndsAt}
use Rattle.up_model.proofs.FrameStreams.{whole_front}
use Rattle.up_model.specs.FrameFronts.{packet_at}
use Rattle.up_frame.proofs.judging.rest_start.Goals as goal

pub frames-preserved : goal.frames-preserved
frames-preserved c =
    let bytes = c.args.bytes.now in
    let place = from_place c.frames.start bytes in
    let size = ap length place in
    record {
      within = omega (arith, size, length-drop c.frames.start bytes, c.in-Ok.ensures.within.1, c.frames.invariant.within);
      passed = λ first.
          let so_far = c.frames.invariant.passed first in
          passed_more bytes c.frames.start c.in-Ok.size c.frames.judged
          (subst (EndsAt (Ok c.in-Ok.size)) place (c.in-Ok.ensures.front (subst (IsJudged c.frames.judged) (sym place) so_far.on))) so_far;
    }

pub returns-in-Err-clause-rest : goal.returns-in-Err-clause-rest
returns-in-Err-clause-rest c first =
    let bytes = c.args.bytes.now in
    let place = from_place c.frames.start bytes in
    let so_far = c.frames.invariant.passed first in
    let judged = subst (IsJudged c.frames.judged) (sym place) so_far.on in
    passed_all bytes c.frames.start c.in-Err.refused c.frames.judged c.frame_end.new.judged
    (subst (λ rest. packet_at rest ≡ Err c.in-Err.refused) place (c.in-Err.ensures.front judged))
    (subst (IsJudged c.frame_end.new.judged) place (c.in-Err.ensures.judged judged))
    (λ unfinished. subst (IsAllJudged c.frame_end.new.judged) place (c.in-Err.ensures.no_more (ap Err unfinished))) so_far

pub returns-in-Err-clause-frames : goal.returns-in-Err-clause-frames
returns-in-Err-clause-frames c first =
    let bytes = c.args.bytes.now in
    whole_front bytes c.frames.start (are_bytes bytes (λ i. omega (arith, c.type_inv.bytes i))) (omega (arith, c.frames.invariant.within))
    (returns-in-Err-clause-rest c first).rest
