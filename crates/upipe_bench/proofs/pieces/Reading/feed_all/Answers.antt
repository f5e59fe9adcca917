use Rattle.std.proofs.Common.{◌+◌, ◌++◌, List, ℕ, take, slice_range, subst, ap, ◌∙◌, append_assoc, arith}
use Rattle.upipe_bench.proofs.ManyFrames.{slice_more}
use Rattle.upipe_bench.specs.Pieces.{HasRead}
use Rattle.upipe_bench.proofs.pieces.Reading.feed_all.Goals as goal

pub loop-start-preserved : goal.loop-start-preserved
loop-start-preserved c =
    let bytes = c.args.bytes.now in
    let start = c.loop-start.start in
    let end = start + c.min.result in
    record {
      within = omega (arith, c.min.ensures, c.loop-start.invariant.within);
      read = λ before read.
          subst (HasRead c.feed.new.self)
          (append_assoc before (take start bytes) (slice_range bytes start end)
          ∙ ap (λ (b : List ℕ). before ++ b) (slice_more bytes start end (omega arith)))
          (c.in_ok-feed.ensures (before ++ take start bytes) (c.loop-start.invariant.read before read));
    }
