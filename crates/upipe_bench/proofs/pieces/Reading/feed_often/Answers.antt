use Rattle.std.proofs.Common.{◌++◌, List, ℕ, replicate, subst, ap, ◌∙◌, append_assoc}
use Rattle.std.specs.List.{concat}
use Rattle.upipe_bench.proofs.ManyFrames.{bytes_more}
use Rattle.upipe_bench.specs.Pieces.{HasRead}
use Rattle.upipe_bench.proofs.pieces.Reading.feed_often.Goals as goal

pub loop-preserved : goal.loop-preserved
loop-preserved c before read =
    let bytes = c.args.bytes.now in
    let so_far = concat (replicate c.loop.counter bytes) in
    subst (HasRead c.feed_all.new.self)
    (append_assoc before so_far bytes ∙ ap (λ (b : List ℕ). before ++ b) (bytes_more bytes c.loop.counter))
    (c.in_ok-feed_all.ensures (before ++ so_far) (c.loop.invariant before read))
