use Rattle.std.proofs.Common.{List, [], ℕ, length, replicate, ap, ◌∙◌}
use Rattle.std.specs.List.{concat}
use Rattle.upipe_bench.proofs.ManyFrames.{count_back}
use Rattle.up_model.specs.FrameStreams.{whole_frames}
use Rattle.up_shape.specs.VecPackets.{plain_of}
use Rattle.upipe_bench.proofs.timed.read_frames.Goals as goal

pub returns : goal.returns
returns g c =
    let fed = c.args.fed in
    (c.in_ok-feed_often.ensures [] c.new-reading.ensures).1
    ∙ ap (λ (b : List ℕ). length (whole_frames (concat (replicate fed.rounds b)))) (c.as_slice.ensures ∙ c.in_ok-bytes.ensures)
    ∙ count_back (plain_of c.in_ok-packet.packet) fed.frames fed.rounds c.in_ok-packet.ensures
