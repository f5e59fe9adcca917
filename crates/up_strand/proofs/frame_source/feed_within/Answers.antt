use Rattle.std.proofs.Common.{◌≡◌, Some, None, Err, ◌++◌, ap, sym, ◌∙◌, if◌then◌else◌}
use Rattle.up_frame.specs.declared.refusals.FeedRefused.TheVariants as refusals
use Rattle.up_model.specs.declared.outcome.Outcome.TheVariants.{TooLong}
use Rattle.up_strand.proofs.FrameSteps.{fed_broken, shows_broken, shows_unbroken}
use Rattle.up_strand.proofs.frame_source.feed_within.Goals as goal

pub returns-in-Ok : goal.returns-in-Ok
returns-in-Ok c bytes given stands =
    let fed = c.in-Ok.ensures.fed bytes given stands in (
      fed.0,
      ap (λ past. if past then Some (TooLong c.args.limit) else None) (sym c.if-past.true)
          ∙ sym (shows_unbroken c.args.past c.args.limit (bytes ++ c.args.piece.now) fed.1),
    )

pub returns-in-Ok-2 : goal.returns-in-Ok-2
returns-in-Ok-2 c bytes given stands =
    let fed = c.in-Ok.ensures.fed bytes given stands in (
      fed.0,
      ap (λ past. if past then Some (TooLong c.args.limit) else None) (sym c.if-past.false)
          ∙ sym (shows_unbroken c.args.past c.args.limit (bytes ++ c.args.piece.now) fed.1),
    )

pub returns-in-Err-BadFrame : goal.returns-in-Err-BadFrame
returns-in-Err-BadFrame c bytes given stands =
    let refused : c.feed.result ≡ Err (refusals.BadFrame c.in-Err-BadFrame.offset) = cc in
    let fed = fed_broken c.args.reader.now c.feed.new.self c.args.piece.now c.feed.result c.in-Err-BadFrame.offset refused c.feed.ensures.fed bytes given stands in
    (fed.0, sym (shows_broken c.args.past c.args.limit (bytes ++ c.args.piece.now) c.in-Err-BadFrame.offset fed.1))
