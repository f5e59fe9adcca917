use Rattle.std.proofs.Common.{◌++◌, Some, refl, ap, ◌∙◌, arith}
use Rattle.up_frame.proofs.GivenFrames.{piece_counted}
use Rattle.up_frame.proofs.frame_reader.FrameReader.feed.Goals as goal

pub returns-in-Some-clause-fed : goal.returns-in-Some-clause-fed
returns-in-Some-clause-fed c bytes given stands =
    piece_counted c.compact.new.self _ c.args.piece.now bytes given c.in-Some.offset c.in-Some.is refl refl refl refl refl (c.compact.ensures.stands bytes given stands)

pub returns-in-None-clause-fed : goal.returns-in-None-clause-fed
returns-in-None-clause-fed c bytes given stands =
    c.in-None.ensures.judged (bytes ++ c.args.piece.now) given (c.in-Ok.ensures.added bytes given (c.compact.ensures.stands bytes given stands))

pub returns-in-Some-judge-clause-fed : goal.returns-in-Some-judge-clause-fed
returns-in-Some-judge-clause-fed c bytes given stands =
    let judged = c.in-Some-judge.ensures.judged (bytes ++ c.args.piece.now) given (c.in-Ok.ensures.added bytes given (c.compact.ensures.stands bytes given stands)) in
    (c.compact-in-Some-judge.ensures.stands (bytes ++ c.args.piece.now) given judged.0, judged.1 ∙ ap Some (omega arith))

pub returns-in-Err-clause-fed : goal.returns-in-Err-clause-fed
returns-in-Err-clause-fed c bytes given stands = c.in-Err.ensures.unchanged bytes given (c.compact.ensures.stands bytes given stands)
