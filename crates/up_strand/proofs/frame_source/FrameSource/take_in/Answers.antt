use Rattle.std.proofs.Common.{◌-◌, ap, refl, take}
use Rattle.up_strand.proofs.FrameSteps.{took_in}
use Rattle.up_strand.proofs.frame_source.FrameSource.take_in.Goals as goal

pub returns-clause-took : goal.returns-clause-took
returns-clause-took g c read put stood =
    let fed = rw (c.min-within.ensures, c.deref.ensures.value) at (c.in_ok-self.ensures (take c.args.self.now.limit read) put stood.reader) in
    took_in c.args.self.now read put stood c.requires.unshown c.args.self.now.piece.items c.args.count c.requires.some.0 c.requires.some.1
    (record c.args.self.now { reader = c.feed_within.new.reader; shown = c.in_ok-self.field-0; left = c.args.self.now.left - c.min-within.result }) refl
    (ap (λ n. c.args.self.now.left - n) c.min-within.ensures) fed.0 fed.1
