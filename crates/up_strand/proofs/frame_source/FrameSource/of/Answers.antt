use Rattle.std.proofs.Common.{None, refl}
use Rattle.up_strand.proofs.FrameSteps.{begins_giving}
use Rattle.up_strand.proofs.frame_source.FrameSource.of.Goals as goal

pub returns-clause-stands : goal.returns-clause-stands
returns-clause-stands g c =
    begins_giving (record {
      source = c.args.source;
      reader = c.new.result;
      piece = c.new-2.result;
      shown = None;
      limit = c.args.limit;
      left = c.args.limit;
    }) c.new.ensures.stands refl refl c.requires.limit
