use Rattle.std.proofs.Common.{arith}
use Rattle.up_frame.proofs.FoundFrames.{are_bytes}
use Rattle.up_frame.proofs.ReadAttributes.{content_is}
use Rattle.up_model.proofs.FrameShorter.{field_size}
use Rattle.up_model.specs.FrameFronts.{is_any}
use Rattle.up_frame.proofs.reading.content.Goals as goal

pub returns : goal.returns
returns c =
    let size = field_size c.args.size is_any c.in_ok-behind.behind.now (c.in_ok-content.content.now, c.in_ok-content.rest.now) c.in_ok-content.ensures in (
      record {
        list = c.in_ok-behind.ensures.0;
        behind = c.in_ok-behind.behind.now;
        few = c.requires.count;
        small = omega (arith, size, c.requires.size);
        below = are_bytes c.args.bytes.now (λ i. omega (arith, c.type_inv.bytes i));
        read = c.in_ok-behind.ensures.1;
      },
      content_is c.args.count c.args.size c.args.bytes.now (c.in_ok-behind.ensures.0, c.in_ok-behind.behind.now)
          (c.in_ok-content.content.now, c.in_ok-content.rest.now) c.in_ok-behind.ensures.1 c.in_ok-content.ensures,
    )
