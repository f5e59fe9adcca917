use Rattle.std.proofs.Common.{[], arith}
use Rattle.up_model.proofs.FrameAttributes.{attributes_take}
use Rattle.up_model.proofs.PlainReading.{are_bytes}
use Rattle.up_model.proofs.plain_frames.content_at.Goals as goal

pub in_order-requires : goal.in_order-requires
in_order-requires c =
    let below = are_bytes c.args.bytes.now (λ i. omega (arith, c.type_inv.bytes i)) in
    let read = rw c.in-Ok.is at c.in_ok-found.ensures in
    (attributes_take c.args.count [] c.args.bytes.now (c.in-Ok.found.0.items, c.in-Ok.found.1.now) below read).behind.order
