use Rattle.std.proofs.Common.{◌≡◌, ◌+◌, ◌<◌, length, ap, arith, ◌∙◌}
use Rattle.std.proofs.lemmas.List.{length-append}
use Rattle.std.proofs.lemmas.List.Elements.{All-from_get_or}
use Rattle.up_base.specs.Number.{AreBytes}
use Rattle.up_frame.proofs.GoingOn.{head_on, head_skips}
use Rattle.up_frame.proofs.judging.head.Goals as goal

pub returns-clause-within : goal.returns-clause-within
returns-clause-within c =
    let bytes = c.args.bytes.now in
    let below : AreBytes bytes = All-from_get_or (λ byte. byte < 256) bytes 0 (λ i within. omega (arith, c.type_inv.bytes i)) in
    let skips = head_skips bytes (_, c.in_ok-rest.rest.now) (_, c.in_ok-rest-2.rest.now) (_, c.in_ok-count.rest.now) (_, c.in_ok-size.field-0-1.now) below
    c.in_ok-rest.ensures c.in_ok-rest-2.ensures c.in_ok-count.ensures.front c.in_ok-size.ensures.front in
    let counted : length bytes ≡ length skips.passed + length c.in_ok-size.field-0-1.now = ap length skips.parts ∙ length-append skips.passed c.in_ok-size.field-0-1.now in
    omega (arith, counted, skips.place)

pub returns-clause-front : goal.returns-clause-front
returns-clause-front c =
    let bytes = c.args.bytes.now in
    let below : AreBytes bytes = All-from_get_or (λ byte. byte < 256) bytes 0 (λ i within. omega (arith, c.type_inv.bytes i)) in
    let skips = head_skips bytes (_, c.in_ok-rest.rest.now) (_, c.in_ok-rest-2.rest.now) (_, c.in_ok-count.rest.now) (_, c.in_ok-size.field-0-1.now) below
    c.in_ok-rest.ensures c.in_ok-rest-2.ensures c.in_ok-count.ensures.front c.in_ok-size.ensures.front in
    record {
      front = _;
      passed = skips.passed;
      behind = c.in_ok-size.field-0-1.now;
      parts = skips.parts;
      place = skips.place;
      on = head_on bytes (_, c.in_ok-rest.rest.now) (_, c.in_ok-rest-2.rest.now) (_, c.in_ok-count.rest.now) (_, c.in_ok-size.field-0-1.now)
          c.in_ok-rest.ensures c.in_ok-rest-2.ensures c.in_ok-count.ensures.front c.in_ok-size.ensures.front;
    }
