use Rattle.std.proofs.Common.{◌<◌, drop, refl, sym, ap, ◌∙◌, Some, arith}
use Rattle.std.proofs.lemmas.List.Elements.{All-from_get_or}
use Rattle.std.proofs.lemmas.Result.{err_from_is_err_and}
use Rattle.up_frame.proofs.GoingOn.{one_more, none_more, fewer, from_place}
use Rattle.up_model.specs.FrameFronts.{attribute_at}
use Rattle.up_frame.proofs.judging.next_attribute.Goals as goal

pub returns-in_err-name-clause-front : goal.returns-in_err-name-clause-front
returns-in_err-name-clause-front c on =
    let p = err_from_is_err_and c.from_residual.result c.from_residual.ensures.1 in
    let bytes = c.args.bytes.now in
    rw (p.1, p.2)
    (none_more c.args.judged bytes c.in_err-name.field-0.0 c.requires.some
    (ap (λ before. attribute_at before (drop c.args.judged.at bytes)) (sym c.last_name.ensures)
    ∙ ap (attribute_at c.last_name.result.now) (sym (from_place c.args.judged.at bytes)) ∙ c.in_err-name.ensures.front) on)

pub overflow_sub-result : goal.overflow_sub-result
overflow_sub-result c =
    let less = fewer c.last_name.result.now c.args.bytes.now c.args.judged.at _ c.requires.within
    (ap (attribute_at c.last_name.result.now) (sym (from_place c.args.judged.at c.args.bytes.now)) ∙ c.in_ok-name.ensures.front) in
    omega (arith, less)

pub invariant_of-result : goal.invariant_of-result
invariant_of-result c =
    let less = fewer c.last_name.result.now c.args.bytes.now c.args.judged.at _ c.requires.within
    (ap (attribute_at c.last_name.result.now) (sym (from_place c.args.judged.at c.args.bytes.now)) ∙ c.in_ok-name.ensures.front) in
    record { behind_head = omega (arith, less, c.args.judged.behind_head) }

pub returns-clause-front : goal.returns-clause-front
returns-clause-front c =
    let bytes = c.args.bytes.now in
    one_more c.args.judged _ bytes c.in_ok-name.name.now _ c.in_ok-name.rest.now
    (All-from_get_or (λ byte. byte < 256) bytes 0 (λ i within. omega (arith, c.type_inv.bytes i)))
    c.requires.within c.requires.some
    (ap (λ before. attribute_at before (drop c.args.judged.at bytes)) (sym c.last_name.ensures)
    ∙ ap (attribute_at c.last_name.result.now) (sym (from_place c.args.judged.at bytes)) ∙ c.in_ok-name.ensures.front)
    refl refl refl (ap Some c.of.ensures)
