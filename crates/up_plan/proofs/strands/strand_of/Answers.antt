use Rattle.std.proofs.Common.{◌≡◌, ◌∙◌, ap, length, rules}
use Rattle.std.specs.List.{filter, range_with_len}
use Rattle.up_model.specs.Plans as plans
use Rattle.up_plan.specs.HeadTable.{has_head}
use Rattle.up_plan.proofs.Places.{strand-of_each}
use Rattle.up_plan.proofs.strands.strand_of.Goals as goal

pub returns : goal.returns
returns c pipes each =
    let places = c.in_ok-own.own.items in
    let listed : c.in_ok-place_list.field-0 ≡ places = search rules in
    let kept : places ≡ filter (has_head c.args.each.now c.args.head) (range_with_len 0 (length c.args.each.now)) = search rules in
    let own : c.in_ok-place_list.field-0 ≡ plans.strand_of pipes c.args.head =
    listed ∙ kept ∙ rw each (strand-of_each pipes c.args.head) in
    ap (λ own. record { head = c.args.head; pipes = own }) own
