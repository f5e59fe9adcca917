use Rattle.std.proofs.Common.{◌≡◌, ◌<◌, length, sym, rules, arith, ◌∙◌}
use Rattle.up_strand.proofs.Found.{first_found}
use Rattle.up_strand.specs.Strands.{has_item}
use Rattle.up_strand.proofs.strand.Strand.ready_from.Goals as goal

pub returns-then-has_item-clause-first : goal.returns-then-has_item-clause-first
returns-then-has_item-clause-first g c =
    let count = length c.args.self.now.tree.nodes.items in
    let long : c.len-count.result ≡ count = search rules in
    let inside : c.loop-i.i < count = omega (arith, long, c.loop-i-test.true) in
    sym (first_found (has_item c.args.self.now) count c.loop-i.i (omega arith) c.loop-i.invariant (λ less. sym c.has_item.ensures ∙ c.if-has_item.true))

pub returns-clause-first : goal.returns-clause-first
returns-clause-first g c =
    let count = length c.args.self.now.tree.nodes.items in
    let long : c.len-count.result ≡ count = search rules in
    sym (first_found (has_item c.args.self.now) count c.len-count.result (omega (arith, long)) (λ k below. c.loop-i.invariant k (omega (arith, c.loop-i-test.false))) (λ less. absurd (omega (arith, long))))
