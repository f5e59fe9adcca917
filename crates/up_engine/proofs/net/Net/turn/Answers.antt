use Rattle.std.proofs.Common.{sym, ◌∙◌, arith}
use Rattle.up_engine.proofs.DuePumps.{given_is_due, none_is_due}
use Rattle.up_engine.proofs.Going.{stands_with_loop, turned_to_over, turned_with_loop}
use Rattle.up_engine.proofs.Resting.{rests_when_over}
use Rattle.up_engine.proofs.net.Net.turn.Goals as goal
use Rattle.up_pump.proofs.FirstDue.{is_due_at-within}

pub step-requires-clause-within : goal.step-requires-clause-within
step-requires-clause-within g c =
    let given = sym c.next.ensures.given ∙ c.in-Some.is in
    let below = is_due_at-within c.args.self.now.pumps.pumps c.in-Some.i (given_is_due c.args.self.now.pumps c.in-Some.i given) in
    let shape = c.requires.stands.2.shape in
    omega (arith, below, shape.pumps, shape.strands)

pub step-requires-clause-due : goal.step-requires-clause-due
step-requires-clause-due g c =
    let given = sym c.next.ensures.given ∙ c.in-Some.is in
    rw c.next.ensures.pumps (given_is_due c.args.self.now.pumps c.in-Some.i given)

pub step-requires-clause-stands : goal.step-requires-clause-stands
step-requires-clause-stands g c =
    let (pipes, past, stands) = c.requires.stands in
    (pipes, past, stands_with_loop _ _ _ _ pipes past _ c.next.ensures.pumps stands)

pub returns-in-Some-clause-turned : goal.returns-in-Some-clause-turned
returns-in-Some-clause-turned g c pipes past stands =
    let moved = stands_with_loop _ _ _ _ pipes past _ c.next.ensures.pumps stands in
    turned_with_loop _ _ _ _ pipes past _ c.next.ensures.pumps _ _ _ _ (c.step.ensures.turned pipes past moved)

pub returns-in-None-clause-turned : goal.returns-in-None-clause-turned
returns-in-None-clause-turned g c pipes past stands =
    let none = sym c.next.ensures.given ∙ c.in-None.is in
    let over = rests_when_over _ _ _ _ pipes past stands
    (λ i within. none_is_due c.args.self.now.pumps i none (omega (arith, within, stands.shape.pumps))) in
    turned_to_over _ _ _ _ pipes past _ c.next.ensures.pumps _ stands over
