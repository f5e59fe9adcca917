use Rattle.std.proofs.Common.{◌≡◌, true, [], ◌∷◌, refl, sym, ◌∙◌}
use Rattle.std.proofs.lemmas.List.Elements.{All-cons, All-nil}
use Rattle.up_model.specs.Packet.{IsLegal}
use Rattle.up_strand.proofs.Gives.{given_one, Took-after}
use Rattle.up_strand.proofs.NodeSteps.{short_took}
use Rattle.up_strand.specs.Nodes.{takes_from}
use Rattle.up_strand.proofs.giving.give_second.Goals as goal

pub returns-in-Ok-take-clause-gave : goal.returns-in-Ok-take-clause-gave
returns-in-Ok-take-clause-gave g c =
    let took = rw c.in-Ok.ensures.plain at c.take.ensures.took in
    let takes : takes_from c.args.node.now.input c.args.place ≡ true = sym c.takes_from.ensures ∙ c.if-not-takes_from.false in
    given_one g.P.LocalPacket.plain g.K.Sink.state _ c.args.node.now c.take.new.self c.args.place _ takes
    took c.take.ensures.placed (λ _. c.take.ensures.taking) (λ _. c.in-Ok-take.ensures.sound)

pub returns-in-Err-take-clause-gave : goal.returns-in-Err-take-clause-gave
returns-in-Err-take-clause-gave g c =
    let took = rw c.in-Ok.ensures.plain at c.take.ensures.took in
    let takes : takes_from c.args.node.now.input c.args.place ≡ true = sym c.takes_from.ensures ∙ c.if-not-takes_from.false in
    given_one g.P.LocalPacket.plain g.K.Sink.state _ c.args.node.now c.take.new.self c.args.place _ takes
    took c.take.ensures.placed (λ _. c.take.ensures.taking) (λ wrong. absurd (cc))

pub returns-in-Err-clause-gave : goal.returns-in-Err-clause-gave
returns-in-Err-clause-gave g c =
    let plain = g.P.LocalPacket.plain in
    let state = g.K.Sink.state in
    let old = c.args.node.now in
    let new = c.fall.new.self in
    let packet = plain c.args.p.now in
    let takes : takes_from old.input c.args.place ≡ true = sym c.takes_from.ensures ∙ c.if-not-takes_from.false in
    let taking = c.requires.ready takes in
    let legal = All-cons IsLegal packet [] c.requires.legal (All-nil IsLegal) in
    let given_up = short_took plain state new new (packet ∷ []) c.fall.ensures.short refl refl refl (c.fall.ensures.whole ∙ taking.goes_on) legal in
    given_one plain state _ old new c.args.place packet takes (Took-after plain state old new new (packet ∷ []) c.fall.ensures.took given_up)
    c.fall.ensures.placed (λ _. record { goes_on = c.fall.ensures.whole ∙ taking.goes_on; gone = λ _. c.fall.ensures.short }) (λ wrong. absurd (cc))
