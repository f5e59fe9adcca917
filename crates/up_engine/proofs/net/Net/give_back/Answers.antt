use Rattle.std.proofs.Common.{sym}
use Rattle.up_engine.proofs.GivenBack.{back_at_end}
use Rattle.up_shape.proofs.StoreSteps.{Stays-trans}
use Rattle.up_engine.proofs.net.Net.give_back.Goals as goal

pub end_last-requires-clause-stands : goal.end_last-requires-clause-stands
end_last-requires-clause-stands g c =
    let (past, stand, back) = c.requires.stands in
    let so_far = c.strands.invariant.back past stand back in
    (past, so_far.0, so_far.1)

pub end_last-requires-clause-family : goal.end_last-requires-clause-family
end_last-requires-clause-family g c = rw c.strands.invariant.stays.same c.strands.invariant.family

pub strands-preserved-in-Some : goal.strands-preserved-in-Some
strands-preserved-in-Some g c =
    let inv = c.strands.invariant in
    record {
      back = λ past stand back.
          let so_far = inv.back past stand back in
          c.in-Some.ensures.ended.back past so_far.0 so_far.1;
      family = rw (sym inv.stays.same) c.end_last.ensures.family;
      stays = Stays-trans _ _ _ inv.stays c.end_last.ensures.store;
    }

pub returns-clause-back : goal.returns-clause-back
returns-clause-back g c past stand back =
    let so_far = c.strands.invariant.back past stand back in
    back_at_end c.args.graph.now.pipes g.S.Source.state g.K.Sink.state past c.strands.strands.items c.strands.table c.end_last.new.table
    c.in_default.ensures.ended.0 c.in_default.ensures.ended.2 so_far.1
