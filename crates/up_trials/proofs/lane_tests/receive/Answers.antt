use Rattle.up_strand.specs.StrandCalls.{IsLegalItem, ItemFits}
use Rattle.up_trials.proofs.Trials.{first_is, rest_are}
use Rattle.up_trials.proofs.lane_tests.receive.Goals as goal

pub step_on-requires-clause-legal : goal.step_on-requires-clause-legal
step_on-requires-clause-legal g c = first_is (IsLegalItem g.P.LocalPacket.plain) _ _ _ c.take_from-item.ensures c.requires.items.legal

pub step_on-requires-clause-item : goal.step_on-requires-clause-item
step_on-requires-clause-item g c =
    first_is (ItemFits g.P.LocalPacket.fits (g.P.Store.Stash.state c.args.s.now).family) _ _ _ c.take_from-item.ensures c.requires.items.suit

pub returns-clause-items : goal.returns-clause-items
returns-clause-items g c = record {
  legal = rest_are (IsLegalItem g.P.LocalPacket.plain) _ _ _ c.take_from-item.ensures c.requires.items.legal;
  suit = rw c.step_on.ensures.same
      (rest_are (ItemFits g.P.LocalPacket.fits (g.P.Store.Stash.state c.args.s.now).family) _ _ _ c.take_from-item.ensures c.requires.items.suit);
}
