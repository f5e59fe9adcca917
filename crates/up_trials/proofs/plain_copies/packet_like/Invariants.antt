use Rattle.up_model.specs.Packet.{IsLegal}
use Rattle.up_trials.proofs.plain_copies.packet_like.Given as goal

abbrev pub invariant-loop-i : goal.invariant-loop-i
invariant-loop-i g l = record {
  legal : IsLegal (g.P.LocalPacket.plain l.p);
  fits : g.P.LocalPacket.fits l.p (g.P.Store.Stash.state l.initial.s).family;
}
