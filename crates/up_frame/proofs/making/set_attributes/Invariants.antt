use Rattle.std.proofs.Common.{ℕ, List}
use Rattle.up_frame.proofs.SetAttributes.{IsSet}
use Rattle.up_frame.specs.Reading.{ReadsAs}
use Rattle.up_model.proofs.AttrLists.{Attr}
use Rattle.up_frame.proofs.making.set_attributes.Given as goal

abbrev pub invariant-loop : goal.invariant-loop
invariant-loop g l =
    record {
      set : (list : List Attr) (behind : List ℕ) → ReadsAs l.parts list behind
          → IsSet (g.P.LocalPacket.plain l.initial.packet) (g.P.LocalPacket.plain l.packet) l.parts.count l.counter list behind l.before l.rest;
      family : (f : _) → g.P.LocalPacket.fits l.initial.packet f → g.P.LocalPacket.fits l.packet f;
    }
