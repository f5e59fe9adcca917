use Rattle.std.proofs.Common.{ℕ, length}
use Rattle.up_engine.specs.Begun.{AreBackFrom, StrandsFit, StrandsStand}
use Rattle.up_shape.specs.Stores.{Stays}
use Rattle.up_strand.specs.History.{History}
use Rattle.up_engine.proofs.net.Net.give_back.Given as goal

abbrev pub invariant-strands : goal.invariant-strands
invariant-strands g l =
    let plain = g.P.LocalPacket.plain in
    let reads = g.S.Source.state in
    let writes = g.K.Sink.state in
    let state = g.P.Store.Stash.state in
    record {
      back : (past : ℕ → History) → StrandsStand plain reads writes l.graph.pipes l.initial.strands.items past
          → AreBackFrom reads writes l.graph.pipes (length l.initial.strands.items) past l.initial.table
          → StrandsStand plain reads writes l.graph.pipes l.strands.items past × AreBackFrom reads writes l.graph.pipes (length l.strands.items) past l.table;
      family : StrandsFit l.strands.items g.P.LocalPacket.fits (state l.initial.s).family;
      stays : Stays (state l.initial.s) (state l.s);
    }

abbrev pub decreases-strands : goal.decreases-strands
decreases-strands g l = length l.strands.items
