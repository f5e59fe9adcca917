use Rattle.std.proofs.Common.{◌-◌, length}
use Rattle.up_engine.specs.Begun.{AreTakenOf, StrandsFit, StrandsStand, beginning}
use Rattle.up_engine.specs.Tables.{HasTables}
use Rattle.up_shape.specs.Stores.{Stays}
use Rattle.up_engine.proofs.net.Net.new.Given as goal

abbrev pub invariant-strands : goal.invariant-strands
invariant-strands g l =
    let plain = g.P.LocalPacket.plain in
    let reads = g.S.Source.state in
    let writes = g.K.Sink.state in
    record {
      tables : HasTables l.graph.pipes l.net;
      stand : StrandsStand plain reads writes l.graph.pipes l.net.strands.items (beginning reads writes l.graph.pipes l.initial.table);
      family : (f : g.row.P-Store-Family.Denot) → StrandsFit l.net.strands.items g.P.LocalPacket.fits f;
      taken : AreTakenOf l.graph.pipes (length l.net.strands.items) l.initial.table l.table;
      stays : Stays (g.P.Store.Stash.state l.initial.s) (g.P.Store.Stash.state l.s);
    }

abbrev pub decreases-strands : goal.decreases-strands
decreases-strands g l = length l.plan.strands - length l.net.strands.items
