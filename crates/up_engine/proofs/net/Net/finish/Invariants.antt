use Rattle.std.proofs.Common.{◌≡◌, ◌<◌, ℕ, length, get_or}
use Rattle.up_engine.specs.Begun.{AreBackFrom, AreToldFrom, StrandsFit, StrandsStand}
use Rattle.up_engine.specs.Nets.{NetStands}
use Rattle.up_shape.specs.Stores.{Stays}
use Rattle.up_strand.specs.History.{History}
use Rattle.up_strand.specs.Strands.{want_of}
use Rattle.up_strand.specs.declared.strand.Strand.{Strand}
use Rattle.up_strand.specs.declared.want.Want.TheVariants.{Done}
use Rattle.up_engine.proofs.net.Net.finish.Given as goal

abbrev pub invariant-strands : goal.invariant-strands
invariant-strands g l =
    let plain = g.P.LocalPacket.plain in
    let reads = g.S.Source.state in
    let writes = g.K.Sink.state in
    let state = g.P.Store.Stash.state in
    record {
      told : (past : ℕ → History) → NetStands plain reads writes l.fn.self l.graph.pipes past
          → StrandsStand plain reads writes l.graph.pipes l.strands.items past × AreBackFrom reads writes l.graph.pipes (length l.strands.items) past l.table
          × AreToldFrom l.graph.pipes (length l.strands.items) past l.results;
      done : (i : ℕ) (d : Strand _ _ _) → i < length l.strands.items → want_of (get_or l.strands.items i d) ≡ Done;
      family : StrandsFit l.strands.items g.P.LocalPacket.fits (state l.initial.s).family;
      stays : Stays (state l.initial.s) (state l.s);
    }

abbrev pub decreases-strands : goal.decreases-strands
decreases-strands g l = length l.strands.items
