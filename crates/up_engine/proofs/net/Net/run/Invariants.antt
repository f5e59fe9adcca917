use Rattle.std.proofs.Common.{◌≤◌, ℕ, List}
use Rattle.up_engine.specs.Nets.{NetFits, NetStands, Went, reads_left}
use Rattle.up_model.specs.declared.pipe.Pipe.{Pipe}
use Rattle.up_shape.specs.Stores.{Stays}
use Rattle.up_strand.specs.History.{History}
use Rattle.up_engine.proofs.net.Net.run.Given as goal

abbrev pub invariant-reads : goal.invariant-reads
invariant-reads g l =
    let plain = g.P.LocalPacket.plain in
    let reads = g.S.Source.state in
    let writes = g.K.Sink.state in
    let state = g.P.Store.Stash.state in
    record {
      went : (pipes : List Pipe) (past : ℕ → History)
          → NetStands plain reads writes l.initial.self pipes past
          → Went plain reads writes pipes past l.self (state l.initial.s) (state l.s);
      left : (pipes : List Pipe) × (past : ℕ → History)
          × NetStands plain reads writes l.self pipes past
          × (reads_left pipes past ≤ l.ahead.reads);
      family : NetFits l.self g.P.LocalPacket.fits (state l.initial.s).family;
      stays : Stays (state l.initial.s) (state l.s);
    }

abbrev pub decreases-reads : goal.decreases-reads
decreases-reads g l = l.ahead.reads
