use Rattle.std.proofs.Common.{subst, sym}
use Rattle.up_strand.proofs.StrandSteps.{none_at_pipes, once_looked}
use Rattle.up_strand.specs.History.{History}
use Rattle.up_strand.specs.StrandCalls.{SteppedRead}
use Rattle.up_strand.specs.Strands.{StandsFor, StrandFits}
use Rattle.up_strand.specs.declared.strand.Strand.{Strand}
use Rattle.up_strand.proofs.strand.Strand.step_read.Goals as goal

pub look_for_output-requires-clause-pipes : goal.look_for_output-requires-clause-pipes
look_for_output-requires-clause-pipes g c =
    none_at_pipes g.P.LocalPacket.plain g.S.Source.state g.K.Sink.state c.take_read.new.self c.take_read.ensures.kept
    (λ ready found. (_, (c.take_read.ensures.stepped ready found c.requires.stands.0 c.requires.stands.1).step.stands))

pub returns-clause-stepped : goal.returns-clause-stepped
returns-clause-stepped g c =
    let plain = g.P.LocalPacket.plain in
    let reads = g.S.Source.state in
    let writes = g.K.Sink.state in
    once_looked (λ (strand : Strand g.row.P.Denot g.row.S.Denot g.row.K.Denot). (h : History) → StandsFor plain reads writes c.args.self.now h
    → SteppedRead plain reads writes strand h (g.P.Store.Stash.state c.args.s.now) (g.P.Store.Stash.state c.take_read.new.s))
    c.take_read.new.self c.look_for_output.new.self c.look_for_output.ensures.same c.look_for_output.ensures.ready c.take_read.ensures.stepped

pub returns-clause-family : goal.returns-clause-family
returns-clause-family g c =
    subst (λ (strand : Strand g.row.P.Denot g.row.S.Denot g.row.K.Denot). StrandFits strand g.P.LocalPacket.fits (g.P.Store.Stash.state c.args.s.now).family)
    (sym c.look_for_output.ensures.same) (record { nodes = c.take_read.ensures.family.nodes; kept = c.take_read.ensures.family.kept })
