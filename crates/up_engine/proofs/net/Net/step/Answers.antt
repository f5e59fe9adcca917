use Rattle.std.proofs.Common.{◌≡◌, ◌<◌, false, length, get_or, refl, sym, ap, ◌∙◌, subst, arith, inl}
use Rattle.std.proofs.lemmas.List.{get_or_default}
use Rattle.std.specs.Vec.{with_item}
use Rattle.up_engine.proofs.Pumping.{is_due_so, pump_count}
use Rattle.up_engine.proofs.ReadOn.{read_fits, read_turned}
use Rattle.up_engine.proofs.Standing.{same_but_pumps, same_itself, stands_there}
use Rattle.up_engine.proofs.Still.{rested}
use Rattle.up_engine.specs.Nets.{head_at}
use Rattle.up_engine.specs.declared.net.Net.{Net}
use Rattle.up_model.specs.Plans.{heads}
use Rattle.up_pump.specs.Pumps.{Pumps, pump_at}
use Rattle.up_strand.specs.Strands.{StrandFits, want_of}
use Rattle.up_strand.specs.declared.strand.Strand.{Strand}
use Rattle.up_strand.specs.declared.want.Want.TheVariants as wants
use Rattle.up_engine.proofs.net.Net.step.Goals as goal

pub step_read-requires-clause-family : goal.step_read-requires-clause-family
step_read-requires-clause-family g c =
    subst (λ (s : Strand g.row.P.Denot g.row.S.Denot g.row.K.Denot). StrandFits s g.P.LocalPacket.fits (g.P.Store.Stash.state c.args.s.now).family)
    (sym c.index_mut.ensures.value) (c.requires.family.strands c.args.i c.index_mut.result.now c.requires.within)

pub returns-in-Read-clause-turned : goal.returns-in-Read-clause-turned
returns-in-Read-clause-turned g c pipes past stands =
    let plain = g.P.LocalPacket.plain in
    let reads = g.S.Source.state in
    let writes = g.K.Sink.state in
    let i = c.args.i in
    let net = c.args.self.now in
    let strand = c.index.result.now in
    let count = stands.shape.strands in
    let within : i < length (heads pipes) = omega (arith, count, c.requires.within) in
    let asks : want_of (get_or net.strands.items i strand) ≡ wants.Read =
    ap (λ (s : Strand g.row.P.Denot g.row.S.Denot g.row.K.Denot). want_of s) (sym c.index.ensures) ∙ sym c.wants.ensures ∙ c.in-Read.is in
    let new : Net g.row.P.Denot g.row.S.Denot g.row.K.Denot = record net { strands = with_item net.strands i c.step_read.new.self } in
    let stood = stands_there plain reads writes pipes past net stands i within c.index_mut.result.now c.index_mut.ensures.value in
    read_turned plain reads writes pipes past net stands i within strand asks new c.step_read.new.self refl refl (g.P.Store.Stash.state c.args.s.now) (g.P.Store.Stash.state c.step_read.new.s)
    (c.step_read.ensures.stepped (past (head_at pipes i)) stood)
    (is_due_so net.pumps i c.requires.due)

pub returns-in-Read-clause-family : goal.returns-in-Read-clause-family
returns-in-Read-clause-family g c =
    let pipes = c.requires.stands.0 in
    let stands = c.requires.stands.2 in
    let i = c.args.i in
    let net = c.args.self.now in
    let strand = c.index.result.now in
    let count = stands.shape.strands in
    let within : i < length (heads pipes) = omega (arith, count, c.requires.within) in
    let asks : want_of (get_or net.strands.items i strand) ≡ wants.Read =
    ap (λ (s : Strand g.row.P.Denot g.row.S.Denot g.row.K.Denot). want_of s) (sym c.index.ensures) ∙ sym c.wants.ensures ∙ c.in-Read.is in
    let new : Net g.row.P.Denot g.row.S.Denot g.row.K.Denot = record net { strands = with_item net.strands i c.step_read.new.self } in
    read_fits g.P.LocalPacket.plain g.S.Source.state g.K.Sink.state pipes c.requires.stands.1 net stands i within strand asks new c.step_read.new.self refl refl
    g.P.LocalPacket.fits (g.P.Store.Stash.state c.args.s.now).family c.requires.family c.step_read.ensures.family

pub returns-in-Output-clause-turned : goal.returns-in-Output-clause-turned
returns-in-Output-clause-turned g c pipes past stands = c.send.ensures.turned (g.P.Store.Stash.state c.args.s.now) pipes past stands

pub returns-in-Output-clause-family : goal.returns-in-Output-clause-family
returns-in-Output-clause-family g c = c.send.ensures.family (g.P.Store.Stash.state c.args.s.now).family c.requires.family

pub returns-in-Done-clause-turned : goal.returns-in-Done-clause-turned
returns-in-Done-clause-turned g c pipes past stands =
    let i = c.args.i in
    let net = c.args.self.now in
    let count = stands.shape.strands in
    let within : i < length (heads pipes) = omega (arith, count, c.requires.within) in
    let new : Net g.row.P.Denot g.row.S.Denot g.row.K.Denot = record net { pumps = c.rest.new.self } in
    let same = same_but_pumps net net new i (same_itself net i) refl
    (ap (λ (loop : Pumps). length loop.pumps) c.rest.ensures ∙ pump_count net.pumps i (record (pump_at net.pumps i) { ready = false })) in
    let done : want_of c.index.result.now ≡ wants.Done = sym c.wants.ensures ∙ c.in-Done.is in
    rested g.P.LocalPacket.plain g.S.Source.state g.K.Sink.state pipes past net stands new i within same refl (is_due_so net.pumps i c.requires.due)
    (λ d. stands.strands i d within) (g.P.Store.Stash.state c.args.s.now) (g.P.Store.Stash.state c.args.s.now) c.rest.ensures
    (λ d. inl (ap (λ (s : Strand g.row.P.Denot g.row.S.Denot g.row.K.Denot). want_of s)
    (get_or_default net.strands.items i d c.index.result.now c.requires.within ∙ sym c.index.ensures) ∙ done))
    (omega arith)
