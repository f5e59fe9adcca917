use Rattle.std.proofs.Common.{◌<◌, length, refl, sym, ap, ◌∙◌, subst, arith}
use Rattle.std.specs.Vec.{with_item}
use Rattle.up_engine.proofs.Bounded.{some_one}
use Rattle.up_engine.proofs.Fitting.{first_is}
use Rattle.up_engine.proofs.Pumping.{is_due_so}
use Rattle.up_engine.proofs.Received.{filler_stands, filler_within, lane_there, received_fits, received_turned, stands_here, waits_fits, waits_turned}
use Rattle.up_engine.proofs.Standing.{strand_of_it}
use Rattle.up_engine.specs.Nets.{head_at, items_at}
use Rattle.up_engine.specs.declared.net.Net.{Net}
use Rattle.up_model.specs.Plans.{heads}
use Rattle.up_strand.specs.StrandCalls.{IsLegalItem, ItemFits}
use Rattle.up_strand.specs.Strands.{StrandFits, want_of}
use Rattle.up_strand.specs.declared.strand.Strand.{Strand}
use Rattle.up_engine.proofs.net.Net.receive.Goals as goal

pub take_in-requires-clause-some : goal.take_in-requires-clause-some
take_in-requires-clause-some g c =
    let net = c.args.self.now in
    let pipes = c.requires.stands.0 in
    let stands = c.requires.stands.2 in
    let count = stands.shape.strands in
    let d = some_one net.strands.items c.args.i c.requires.within in
    lane_there g.P.LocalPacket.plain g.S.Source.state g.K.Sink.state pipes c.requires.stands.1 net stands c.args.i (omega (arith, count, c.requires.within)) d (c.requires.want d)

pub step_item-requires-clause-want : goal.step_item-requires-clause-want
step_item-requires-clause-want g c =
    let strand = c.index_mut.result.now in
    let is = strand_of_it c.args.self.now c.take_in.new.self c.args.i strand c.take_in.ensures.same c.index_mut.ensures.value in
    ap (λ (s : Strand g.row.P.Denot g.row.S.Denot g.row.K.Denot). want_of s) is ∙ c.requires.want strand

pub step_item-requires-clause-family : goal.step_item-requires-clause-family
step_item-requires-clause-family g c =
    let strand = c.index_mut.result.now in
    let is = strand_of_it c.args.self.now c.take_in.new.self c.args.i strand c.take_in.ensures.same c.index_mut.ensures.value in
    subst (λ (s : Strand g.row.P.Denot g.row.S.Denot g.row.K.Denot). StrandFits s g.P.LocalPacket.fits (g.P.Store.Stash.state c.args.s.now).family) (sym is)
    (c.requires.family.strands c.args.i strand c.requires.within)

pub step_item-requires-clause-legal : goal.step_item-requires-clause-legal
step_item-requires-clause-legal g c =
    first_is (IsLegalItem g.P.LocalPacket.plain) (items_at c.args.self.now.lanes.items c.args.i) (items_at c.take_in.new.self.lanes.items c.args.i) c.in-Some.item
    c.in-Some.ensures.first (c.requires.stands.2.legal c.args.i)

pub step_item-requires-clause-item : goal.step_item-requires-clause-item
step_item-requires-clause-item g c =
    first_is (ItemFits g.P.LocalPacket.fits (g.P.Store.Stash.state c.args.s.now).family) (items_at c.args.self.now.lanes.items c.args.i)
    (items_at c.take_in.new.self.lanes.items c.args.i) c.in-Some.item c.in-Some.ensures.first (c.requires.family.lanes c.args.i)

pub free_filler-requires-clause-strand : goal.free_filler-requires-clause-strand
free_filler-requires-clause-strand g c =
    let pipes = c.requires.stands.0 in
    let past = c.requires.stands.1 in
    let stands = c.requires.stands.2 in
    let plain = g.P.LocalPacket.plain in
    let reads = g.S.Source.state in
    let writes = g.K.Sink.state in
    let i = c.args.i in
    let net = c.args.self.now in
    let took = c.take_in.new.self in
    let strand = c.index_mut.result.now in
    let mid : Net _ _ _ = record took { strands = with_item took.strands i c.step_item.new.self } in
    let count = stands.shape.strands in
    let within : i < length (heads pipes) = omega (arith, count, c.requires.within) in
    (filler_within plain reads writes pipes past net stands i within strand (c.requires.want strand)
    took mid c.in-Some.item c.step_item.new.self c.take_in.ensures.same c.take_in.ensures.others c.in-Some.ensures.first refl refl).0

pub free_filler-requires-clause-pump : goal.free_filler-requires-clause-pump
free_filler-requires-clause-pump g c =
    let pipes = c.requires.stands.0 in
    let past = c.requires.stands.1 in
    let stands = c.requires.stands.2 in
    let plain = g.P.LocalPacket.plain in
    let reads = g.S.Source.state in
    let writes = g.K.Sink.state in
    let i = c.args.i in
    let net = c.args.self.now in
    let took = c.take_in.new.self in
    let strand = c.index_mut.result.now in
    let mid : Net _ _ _ = record took { strands = with_item took.strands i c.step_item.new.self } in
    let count = stands.shape.strands in
    let within : i < length (heads pipes) = omega (arith, count, c.requires.within) in
    (filler_within plain reads writes pipes past net stands i within strand (c.requires.want strand)
    took mid c.in-Some.item c.step_item.new.self c.take_in.ensures.same c.take_in.ensures.others c.in-Some.ensures.first refl refl).1

pub free_filler-requires-clause-stands : goal.free_filler-requires-clause-stands
free_filler-requires-clause-stands g c =
    let pipes = c.requires.stands.0 in
    let past = c.requires.stands.1 in
    let stands = c.requires.stands.2 in
    let plain = g.P.LocalPacket.plain in
    let reads = g.S.Source.state in
    let writes = g.K.Sink.state in
    let i = c.args.i in
    let net = c.args.self.now in
    let took = c.take_in.new.self in
    let strand = c.index_mut.result.now in
    let mid : Net _ _ _ = record took { strands = with_item took.strands i c.step_item.new.self } in
    let count = stands.shape.strands in
    let within : i < length (heads pipes) = omega (arith, count, c.requires.within) in
    let stood = stands_here plain reads writes pipes past net stands i within strand (c.requires.want strand)
    took mid c.in-Some.item c.step_item.new.self c.take_in.ensures.same c.take_in.ensures.others c.in-Some.ensures.first refl refl strand c.index_mut.ensures.value in
    let stepped = c.step_item.ensures.stepped (past (head_at pipes i)) stood in
    filler_stands plain reads writes pipes past net stands i within strand (c.requires.want strand)
    took mid c.in-Some.item c.step_item.new.self c.take_in.ensures.same c.take_in.ensures.others c.in-Some.ensures.first refl refl stepped

pub returns-in-Some-clause-turned : goal.returns-in-Some-clause-turned
returns-in-Some-clause-turned g c pipes past stands =
    let plain = g.P.LocalPacket.plain in
    let reads = g.S.Source.state in
    let writes = g.K.Sink.state in
    let i = c.args.i in
    let net = c.args.self.now in
    let took = c.take_in.new.self in
    let strand = c.index_mut.result.now in
    let mid : Net _ _ _ = record took { strands = with_item took.strands i c.step_item.new.self } in
    let count = stands.shape.strands in
    let within : i < length (heads pipes) = omega (arith, count, c.requires.within) in
    let stood = stands_here plain reads writes pipes past net stands i within strand (c.requires.want strand)
    took mid c.in-Some.item c.step_item.new.self c.take_in.ensures.same c.take_in.ensures.others c.in-Some.ensures.first refl refl strand c.index_mut.ensures.value in
    let stepped = c.step_item.ensures.stepped (past (head_at pipes i)) stood in
    received_turned plain reads writes pipes past net stands i within strand (c.requires.want strand)
    took mid c.in-Some.item c.step_item.new.self c.take_in.ensures.same c.take_in.ensures.others c.in-Some.ensures.first refl refl
    c.free_filler.new.self c.free_filler.ensures.same c.free_filler.ensures.freed (g.P.Store.Stash.state c.args.s.now) (g.P.Store.Stash.state c.step_item.new.s) stepped (is_due_so net.pumps i c.requires.due) c.step_item.ensures.store.more

pub returns-in-Some-clause-family : goal.returns-in-Some-clause-family
returns-in-Some-clause-family g c =
    let pipes = c.requires.stands.0 in
    let past = c.requires.stands.1 in
    let stands = c.requires.stands.2 in
    let plain = g.P.LocalPacket.plain in
    let reads = g.S.Source.state in
    let writes = g.K.Sink.state in
    let i = c.args.i in
    let net = c.args.self.now in
    let took = c.take_in.new.self in
    let strand = c.index_mut.result.now in
    let mid : Net _ _ _ = record took { strands = with_item took.strands i c.step_item.new.self } in
    let count = stands.shape.strands in
    let within : i < length (heads pipes) = omega (arith, count, c.requires.within) in
    received_fits plain reads writes pipes past net stands i within strand (c.requires.want strand)
    took mid c.in-Some.item c.step_item.new.self c.take_in.ensures.same c.take_in.ensures.others c.in-Some.ensures.first refl refl
    c.free_filler.new.self c.free_filler.ensures.same c.free_filler.ensures.freed g.P.LocalPacket.fits (g.P.Store.Stash.state c.args.s.now).family
    c.requires.family c.step_item.ensures.family

pub returns-in-None-clause-turned : goal.returns-in-None-clause-turned
returns-in-None-clause-turned g c pipes past stands =
    let plain = g.P.LocalPacket.plain in
    let reads = g.S.Source.state in
    let writes = g.K.Sink.state in
    let i = c.args.i in
    let net = c.args.self.now in
    let took = c.take_in.new.self in
    let count = stands.shape.strands in
    let within : i < length (heads pipes) = omega (arith, count, c.requires.within) in
    let d = some_one net.strands.items i c.requires.within in
    waits_turned plain reads writes pipes past net stands i within d (c.requires.want d) took (record took { pumps = c.rest.new.self })
    c.take_in.ensures.same c.take_in.ensures.others (c.take_in.ensures.unchanged c.in-None.is) refl c.rest.ensures
    (g.P.Store.Stash.state c.args.s.now) (g.P.Store.Stash.state c.args.s.now) (is_due_so net.pumps i c.requires.due) c.requires.want c.in-None.ensures.first.1 (omega arith)

pub returns-in-None-clause-family : goal.returns-in-None-clause-family
returns-in-None-clause-family g c =
    let plain = g.P.LocalPacket.plain in
    let reads = g.S.Source.state in
    let writes = g.K.Sink.state in
    let pipes = c.requires.stands.0 in
    let stands = c.requires.stands.2 in
    let i = c.args.i in
    let net = c.args.self.now in
    let took = c.take_in.new.self in
    let count = stands.shape.strands in
    let within : i < length (heads pipes) = omega (arith, count, c.requires.within) in
    let d = some_one net.strands.items i c.requires.within in
    waits_fits plain reads writes pipes c.requires.stands.1 net stands i within d (c.requires.want d) took (record took { pumps = c.rest.new.self })
    c.take_in.ensures.same c.take_in.ensures.others (c.take_in.ensures.unchanged c.in-None.is) refl c.rest.ensures
    g.P.LocalPacket.fits (g.P.Store.Stash.state c.args.s.now).family c.requires.family
