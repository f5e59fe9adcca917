use Rattle.std.proofs.Common.{◌≡◌, ℕ, ◌<◌, Some, length, get_or, refl, sym, ap, ◌∙◌, subst, arith}
use Rattle.std.proofs.lemmas.List.{get_or_read}
use Rattle.std.specs.Vec.{with_item}
use Rattle.up_engine.proofs.Bounded.{some_one}
use Rattle.up_engine.proofs.Pumping.{is_due_so}
use Rattle.up_engine.proofs.Sent.{has_number, held_fits, held_turned, lane_there, lane_within, pumps_put, sent_fits, sent_turned, strand_put, to}
use Rattle.up_engine.proofs.Standing.{stands_there}
use Rattle.up_engine.specs.Nets.{head_at}
use Rattle.up_engine.specs.declared.net.Net.{Net}
use Rattle.up_model.specs.Plans.{heads}
use Rattle.up_pump.specs.Pumps.{Pumps, blockers_at}
use Rattle.up_queue.specs.declared.item.Item.{Item}
use Rattle.up_strand.specs.StrandCalls.{ItemFits, gave_out, lane_given}
use Rattle.up_strand.specs.Strands.{StandsFor, StrandFits, want_of}
use Rattle.up_strand.specs.declared.strand.Strand.{Strand}
use Rattle.up_strand.specs.declared.want.Want.TheVariants as wants
use Rattle.up_engine.proofs.net.Net.send.Goals as goal

pub index-to-requires : goal.index-to-requires
index-to-requires g c =
    let pipes = c.requires.stands.0 in
    let past = c.requires.stands.1 in
    let stands = c.requires.stands.2 in
    let plain = g.P.LocalPacket.plain in
    let reads = g.S.Source.state in
    let writes = g.K.Sink.state in
    let i = c.args.i in
    let lane = c.args.lane in
    let net = c.args.self.now in
    let count = stands.shape.strands in
    let within : i < length (heads pipes) = omega (arith, count, c.requires.within) in
    let strand = some_one net.strands.items i c.requires.within in
    let there = has_number plain reads writes pipes past net stands i within lane strand (c.requires.want strand) in
    omega (arith, there, c.from.ensures)

pub next_out-item-requires-clause-want : goal.next_out-item-requires-clause-want
next_out-item-requires-clause-want g c = (
  c.args.lane,
  ap (λ (s : Strand g.row.P.Denot g.row.S.Denot g.row.K.Denot). want_of s) c.index_mut.ensures.value ∙ c.requires.want c.index_mut.result.now,
)

pub put_in-requires-clause-within : goal.put_in-requires-clause-within
put_in-requires-clause-within g c =
    let pipes = c.requires.stands.0 in
    let past = c.requires.stands.1 in
    let stands = c.requires.stands.2 in
    let plain = g.P.LocalPacket.plain in
    let reads = g.S.Source.state in
    let writes = g.K.Sink.state in
    let i = c.args.i in
    let lane = c.args.lane in
    let net = c.args.self.now in
    let count = stands.shape.strands in
    let within : i < length (heads pipes) = omega (arith, count, c.requires.within) in
    let strand = c.index_mut.result.now in
    let there = has_number plain reads writes pipes past net stands i within lane strand (c.requires.want strand) in
    let at : c.index-to.result.now ≡ to plain reads writes pipes past net stands i within lane strand (c.requires.want strand) =
    get_or_read net.numbers.items c.from.result c.index-to.result.now (omega (arith, there, c.from.ensures)) c.index-to.ensures 0
    ∙ ap (λ (n : ℕ). get_or net.numbers.items n 0) c.from.ensures in
    let inside = lane_within plain reads writes pipes past net stands i within lane strand (c.requires.want strand) in
    omega (arith, at, inside)

pub put_in-requires-clause-some : goal.put_in-requires-clause-some
put_in-requires-clause-some g c =
    let pipes = c.requires.stands.0 in
    let past = c.requires.stands.1 in
    let stands = c.requires.stands.2 in
    let plain = g.P.LocalPacket.plain in
    let reads = g.S.Source.state in
    let writes = g.K.Sink.state in
    let i = c.args.i in
    let lane = c.args.lane in
    let net = c.args.self.now in
    let count = stands.shape.strands in
    let within : i < length (heads pipes) = omega (arith, count, c.requires.within) in
    let strand = c.index_mut.result.now in
    let there = has_number plain reads writes pipes past net stands i within lane strand (c.requires.want strand) in
    let at : c.index-to.result.now ≡ to plain reads writes pipes past net stands i within lane strand (c.requires.want strand) =
    get_or_read net.numbers.items c.from.result c.index-to.result.now (omega (arith, there, c.from.ensures)) c.index-to.ensures 0
    ∙ ap (λ (n : ℕ). get_or net.numbers.items n 0) c.from.ensures in
    rw at (lane_there plain reads writes pipes past net stands i within lane strand (c.requires.want strand))

pub keep_out-requires : goal.keep_out-requires
keep_out-requires g c =
    let pipes = c.requires.stands.0 in
    let past = c.requires.stands.1 in
    let stands = c.requires.stands.2 in
    let plain = g.P.LocalPacket.plain in
    let reads = g.S.Source.state in
    let writes = g.K.Sink.state in
    let i = c.args.i in
    let lane = c.args.lane in
    let net = c.args.self.now in
    let count = stands.shape.strands in
    let within : i < length (heads pipes) = omega (arith, count, c.requires.within) in
    let strand = c.index_mut.result.now in
    let there = has_number plain reads writes pipes past net stands i within lane strand (c.requires.want strand) in
    let at : c.index-to.result.now ≡ to plain reads writes pipes past net stands i within lane strand (c.requires.want strand) =
    get_or_read net.numbers.items c.from.result c.index-to.result.now (omega (arith, there, c.from.ensures)) c.index-to.ensures 0
    ∙ ap (λ (n : ℕ). get_or net.numbers.items n 0) c.from.ensures in
    let out = c.next_out-item.new.self in
    let mid : Net g.row.P.Denot g.row.S.Denot g.row.K.Denot = record net { strands = with_item net.strands i out } in
    let put = c.put_in.new.self in
    let stood = stands_there plain reads writes pipes past net stands i within strand c.index_mut.ensures.value in
    let asked : want_of strand ≡ wants.Output lane =
    ap (λ (s : Strand g.row.P.Denot g.row.S.Denot g.row.K.Denot). want_of s) c.index_mut.ensures.value ∙ c.requires.want strand in
    let gave = c.next_out-item.ensures.gave (past (head_at pipes i)) lane asked stood in
    let is : c.index_mut-in-Err.result.now ≡ out =
    c.index_mut-in-Err.ensures.value ∙ strand_put plain reads writes pipes past net stands i within lane strand (c.requires.want strand)
    mid put out c.next_out-item.result c.index-to.result.now at refl refl c.put_in.ensures.same c.put_in.ensures.others c.index_mut-in-Err.result.now in
    let given : lane_given c.index_mut-in-Err.result.now ≡ Some lane =
    ap (λ (s : Strand g.row.P.Denot g.row.S.Denot g.row.K.Denot). lane_given s) is ∙ c.next_out-item.ensures.back lane asked in
    let gone : StandsFor plain reads writes c.index_mut-in-Err.result.now (gave_out plain (past (head_at pipes i)) lane c.in-Err.field-0.item) =
    subst (λ (s : Strand g.row.P.Denot g.row.S.Denot g.row.K.Denot). StandsFor plain reads writes s (gave_out plain (past (head_at pipes i)) lane c.in-Err.field-0.item)) (sym is)
    (subst (λ (item : Item g.row.P.Denot). StandsFor plain reads writes out (gave_out plain (past (head_at pipes i)) lane item)) (sym c.in-Err.ensures.back) gave.stands) in
    record {
      came = record {
        h = past (head_at pipes i);
        lane = lane;
        given = given;
        stands = gone;
        not_over = gave.not_over;
      };
    }

pub hold_back-requires-clause-free : goal.hold_back-requires-clause-free
hold_back-requires-clause-free g c =
    let pipes = c.requires.stands.0 in
    let past = c.requires.stands.1 in
    let stands = c.requires.stands.2 in
    let plain = g.P.LocalPacket.plain in
    let reads = g.S.Source.state in
    let writes = g.K.Sink.state in
    let i = c.args.i in
    let lane = c.args.lane in
    let net = c.args.self.now in
    let count = stands.shape.strands in
    let within : i < length (heads pipes) = omega (arith, count, c.requires.within) in
    let strand = c.index_mut.result.now in
    let there = has_number plain reads writes pipes past net stands i within lane strand (c.requires.want strand) in
    let at : c.index-to.result.now ≡ to plain reads writes pipes past net stands i within lane strand (c.requires.want strand) =
    get_or_read net.numbers.items c.from.result c.index-to.result.now (omega (arith, there, c.from.ensures)) c.index-to.ensures 0
    ∙ ap (λ (n : ℕ). get_or net.numbers.items n 0) c.from.ensures in
    let out = c.next_out-item.new.self in
    let mid : Net g.row.P.Denot g.row.S.Denot g.row.K.Denot = record net { strands = with_item net.strands i out } in
    let put = c.put_in.new.self in
    ap (λ (loop : Pumps). blockers_at loop i)
    (pumps_put plain reads writes pipes past net stands i within lane strand (c.requires.want strand)
    mid put out c.next_out-item.result c.index-to.result.now at refl refl c.put_in.ensures.same c.put_in.ensures.others)
    ∙ (is_due_so net.pumps i c.requires.due).free

pub returns-in-Ok-clause-turned : goal.returns-in-Ok-clause-turned
returns-in-Ok-clause-turned g c store pipes past stands =
    let plain = g.P.LocalPacket.plain in
    let reads = g.S.Source.state in
    let writes = g.K.Sink.state in
    let i = c.args.i in
    let lane = c.args.lane in
    let net = c.args.self.now in
    let count = stands.shape.strands in
    let within : i < length (heads pipes) = omega (arith, count, c.requires.within) in
    let strand = c.index_mut.result.now in
    let there = has_number plain reads writes pipes past net stands i within lane strand (c.requires.want strand) in
    let at : c.index-to.result.now ≡ to plain reads writes pipes past net stands i within lane strand (c.requires.want strand) =
    get_or_read net.numbers.items c.from.result c.index-to.result.now (omega (arith, there, c.from.ensures)) c.index-to.ensures 0
    ∙ ap (λ (n : ℕ). get_or net.numbers.items n 0) c.from.ensures in
    let out = c.next_out-item.new.self in
    let mid : Net g.row.P.Denot g.row.S.Denot g.row.K.Denot = record net { strands = with_item net.strands i out } in
    let put = c.put_in.new.self in
    let stood = stands_there plain reads writes pipes past net stands i within strand c.index_mut.ensures.value in
    let asked : want_of strand ≡ wants.Output lane =
    ap (λ (s : Strand g.row.P.Denot g.row.S.Denot g.row.K.Denot). want_of s) c.index_mut.ensures.value ∙ c.requires.want strand in
    let gave = c.next_out-item.ensures.gave (past (head_at pipes i)) lane asked stood in
    sent_turned plain reads writes pipes past net stands i within lane strand (c.requires.want strand)
    mid put out c.next_out-item.result c.index-to.result.now at refl refl c.put_in.ensures.same c.put_in.ensures.others
    (record put { pumps = c.ready.new.self }) refl c.ready.ensures c.in-Ok.ensures.added store gave (is_due_so net.pumps i c.requires.due) c.next_out-item.ensures.legal
    (λ full. absurd (let no = c.in-Ok.ensures.full.1 full in cc))

pub returns-in-Ok-clause-family : goal.returns-in-Ok-clause-family
returns-in-Ok-clause-family g c family fits =
    let pipes = c.requires.stands.0 in
    let past = c.requires.stands.1 in
    let stands = c.requires.stands.2 in
    let plain = g.P.LocalPacket.plain in
    let reads = g.S.Source.state in
    let writes = g.K.Sink.state in
    let i = c.args.i in
    let lane = c.args.lane in
    let net = c.args.self.now in
    let count = stands.shape.strands in
    let within : i < length (heads pipes) = omega (arith, count, c.requires.within) in
    let strand = c.index_mut.result.now in
    let there = has_number plain reads writes pipes past net stands i within lane strand (c.requires.want strand) in
    let at : c.index-to.result.now ≡ to plain reads writes pipes past net stands i within lane strand (c.requires.want strand) =
    get_or_read net.numbers.items c.from.result c.index-to.result.now (omega (arith, there, c.from.ensures)) c.index-to.ensures 0
    ∙ ap (λ (n : ℕ). get_or net.numbers.items n 0) c.from.ensures in
    let out = c.next_out-item.new.self in
    let mid : Net g.row.P.Denot g.row.S.Denot g.row.K.Denot = record net { strands = with_item net.strands i out } in
    let put = c.put_in.new.self in
    let fit = c.next_out-item.ensures.family family
    (subst (λ (s : Strand g.row.P.Denot g.row.S.Denot g.row.K.Denot). StrandFits s g.P.LocalPacket.fits family) (sym c.index_mut.ensures.value) (fits.strands i strand c.requires.within)) in
    sent_fits plain reads writes pipes past net stands i within lane strand (c.requires.want strand)
    mid put out c.next_out-item.result c.index-to.result.now at refl refl c.put_in.ensures.same c.put_in.ensures.others
    (record put { pumps = c.ready.new.self }) refl c.ready.ensures c.in-Ok.ensures.added g.P.LocalPacket.fits family fits fit.0 fit.1

pub returns-in-Err-clause-turned : goal.returns-in-Err-clause-turned
returns-in-Err-clause-turned g c store pipes past stands =
    let plain = g.P.LocalPacket.plain in
    let reads = g.S.Source.state in
    let writes = g.K.Sink.state in
    let i = c.args.i in
    let lane = c.args.lane in
    let net = c.args.self.now in
    let count = stands.shape.strands in
    let within : i < length (heads pipes) = omega (arith, count, c.requires.within) in
    let strand = c.index_mut.result.now in
    let there = has_number plain reads writes pipes past net stands i within lane strand (c.requires.want strand) in
    let at : c.index-to.result.now ≡ to plain reads writes pipes past net stands i within lane strand (c.requires.want strand) =
    get_or_read net.numbers.items c.from.result c.index-to.result.now (omega (arith, there, c.from.ensures)) c.index-to.ensures 0
    ∙ ap (λ (n : ℕ). get_or net.numbers.items n 0) c.from.ensures in
    let out = c.next_out-item.new.self in
    let mid : Net g.row.P.Denot g.row.S.Denot g.row.K.Denot = record net { strands = with_item net.strands i out } in
    let put = c.put_in.new.self in
    let stood = stands_there plain reads writes pipes past net stands i within strand c.index_mut.ensures.value in
    let asked : want_of strand ≡ wants.Output lane =
    ap (λ (s : Strand g.row.P.Denot g.row.S.Denot g.row.K.Denot). want_of s) c.index_mut.ensures.value ∙ c.requires.want strand in
    let gave = c.next_out-item.ensures.gave (past (head_at pipes i)) lane asked stood in
    let is : c.index_mut-in-Err.result.now ≡ out =
    c.index_mut-in-Err.ensures.value ∙ strand_put plain reads writes pipes past net stands i within lane strand (c.requires.want strand)
    mid put out c.next_out-item.result c.index-to.result.now at refl refl c.put_in.ensures.same c.put_in.ensures.others c.index_mut-in-Err.result.now in
    let given : lane_given c.index_mut-in-Err.result.now ≡ Some lane =
    ap (λ (s : Strand g.row.P.Denot g.row.S.Denot g.row.K.Denot). lane_given s) is ∙ c.next_out-item.ensures.back lane asked in
    let gone : StandsFor plain reads writes c.index_mut-in-Err.result.now (gave_out plain (past (head_at pipes i)) lane c.in-Err.field-0.item) =
    subst (λ (s : Strand g.row.P.Denot g.row.S.Denot g.row.K.Denot). StandsFor plain reads writes s (gave_out plain (past (head_at pipes i)) lane c.in-Err.field-0.item)) (sym is)
    (subst (λ (item : Item g.row.P.Denot). StandsFor plain reads writes out (gave_out plain (past (head_at pipes i)) lane item)) (sym c.in-Err.ensures.back) gave.stands) in
    let kept : Net g.row.P.Denot g.row.S.Denot g.row.K.Denot = record put { strands = with_item put.strands i c.keep_out.new.self } in
    held_turned plain reads writes pipes past net stands i within lane strand (c.requires.want strand)
    mid put out c.next_out-item.result c.index-to.result.now at refl refl c.put_in.ensures.same c.put_in.ensures.others
    kept c.hold_back.new.self c.keep_out.new.self c.in-Err.ensures.unchanged refl refl c.hold_back.ensures store
    (c.keep_out.ensures.back (past (head_at pipes i)) lane given gone gave.not_over) (c.keep_out.ensures.waits lane given) (is_due_so net.pumps i c.requires.due)
    (c.in-Err.ensures.full.0 refl)

pub returns-in-Err-clause-family : goal.returns-in-Err-clause-family
returns-in-Err-clause-family g c family fits =
    let pipes = c.requires.stands.0 in
    let past = c.requires.stands.1 in
    let stands = c.requires.stands.2 in
    let plain = g.P.LocalPacket.plain in
    let reads = g.S.Source.state in
    let writes = g.K.Sink.state in
    let i = c.args.i in
    let lane = c.args.lane in
    let net = c.args.self.now in
    let count = stands.shape.strands in
    let within : i < length (heads pipes) = omega (arith, count, c.requires.within) in
    let strand = c.index_mut.result.now in
    let there = has_number plain reads writes pipes past net stands i within lane strand (c.requires.want strand) in
    let at : c.index-to.result.now ≡ to plain reads writes pipes past net stands i within lane strand (c.requires.want strand) =
    get_or_read net.numbers.items c.from.result c.index-to.result.now (omega (arith, there, c.from.ensures)) c.index-to.ensures 0
    ∙ ap (λ (n : ℕ). get_or net.numbers.items n 0) c.from.ensures in
    let out = c.next_out-item.new.self in
    let mid : Net g.row.P.Denot g.row.S.Denot g.row.K.Denot = record net { strands = with_item net.strands i out } in
    let put = c.put_in.new.self in
    let is : c.index_mut-in-Err.result.now ≡ out =
    c.index_mut-in-Err.ensures.value ∙ strand_put plain reads writes pipes past net stands i within lane strand (c.requires.want strand)
    mid put out c.next_out-item.result c.index-to.result.now at refl refl c.put_in.ensures.same c.put_in.ensures.others c.index_mut-in-Err.result.now in
    let kept : Net g.row.P.Denot g.row.S.Denot g.row.K.Denot = record put { strands = with_item put.strands i c.keep_out.new.self } in
    let fit = c.next_out-item.ensures.family family
    (subst (λ (s : Strand g.row.P.Denot g.row.S.Denot g.row.K.Denot). StrandFits s g.P.LocalPacket.fits family) (sym c.index_mut.ensures.value) (fits.strands i strand c.requires.within)) in
    let back = c.keep_out.ensures.family family
    (subst (λ (s : Strand g.row.P.Denot g.row.S.Denot g.row.K.Denot). StrandFits s g.P.LocalPacket.fits family) (sym is) fit.0)
    (subst (λ (item : Item g.row.P.Denot). ItemFits g.P.LocalPacket.fits family item) (sym c.in-Err.ensures.back) fit.1) in
    held_fits plain reads writes pipes past net stands i within lane strand (c.requires.want strand)
    mid put out c.next_out-item.result c.index-to.result.now at refl refl c.put_in.ensures.same c.put_in.ensures.others
    kept c.hold_back.new.self c.keep_out.new.self c.in-Err.ensures.unchanged refl refl c.hold_back.ensures g.P.LocalPacket.fits family fits back
