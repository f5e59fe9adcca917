use Rattle.std.proofs.Common.{◌≡◌, ◌<◌, ◌++◌, ◌∷◌, [], ℕ, List, length, get_or, true, refl, ap, sym, ◌∙◌, arith}
use Rattle.std.proofs.lemmas.List.{get_or_append_left, get_or_push, length-map, length_push}
use Rattle.up_engine.proofs.GivenBack.{all_back, back_at_end, last_of, net_strands, none_back}
use Rattle.up_engine.proofs.Numbered.{own_of}
use Rattle.up_engine.proofs.ToldPlaces.{all_told, none_told, strand_told, told_at_end, told_count}
use Rattle.up_engine.specs.Begun.{EndsLast, StrandsStand, places_at}
use Rattle.up_engine.specs.declared.finishing.Told.{Told}
use Rattle.up_engine.specs.declared.object.Object.{Object}
use Rattle.up_model.specs.Plans.{heads}
use Rattle.up_model.specs.declared.pipe.Pipe.{Pipe}
use Rattle.up_model.specs.declared.plain_packet.PlainPacket.{PlainPacket}
use Rattle.up_outside.specs.States.{SourceState, SinkState}
use Rattle.up_plan.specs.Plan.{plan_strand}
use Rattle.up_plan.specs.declared.plan.Plan.{Plan}
use Rattle.up_shape.proofs.StoreSteps.{Stays-refl, Stays-trans}
use Rattle.up_strand.specs.History.{History}
use Rattle.up_strand.specs.StrandCalls.{is_done}
use Rattle.up_strand.specs.Strands.{want_of}
use Rattle.up_strand.specs.declared.strand.Strand.{Strand}
use Rattle.up_strand.specs.declared.want.Want.TheVariants.{Done}
use Rattle.up_engine.proofs.net.Net.finish.Goals as goal

-- the last of strands that are all done was done
last_done : {P S K : Type 0} (old new : List (Strand P S K)) (strand : Strand P S K) → old ≡ new ++ strand ∷ []
    → ((i : ℕ) (d : Strand P S K) → i < length old → want_of (get_or old i d) ≡ Done) → is_done (want_of strand) ≡ true
last_done old new strand last done =
    ap (λ s. is_done (want_of s)) (sym (ap (λ l. get_or l (length new) strand) last ∙ get_or_push new strand strand (length new) refl))
    ∙ ap is_done (done (length new) strand (omega (arith, ap length last, length_push new strand)))

done_before : {P S K : Type 0} (old new : List (Strand P S K)) (strand : Strand P S K) → old ≡ new ++ strand ∷ []
    → ((i : ℕ) (d : Strand P S K) → i < length old → want_of (get_or old i d) ≡ Done) → (i : ℕ) (d : Strand P S K) → i < length new → want_of (get_or new i d) ≡ Done
done_before old new strand last done i d below =
    ap want_of (sym (ap (λ l. get_or l i d) last ∙ get_or_append_left new (strand ∷ []) d i below))
    ∙ done i d (omega (arith, ap length last, length_push new strand, below))

pub strands-init : goal.strands-init
strands-init g c =
    let pipes = c.args.graph.now.pipes in
    let reads = g.S.Source.state in
    let writes = g.K.Sink.state in
    let plain = g.P.LocalPacket.plain in
    let count = c.requires.stands.1.shape.strands in
    record {
      told = λ past stands. (
        net_strands pipes plain reads writes past c.args.self stands,
        none_back pipes reads writes past (length c.args.self.strands.items) c.args.table.now count c.requires.none,
        none_told pipes past (length c.args.self.strands.items) c.args.results.now count c.requires.outcomes c.requires.tallies,
      );
      done = λ i d below. c.requires.over.strands i d (omega (arith, below, count));
      family = c.requires.family.strands;
      stays = Stays-refl _;
    }

pub end_last-requires-clause-stands : goal.end_last-requires-clause-stands
end_last-requires-clause-stands g c =
    let (past, stands) = c.requires.stands in
    let so_far = c.strands.invariant.told past stands in
    (past, so_far.0, so_far.1)

pub end_last-requires-clause-family : goal.end_last-requires-clause-family
end_last-requires-clause-family g c = rw c.strands.invariant.stays.same c.strands.invariant.family

pub at-requires : goal.at-requires
at-requires g c =
    let within = c.in-Some.ensures.ended.within in
    let pipes = c.args.graph.now.pipes in
    omega (arith, within, c.len.ensures, c.end_last.new.strands.ok.0, ap (λ (p : Plan). length p.strands) c.requires.plan, length-map (heads pipes) (plan_strand pipes))

pub tell-requires-clause-apart : goal.tell-requires-clause-apart
tell-requires-clause-apart g c =
    (own_of c.args.graph.now.pipes c.args.plan.now (length c.end_last.new.strands.items) c.len.result c.at.result.now c.requires.plan
    (c.len.ensures ∙ c.end_last.new.strands.ok.0) c.at.ensures).strand.apart

-- it is told of as many pipes as the strand has
tells_all : {P S K : Type 0} (plain : P → PlainPacket) (reads : S → SourceState) (writes : K → SinkState) (pipes : List Pipe) (past : ℕ → History)
    (old new : List (Strand P S K)) (before after : List (Object S K)) (told : Told) (places : List ℕ) → EndsLast plain reads writes pipes old new before after told
    → StrandsStand plain reads writes pipes old past → places ≡ places_at pipes (length new)
    → (length told.outcomes ≡ length places) × (length told.tallies ≡ length places)
tells_all plain reads writes pipes past old new before after told places ended stand are =
    let last = last_of pipes plain reads writes past old new ended.strand ended.last stand in
    let counts = told_count pipes past (length new) (is_done (want_of ended.strand)) told last.graph last.place (ended.told_of past stand) in
    (counts.0 ∙ ap length (sym are), counts.1 ∙ ap length (sym are))

pub tell-requires-clause-outcomes : goal.tell-requires-clause-outcomes
tell-requires-clause-outcomes g c =
    let (past, stands) = c.requires.stands in
    let so_far = c.strands.invariant.told past stands in
    let own = own_of c.args.graph.now.pipes c.args.plan.now (length c.end_last.new.strands.items) c.len.result c.at.result.now c.requires.plan
    (c.len.ensures ∙ c.end_last.new.strands.ok.0) c.at.ensures in
    (tells_all g.P.LocalPacket.plain g.S.Source.state g.K.Sink.state c.args.graph.now.pipes past c.strands.strands.items c.end_last.new.strands.items
    c.strands.table c.end_last.new.table c.in-Some.told c.at.result.now.pipes c.in-Some.ensures.ended so_far.0 own.places).0

pub tell-requires-clause-tallies : goal.tell-requires-clause-tallies
tell-requires-clause-tallies g c =
    let (past, stands) = c.requires.stands in
    let so_far = c.strands.invariant.told past stands in
    let own = own_of c.args.graph.now.pipes c.args.plan.now (length c.end_last.new.strands.items) c.len.result c.at.result.now c.requires.plan
    (c.len.ensures ∙ c.end_last.new.strands.ok.0) c.at.ensures in
    (tells_all g.P.LocalPacket.plain g.S.Source.state g.K.Sink.state c.args.graph.now.pipes past c.strands.strands.items c.end_last.new.strands.items
    c.strands.table c.end_last.new.table c.in-Some.told c.at.result.now.pipes c.in-Some.ensures.ended so_far.0 own.places).1

pub tell-requires-clause-outcome_room : goal.tell-requires-clause-outcome_room
tell-requires-clause-outcome_room g c k below =
    let (past, stands) = c.requires.stands in
    let so_far = c.strands.invariant.told past stands in
    let own = own_of c.args.graph.now.pipes c.args.plan.now (length c.end_last.new.strands.items) c.len.result c.at.result.now c.requires.plan
    (c.len.ensures ∙ c.end_last.new.strands.ok.0) c.at.ensures in
    let within = own.strand.within k below in
    omega (arith, within, so_far.2.outcome_count)

pub tell-requires-clause-tally_room : goal.tell-requires-clause-tally_room
tell-requires-clause-tally_room g c k below =
    let (past, stands) = c.requires.stands in
    let so_far = c.strands.invariant.told past stands in
    let own = own_of c.args.graph.now.pipes c.args.plan.now (length c.end_last.new.strands.items) c.len.result c.at.result.now c.requires.plan
    (c.len.ensures ∙ c.end_last.new.strands.ok.0) c.at.ensures in
    let within = own.strand.within k below in
    omega (arith, within, so_far.2.tally_count)

pub strands-preserved : goal.strands-preserved
strands-preserved g c =
    let plain = g.P.LocalPacket.plain in
    let reads = g.S.Source.state in
    let writes = g.K.Sink.state in
    let pipes = c.args.graph.now.pipes in
    let inv = c.strands.invariant in
    let olds = c.strands.strands.items in
    let news = c.end_last.new.strands.items in
    let ended = c.in-Some.ensures.ended in
    let own = own_of pipes c.args.plan.now (length news) c.len.result c.at.result.now c.requires.plan (c.len.ensures ∙ c.end_last.new.strands.ok.0) c.at.ensures in
    let more = ap length ended.last ∙ length_push news ended.strand in
    record {
      told = λ past stands.
          let so_far = inv.told past stands in
          let last = last_of pipes plain reads writes past olds news ended.strand ended.last so_far.0 in
          let back = ended.back past so_far.0 so_far.1 in
          let done = last_done olds news ended.strand ended.last inv.done in
          let told = strand_told pipes past (length news) c.in-Some.told c.strands.results c.tell.new.results ended.within last.graph last.place
          (rw done at (ended.told_of past so_far.0)) (rw own.places at c.tell.ensures) (rw more at so_far.2) in
          (back.0, back.1, told);
      done = done_before olds news ended.strand ended.last inv.done;
      family = rw (sym inv.stays.same) c.end_last.ensures.family;
      stays = Stays-trans _ _ _ inv.stays c.end_last.ensures.store;
    }

pub returns-clause-back : goal.returns-clause-back
returns-clause-back g c past stands =
    let so_far = c.strands.invariant.told past stands in
    all_back c.args.graph.now.pipes g.S.Source.state g.K.Sink.state past c.end_last.new.table
    (back_at_end c.args.graph.now.pipes g.S.Source.state g.K.Sink.state past c.strands.strands.items c.strands.table c.end_last.new.table
    c.in_default.ensures.ended.0 c.in_default.ensures.ended.2 so_far.1)

pub returns-clause-told : goal.returns-clause-told
returns-clause-told g c past stands =
    let so_far = c.strands.invariant.told past stands in
    all_told c.args.graph.now.pipes past c.strands.results (told_at_end c.args.graph.now.pipes past c.strands.strands.items c.strands.results c.in_default.ensures.ended.0 so_far.2)
