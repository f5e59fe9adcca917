use Rattle.std.proofs.Common.{ℕ, List, length, ap, sym, ◌∙◌, subst}
use Rattle.std.specs.List.{filter}
use Rattle.up_engine.proofs.MadeStrands.{has_sinks, has_source, more_fit, parts_begin, same_objects}
use Rattle.up_engine.proofs.Numbered.{own_of}
use Rattle.up_engine.specs.Parts.{HasEnds, HasNone, KeepsOthers, PutsParts}
use Rattle.up_model.specs.Inputs.{passes_at}
use Rattle.up_model.specs.Plans.{ends_at_sink}
use Rattle.up_strand.specs.Strands.{StandsFor}
use Rattle.up_strand.specs.declared.strand_end.StrandParts.{StrandParts}
use Rattle.up_engine.proofs.net.Net.add.Goals as goal

pub take_parts-requires : goal.take_parts-requires
take_parts-requires g c =
    let pipes = c.args.graph.now.pipes in
    let own = own_of pipes c.args.plan.now (length c.args.self.now.strands.items) c.len.result c.at-own.result.now c.requires.plan
    (c.len.ensures ∙ c.args.self.now.strands.ok.0) c.at-own.ensures in
    record {
      strand = (pipes, own.strand, subst (λ (places : List ℕ). HasEnds places pipes c.args.table.now) (sym own.places) c.requires.ends, c.requires.table);
    }

pub new-requires-clause-head : goal.new-requires-clause-head
new-requires-clause-head g c =
    (own_of c.args.graph.now.pipes c.args.plan.now (length c.args.self.now.strands.items) c.len.result c.at-own.result.now c.requires.plan
    (c.len.ensures ∙ c.args.self.now.strands.ok.0) c.at-own.ensures).is_head

pub new-requires-clause-source : goal.new-requires-clause-source
new-requires-clause-source g c =
    let pipes = c.args.graph.now.pipes in
    let own = own_of pipes c.args.plan.now (length c.args.self.now.strands.items) c.len.result c.at-own.result.now c.requires.plan
    (c.len.ensures ∙ c.args.self.now.strands.ok.0) c.at-own.ensures in
    let ends = subst (λ (places : List ℕ). HasEnds places pipes c.args.table.now) (sym own.places) c.requires.ends in
    has_source pipes c.at-own.result.now.head c.at-own.result.now.pipes own.strand c.args.table.now c.in_ok-source.field-0 ends c.in_ok-source.ensures.taken.are

pub new-requires-clause-sinks : goal.new-requires-clause-sinks
new-requires-clause-sinks g c =
    let pipes = c.args.graph.now.pipes in
    let own = own_of pipes c.args.plan.now (length c.args.self.now.strands.items) c.len.result c.at-own.result.now c.requires.plan
    (c.len.ensures ∙ c.args.self.now.strands.ok.0) c.at-own.ensures in
    let ends = subst (λ (places : List ℕ). HasEnds places pipes c.args.table.now) (sym own.places) c.requires.ends in
    has_sinks pipes c.at-own.result.now.head c.at-own.result.now.pipes own.strand c.args.table.now c.in_ok-source.field-0 ends c.in_ok-source.ensures.taken.are
    ∙ ap (λ (places : List ℕ). length (filter (passes_at ends_at_sink pipes) places)) own.own_places

pub put_back-requires-clause-strand : goal.put_back-requires-clause-strand
put_back-requires-clause-strand g c =
    (own_of c.args.graph.now.pipes c.args.plan.now (length c.args.self.now.strands.items) c.len.result c.at-own.result.now c.requires.plan
    (c.len.ensures ∙ c.args.self.now.strands.ok.0) c.at-own.ensures).strand

pub put_back-requires-clause-source : goal.put_back-requires-clause-source
put_back-requires-clause-source g c =
    let pipes = c.args.graph.now.pipes in
    let own = own_of pipes c.args.plan.now (length c.args.self.now.strands.items) c.len.result c.at-own.result.now c.requires.plan
    (c.len.ensures ∙ c.args.self.now.strands.ok.0) c.at-own.ensures in
    let ends = subst (λ (places : List ℕ). HasEnds places pipes c.args.table.now) (sym own.places) c.requires.ends in
    let back = c.in-Err.ensures.back in
    rw back (has_source pipes c.at-own.result.now.head c.at-own.result.now.pipes own.strand c.args.table.now c.in_ok-source.field-0 ends c.in_ok-source.ensures.taken.are)

pub put_back-requires-clause-sinks : goal.put_back-requires-clause-sinks
put_back-requires-clause-sinks g c =
    let pipes = c.args.graph.now.pipes in
    let own = own_of pipes c.args.plan.now (length c.args.self.now.strands.items) c.len.result c.at-own.result.now c.requires.plan
    (c.len.ensures ∙ c.args.self.now.strands.ok.0) c.at-own.ensures in
    let ends = subst (λ (places : List ℕ). HasEnds places pipes c.args.table.now) (sym own.places) c.requires.ends in
    let back = c.in-Err.ensures.back in
    rw back (has_sinks pipes c.at-own.result.now.head c.at-own.result.now.pipes own.strand c.args.table.now c.in_ok-source.field-0 ends c.in_ok-source.ensures.taken.are)

pub returns-in-Ok-clause-added : goal.returns-in-Ok-clause-added
returns-in-Ok-clause-added g c =
    let pipes = c.args.graph.now.pipes in
    let own = own_of pipes c.args.plan.now (length c.args.self.now.strands.items) c.len.result c.at-own.result.now c.requires.plan
    (c.len.ensures ∙ c.args.self.now.strands.ok.0) c.at-own.ensures in
    let taken = c.in_ok-source.ensures.taken in
    record {
      strand = c.in-Ok.strand;
      added = c.push_reserved.ensures.items;
      begins = subst (StandsFor g.P.LocalPacket.plain g.S.Source.state g.K.Sink.state c.in-Ok.strand)
          (parts_begin g.S.Source.state g.K.Sink.state pipes c.at-own.result.now.head _ c.at-own.result.now.pipes c.args.table.now c.in_ok-source.field-0 taken.are own.own_places own.head)
          c.in-Ok.ensures.stands;
      none = subst (λ (places : List ℕ). HasNone places c.take_parts.new.table) own.places taken.none;
      others = subst (λ (places : List ℕ). KeepsOthers places c.args.table.now c.take_parts.new.table) own.places taken.others;
    }

pub returns-in-Ok-clause-family : goal.returns-in-Ok-clause-family
returns-in-Ok-clause-family g c f all =
    more_fit g.P.LocalPacket.fits f c.args.self.now.strands.items c.push_reserved.new.self.items c.in-Ok.strand c.push_reserved.ensures.items all (c.in-Ok.ensures.family f)

pub returns-in-Err-clause-back : goal.returns-in-Err-clause-back
returns-in-Err-clause-back g c =
    let pipes = c.args.graph.now.pipes in
    let own = own_of pipes c.args.plan.now (length c.args.self.now.strands.items) c.len.result c.at-own.result.now c.requires.plan
    (c.len.ensures ∙ c.args.self.now.strands.ok.0) c.at-own.ensures in
    let ends = subst (λ (places : List ℕ). HasEnds places pipes c.args.table.now) (sym own.places) c.requires.ends in
    let taken = c.in_ok-source.ensures.taken in
    same_objects pipes c.at-own.result.now.head c.at-own.result.now.pipes own.strand c.args.table.now c.in_ok-source.field-0 ends taken.are c.take_parts.new.table
    c.put_back.new.table taken
    (subst (λ (parts : StrandParts _ _). PutsParts c.at-own.result.now.pipes c.at-own.result.now.head pipes c.take_parts.new.table c.put_back.new.table parts)
    c.in-Err.ensures.back c.put_back.ensures)
