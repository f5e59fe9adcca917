use Rattle.std.proofs.Common.{◌≡◌, ◌++◌, ◌∷◌, [], ℕ, List, length, get_or, refl, ap, sym, ◌∙◌, subst, arith}
use Rattle.std.specs.List.{Contains}
use Rattle.std.proofs.lemmas.List.{get_or_append_left, get_or_push, length_push}
use Rattle.up_engine.proofs.GivenBack.{last_back, last_of, none_of_last}
use Rattle.up_engine.proofs.Numbered.{own_of}
use Rattle.up_engine.specs.Begun.{StrandsFit}
use Rattle.up_strand.specs.Strands.{StrandFits}
use Rattle.up_strand.specs.declared.strand.Strand.{Strand}
use Rattle.up_engine.proofs.finishing.end_last.Goals as goal

module _ {P S K F : Type 0} (fits : P → F → Type 0) (family : F) (old new : List (Strand P S K)) (strand : Strand P S K) (last : old ≡ new ++ strand ∷ [])
    (all : StrandsFit old fits family) where
  last_fits : StrandFits strand fits family
  last_fits =
      subst (λ (x : Strand P S K). StrandFits x fits family) (ap (λ l. get_or l (length new) strand) last ∙ get_or_push new strand strand (length new) refl)
      (all (length new) strand (omega (arith, ap length last, length_push new strand)))

  rest_fits : StrandsFit new fits family
  rest_fits i d below =
      subst (λ (x : Strand P S K). StrandFits x fits family) (ap (λ l. get_or l i d) last ∙ get_or_append_left new (strand ∷ []) d i below)
      (all i d (omega (arith, ap length last, length_push new strand, below)))

pub end_strand-requires-clause-strand : goal.end_strand-requires-clause-strand
end_strand-requires-clause-strand g c =
    (own_of c.args.graph.now.pipes c.args.plan.now (length c.pop.new.self.items) c.len.result c.at-own.result.now c.requires.plan (c.len.ensures ∙ c.pop.new.self.ok.0) c.at-own.ensures).strand

pub end_strand-requires-clause-places : goal.end_strand-requires-clause-places
end_strand-requires-clause-places g c =
    (own_of c.args.graph.now.pipes c.args.plan.now (length c.pop.new.self.items) c.len.result c.at-own.result.now c.requires.plan (c.len.ensures ∙ c.pop.new.self.ok.0) c.at-own.ensures).own_places

pub end_strand-requires-clause-none : goal.end_strand-requires-clause-none
end_strand-requires-clause-none g c place has =
    let (past, stand, back) = c.requires.stands in
    let pipes = c.args.graph.now.pipes in
    let own = own_of pipes c.args.plan.now (length c.pop.new.self.items) c.len.result c.at-own.result.now c.requires.plan (c.len.ensures ∙ c.pop.new.self.ok.0) c.at-own.ensures in
    none_of_last pipes g.P.LocalPacket.plain g.S.Source.state g.K.Sink.state past c.args.strands.now.items c.pop.new.self.items c.in_ok-strand.strand
    c.in_ok-strand.ensures.items c.args.table.now back place (subst (λ (places : List ℕ). Contains places place) own.places has)

pub end_strand-requires-clause-stands : goal.end_strand-requires-clause-stands
end_strand-requires-clause-stands g c =
    let (past, stand, back) = c.requires.stands in
    let pipes = c.args.graph.now.pipes in
    let own = own_of pipes c.args.plan.now (length c.pop.new.self.items) c.len.result c.at-own.result.now c.requires.plan (c.len.ensures ∙ c.pop.new.self.ok.0) c.at-own.ensures in
    let last = last_of pipes g.P.LocalPacket.plain g.S.Source.state g.K.Sink.state past c.args.strands.now.items c.pop.new.self.items c.in_ok-strand.strand
    c.in_ok-strand.ensures.items stand in
    (past _, last.stands, last.graph, last.place ∙ sym own.head)

pub end_strand-requires-clause-family : goal.end_strand-requires-clause-family
end_strand-requires-clause-family g c =
    last_fits g.P.LocalPacket.fits _ c.args.strands.now.items c.pop.new.self.items c.in_ok-strand.strand c.in_ok-strand.ensures.items c.requires.family

pub returns-clause-family : goal.returns-clause-family
returns-clause-family g c =
    rest_fits g.P.LocalPacket.fits _ c.args.strands.now.items c.pop.new.self.items c.in_ok-strand.strand c.in_ok-strand.ensures.items c.requires.family

pub returns-clause-ended : goal.returns-clause-ended
returns-clause-ended g c =
    let plain = g.P.LocalPacket.plain in
    let reads = g.S.Source.state in
    let writes = g.K.Sink.state in
    let pipes = c.args.graph.now.pipes in
    let olds = c.args.strands.now.items in
    let news = c.pop.new.self.items in
    let strand = c.in_ok-strand.strand in
    let own = own_of pipes c.args.plan.now (length news) c.len.result c.at-own.result.now c.requires.plan (c.len.ensures ∙ c.pop.new.self.ok.0) c.at-own.ensures in
    record {
      strand = strand;
      last = c.in_ok-strand.ensures.items;
      back = λ past stand so_far.
          let last = last_of pipes plain reads writes past olds news strand c.in_ok-strand.ensures.items stand in
          last_back pipes plain reads writes past olds news strand c.in_ok-strand.ensures.items c.args.table.now c.end_strand.new.table stand so_far
          (c.end_strand.ensures.back _ last.stands last.graph (last.place ∙ sym own.head));
      within = own.within;
      told_of = λ past stand.
          c.end_strand.ensures.told _ (last_of pipes plain reads writes past olds news strand c.in_ok-strand.ensures.items stand).stands;
    }
