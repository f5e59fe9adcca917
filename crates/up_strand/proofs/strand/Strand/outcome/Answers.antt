use Rattle.std.proofs.Common.{◌≡◌, ◌<◌, length, sym, ap, arith, ◌∙◌}
use Rattle.std.proofs.lemmas.Option.{none-some, same_Some}
use Rattle.up_model.specs.Plans.{strand_of}
use Rattle.up_strand.proofs.Told.{outcome_is, pipe_found}
use Rattle.up_strand.specs.History.{told_at}
use Rattle.up_strand.specs.Strands.{outcome_of_part, place_of}
use Rattle.up_strand.specs.declared.node.Node.{Node}
use Rattle.up_strand.proofs.strand.Strand.outcome.Goals as goal

pub unreachable-requires : goal.unreachable-requires
unreachable-requires g c =
    let within = c.requires.within in
    let found = pipe_found g.P.LocalPacket.plain g.S.Source.state g.K.Sink.state c.args.self.now within.0 within.1 c.args.pipe within.2 in
    none-some found.0 (sym c.in-None.is ∙ c.node_of.ensures ∙ found.3)

pub returns : goal.returns
returns g c h stands =
    let strand = c.args.self.now in
    let within = c.requires.within in
    let found = pipe_found g.P.LocalPacket.plain g.S.Source.state g.K.Sink.state strand within.0 within.1 c.args.pipe within.2 in
    let i = c.in-Some.i in
    let same : found.0 ≡ i = same_Some found.0 i (sym found.3 ∙ sym c.node_of.ensures ∙ c.in-Some.is) in
    let as_many = sym within.1.built.catches ∙ stands.built.catches in
    let own : i < length (strand_of h.pipes h.head) = let less = found.1 in omega (arith, same, as_many, less) in
    let node = c.index.result.now in
    c.outcome_of.ensures ∙ ap (λ (n : Node _ _). outcome_of_part n.part strand.tree.short strand.ended) c.index.ensures
    ∙ outcome_is g.P.LocalPacket.plain g.S.Source.state g.K.Sink.state strand h stands i node own
    ∙ ap (told_at h) (ap (place_of strand) (sym same) ∙ found.2)
