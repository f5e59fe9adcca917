use Rattle.std.proofs.Common.{◌≡◌, ℕ, get_or, ap, subst, sym, ◌∙◌}
use Rattle.std.proofs.lemmas.List.{get_or_read}
use Rattle.up_strand.specs.Strands.{StandsForSome}
use Rattle.up_engine.proofs.net.Net.free_filler.Goals as goal

pub wants-requires : goal.wants-requires
wants-requires g c =
    let net = c.args.self.now in
    let strand = c.index.result.now in
    let filler : c.index-filler.result.now ≡ get_or net.fillers.items c.args.i 0 =
    get_or_read net.fillers.items c.args.i c.index-filler.result.now c.requires.within c.index-filler.ensures 0 in
    let there : strand ≡ get_or net.strands.items (get_or net.fillers.items c.args.i 0) strand =
    c.index.ensures ∙ ap (λ (n : ℕ). get_or net.strands.items n strand) filler in
    record { stands = subst (StandsForSome g.P.LocalPacket.plain g.S.Source.state g.K.Sink.state) (sym there) (c.requires.stands strand) }
