use Rattle.std.proofs.Common.{ℕ, Option, sym, ap, ◌∙◌}
use Rattle.std.proofs.lemmas.Option.{none-some}
use Rattle.std.specs.Prelude.{option_map}
use Rattle.up_strand.proofs.Returning.{came_back, fits_back, inside_closed, none_kept, some_node, waits_again}
use Rattle.up_strand.specs.Strands.{place_of}
use Rattle.up_strand.specs.declared.want.Want.TheVariants.{Output}
use Rattle.up_strand.proofs.strand.Strand.keep_out.Goals as goal

pub unreachable-requires : goal.unreachable-requires
unreachable-requires g c =
    let came = c.requires.came in
    none-some came.lane (ap (λ (l : Option ℕ). option_map (place_of c.args.self.now) l) (sym c.in_default.is) ∙ came.given)

pub put_back-requires-clause-empty : goal.put_back-requires-clause-empty
put_back-requires-clause-empty g c =
    let came = c.requires.came in
    none_kept g.P.LocalPacket.plain g.S.Source.state g.K.Sink.state c.args.self.now came.h came.lane c.in-Some.at came.given c.in-Some.is came.not_over c.args.item came.stands

pub put_back-requires-clause-within : goal.put_back-requires-clause-within
put_back-requires-clause-within g c =
    let came = c.requires.came in
    inside_closed g.P.LocalPacket.plain g.S.Source.state g.K.Sink.state c.args.self.now came.h came.lane c.in-Some.at came.given c.in-Some.is came.not_over c.args.item came.stands

pub returns-clause-back : goal.returns-clause-back
returns-clause-back g c h lane given stands ajar =
    came_back g.P.LocalPacket.plain g.S.Source.state g.K.Sink.state c.args.self.now h lane c.in-Some.at given c.in-Some.is ajar c.put_back.new.self c.args.item stands c.put_back.ensures

pub returns-clause-waits : goal.returns-clause-waits
returns-clause-waits g c lane given =
    let came = c.requires.came in
    waits_again g.P.LocalPacket.plain g.S.Source.state g.K.Sink.state c.args.self.now came.h came.lane c.in-Some.at came.given c.in-Some.is came.not_over
    c.put_back.new.self c.args.item came.stands c.put_back.ensures ∙ ap Output (some_node came.lane lane (sym came.given ∙ given))

pub returns-clause-family : goal.returns-clause-family
returns-clause-family g c f fit item = fits_back g.P.LocalPacket.fits f c.args.self.now c.put_back.new.self c.in-Some.at c.args.item c.put_back.ensures fit item
