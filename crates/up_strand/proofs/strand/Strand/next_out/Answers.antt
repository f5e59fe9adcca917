use Rattle.std.proofs.Common.{◌≡◌, ℕ, ◌<◌, ◌≤◌, length, Some, Option, refl, sym, ap, subst, arith, ◌∙◌}
use Rattle.std.specs.Option.{option_map_or}
use Rattle.up_strand.proofs.Found.{ready_same, want_there, wanted_inside}
use Rattle.up_strand.proofs.Sending.{before_out, fits_out, legal_out, mid_kept, mid_many, mid_places, went_out}
use Rattle.up_strand.specs.StrandCalls.{WentOut}
use Rattle.up_strand.specs.Strands.{place_of}
use Rattle.up_strand.specs.declared.want.Want.TheVariants.{Output}
use Rattle.up_strand.proofs.strand.Strand.next_out.Goals as goal

same_lane : (a b : ℕ) → Output a ≡ Output b → a ≡ b
same_lane a b same = cc

pub take_out-item-requires-clause-within : goal.take_out-item-requires-clause-within
take_out-item-requires-clause-within g c = wanted_inside c.args.self.now c.requires.want.0 c.requires.stands.1.sent.ready c.requires.want.1

pub ready_from-self-requires-clause-before : goal.ready_from-self-requires-clause-before
ready_from-self-requires-clause-before g c i below =
    let old = c.args.self.now in
    let stands = c.requires.stands.1 in
    before_out g.P.LocalPacket.plain g.S.Source.state g.K.Sink.state old c.requires.stands.0 stands (wanted_inside old c.requires.want.0 stands.sent.ready c.requires.want.1)
    c.take_out-item.new.self c.take_out-item.result c.take_out-item.ensures i below

pub returns-clause-gave : goal.returns-clause-gave
returns-clause-gave g c h lane wants stands =
    let plain = g.P.LocalPacket.plain in
    let reads = g.S.Source.state in
    let writes = g.K.Sink.state in
    let old = c.args.self.now in
    let mid = c.take_out-item.new.self in
    let item = c.take_out-item.result in
    let took = c.take_out-item.ensures in
    let r = c.ready_from-self.result in
    let inside : old.ready < length old.tree.nodes.items = wanted_inside old lane stands.sent.ready wants in
    let none = mid_kept plain reads writes old h stands inside mid item took in
    let many : length mid.tree.nodes.items ≡ length old.tree.nodes.items = mid_many plain reads writes old h stands inside mid item took in
    let behind : old.ready ≤ r = c.ready_from-self.ensures.behind (omega (arith, inside, many)) in
    let first = c.ready_from-self.ensures.first ∙ ap (λ (found : Option ℕ). option_map_or (λ i. i) found (length mid.tree.nodes.items))
    (ready_same (record mid { last = Some old.ready }) (record mid { last = Some old.ready; ready = r }) none none refl refl refl) in
    let is : place_of old old.ready ≡ lane = same_lane (place_of old old.ready) lane (sym (want_there old stands.sent.ready inside) ∙ wants) in
    subst (λ (l : ℕ). WentOut plain reads writes (record mid { last = Some old.ready; ready = r }) h l item) is
    (went_out plain reads writes old h stands inside mid r behind item took first)

pub returns-clause-back : goal.returns-clause-back
returns-clause-back g c lane wants =
    let old = c.args.self.now in
    let stands = c.requires.stands.1 in
    let inside : old.ready < length old.tree.nodes.items = wanted_inside old lane stands.sent.ready wants in
    let is : place_of old old.ready ≡ lane = same_lane (place_of old old.ready) lane (sym (want_there old stands.sent.ready inside) ∙ wants) in
    ap Some (mid_places g.P.LocalPacket.plain g.S.Source.state g.K.Sink.state old c.requires.stands.0 stands inside c.take_out-item.new.self c.take_out-item.result c.take_out-item.ensures ∙ is)

pub returns-clause-legal : goal.returns-clause-legal
returns-clause-legal g c =
    let old = c.args.self.now in
    let stands = c.requires.stands.1 in
    legal_out g.P.LocalPacket.plain g.S.Source.state g.K.Sink.state old c.requires.stands.0 stands (wanted_inside old c.requires.want.0 stands.sent.ready c.requires.want.1)
    c.take_out-item.new.self c.take_out-item.result c.take_out-item.ensures

pub returns-clause-family : goal.returns-clause-family
returns-clause-family g c f fit =
    let old = c.args.self.now in
    let stands = c.requires.stands.1 in
    fits_out g.P.LocalPacket.plain g.S.Source.state g.K.Sink.state old c.requires.stands.0 stands (wanted_inside old c.requires.want.0 stands.sent.ready c.requires.want.1)
    c.take_out-item.new.self g.P.LocalPacket.fits f c.ready_from-self.result c.take_out-item.result c.take_out-item.ensures fit
