use Rattle.std.proofs.Common.{◌≡◌, length, get_or, refl, ap, ◌∙◌, arith, take}
use Rattle.std.proofs.lemmas.List.{length-take-le}
use Rattle.std.proofs.lemmas.Option.{get_or_from_slice_get}
use Rattle.up_engine.proofs.PutParts.{next_place}
use Rattle.up_engine.proofs.ToldPlaces.{tells_next}
use Rattle.up_engine.proofs.finishing.tell.Goals as goal

pub loop-i-preserved : goal.loop-i-preserved
loop-i-preserved c =
    let inv = c.loop-i.invariant in
    let places = c.args.places.now in
    let i = c.loop-i.i in
    let place = c.from-place.result in
    let next = next_place places i c.at.result.now place c.requires.apart c.at.ensures c.from-place.ensures in
    let long : length (take i places) ≡ i = length-take-le i places (omega (arith, next.within)) in
    let outcome_room = c.requires.outcome_room i next.within in
    let tally_room = c.requires.tally_room i next.within in
    rw next.more (tells_next (take i places) place next.fresh c.args.told.now.outcomes c.args.told.now.tallies c.args.results.now c.loop-i.results _
    c.at-in-loop-i.result.now c.at-in-loop-i-2.result.now inv
    (omega (arith, outcome_room, next.here, inv.outcome_count)) (omega (arith, tally_room, next.here, inv.tally_count))
    (λ d. ap (λ n. get_or c.args.told.now.outcomes n d) long ∙ get_or_from_slice_get c.args.told.now.outcomes i c.at-in-loop-i.result.now d c.at-in-loop-i.ensures)
    (λ d. ap (λ n. get_or c.args.told.now.tallies n d) long ∙ get_or_from_slice_get c.args.told.now.tallies i c.at-in-loop-i-2.result.now d c.at-in-loop-i-2.ensures)
    refl refl)
