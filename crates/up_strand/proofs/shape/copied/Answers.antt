use Rattle.std.proofs.Common.{◌≡◌, ◌++◌, ◌∷◌, [], sym, rules}
use Rattle.up_strand.proofs.ShapeLists.{take_next}
use Rattle.up_strand.proofs.shape.copied.Goals as goal

pub loop-i-preserved : goal.loop-i-preserved
loop-i-preserved c =
    let pushed : c.push.new.self.items ≡ c.loop-i.copy.items ++ c.at.result.now ∷ [] = search rules in
    rw (pushed, c.loop-i.invariant) (sym (take_next c.args.places.now c.loop-i.i _ c.at.ensures))
