use Rattle.std.proofs.Common.{◌≡◌, ◌++◌, ◌∷◌, [], sym, rules}
use Rattle.up_strand.proofs.ShapeLists.{map_next}
use Rattle.up_strand.proofs.shape.all_heads.Goals as goal

pub loop-i-preserved : goal.loop-i-preserved
loop-i-preserved c =
    let pushed : c.push.new.self.items ≡ c.loop-i.all.items ++ c.at.result.now.head ∷ [] = search rules in
    rw (pushed, c.loop-i.invariant) (sym (map_next (λ strand. strand.head) c.args.plan.now.strands c.loop-i.i _ c.at.ensures))
