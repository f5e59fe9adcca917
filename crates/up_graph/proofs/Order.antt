-- The rules in their order.
use Rattle.std.proofs.Common.{Err, refl}
use Rattle.up_graph.specs.Answers.{Answers, Checked, ◌>>=◌}
use Rattle.up_graph.specs.declared.graph_refused.GraphRefused.{GraphRefused}
use Rattle.up_graph.specs.declared.graph_refused.GraphRefused.TheVariants.{NoMemory}

-- the refusal of one rule is that of all of them
pub passes_on : {A B C D : Type 0} (view : A → B) (next_view : C → D) (refused : GraphRefused) (wanted : Checked B) (next : B → Checked D)
    → Answers view (Err refused) wanted → Answers next_view (Err refused) (wanted >>= next)
passes_on view next_view NoMemory wanted next is = tt
passes_on view next_view refused wanted next is = rw is refl
