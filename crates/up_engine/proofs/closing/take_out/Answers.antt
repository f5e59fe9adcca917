use Rattle.std.proofs.Common.{◌≡◌, refl}
use Rattle.std.specs.Option.{is_some}
use Rattle.up_engine.specs.Objects.{moved_told, place_told}
use Rattle.up_engine.specs.declared.object.Object.{Object}
use Rattle.up_engine.specs.declared.object.Object.TheVariants as objects
use Rattle.up_engine.proofs.closing.take_out.Goals as goal
use Rattle.up_outside.specs.States.{SourceState, SinkState}

told_together : {S K : Type 0} (reads : S → SourceState) (writes : K → SinkState) → ((s : S) → is_some (reads s).moved ≡ is_some (reads s).place)
    → ((k : K) → is_some (writes k).moved ≡ is_some (writes k).place) → (object : Object S K)
    → is_some (moved_told reads writes object) ≡ is_some (place_told reads writes object)
told_together reads writes of_source of_sink objects.None = refl
told_together reads writes of_source of_sink (objects.Source s) = of_source s
told_together reads writes of_source of_sink (objects.Sink k) = of_sink k

pub returns-clause-together : goal.returns-clause-together
returns-clause-together g c =
    told_together g.S.Source.state g.K.Sink.state (λ s. g.met.S.Source.together s) (λ k. g.met.K.Sink.together k) c.replace.result
