use Rattle.std.proofs.Common.{refl}
use Rattle.up_engine.proofs.PutParts.{put_again}
use Rattle.up_engine.specs.Parts.{without_source}
use Rattle.up_engine.specs.declared.object.Object.TheVariants as objects
use Rattle.up_engine.proofs.parts.take_source.Goals as goal

pub returns-in-Sink-clause-left : goal.returns-in-Sink-clause-left
returns-in-Sink-clause-left g c =
    put_again c.args.table.now c.put.new.table c.args.place c.replace.new.dest c.index-table-place.result c.replace.result (objects.Sink c.in-Sink.sink) without_source
    c.requires c.put.ensures c.replace.ensures.value c.in-Sink.is refl
