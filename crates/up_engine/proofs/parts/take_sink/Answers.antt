use Rattle.std.proofs.Common.{refl}
use Rattle.up_engine.proofs.PutParts.{put_again}
use Rattle.up_engine.specs.Parts.{without_sink}
use Rattle.up_engine.specs.declared.object.Object.TheVariants as objects
use Rattle.up_engine.proofs.parts.take_sink.Goals as goal

pub returns-in-Source-clause-left : goal.returns-in-Source-clause-left
returns-in-Source-clause-left g c =
    put_again c.args.table.now c.put.new.table c.args.place c.replace.new.dest c.index-table-place.result c.replace.result (objects.Source c.in-Source.source) without_sink
    c.requires.within c.put.ensures c.replace.ensures.value c.in-Source.is refl
