use Rattle.std.proofs.Common.{◌<◌, length, arith}
use Rattle.up_model.specs.Value.{lent}
use Rattle.up_model.proofs.AttrLists.{len-list, entries-at}
use Rattle.up_model.proofs.plain_attrs.PlainAttrs.at.Goals as goal

pub index-entry-requires : goal.index-entry-requires
index-entry-requires c =
    let within = rw (← c.self.view_is) at c.requires in
    omega (arith, len-list c.self.inside.entries.items c.self.invariant)

pub returns : goal.returns
returns c =
    let below = rw (← c.self.view_is) at c.requires in
    let within : c.args.i < length c.self.inside.entries.items = omega (arith, len-list c.self.inside.entries.items c.self.invariant) in
    rw (← c.self.view_is) (entries-at c.self.inside.entries.items c.args.i c.index-entry.result.now (lent c.view.result) c.self.invariant within c.index-entry.ensures c.view.ensures)
