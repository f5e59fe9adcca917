use Rattle.std.proofs.Common.{arith}
use Rattle.up_dict.proofs.Found.{place_held, held_at}
use Rattle.up_dict.proofs.InRun.{byte_within, first_here}
use Rattle.up_dict.specs.Reading.{attrs_in}
use Rattle.up_dict.proofs.dict.Dict.at.Goals as goal

pub start_of-byte-requires-clause-place : goal.start_of-byte-requires-clause-place
start_of-byte-requires-clause-place c =
    let within = place_held c.self.inside.run.items c.self.invariant c.args.self.now c.self.view_is c.args.i c.requires in
    rw c.deref.ensures.value (omega (arith, within))

pub rest_from-attr-requires : goal.rest_from-attr-requires
rest_from-attr-requires c =
    let run = c.self.inside.run.items in
    let before = rw c.deref.ensures.value at c.start_of-byte.ensures in
    rw c.deref-2.ensures.value (byte_within (attrs_in run) run c.self.invariant _ c.start_of-byte.result before)

pub first_name-requires : goal.first_name-requires
first_name-requires c =
    let run = c.self.inside.run.items in
    let within = place_held run c.self.invariant c.args.self.now c.self.view_is c.args.i c.requires in
    let before = rw c.deref.ensures.value at c.start_of-byte.ensures in
    rw (c.rest_from-attr.ensures, c.deref-2.ensures.value)
    (first_here (attrs_in run) run c.self.invariant _ c.start_of-byte.result before (omega (arith, within)))

pub first_value-requires : goal.first_value-requires
first_value-requires c =
    let run = c.self.inside.run.items in
    let within = place_held run c.self.invariant c.args.self.now c.self.view_is c.args.i c.requires in
    let before = rw c.deref.ensures.value at c.start_of-byte.ensures in
    rw (c.rest_from-attr.ensures, c.deref-2.ensures.value)
    (first_here (attrs_in run) run c.self.invariant _ c.start_of-byte.result before (omega (arith, within)))

pub returns : goal.returns
returns c =
    let run = c.self.inside.run.items in
    let within = place_held run c.self.invariant c.args.self.now c.self.view_is c.args.i c.requires in
    let before = rw c.deref.ensures.value at c.start_of-byte.ensures in
    rw (← c.self.view_is, c.of.ensures, c.first_name.ensures.name, c.first_value.ensures, c.rest_from-attr.ensures, c.deref-2.ensures.value)
    (held_at run c.self.invariant c.args.i c.start_of-byte.result before within)
