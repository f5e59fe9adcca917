use Rattle.std.proofs.Common.{◌≡◌, ◌++◌, true, false, Ok, string_bytes, sym, ◌∙◌, refl}
use Rattle.std.specs.List.{list_any}
use Rattle.std.specs.Str.{bytes_eq}
use Rattle.up_graph.proofs.Keys.{is_among-both, keys-view, left_known, left_known-next, left_known-other, read_out, sorted-next}
use Rattle.up_graph.specs.Field.{is_among}
use Rattle.up_graph.proofs.field.known_alone.Goals as goal
use Rattle.up_graph.proofs.field.known_alone.Goals.{else-not-is_among-via-then-not-is_among+else-not-is_among-2, else-not-is_among-via-else-not-is_among}

pub returns-then-not-is_among-2 : goal.returns-then-not-is_among-2
returns-then-not-is_among-2 c =
    let common = c.args.common.now in
    let own = c.args.own.now in
    let key = c.in-Some.key.now in
    let in_common : list_any (λ name. bytes_eq (string_bytes key) name.now) common ≡ false =
    rw (← c.as_str.ensures.value) (sym c.is_among.ensures ∙ c.if-not-is_among.true) in
    let in_own : list_any (λ name. bytes_eq (string_bytes key) name.now) own ≡ false =
    rw (← c.as_str-then-not-is_among.ensures.value) (sym c.is_among-then-not-is_among.ensures ∙ c.if-not-is_among-2.true) in
    let other : is_among (string_bytes key) (read_out (common ++ own)) ≡ false = is_among-both _ common own false false in_common in_own in
    rw (c.as_str-then-not-is_among-2.ensures.value, keys-view c.args.table.now.entries)
    (sym (left_known-other (common ++ own) _ _ key c.in-Some.ensures.steps c.loop-key.invariant.1 other) ∙ c.loop-key.invariant.0)

pub loop-key-preserved : goal.loop-key-preserved
loop-key-preserved c =
    let common = c.args.common.now in
    let own = c.args.own.now in
    let key = c.in-Some.key.now in
    let known : is_among (string_bytes key) (read_out (common ++ own)) ≡ true =
    elim c.else-not-is_among.branch [
      | else-not-is_among-via-then-not-is_among+else-not-is_among-2 w ↦ (
          let in_common : list_any (λ name. bytes_eq (string_bytes key) name.now) common ≡ false =
          rw (← c.as_str.ensures.value) (sym c.is_among.ensures ∙ w.if-not-is_among.true) in
          let in_own : list_any (λ name. bytes_eq (string_bytes key) name.now) own ≡ true =
          rw (← w.as_str-then-not-is_among.ensures.value) (sym w.is_among-then-not-is_among.ensures ∙ w.if-not-is_among-2.false) in
          is_among-both _ common own false true in_common in_own
          )
      | else-not-is_among-via-else-not-is_among w ↦ (
          let in_common : list_any (λ name. bytes_eq (string_bytes key) name.now) common ≡ true =
          rw (← c.as_str.ensures.value) (sym c.is_among.ensures ∙ w.if-not-is_among.false) in
          is_among-both _ common own true _ in_common refl
          )
    ] in (
      sym (left_known-next (common ++ own) _ _ key c.in-Some.ensures.steps known) ∙ c.loop-key.invariant.0,
      sorted-next _ _ key c.in-Some.ensures.steps c.loop-key.invariant.1,
    )

pub returns : goal.returns
returns c =
    let known = c.args.common.now ++ c.args.own.now in
    let none : left_known known c.loop-key.key-iterator ≡ Ok tt = rw c.in-None.ensures.steps.0 refl in
    rw (keys-view c.args.table.now.entries) (sym none ∙ c.loop-key.invariant.0)
