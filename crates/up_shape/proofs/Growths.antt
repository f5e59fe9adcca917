-- What a module puts into an outbox in one call, and in calls that follow each other.
use Rattle.std.proofs.Common.{◌≡◌, List, [], ◌∷◌, ◌++◌, map, sym, ap, ◌∙◌, append-nil, append_assoc, subst, arith}
use Rattle.std.proofs.lemmas.List.{map-append}
use Rattle.up_base.specs.Lists.{IsPrefix}
use Rattle.up_model.proofs.Packetwise.{with_packet, with_sums, plus-nothing}
use Rattle.up_model.specs.Packet.{Flow}
use Rattle.up_model.specs.Tallies.{IsAtMost, plus, added, nothing}
use Rattle.up_model.specs.Work.{Work}
use Rattle.up_model.specs.declared.plain_packet.PlainPacket.{PlainPacket}
use Rattle.up_model.specs.declared.tally.Tally.{Tally}
use Rattle.up_shape.specs.Growth.{Grew, GrewInPart}
use Rattle.up_shape.specs.Outgoing.{Outgoing}

-- to add nothing changes nothing
added_nothing : (tally : Tally) → added tally nothing ≡ tally
added_nothing tally = grind arith

-- to add to sums one after the other is to add both together
added-added : (sums a b : Tally) → added (added sums a) b ≡ added sums (plus a b)
added-added sums a b = grind arith

plus-plus : (sums a b : Tally) → plus (plus sums a) b ≡ plus sums (plus a b)
plus-plus sums a b = grind arith

IsAtMost-trans : (a b c : Tally) → IsAtMost a b → IsAtMost b c → IsAtMost a c
IsAtMost-trans a b c one two = record {
  taken = omega (arith, one.taken, two.taken);
  put = omega (arith, one.put, two.put);
  dropped = omega (arith, one.dropped, two.dropped);
  cut = omega (arith, one.cut, two.cut);
  gained = omega (arith, one.gained, two.gained);
  lost = omega (arith, one.lost, two.lost);
}

module _ {P : Type 0} (plain : P → PlainPacket) (old new : Outgoing P) (before after : Work) where
  -- one packet was put out, and so much counted
  pub puts_one : (packet : P) (growth : Tally) → new.packets ≡ old.packets ++ packet ∷ [] → new.tally ≡ added old.tally growth
      → after ≡ with_packet before (plain packet) growth → Grew plain old new before after
  puts_one packet growth packets tally grown = record {
    given = packet ∷ [];
    growth = growth;
    packets = packets;
    tally = tally;
    flow = ap (λ work. work.flow) grown;
    sums = ap (λ work. work.tally) grown;
  }

  -- no packet was put out, and so much counted
  pub puts_none : (growth : Tally) → new.packets ≡ old.packets → new.tally ≡ added old.tally growth
      → after ≡ with_sums before growth → Grew plain old new before after
  puts_none growth packets tally grown = record {
    given = [];
    growth = growth;
    packets = packets ∙ sym (append-nil old.packets);
    tally = tally;
    flow = ap (λ work. work.flow) grown ∙ sym (append-nil before.flow);
    sums = ap (λ work. work.tally) grown;
  }

  -- nothing was put out and nothing counted, where the work would have gone on
  pub puts_nothing : new.packets ≡ old.packets → new.tally ≡ old.tally
      → IsPrefix before.flow after.flow → IsAtMost before.tally after.tally → GrewInPart plain old new before after
  puts_nothing packets tally longer more = record {
    given = [];
    lacking = longer.0;
    growth = nothing;
    packets = packets ∙ sym (append-nil old.packets);
    tally = tally ∙ sym (added_nothing old.tally);
    flow = longer.1 ∙ ap (λ front. front ++ longer.0) (sym (append-nil before.flow));
    sums = rw (plus-nothing before.tally) more;
  }

-- where the work is done, nothing is put out and nothing counted
pub owes_nothing : {P : Type 0} (plain : P → PlainPacket) (outbox : Outgoing P) (work : Work) → Grew plain outbox outbox work work
owes_nothing plain outbox work = record {
  given = [];
  growth = nothing;
  packets = sym (append-nil outbox.packets);
  tally = sym (added_nothing outbox.tally);
  flow = sym (append-nil work.flow);
  sums = sym (plus-nothing work.tally);
}

-- the packets by which a flow grew, and then grew again
two_parts : {P : Type 0} (plain : P → PlainPacket) (before mid : Flow) (one two : List P) → mid ≡ before ++ map plain one
    → mid ++ map plain two ≡ before ++ map plain (one ++ two)
two_parts plain before mid one two grown =
    ap (λ front. front ++ map plain two) grown ∙ append_assoc before (map plain one) (map plain two)
    ∙ ap (λ more. before ++ more) (sym (map-append plain one two))

module _ {P : Type 0} (plain : P → PlainPacket) (a b c : Outgoing P) (x y z : Work) where
  -- what grew, and then grew again, grew
  pub Grew-trans : Grew plain a b x y → Grew plain b c y z → Grew plain a c x z
  Grew-trans one two = record {
    given = one.given ++ two.given;
    growth = plus one.growth two.growth;
    packets = two.packets ∙ ap (λ front. front ++ two.given) one.packets ∙ append_assoc a.packets one.given two.given;
    tally = two.tally ∙ ap (λ sums. added sums two.growth) one.tally ∙ added-added a.tally one.growth two.growth;
    flow = two.flow ∙ two_parts plain x.flow y.flow one.given two.given one.flow;
    sums = two.sums ∙ ap (λ sums. plus sums two.growth) one.sums ∙ plus-plus x.tally one.growth two.growth;
  }

  -- what grew, and then in part, grew in part
  pub GrewInPart-after : Grew plain a b x y → GrewInPart plain b c y z → GrewInPart plain a c x z
  GrewInPart-after one two = record {
    given = one.given ++ two.given;
    lacking = two.lacking;
    growth = plus one.growth two.growth;
    packets = two.packets ∙ ap (λ front. front ++ two.given) one.packets ∙ append_assoc a.packets one.given two.given;
    tally = two.tally ∙ ap (λ sums. added sums two.growth) one.tally ∙ added-added a.tally one.growth two.growth;
    flow = two.flow ∙ ap (λ front. front ++ two.lacking) (two_parts plain x.flow y.flow one.given two.given one.flow);
    sums =
        subst (λ sums. IsAtMost sums z.tally) (ap (λ sums. plus sums two.growth) one.sums ∙ plus-plus x.tally one.growth two.growth) two.sums;
  }

-- what grew by a part of some work grew by a part of longer work
pub GrewInPart-longer : {P : Type 0} (plain : P → PlainPacket) (a b : Outgoing P) (x y z : Work)
    → GrewInPart plain a b x y → IsPrefix y.flow z.flow → IsAtMost y.tally z.tally → GrewInPart plain a b x z
GrewInPart-longer plain a b x y z part longer more = record {
  given = part.given;
  lacking = part.lacking ++ longer.0;
  growth = part.growth;
  packets = part.packets;
  tally = part.tally;
  flow =
      longer.1 ∙ ap (λ front. front ++ longer.0) part.flow
      ∙ append_assoc (x.flow ++ map plain part.given) part.lacking longer.0;
  sums = IsAtMost-trans _ _ _ part.sums more;
}
