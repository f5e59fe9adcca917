-- A node that takes packets more, or at which memory runs out.
use Rattle.std.proofs.Common.{◌≡◌, ℕ, List, [], ◌∷◌, ◌++◌, map, All, Bool, true, false, not, ◌&&◌, Option, Some, None, refl, sym, ap, ◌∙◌, subst, append-nil, append_assoc, length-append, arith}
use Rattle.std.specs.Prelude.{IfSome, MatchOption}
use Rattle.std.proofs.lemmas.List.{map-append}
use Rattle.std.proofs.lemmas.List.Elements.{All-append, All-push}
use Rattle.up_base.specs.Lists.{IsPrefix}
use Rattle.up_model.proofs.EveryKind.{lawful}
use Rattle.up_model.proofs.Joined.{frames_of-append, joined-append}
use Rattle.up_model.specs.Ends.{is_source, written_by}
use Rattle.up_model.specs.Kinds.{IsWithinBounds, output_of, settled_output, work_of, settled_work}
use Rattle.up_model.specs.Packet.{Flow, IsLegal}
use Rattle.up_model.specs.Tallies.{IsAtMost, nothing, plus, added, stopped, of_source, of_taken}
use Rattle.up_model.specs.Work.{Work}
use Rattle.up_model.specs.declared.form.SinkForm.{SinkForm}
use Rattle.up_model.specs.declared.form.SinkForm.TheVariants as sink_forms
use Rattle.up_model.specs.declared.kind.Kind.{Kind}
use Rattle.up_model.specs.declared.kind.Kind.TheVariants as kinds
use Rattle.up_model.specs.declared.plain_packet.PlainPacket.{PlainPacket}
use Rattle.up_model.specs.declared.tally.Tally.{Tally}
use Rattle.up_outside.specs.Counts.{CountsOnce}
use Rattle.up_outside.specs.States.{SinkState}
use Rattle.up_shape.specs.Growth.{Grew, GrewInPart}
use Rattle.up_shape.specs.Outgoing.{Outgoing}
use Rattle.up_strand.proofs.AtMost.{at_most_itself, at_most_on, at_most_same, stopped_grows}
use Rattle.up_strand.proofs.Writes.{receives_front}
use Rattle.up_strand.specs.AnyModule.{any_kind, AnyStands, has_module}
use Rattle.up_strand.specs.Nodes.{Seat, Holds, PartStands, NodeStands, Took, node_work, is_whole}
use Rattle.up_strand.specs.Spellings.{IsSinkOf, form_of}
use Rattle.up_strand.specs.Writing.{Receives}
use Rattle.up_strand.specs.declared.any_module.AnyModule.{AnyModule}
use Rattle.up_strand.specs.declared.any_module.AnyModule.TheVariants as modules
use Rattle.up_strand.specs.declared.node.Node.{Node}
use Rattle.up_strand.specs.declared.node.Part.{Part}
use Rattle.up_strand.specs.declared.node.Part.TheVariants.{Head, Pipe, Sink, Outlet, Ended}
use Rattle.up_strand.specs.declared.spelling.Spelling.{Spelling}

pub any_has_module : (m : AnyModule) → has_module (any_kind m) ≡ true
any_has_module (modules.Idem m) = refl
any_has_module (modules.Null m) = refl
any_has_module (modules.Dup m) = refl
any_has_module (modules.Skip m) = refl
any_has_module (modules.SetAttr m) = refl
any_has_module (modules.DelAttr m) = refl
any_has_module (modules.MatchAttr m) = refl
any_has_module (modules.Delay m) = refl

-- the work of a module's node is that of its kind
pub settled_by : (m : AnyModule) (fed : Flow) → node_work false (Some (any_kind m)) fed ≡ settled_work (any_kind m) fed
settled_by (modules.Idem m) fed = refl
settled_by (modules.Null m) fed = refl
settled_by (modules.Dup m) fed = refl
settled_by (modules.Skip m) fed = refl
settled_by (modules.SetAttr m) fed = refl
settled_by (modules.DelAttr m) fed = refl
settled_by (modules.MatchAttr m) fed = refl
settled_by (modules.Delay m) fed = refl

pub work_by : (m : AnyModule) (fed : Flow) → node_work true (Some (any_kind m)) fed ≡ work_of (any_kind m) fed
work_by (modules.Idem m) fed = refl
work_by (modules.Null m) fed = refl
work_by (modules.Dup m) fed = refl
work_by (modules.Skip m) fed = refl
work_by (modules.SetAttr m) fed = refl
work_by (modules.DelAttr m) fed = refl
work_by (modules.MatchAttr m) fed = refl
work_by (modules.Delay m) fed = refl

-- a source puts out what it is given
pub head_work : (whole : Bool) (kind : Option Kind) (fed : Flow) → MatchOption kind ⊥ (λ k. is_source k ≡ true)
    → node_work whole kind fed ≡ record { flow = fed; tally = of_source fed }
head_work whole None fed is = absurd is
head_work false (Some (kinds.Source path form limit)) fed is = refl
head_work true (Some (kinds.Source path form limit)) fed is = refl
head_work whole (Some kind) fed is = absurd (cc)

-- a sink puts nothing out
pub sink_work : (whole : Bool) (kind : Option Kind) (form : SinkForm) (fed : Flow) → MatchOption kind ⊥ (IsSinkOf form)
    → node_work whole kind fed ≡ record { flow = []; tally = of_taken fed }
sink_work whole None form fed is = absurd is
sink_work false (Some (kinds.Sink path own)) form fed is = refl
sink_work true (Some (kinds.Sink path own)) form fed is = refl
sink_work whole (Some kind) form fed is = absurd is

-- an outlet puts out what it takes
pub outlet_work : (whole : Bool) (kind : Option Kind) (fed : Flow) → kind ≡ None → node_work whole kind fed ≡ record { flow = fed; tally = nothing }
outlet_work whole kind fed is = rw is refl

-- what a source counts grows
pub source_sums_grow : (fed more : Flow) → IsAtMost (of_source fed) (of_source (fed ++ more))
source_sums_grow fed more =
    let longer = length-append fed more in
    record {
      taken = omega arith;
      put = omega (arith, longer);
      dropped = omega arith;
      cut = omega arith;
      gained = omega arith;
      lost = omega arith;
    }

-- what a node puts out so far goes on with what it takes
pub work_goes_on : (kind : Option Kind) (fed more : Flow) → IfSome kind IsWithinBounds
    → IsPrefix (node_work false kind fed).flow (node_work false kind (fed ++ more)).flow
work_goes_on None fed more within = (more, refl)
work_goes_on (Some (kinds.Source path form limit)) fed more within = (more, refl)
work_goes_on (Some kind) fed more within = ((lawful kind).flows within).longer fed more

-- and it is a prefix of what it puts out in all
pub work_comes_first : (kind : Option Kind) (fed : Flow) → IfSome kind IsWithinBounds
    → IsPrefix (node_work false kind fed).flow (node_work true kind fed).flow
work_comes_first None fed within = ([], sym (append-nil fed))
work_comes_first (Some (kinds.Source path form limit)) fed within = ([], sym (append-nil fed))
work_comes_first (Some kind) fed within =
    subst (λ (f : Flow). IsPrefix (settled_output kind fed) (output_of kind f)) (append-nil fed) (((lawful kind).flows within).whole fed [])

-- what it counted so far goes on too
pub sums_go_on : (kind : Option Kind) (fed more : Flow) → IfSome kind IsWithinBounds
    → IsAtMost (node_work false kind fed).tally (node_work false kind (fed ++ more)).tally
sums_go_on None fed more within = at_most_itself nothing
sums_go_on (Some (kinds.Source path form limit)) fed more within = source_sums_grow fed more
sums_go_on (Some kind) fed more within = ((lawful kind).flows within).sums_longer fed more

added_nothing : (tally : Tally) → tally ≡ added tally nothing
added_nothing tally = grind arith

added-stopped : (a b : Tally) → added (stopped a) b ≡ stopped (plus a b)
added-stopped a b = grind arith

module _ {P : Type 0} (plain : P → PlainPacket) where
  -- an outbox that grew as the work did
  pub holds_grew : (old new : Outgoing P) (before after : Work) (gone : Flow)
      → Holds plain false before old gone → Grew plain old new before after → Holds plain false after new gone
  holds_grew old new before after gone held grew =
      let none = held.all refl in
      let all : before.flow ≡ gone ++ map plain old.packets =
      held.flow ∙ ap (λ l. gone ++ map plain old.packets ++ l) none ∙ append-nil (gone ++ map plain old.packets) in
      let sums : new.tally ≡ stopped after.tally =
      grew.tally ∙ ap (λ t. added t grew.growth) (held.tally refl) ∙ added-stopped before.tally grew.growth ∙ ap stopped (sym grew.sums) in
      record {
        lacking = [];
        flow =
            grew.flow ∙ ap (λ f. f ++ map plain grew.given) all ∙ append_assoc gone (map plain old.packets) (map plain grew.given)
            ∙ ap (λ f. gone ++ f) (sym (map-append plain old.packets grew.given) ∙ ap (map plain) (sym grew.packets)) ∙ sym (append-nil (gone ++ map plain new.packets));
        all = λ _. refl;
        tally = λ _. sums;
        most = at_most_same new.tally (stopped after.tally) sums;
      }

  -- or in part
  pub holds_in_part : (old new : Outgoing P) (before after : Work) (gone : Flow)
      → Holds plain false before old gone → GrewInPart plain old new before after → Holds plain true after new gone
  holds_in_part old new before after gone held grew =
      let none = held.all refl in
      let all : before.flow ≡ gone ++ map plain old.packets =
      held.flow ∙ ap (λ l. gone ++ map plain old.packets ++ l) none ∙ append-nil (gone ++ map plain old.packets) in
      let sums : new.tally ≡ stopped (plus before.tally grew.growth) =
      grew.tally ∙ ap (λ t. added t grew.growth) (held.tally refl) ∙ added-stopped before.tally grew.growth in
      record {
        lacking = grew.lacking;
        flow =
            grew.flow ∙ ap (λ f. f ++ map plain grew.given ++ grew.lacking) all
            ∙ ap (λ f. f ++ grew.lacking) (append_assoc gone (map plain old.packets) (map plain grew.given)
            ∙ ap (λ f. gone ++ f) (sym (map-append plain old.packets grew.given) ∙ ap (map plain) (sym grew.packets)));
        all = λ long. absurd (cc);
        tally = λ long. absurd (cc);
        most = subst (λ (t : Tally). IsAtMost t (stopped after.tally)) (sym sums) (stopped_grows (plus before.tally grew.growth) after.tally grew.sums);
      }

  -- memory ran out, and the outbox is as it was
  pub holds_short : (short : Bool) (old new : Outgoing P) (before after : Work) (gone : Flow)
      → Holds plain short before old gone → IsPrefix before.flow after.flow → IsAtMost before.tally after.tally → new.packets ≡ old.packets
      → new.tally ≡ old.tally → Holds plain true after new gone
  holds_short short old new before after gone held longer more same sums = record {
    lacking = held.lacking ++ longer.0;
    flow =
        longer.1 ∙ ap (λ f. f ++ longer.0) held.flow ∙ append_assoc (gone ++ map plain old.packets) held.lacking longer.0
        ∙ ap (λ ps. gone ++ map plain ps ++ (held.lacking ++ longer.0)) (sym same);
    all = λ long. absurd (cc);
    tally = λ long. absurd (cc);
    most = subst (λ (t : Tally). IsAtMost t (stopped after.tally)) (sym sums)
        (at_most_on old.tally (stopped before.tally) (stopped after.tally) held.most (stopped_grows before.tally after.tally more));
  }

  -- all that waited was given up
  pub holds_none : (old new : Outgoing P) (work : Work) (gone : Flow)
      → Holds plain true work old gone → new.packets ≡ [] → new.tally ≡ old.tally → Holds plain true work new gone
  holds_none old new work gone held none sums = record {
    lacking = map plain old.packets ++ held.lacking;
    flow =
        held.flow ∙ append_assoc gone (map plain old.packets) held.lacking
        ∙ ap (λ g. g ++ (map plain old.packets ++ held.lacking)) (sym (append-nil gone))
        ∙ ap (λ ps. gone ++ map plain ps ++ (map plain old.packets ++ held.lacking)) (sym none);
    all = λ long. absurd (cc);
    tally = λ long. absurd (cc);
    most = subst (λ (t : Tally). IsAtMost t (stopped work.tally)) (sym sums) held.most;
  }

-- the work on nothing is nothing
pub no_work : (whole : Bool) (kind : Option Kind) → IfSome kind IsWithinBounds → node_work whole kind [] ≡ record { flow = []; tally = nothing }
no_work whole None within = refl
no_work false (Some (kinds.Source path form limit)) within = refl
no_work true (Some (kinds.Source path form limit)) within = refl
no_work false (Some kind) within =
    let keeps = (lawful kind).flows within in λ i. record { flow = keeps.settles_nothing i; tally = keeps.settles_no_sums i }
no_work true (Some kind) within =
    let keeps = (lawful kind).flows within in λ i. record { flow = keeps.owes_nothing i; tally = keeps.owes_no_sums i }

stopped_nothing : nothing ≡ stopped nothing
stopped_nothing = grind arith

-- an outbox into which nothing was put holds the work on nothing
pub holds_nothing : {P : Type 0} (plain : P → PlainPacket) (whole : Bool) (kind : Option Kind) (out : Outgoing P) → IfSome kind IsWithinBounds
    → out.packets ≡ [] → out.tally ≡ nothing → Holds plain false (node_work whole kind []) out []
holds_nothing plain whole kind out within packets tally =
    let none = no_work whole kind within in
    let sums : out.tally ≡ stopped (node_work whole kind []).tally = tally ∙ stopped_nothing ∙ ap (λ (w : Work). stopped w.tally) (sym none) in
    record {
      lacking = [];
      flow = ap (λ (w : Work). w.flow) none ∙ ap (λ ps. map plain ps ++ []) (sym packets);
      all = λ long. refl;
      tally = λ long. sums;
      most = at_most_same _ _ sums;
    }

-- what a sink writes of more packets goes on behind what it writes of the first
written_by-append : (form : SinkForm) (front more : Flow) → written_by form (front ++ more) ≡ written_by form front ++ written_by form more
written_by-append sink_forms.Raw front more = joined-append front more
written_by-append sink_forms.Framed front more = frames_of-append front more

module _ {P K : Type 0} (plain : P → PlainPacket) (state : K → SinkState) where
  -- a part at which memory ran out, whatever more is given to it
  part_goes_on : (seat : Seat) (short : Bool) (part : Part K) (fed more : Flow) → PartStands plain state seat short part fed
      → PartStands plain state seat true part (fed ++ more)
  part_goes_on seat short Head fed more is = is
  part_goes_on seat short (Pipe m) fed more is = (is.0, λ long. absurd (cc))
  part_goes_on seat short (Sink sink spelling failed) fed more is = (
    is.0,
    rw (written_by-append (form_of spelling) fed more)
        (receives_front _ _ _ (written_by (form_of spelling) fed) (written_by (form_of spelling) more) is.1),
    is.2,
  )
  part_goes_on seat short Outlet fed more is = is
  part_goes_on seat short (Ended whole) fed more is = is

  -- a node at which memory ran out gives up what it takes
  pub short_took : (old new : Node P K) (more : Flow) → new.short ≡ true → new.part ≡ old.part → new.out.packets ≡ old.out.packets
      → new.out.tally ≡ old.out.tally → is_whole old.part ≡ false → All IsLegal more → Took plain state old new more
  short_took old new more short part packets sums goes_on legal seat fed gone stood = record {
    legal = All-append IsLegal fed more stood.legal legal;
    within = stood.within;
    part = rw (short, part) (part_goes_on seat old.short old.part fed more stood.part);
    holds = rw (short, part, goes_on) (holds_short plain old.short old.out new.out _ _ gone (rw goes_on at stood.holds) (work_goes_on seat.kind fed more stood.within)
        (sums_go_on seat.kind fed more stood.within) packets sums);
  }

  -- memory runs out at a node
  pub falls_short : (old : Node P K) → Took plain state old (record old { short = true }) []
  falls_short old seat fed gone stood = record {
    legal = rw (append-nil fed) stood.legal;
    within = stood.within;
    part = part_goes_on seat old.short old.part fed [] stood.part;
    holds = rw (append-nil fed) (holds_short plain old.short old.out old.out _ _ gone stood.holds ([], sym (append-nil _)) (at_most_itself _) refl refl);
  }

  -- what waited at it is given up
  pub emptied : (old : Node P K) (out : Outgoing P) → old.short ≡ true → out.packets ≡ [] → out.tally ≡ old.out.tally
      → Took plain state old (record old { out = out }) []
  emptied old out short none sums seat fed gone stood = record {
    legal = rw (append-nil fed) stood.legal;
    within = stood.within;
    part = rw (append-nil fed) stood.part;
    holds = rw (append-nil fed, short) (holds_none plain old.out out _ gone (rw short at stood.holds) none sums);
  }

  -- memory ran out as the flow of a pipe came to its whole end
  pub pipe_ends_short : (old : Node P K) (part' : Part K) (m : AnyModule) (out : Outgoing P) → old.short ≡ false → old.part ≡ Pipe m → part' ≡ Ended true
      → ((fed : Flow) → AnyStands m fed → GrewInPart plain old.out out (settled_work (any_kind m) fed) (work_of (any_kind m) fed))
      → Took plain state old (record { input = old.input; takers = old.takers; part = part'; out = out; short = true }) []
  pipe_ends_short old part' m out long is is' grew seat fed gone stood =
      let part = rw (is, long) at stood.part in
      let holds = rw (is, long, part.0, settled_by m fed) at stood.holds in
      record {
        legal = rw (append-nil fed) stood.legal;
        within = stood.within;
        part = rw (is', part.0) (any_has_module m);
        holds = rw (append-nil fed, is', part.0, work_by m fed) (holds_in_part plain old.out out _ _ gone holds (grew fed (part.1 refl)));
      }

  -- one step and then another, in which nothing is taken
  pub Took-then : (a b c : Node P K) (more : Flow) → Took plain state a b more → Took plain state b c [] → Took plain state a c more
  Took-then a b c more one two seat fed gone stood =
      subst (λ (f : Flow). NodeStands plain state seat c f gone) (append-nil (fed ++ more)) (two seat _ gone (one seat fed gone stood))

  module _ (old new : Node P K) (packet : PlainPacket) (legal : IsLegal packet) (long : old.short ≡ false) where
    legal_more : (fed : Flow) → All IsLegal fed → All IsLegal (fed ++ packet ∷ [])
    legal_more fed all = All-push IsLegal fed packet all legal

    -- a pipe that took the packet
    pub pipe_took : (m m' : AnyModule) → old.part ≡ Pipe m → new.part ≡ Pipe m' → new.short ≡ false → any_kind m' ≡ any_kind m
        → ((fed : Flow) → AnyStands m fed → AnyStands m' (fed ++ packet ∷ []))
        → ((fed : Flow) → AnyStands m fed → Grew plain old.out new.out (settled_work (any_kind m) fed) (settled_work (any_kind m) (fed ++ packet ∷ [])))
        → Took plain state old new (packet ∷ [])
    pipe_took m m' is is' long' same stands grew seat fed gone stood =
        let part = rw (is, long) at stood.part in
        let holds = rw (is, long, part.0, settled_by m fed) at stood.holds in
        record {
          legal = legal_more fed stood.legal;
          within = stood.within;
          part = rw (is', long') (part.0 ∙ ap Some (sym same), λ _. stands fed (part.1 refl));
          holds = rw (is', long', part.0, settled_by m (fed ++ packet ∷ []))
              (holds_grew plain old.out new.out _ _ gone holds (grew fed (part.1 refl)));
        }

    -- a pipe at which memory ran out
    pub pipe_fell : (m m' : AnyModule) → old.part ≡ Pipe m → new.part ≡ Pipe m' → new.short ≡ true → any_kind m' ≡ any_kind m
        → ((fed : Flow) → AnyStands m fed → GrewInPart plain old.out new.out (settled_work (any_kind m) fed) (settled_work (any_kind m) (fed ++ packet ∷ [])))
        → Took plain state old new (packet ∷ [])
    pipe_fell m m' is is' short same grew seat fed gone stood =
        let part = rw (is, long) at stood.part in
        let holds = rw (is, long, part.0, settled_by m fed) at stood.holds in
        record {
          legal = legal_more fed stood.legal;
          within = stood.within;
          part = rw (is', short) (part.0 ∙ ap Some (sym same), λ wrong. absurd (cc));
          holds = rw (is', short, part.0, settled_by m (fed ++ packet ∷ []))
              (holds_in_part plain old.out new.out _ _ gone holds (grew fed (part.1 refl)));
        }

    -- a sink that took the packet, or at which memory ran out
    pub sink_took : (sink sink' : K) (spelling spelling' : Spelling) (failed failed' : Bool)
        → old.part ≡ Sink sink spelling failed → new.part ≡ Sink sink' spelling' failed' → form_of spelling' ≡ form_of spelling
        → ((start : SinkState) (before : List ℕ) → Receives start (state sink) (not failed) before
        → Receives start (state sink') (not new.short && not failed') (before ++ written_by (form_of spelling) (packet ∷ [])))
        → ((before : ℕ) → CountsOnce failed before (state sink).faults → CountsOnce failed' before (state sink').faults)
        → new.out.packets ≡ old.out.packets → new.out.tally ≡ added old.out.tally (record { taken = 1; put = 0; dropped = 0; cut = 0; gained = 0; lost = 0 })
        → Took plain state old new (packet ∷ [])
    sink_took sink sink' spelling spelling' failed failed' is is' same receives faults packets tally seat fed gone stood =
        let part = rw (is, long) at stood.part in
        let form = form_of spelling in
        let holds = rw (is, long, sink_work false seat.kind form fed part.0) at stood.holds in
        let sums : new.out.tally ≡ stopped (of_taken (fed ++ packet ∷ [])) =
        tally ∙ ap (λ t. added t one) (holds.tally refl) ∙ added-stopped (of_taken fed) one
        ∙ ap stopped (λ i. record { taken = sym (length-append fed (packet ∷ [])) i; put = 0; dropped = 0; cut = 0; gained = 0; lost = 0 }) in
        record {
          legal = legal_more fed stood.legal;
          within = stood.within;
          part = rw (is', same) (
            part.0,
            rw (written_by-append form fed (packet ∷ [])) (receives seat.start (written_by form fed) part.1),
            faults seat.start.faults part.2,
          );
          holds = rw (is', sink_work false seat.kind form (fed ++ packet ∷ []) part.0) (record {
            lacking = holds.lacking;
            flow = holds.flow ∙ ap (λ ps. gone ++ map plain ps ++ holds.lacking) (sym packets);
            all = λ _. holds.all refl;
            tally = λ _. sums;
            most = at_most_same _ _ sums;
          });
        }
      where
        one : Tally
        one = record { taken = 1; put = 0; dropped = 0; cut = 0; gained = 0; lost = 0 }

    -- a head that took the packet
    pub head_took : (p : P) → packet ≡ plain p → old.part ≡ Head → new.part ≡ Head → new.short ≡ false
        → new.out.packets ≡ old.out.packets ++ p ∷ [] → new.out.tally ≡ added old.out.tally (record { taken = 0; put = 1; dropped = 0; cut = 0; gained = 0; lost = 0 })
        → Took plain state old new (packet ∷ [])
    head_took p same is is' long' packets tally seat fed gone stood =
        let part = rw is at stood.part in
        let holds = rw (is, long, head_work false seat.kind fed part) at stood.holds in
        record {
          legal = legal_more fed stood.legal;
          within = stood.within;
          part = rw is' part;
          holds = rw (is', long', head_work false seat.kind (fed ++ packet ∷ []) part) (holds_grew plain old.out new.out _ _ gone holds (record {
            given = p ∷ [];
            growth = one;
            packets = packets;
            tally = tally;
            flow = ap (λ q. fed ++ q ∷ []) same;
            sums = λ i. record { taken = 0; put = length-append fed (packet ∷ []) i; dropped = 0; cut = 0; gained = 0; lost = 0 };
          }));
        }
      where
        one : Tally
        one = record { taken = 0; put = 1; dropped = 0; cut = 0; gained = 0; lost = 0 }

    -- an outlet that took the packet
    pub outlet_took : (p : P) → packet ≡ plain p → old.part ≡ Outlet → new.part ≡ Outlet → new.short ≡ false
        → new.out.packets ≡ old.out.packets ++ p ∷ [] → new.out.tally ≡ old.out.tally
        → Took plain state old new (packet ∷ [])
    outlet_took p same is is' long' packets tally seat fed gone stood =
        let part = rw is at stood.part in
        let holds = rw (is, long, part) at stood.holds in
        record {
          legal = legal_more fed stood.legal;
          within = stood.within;
          part = rw is' part;
          holds = rw (is', long', part) (holds_grew plain old.out new.out _ _ gone holds (record {
            given = p ∷ [];
            growth = nothing;
            packets = packets;
            tally = tally ∙ added_nothing old.out.tally;
            flow = ap (λ q. fed ++ q ∷ []) same;
            sums = grind arith;
          }));
        }
