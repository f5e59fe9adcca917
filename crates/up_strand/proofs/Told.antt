-- The outcome of a pipe's node is that of the pipe.
use Rattle.std.proofs.Common.{◌≡◌, ℕ, ◌<◌, ◌==◌, List, length, length-append, get_or, Bool, true, false, Option, Some, slice_get, refl, sym, ap, subst, ◌∙◌, arith, inl, inr}
use Rattle.std.specs.Prelude.{option_and_then}
use Rattle.std.specs.List.{Contains, position}
use Rattle.std.specs.Option.{option_map_or}
use Rattle.std.proofs.lemmas.Bool.{lt-ltb}
use Rattle.std.proofs.lemmas.Bool.Decides.{eqb_tells, leb_tells}
use Rattle.std.proofs.lemmas.List.{get_or_append_left, get_or_default}
use Rattle.std.proofs.lemmas.List.Sums.{position_or_len_is}
use Rattle.std.proofs.lemmas.Option.{same_Some, slice_get-get_or}
use Rattle.up_model.specs.Ends.{is_source}
use Rattle.up_model.specs.Packet.{Flow}
use Rattle.up_model.specs.Plans.{outlets_of, strand_of}
use Rattle.up_model.specs.declared.kind.Kind.{Kind}
use Rattle.up_model.specs.declared.kind.Kind.TheVariants as kinds
use Rattle.up_model.specs.declared.outcome.Outcome.{Outcome}
use Rattle.up_model.specs.declared.outcome.Outcome.TheVariants.{Whole}
use Rattle.up_model.specs.declared.pipe.Pipe.{Pipe}
use Rattle.up_model.specs.declared.plain_packet.PlainPacket.{PlainPacket}
use Rattle.up_outside.specs.States.{SourceState, SinkState}
use Rattle.up_strand.proofs.NodeSteps.{any_has_module}
use Rattle.up_strand.proofs.Reaching.{same_kind}
use Rattle.up_model.specs.Meaning.{selected}
use Rattle.up_strand.specs.AnyModule.{any_kind, has_module}
use Rattle.up_strand.specs.History.{History, outcome_by, outcome_of_source, outcome_without, told_at}
use Rattle.up_strand.specs.Nodes.{Seat, PartStands, has_failed, is_outlet}
use Rattle.up_strand.specs.Spellings.{IsSinkOf, form_of}
use Rattle.up_strand.specs.Strands.{StandsFor, node_of, outcome_of_part, place_of}
use Rattle.up_strand.specs.declared.node.Node.{Node}
use Rattle.up_strand.specs.declared.node.Part.{Part}
use Rattle.up_strand.specs.declared.node.Part.TheVariants.{Head, Pipe as PipePart, Sink, Outlet, Ended}
use Rattle.up_strand.specs.declared.spelling.Spelling.{Spelling}
use Rattle.up_strand.specs.declared.strand.Strand.{Strand}

-- a pipe with a module has no cause of its own
by_module : (kind : Kind) (failed short : Bool) (ended : Option Outcome) → has_module kind ≡ true → outcome_without short ended ≡ outcome_by kind failed short ended
by_module (kinds.Source path form limit) failed short ended has = absurd (cc)
by_module (kinds.Sink path form) failed short ended has = absurd (cc)
by_module kind failed short ended has = refl

by_source : (kind : Kind) (failed short : Bool) (ended : Option Outcome) → is_source kind ≡ true → outcome_of_source short ended ≡ outcome_by kind failed short ended
by_source (kinds.Source path form limit) failed short ended is = refl
by_source kind failed short ended is = absurd (cc)

module _ {K : Type 0} (plain_short : Bool) (ended : Option Outcome) where
  by_sink : (kind : Kind) (sink : K) (spelling : Spelling) (failed : Bool) → IsSinkOf (form_of spelling) kind
      → outcome_of_part (Sink sink spelling failed) plain_short ended ≡ outcome_by kind failed plain_short ended
  by_sink (kinds.Sink path own) sink spelling true is = refl
  by_sink (kinds.Sink path own) sink spelling false is = refl
  by_sink kind sink spelling failed is = absurd is

  -- the outcome of a part of the kind
  by_part : {P : Type 0} (plain : P → PlainPacket) (state : K → SinkState) (seat : Seat) (kind : Kind) (short : Bool) (part : Part K) (fed : Flow)
      → seat.kind ≡ Some kind → is_outlet part ≡ false → PartStands plain state seat short part fed
      → outcome_of_part part plain_short ended ≡ outcome_by kind (has_failed part) plain_short ended
  by_part plain state seat kind short Head fed is inner part = by_source kind false plain_short ended (rw is at part)
  by_part plain state seat kind short (PipePart m) fed is inner part =
      by_module kind false plain_short ended (ap has_module (same_Some kind (any_kind m) (sym is ∙ part.0)) ∙ any_has_module m)
  by_part plain state seat kind short (Sink sink spelling failed) fed is inner part = by_sink kind sink spelling failed (rw is at part.0)
  by_part plain state seat kind short Outlet fed is inner part = absurd (cc)
  by_part plain state seat kind short (Ended whole) fed is inner part = by_module kind false plain_short ended (rw is at part)

-- the place at which a test passes first
pub position_is : {X : Type 0} (test : X → Bool) (items : List X) (i : ℕ) (d : X) → i < length items
    → ((k : ℕ) → k < i → test (get_or items k d) ≡ false) → test (get_or items i d) ≡ true → position test items ≡ Some i
position_is test items i d within before here =
    rw (position_or_len_is test items i d (omega arith) before (λ inside. here), lt-ltb i (length items) within) refl

same_is_same : (n : ℕ) → (n == n) ≡ true
same_is_same n = elim (eqb_tells n n) [ inl same ↦ same.0 | inr other ↦ absurd (other.1 refl) ]

-- of places that are apart each is found where it is
pub place_found : (items : List ℕ) (i : ℕ) → ((k l : ℕ) → k < length items → l < length items → get_or items k 0 ≡ get_or items l 0 → k ≡ l)
    → i < length items → position (λ other. other == get_or items i 0) items ≡ Some i
place_found items i apart within =
    position_is (λ other. other == get_or items i 0) items i 0 within
    (λ k below. elim (eqb_tells (get_or items k 0) (get_or items i 0)) [
      | inl same ↦ let is = apart k i (omega (arith, within, below)) within same.1 in absurd (omega (arith, is, below))
      | inr other ↦ other.0
    ])
    (same_is_same (get_or items i 0))

module _ {P S K : Type 0} (plain : P → PlainPacket) (reads : S → SourceState) (writes : K → SinkState) (strand : Strand P S K) (h : History)
    (stands : StandsFor plain reads writes strand h) where
  abbrev nodes : List (Node P K)
  nodes = strand.tree.nodes.items

  pub failed_is : (i : ℕ) (d : Node P K) → i < length nodes → h.failed (place_of strand i) ≡ has_failed (get_or nodes i d).part
  failed_is i d within =
      let count = stands.built.count in
      let found : node_of strand (place_of strand i) ≡ Some i = place_found strand.places.items i stands.built.apart (omega (arith, within, count)) in
      stands.writing.failed (place_of strand i)
      ∙ ap (λ (found : Option ℕ). option_map_or (λ (node : Node P K). has_failed node.part) (option_and_then (slice_get nodes) found) false) found
      ∙ ap (λ (node : Option (Node P K)). option_map_or (λ (n : Node P K). has_failed n.part) node false) (slice_get-get_or nodes i d within)

  pub outcome_is : (i : ℕ) (d : Node P K) → i < length (strand_of h.pipes h.head)
      → outcome_of_part (get_or nodes i d).part strand.tree.short strand.ended ≡ told_at h (place_of strand i)
  outcome_is i d own =
      let count = stands.built.count in
      let places = stands.built.places in
      let all = ap length places ∙ length-append (strand_of h.pipes h.head) (outlets_of h.pipes h.head) in
      let within : i < length nodes = omega (arith, own, count, all) in
      let inner : is_outlet (get_or nodes i d).part ≡ false =
      stands.built.outlets i d within ∙ elim (leb_tells (length (strand_of h.pipes h.head)) i) [ inl past ↦ absurd (let behind = past.1 in omega (arith, own, behind)) | inr before ↦ before.0 ] in
      let node = stands.built.are.each i d within inner in
      let kind : (stands.past.seats i).kind ≡ Some node.pipe.kind = node.kind ∙ ap Some (same_kind (selected h.pipes (place_of strand i)) node.pipe.kind) in
      by_part strand.tree.short strand.ended plain writes (stands.past.seats i) node.pipe.kind (get_or nodes i d).short (get_or nodes i d).part (stands.past.fed i) kind inner (stands.stand.node i d within).part
      ∙ ap (λ (failed : Bool). outcome_by node.pipe.kind failed strand.tree.short strand.ended) (sym (failed_is i d within))
      ∙ ap (λ (short : Bool). outcome_by node.pipe.kind (h.failed (place_of strand i)) short strand.ended) stands.ended.short
      ∙ ap (λ (ended : Option Outcome). outcome_by node.pipe.kind (h.failed (place_of strand i)) h.short ended) stands.ended.ended
      ∙ ap (λ (pipe : Option Pipe). option_map_or (λ (p : Pipe). outcome_by p.kind (h.failed (place_of strand i)) h.short h.ended) pipe Whole) (sym node.there)

  -- the node of a pipe of the strand
  pub pipe_found : (place : ℕ) → Contains (strand_of h.pipes h.head) place
      → (i : ℕ) × (i < length (strand_of h.pipes h.head)) × (place_of strand i ≡ place) × (node_of strand place ≡ Some i)
  pipe_found place there =
      let own = strand_of h.pipes h.head in
      let count = stands.built.count in
      let places = stands.built.places in
      let all = ap length places ∙ length-append own (outlets_of h.pipes h.head) in
      let inside : there.0 < length own = there.1 in
      let is : place_of strand there.0 ≡ place =
      ap (λ (items : List ℕ). get_or items there.0 0) places ∙ get_or_append_left own (outlets_of h.pipes h.head) 0 there.0 inside ∙ get_or_default own there.0 0 place inside ∙ there.2 in (
        there.0,
        inside,
        is,
        subst (λ (p : ℕ). node_of strand p ≡ Some there.0) is (place_found strand.places.items there.0 stands.built.apart (omega (arith, inside, all))),
      )
