-- A strand whose nodes took more, or whose flow ended: what goes on as it was.
use Rattle.std.proofs.Common.{◌≡◌, ℕ, ◌<◌, List, [], ◌++◌, length, map, get_or, Bool, true, false, Option, Some, None, slice_get, is_some, refl, sym, ap, ◌∙◌, subst, arith, inl, inr}
use Rattle.std.specs.Prelude.{◌==◌, ◌⊎◌, ◌≤◌, MatchOption, Vec, option_and_then, if◌then◌else◌}
use Rattle.std.specs.Global.{Global}
use Rattle.std.specs.Option.{option_map_or, option_to_list}
use Rattle.std.proofs.lemmas.Bool.{cases_Bool, lt-leb}
use Rattle.std.proofs.lemmas.Option.{slice_get-get_or, slice_get_cases}
use Rattle.up_base.specs.Lists.{IsPrefix}
use Rattle.up_model.specs.Ends.{is_source}
use Rattle.up_model.specs.Packet.{Flow}
use Rattle.up_model.specs.Plans.{strand_of}
use Rattle.up_model.specs.declared.form.SinkForm.{SinkForm}
use Rattle.up_model.specs.declared.kind.Kind.{Kind}
use Rattle.up_model.specs.declared.kind.Kind.TheVariants as kinds
use Rattle.up_model.specs.declared.outcome.Outcome.{Outcome}
use Rattle.up_model.specs.declared.plain_packet.PlainPacket.{PlainPacket}
use Rattle.up_outside.specs.States.{SourceState, SinkState}
use Rattle.up_strand.proofs.Found.{none_inside, ready_same}
use Rattle.up_strand.proofs.NodeSteps.{any_has_module}
use Rattle.up_strand.proofs.Sweeping.{swept_on}
use Rattle.up_strand.proofs.Told.{failed_is, place_found}
use Rattle.up_strand.specs.AnyModule.{any_kind, has_module}
use Rattle.up_strand.specs.History.{History, head_flow}
use Rattle.up_strand.specs.Nodes.{PartStands, Seat, has_failed, holds_sink, is_outlet, takes_from}
use Rattle.up_strand.specs.Stand.{Past, Stand, StandWith, Went, AreAsPlaced}
use Rattle.up_strand.specs.Spellings.{IsSinkOf, form_of}
use Rattle.up_strand.specs.Steps.{IsGoing, OnceLooked, TreeIs, looked_from}
use Rattle.up_strand.specs.StrandCalls.{is_done, is_output, no_sink}
use Rattle.up_strand.specs.Strands.{IntakeStands, IsAsEnded, IsBuilt, IsSent, IsWriting, StandsFor, StandsForSome, StrandFits, first_ready, has_failed_at, has_item, kept_at, node_of, place_of, want_of}
use Rattle.up_strand.specs.declared.intake.Intake.{Intake}
use Rattle.up_strand.specs.declared.intake.Intake.TheVariants.{FromSource, FromFrames, FromLane}
use Rattle.up_strand.specs.declared.node.Node.{Node}
use Rattle.up_strand.specs.declared.node.Part.{Part}
use Rattle.up_strand.specs.declared.node.Part.TheVariants.{Head, Pipe as PipePart, Sink, Outlet, Ended}
use Rattle.up_strand.specs.declared.spelling.Spelling.{Spelling}
use Rattle.up_strand.specs.declared.strand.Strand.{Strand}
use Rattle.up_strand.specs.declared.tree.Tree.{Tree}

-- a sink's pipe is no source's and has no module
sink_is_no_source : (form : SinkForm) (kind : Option Kind) → MatchOption kind ⊥ (IsSinkOf form) → MatchOption kind ⊥ (λ k. is_source k ≡ true) → ⊥
sink_is_no_source form None sink source = sink
sink_is_no_source form (Some (kinds.Sink path own)) sink source = absurd (cc)
sink_is_no_source form (Some kind) sink source = sink

sink_has_no_module : (form : SinkForm) (kind : Option Kind) → MatchOption kind ⊥ (IsSinkOf form) → MatchOption kind ⊥ (λ k. has_module k ≡ true) → ⊥
sink_has_no_module form None sink other = sink
sink_has_no_module form (Some (kinds.Sink path own)) sink other = absurd (cc)
sink_has_no_module form (Some kind) sink other = sink

none_either : {P : Type 0} (here : Bool) (kept : Option P) → kept ≡ None → (if here then option_to_list kept else []) ≡ []
none_either true kept none = rw none refl
none_either false kept none = refl

module _ {P K : Type 0} (plain : P → PlainPacket) (writes : K → SinkState) where
  -- a part of a sink's pipe is a sink
  sink_part : (form : SinkForm) (seat : Seat) (short : Bool) (part : Part K) (fed : Flow) → MatchOption seat.kind ⊥ (IsSinkOf form)
      → PartStands plain writes seat short part fed → (sink : K) × (spelling : Spelling) × (failed : Bool) × (part ≡ Sink sink spelling failed)
  sink_part form seat short Head fed is stands = absurd (sink_is_no_source form seat.kind is stands)
  sink_part form seat short (PipePart m) fed is stands =
      absurd (sink_has_no_module form (Some (any_kind m)) (rw stands.0 at is) (any_has_module m))
  sink_part form seat short (Sink sink spelling failed) fed is stands = (sink, spelling, failed, refl)
  sink_part form seat short Outlet fed is stands = absurd (rw stands at is)
  sink_part form seat short (Ended whole) fed is stands = absurd (sink_has_no_module form seat.kind is stands)

  -- a sink was one before
  pub sink_before : (olds news : List (Node P K)) (past : Past) (fed gone : ℕ → Flow) → length news ≡ length olds → Stand plain writes olds past
      → Stand plain writes news (record { seats = past.seats; fed = fed; gone = gone })
      → (i : ℕ) (d : Node P K) (sink : K) (spelling : Spelling) (failed : Bool) → i < length news → (get_or news i d).part ≡ Sink sink spelling failed
      → (before : K) × (spelt : Spelling) × (had : Bool) × ((get_or olds i d).part ≡ Sink before spelt had)
  sink_before olds news past fed gone same before after i d sink spelling failed within is =
      let now = (after.node i d within).part in
      let sink_now : PartStands plain writes (past.seats i) (get_or news i d).short (Sink sink spelling failed) (fed i) =
      subst (λ (part : Part K). PartStands plain writes (past.seats i) (get_or news i d).short part (fed i)) is now in
      sink_part (form_of spelling) (past.seats i) (get_or olds i d).short (get_or olds i d).part (past.fed i) sink_now.0 (before.node i d (omega arith)).part

module _ {P S K : Type 0} (strand : Strand P S K) where
  -- where it wants no output nothing waits for a lane
  pub none_is_ready : is_output (want_of strand) ≡ false → first_ready strand ≡ None
  none_is_ready wants = by_first (first_ready strand) refl
    where
      by_first : (first : Option ℕ) → first_ready strand ≡ first → first_ready strand ≡ None
      by_first None is = is
      by_first (Some i) is = let wrong : true ≡ false = rw is at wants in absurd (cc)

  pub goes_on : is_output (want_of strand) ≡ false → is_done (want_of strand) ≡ false → strand.ended ≡ None
  goes_on wants more = by_end strand.ended refl
    where
      by_end : (ended : Option Outcome) → strand.ended ≡ ended → strand.ended ≡ None
      by_end None is = is
      by_end (Some outcome) is = let wrong : true ≡ false = rw (none_is_ready wants, is) at more in absurd (cc)

  -- and no packet came back
  pub none_kept : (plain : P → PlainPacket) (h : History) (past : Past) → is_output (want_of strand) ≡ false → IsSent strand plain h past → strand.kept ≡ None
  none_kept plain h past wants sent = by_kept strand.kept refl
    where
      at_end : strand.ready ≡ length strand.tree.nodes.items
      at_end = sent.ready ∙ ap (λ first. option_map_or (λ i. i) first (length strand.tree.nodes.items)) (none_is_ready wants)

      by_kept : (kept : Option P) → strand.kept ≡ kept → strand.kept ≡ None
      by_kept None is = is
      by_kept (Some p) is =
          let within = (sent.kept (ap is_some is)).1 in
          absurd (omega (arith, within, at_end))

-- what the source of a head tells, where it is one
abbrev pub source_in : {S : Type 0} → (S → SourceState) → Intake S → Option SourceState
source_in reads (FromSource source block limit left) = Some (reads source)
source_in reads (FromFrames frames) = Some (reads frames.source)
source_in reads FromLane = None

-- what the sink of a part tells, where it is one
abbrev pub sink_in : {K : Type 0} → (K → SinkState) → Part K → SinkState
sink_in writes (Sink sink spelling failed) = writes sink
sink_in writes part = no_sink

failed_sink : {K : Type 0} (part : Part K) → has_failed part ≡ true → (sink : K) × (spelling : Spelling) × (part ≡ Sink sink spelling true)
failed_sink Head failed = absurd (cc)
failed_sink (PipePart m) failed = absurd (cc)
failed_sink (Sink sink spelling true) failed = (sink, spelling, refl)
failed_sink (Sink sink spelling false) failed = absurd (cc)
failed_sink Outlet failed = absurd (cc)
failed_sink (Ended whole) failed = absurd (cc)

same_sink : {K : Type 0} (a b : K) (spelt spelling : Spelling) (had has : Bool) → Sink a spelt had ≡ Sink b spelling has → a ≡ b
same_sink a b spelt spelling had has same = cc

module _ {P S K : Type 0} (plain : P → PlainPacket) (reads : S → SourceState) (writes : K → SinkState)
    (old : Strand P S K) (h : History) (new : Strand P S K) where
  -- what the sinks tell after a step: one that had failed tells what it told, and each does once memory ran out
  abbrev pub sinks_after : ℕ → SinkState
  sinks_after place =
      if h.short then h.sinks_now place
      else if h.failed place then h.sinks_now place
      else option_map_or (λ node. sink_in writes node.part) (option_and_then (slice_get new.tree.nodes.items) (node_of new place)) no_sink

  module _ (stood : StandsFor plain reads writes old h) (places : new.places ≡ old.places)
      (same : length new.tree.nodes.items ≡ length old.tree.nodes.items) (placed : AreAsPlaced old.tree.nodes.items new.tree.nodes.items) where
    pub sinks_told_after : (i : ℕ) (d : Node P K) (sink : K) (spelling : Spelling) (failed : Bool) → i < length new.tree.nodes.items
        → (get_or new.tree.nodes.items i d).part ≡ Sink sink spelling failed → sinks_after (place_of new i) ≡ writes sink
    sinks_told_after i d sink spelling failed within is =
        let here : i < length old.tree.nodes.items = omega arith in
        let place : place_of new i ≡ place_of old i = ap (λ (items : Vec ℕ Global). get_or items.items i 0) places in
        let had : h.failed (place_of new i) ≡ has_failed (get_or old.tree.nodes.items i d).part =
        ap h.failed place ∙ failed_is plain reads writes old h stood i d here in
        elim (cases_Bool h.short) [
          | inl short ↦
              let fallen = stood.ended.nodes.fallen short i d here in
              let stays = (placed i d here).still fallen (ap holds_sink is) in
              rw short (ap h.sinks_now place ∙ stood.writing.now i d sink spelling failed here (sym stays ∙ is))
          | inr long ↦
              elim (cases_Bool (has_failed (get_or old.tree.nodes.items i d).part)) [
                | inl stopped ↦
                    let before = failed_sink (get_or old.tree.nodes.items i d).part stopped in
                    let sink_is : before.0 ≡ sink = same_sink before.0 sink before.1 spelling true failed (sym before.2 ∙ sym ((placed i d here).stopped stopped) ∙ is) in
                    let told : h.sinks_now (place_of old i) ≡ writes before.0 = stood.writing.now i d before.0 before.1 true here before.2 in
                    rw (long, had ∙ stopped) (ap h.sinks_now place ∙ told ∙ ap writes sink_is)
                | inr works ↦
                    let count = stood.built.count in
                    let found : node_of new (place_of new i) ≡ Some i =
                    rw places (place_found old.places.items i stood.built.apart (omega (arith, here, count))) in
                    rw (long, had ∙ works, found, slice_get-get_or new.tree.nodes.items i d within, is) refl
              ]
        ]

    -- once memory ran out each tells what it told
    pub still_told : h.short ≡ true → (place : ℕ) → sinks_after place ≡ h.sinks_now place
    still_told short place = rw short refl

    -- a sink that had failed has failed still, and tells what it told
    pub still_stopped : (place : ℕ) → h.failed place ≡ true → (has_failed_at new place ≡ true) × (sinks_after place ≡ h.sinks_now place)
    still_stopped place failed = (
      rw places (by_node (node_of old place) (sym (stood.writing.failed place) ∙ failed)),
      by_short h.short refl,
    )
      where
        by_short : (short : Bool) → h.short ≡ short → sinks_after place ≡ h.sinks_now place
        by_short true is = still_told is place
        by_short false is = rw (is, failed) refl

        by_node : (found : Option ℕ) → option_map_or (λ (node : Node P K). has_failed node.part) (option_and_then (slice_get old.tree.nodes.items) found) false ≡ true
            → option_map_or (λ (node : Node P K). has_failed node.part) (option_and_then (slice_get new.tree.nodes.items) found) false ≡ true
        by_node None is = absurd (cc)
        by_node (Some i) is = by_place (slice_get_cases old.tree.nodes.items i).1
          where
            by_place : ((x : Node P K) × (i < length old.tree.nodes.items) × (slice_get old.tree.nodes.items i ≡ Some x) × (get_or old.tree.nodes.items i x ≡ x)) ⊎ ((length old.tree.nodes.items ≤ i) × (slice_get old.tree.nodes.items i ≡ None))
                → option_map_or (λ (node : Node P K). has_failed node.part) (slice_get new.tree.nodes.items i) false ≡ true
            by_place (inl there) =
                let before : has_failed there.0.part ≡ true = rw there.2 at is in
                let here : has_failed (get_or old.tree.nodes.items i there.0).part ≡ true = ap (λ (n : Node P K). has_failed n.part) there.3 ∙ before in
                let now : has_failed (get_or new.tree.nodes.items i there.0).part ≡ true = ap has_failed ((placed i there.0 there.1).stopped here) ∙ here in
                let inside : i < length new.tree.nodes.items = let less = there.1 in omega (arith, same, less) in
                rw (slice_get-get_or new.tree.nodes.items i there.0 inside) now
            by_place (inr past) = let wrong : false ≡ true = rw past.1 at is in absurd (cc)

module _ {P S K : Type 0} (plain : P → PlainPacket) (reads : S → SourceState) (writes : K → SinkState)
    (old : Strand P S K) (tree : Tree P K) (intake : Intake S) (ended : Option Outcome) (ready : ℕ)
    (h : History) (read : List ℕ) (came fed : Flow)
    (wants : is_output (want_of old) ≡ false) (more : is_done (want_of old) ≡ false)
    (order : tree.order ≡ old.tree.order) (same : length tree.nodes.items ≡ length old.tree.nodes.items)
    (placed : AreAsPlaced old.tree.nodes.items tree.nodes.items) where
  -- the strand after the step, and what it did then
  abbrev pub after : Strand P S K
  after = record old { tree = tree; intake = intake; ended = ended; last = None; ready = ready }

  abbrev pub grown : History
  grown = record h {
    source_now = source_in reads intake;
    sinks_now = sinks_after plain reads writes old h after;
    read = h.read ++ read;
    came = h.came ++ came;
    fed = h.fed ++ fed;
    ended = ended;
    short = tree.short;
    failed = has_failed_at after;
  }

  module _ (past : Past) (went : Went plain writes old.tree.nodes.items tree.nodes.items past fed) where
    abbrev since : Past
    since = record { seats = past.seats; fed = went.fed; gone = went.gone }

    built_on : IsBuilt old h past → IsBuilt after grown since
    built_on built = record {
      well = built.well;
      is_head = built.is_head;
      places = built.places;
      count = same ∙ built.count;
      apart = built.apart;
      outlets = λ i d within. (placed i d (omega arith)).outlet ∙ built.outlets i d (omega arith);
      some = rw order built.some;
      swept = rw order (swept_on old.tree.order.items old.tree.nodes.items tree.nodes.items same placed built.swept);
      are = record {
        each = λ i d within inner.
            rw (placed i d (omega arith)).input (built.are.each i d (omega arith) (sym (placed i d (omega arith)).outlet ∙ inner));
        inner = λ i k d within takes.
            let here : i < length old.tree.nodes.items = omega arith in
            let before : takes_from (get_or old.tree.nodes.items i d).input k ≡ true = rw (← (placed i d here).input) takes in
            let inside = built.swept.tree.inputs i d k here before in
            (placed k d inside.0).outlet ∙ built.are.inner i k d here before;
      };
      lanes = λ i d within is.
          let here : i < length old.tree.nodes.items = omega arith in
          let lane = built.lanes i d here (sym (placed i d here).outlet ∙ is) in
          (lane.0, (placed i d here).input ∙ lane.1, lane.2);
      head = λ i d within none.
          let here : i < length old.tree.nodes.items = omega arith in
          built.head i d here (sym (placed i d here).input ∙ none);
      first = λ d e.
          let at : get_or old.tree.order.items 0 e < length old.tree.nodes.items = built.swept.sweeps.within 0 e built.some in
          rw order ((placed (get_or old.tree.order.items 0 e) d at).input ∙ built.first d e);
      caught = built.caught;
      catches = built.catches;
      closings = built.closings;
    }

    sent_on : StandsFor plain reads writes old h → IsSent old plain h past
        → ready ≡ option_map_or (λ i. i) (first_ready after) (length tree.nodes.items) → IsSent after plain grown since
    sent_on stood sent found =
        let kept : old.kept ≡ None = none_kept old plain h past wants sent in
        let none : (i : ℕ) → kept_at old i ≡ [] = λ i. none_either (i == old.ready) old.kept kept in
        let none_now : (i : ℕ) → kept_at after i ≡ [] = λ i. none_either (i == ready) old.kept kept in
        let going : h.ended ≡ None = sym stood.ended.ended ∙ goes_on old wants more in
        record {
          sent = λ i d within is.
              let here : i < length old.tree.nodes.items = omega arith in
              let was : is_outlet (get_or old.tree.nodes.items i d).part ≡ true = sym (placed i d here).outlet ∙ is in
              went.outlet i d here was ∙ sent.sent i d here was ∙ ap (λ ps. h.sent (place_of old i) ++ map plain ps) (none i ∙ sym (none_now i));
          closed = λ i d within is.
              let here : i < length old.tree.nodes.items = omega arith in
              sent.closed i d here (sym (placed i d here).outlet ∙ is);
          over = λ i d within is closed.
              let here : i < length old.tree.nodes.items = omega arith in
              let ended_before = (sent.over i d here (sym (placed i d here).outlet ∙ is) closed).0 in
              let wrong : false ≡ true = rw going at ended_before in absurd (cc);
          ready = found;
          kept = λ is. let wrong : false ≡ true = rw kept at is in absurd (cc);
          last = λ place is. absurd (cc);
        }

    writing_on : StandsFor plain reads writes old h → Stand plain writes old.tree.nodes.items past → IsWriting old writes h past → IsWriting after writes grown since
    writing_on stood stand writing = record {
      starts = λ i d sink spelling failed within is.
          let before = sink_before plain writes old.tree.nodes.items tree.nodes.items past went.fed went.gone same stand went.stand i d sink spelling failed within is in
          writing.starts i d before.0 before.1 before.2 (omega arith) before.3;
      now = sinks_told_after plain reads writes old h after stood refl same placed;
      failed = λ place. refl;
    }

  -- for each past with which it stood
  pub stands_on : (stood : StandsFor plain reads writes old h) → StandWith plain writes old.tree.nodes.items tree.nodes.items fed
      → ready ≡ option_map_or (λ i. i) (first_ready after) (length tree.nodes.items)
      → IsAsEnded after grown → IsPrefix (h.fed ++ fed) (head_flow grown) → (tree.short ≡ false → h.fed ++ fed ≡ head_flow grown)
      → IntakeStands reads intake grown
      → StandsFor plain reads writes after grown
  stands_on stood step found as_ended first all intake_stands =
      let went = step stood.past stood.stand in
      record {
        past = since stood.past went;
        stand = went.stand;
        built = built_on stood.past went stood.built;
        rooms = record { outcomes = stood.rooms.outcomes; tallies = stood.rooms.tallies; sinks = stood.rooms.sinks };
        ended = as_ended;
        fed = record {
          fed = λ i d within none.
              let here : i < length old.tree.nodes.items = omega arith in
              let was = sym (placed i d here).input ∙ none in
              went.head i d here was ∙ ap (λ f. f ++ fed) (stood.fed.fed i d here was);
          first = first;
          all = all;
        };
        intake = intake_stands;
        sent = sent_on stood.past went stood stood.sent found;
        writing = writing_on stood.past went stood stood.stand stood.writing;
      }

  -- the same for a tree that took a flow, and ended so or not
  pub stepped_on : StandsFor plain reads writes old h → StandWith plain writes old.tree.nodes.items tree.nodes.items fed
      → TreeIs tree ended
      → ready ≡ option_map_or (λ i. i) (first_ready after) (length tree.nodes.items)
      → IsPrefix (h.fed ++ fed) (head_flow grown) × (tree.short ≡ false → h.fed ++ fed ≡ head_flow grown)
      → IntakeStands reads intake grown
      → StandsFor plain reads writes after grown
  stepped_on stood step are found fed_so intake_stands =
      stands_on stood step found
      (record {
        ended = refl;
        short = refl;
        nodes = are;
      })
      fed_so.0 fed_so.1 intake_stands

-- how the nodes of a strand are that goes on
pub tree_is : {P S K : Type 0} (plain : P → PlainPacket) (reads : S → SourceState) (writes : K → SinkState) (strand : Strand P S K) (h : History)
    → StandsFor plain reads writes strand h → h.ended ≡ None → TreeIs strand.tree None
tree_is plain reads writes strand h stood going = rw (stood.ended.short) (rw going at stood.ended.nodes)

-- its tree goes on then
pub tree_going : {P S K F : Type 0} (plain : P → PlainPacket) (reads : S → SourceState) (writes : K → SinkState) (fits : P → F → Type 0) (family : F)
    (strand : Strand P S K) (h : History) → StandsFor plain reads writes strand h → h.ended ≡ None → StrandFits strand fits family
    → IsGoing plain writes fits family strand.tree
tree_going plain reads writes fits family strand h stood going fit = record {
  some = stood.built.some;
  swept = stood.built.swept;
  is = tree_is plain reads writes strand h stood going;
  stand = (stood.past, stood.stand);
  fitting = fit.nodes;
}

pub looked_as : {P S K : Type 0} (Holds : Strand P S K → Type 0) (now other : Strand P S K) → now ≡ other → OnceLooked other Holds → OnceLooked now Holds
looked_as {P} {S} {K} Holds now other is holds = subst (λ (s : Strand P S K). OnceLooked s Holds) (sym is) holds

-- a strand that has looked
pub once_looked : {P S K : Type 0} (Holds : Strand P S K → Type 0) (strand looked : Strand P S K) → looked ≡ looked_from strand looked.ready
    → looked.ready ≡ option_map_or (λ i. i) (first_ready looked) (length looked.tree.nodes.items) → OnceLooked strand Holds → Holds looked
once_looked {P} {S} {K} Holds strand looked same found holds =
    let at_ready : looked.ready ≡ option_map_or (λ i. i) (first_ready (looked_from strand looked.ready)) (length strand.tree.nodes.items) =
    found ∙ ap (λ (s : Strand P S K). option_map_or (λ i. i) (first_ready s) (length s.tree.nodes.items)) same in
    subst Holds (sym same) (holds looked.ready at_ready)

-- nothing waits for a lane at the pipes of a strand that stands for something once it has looked
pub none_at_pipes : {P S K : Type 0} (plain : P → PlainPacket) (reads : S → SourceState) (writes : K → SinkState) (strand : Strand P S K) → strand.kept ≡ None
    → OnceLooked strand (StandsForSome plain reads writes) → (i : ℕ) → i < length strand.caught.items → has_item strand i ≡ false
none_at_pipes {P} {S} {K} plain reads writes strand none stands i below =
    let count = length strand.tree.nodes.items in
    let start : Strand P S K = looked_from strand 0 in
    let ready : ℕ = option_map_or (λ i. i) (first_ready start) count in
    let found : ready ≡ option_map_or (λ i. i) (first_ready (looked_from strand ready)) count =
    ap (λ (first : Option ℕ). option_map_or (λ i. i) first count) (ready_same start (looked_from strand ready) none none refl refl refl) in
    let some = stands ready found in
    let catches : length strand.caught.items ≡ length (strand_of some.0.pipes some.0.head) = some.1.built.catches in
    none_inside strand i (λ d within. some.1.built.outlets i d within ∙ lt-leb (length (strand_of some.0.pipes some.0.head)) i (omega (arith, below, catches)))
