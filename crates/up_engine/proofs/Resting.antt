-- Where no pump is due, nothing is to be done: no strand is held back, each is done, and every lane is empty.
use Rattle.std.proofs.Common.{◌≡◌, ◌≢◌, ℕ, zero, suc, ◌+◌, ◌<◌, ◌⊎◌, List, [], ◌∷◌, map, length, true, false, is_some, Option, Some, None, slice_get, refl, sym, ap, ◌∙◌, subst, arith, inl, inr}
use Rattle.std.specs.Prelude.{slice_index_or}
use Rattle.std.specs.List.{Contains}
use Rattle.std.specs.Option.{IsSome, option_map_or}
use Rattle.std.proofs.lemmas.Bool.{cases_Bool, cases_lt}
use Rattle.std.proofs.lemmas.List.{get_or_past}
use Rattle.std.proofs.lemmas.Option.{slice_get_cases}
use Rattle.up_engine.proofs.AlongLanes.{IsFilled, along_lanes}
use Rattle.up_engine.proofs.DuePumps.{rests_or_is_held}
use Rattle.up_engine.proofs.Fillers.{fed_is_lane, head_number, head_there, head_within, lane_is_fed, lane_is_filled, lane_is_head, outlet_is_filled, outlet_is_lane, source_is_unfed}
use Rattle.up_engine.proofs.LaneEnds.{closed_came, ended_was_closed, none_behind_end}
use Rattle.up_engine.specs.Joins.{IsJoined, filler_of, plain_item}
use Rattle.up_engine.specs.Nets.{IsAtRest, IsFull, IsOver, NetStands, head_at, items_at}
use Rattle.up_engine.specs.declared.net.Net.{Net}
use Rattle.up_model.proofs.AlongInputs.{goes_on}
use Rattle.up_model.proofs.WellFormed.{comes_to_source, has_source, is_pipe, there}
use Rattle.up_model.specs.Ends.{is_source}
use Rattle.up_model.specs.Inputs.{ends_at_source, passes_at, reached_within, source_of}
use Rattle.up_model.specs.Plans.{heads, is_fed, lane_length, lanes, outlets_of}
use Rattle.up_model.specs.WellFormed.{IsWellFormed}
use Rattle.up_model.specs.declared.pipe.Pipe.{Pipe}
use Rattle.up_model.specs.declared.plain_packet.PlainPacket.{PlainPacket}
use Rattle.up_outside.specs.States.{SourceState, SinkState}
use Rattle.up_pump.specs.Circle.{is_due_at}
use Rattle.up_pump.specs.Pumps.{blockers_at, pump_at}
use Rattle.up_queue.specs.Lane.{Lane}
use Rattle.up_strand.proofs.HeadFlows.{none_of, takes_of_lane, wants_more}
use Rattle.up_strand.proofs.LaneFlows.{ended_of_done, lane_stands, waits_for_lane}
use Rattle.up_strand.proofs.ShapeOutlets.{is_outlet, through_head}
use Rattle.up_strand.specs.History.{History}
use Rattle.up_strand.specs.Strands.{first_ready, place_of, want_of, wants_in}
use Rattle.up_strand.specs.declared.strand.Strand.{Strand}
use Rattle.up_strand.specs.declared.want.Want.{Want}
use Rattle.up_strand.specs.declared.want.Want.TheVariants as wants

unreached : (o : Option ℕ) → ((found : ℕ) → o ≡ Some found → ⊥) → o ≡ None
unreached None none = refl
unreached (Some found) none = absurd (none found refl)

none_is_none : (o : Option ℕ) → IsSome o → o ≡ None → ⊥
none_is_none None some none = cc
none_is_none (Some found) some none = cc

no_items : {X Y : Type 0} (of : X → Y) (items : List X) → map of items ≡ [] → items ≡ []
no_items of [] none = refl
no_items of (x ∷ items) none = absurd (cc)

-- a full lane, which has room for one at least, isn't empty
full_waits : {P : Type 0} (size : ℕ) (o : Option (Lane P)) → 0 < size → ((lane : Lane P) → o ≡ Some lane → lane.cap ≡ size) → IsFull o
    → option_map_or (λ (lane : Lane P). lane.items) o [] ≡ [] → ⊥
full_waits size None some room full none = full
full_waits size (Some lane) some room full none =
    let cap = room lane refl in
    let count : length lane.items ≡ 0 = ap length none in
    omega (arith, some, cap, full, count)

empty_where_none : {P : Type 0} (o : Option (Lane P)) → is_some o ≡ false → option_map_or (λ (lane : Lane P). lane.items) o [] ≡ []
empty_where_none None none = refl
empty_where_none (Some lane) none = absurd (cc)

module _ (pipes : List Pipe) (well : IsWellFormed pipes) where
  -- the `queue` of a pipe is one at least
  queue_is_some : (place : ℕ) → place < length pipes → 0 < lane_length pipes place
  queue_is_some place within =
      let at = there pipes place within in
      let some = (is_pipe pipes well place at.0 at.1).queue.0 in
      rw at.1 (omega (arith, some))

  -- a lane's head is no source
  no_source : (lane : ℕ) → Contains (lanes pipes) lane → passes_at ends_at_source pipes lane ≡ false
  no_source lane is = elim (cases_Bool (passes_at ends_at_source pipes lane)) [
    | inl source ↦ absurd (let no : false ≡ true = sym (source_is_unfed pipes lane source) ∙ lane_is_fed pipes lane is in cc)
    | inr other ↦ other
  ]

  -- a lane is further from the source than the strand that fills it
  further_on : (steps head lane : ℕ) → Contains (outlets_of pipes head) lane
      → reached_within steps ends_at_source pipes head ≡ None → reached_within (suc steps) ends_at_source pipes lane ≡ None
  further_on steps head lane filled far =
      let outlet = is_outlet pipes well head lane filled in
      let fails = no_source lane (outlet_is_lane pipes head lane filled) in
      goes_on ends_at_source pipes steps lane outlet.input fails outlet.takes
      ∙ unreached (reached_within steps ends_at_source pipes outlet.input) (λ source comes.
      let reached = through_head pipes well (length pipes) steps outlet.input head source outlet.within comes in
      let no : Some source ≡ None = sym reached ∙ far in
      cc)

module _ {P S K : Type 0} (plain : P → PlainPacket) (reads : S → SourceState) (writes : K → SinkState)
    (net : Net P S K) (pipes : List Pipe) (past : ℕ → History) (stands : NetStands plain reads writes net pipes past) (d : Strand P S K) where
  abbrev well : IsWellFormed pipes
  well = stands.shape.well

  abbrev want_at : ℕ → Want
  want_at i = want_of (slice_index_or net.strands.items i d)

  module _ (i : ℕ) (within : i < length (heads pipes)) where
    abbrev strand : Strand P S K
    strand = slice_index_or net.strands.items i d

    abbrev did : History
    did = past (head_at pipes i)

    -- what a strand wants tells what it did
    waits_goes_on : want_at i ≡ wants.Input → (did.ended ≡ None) × (passes_at is_fed pipes (head_at pipes i) ≡ true)
    waits_goes_on input =
        let h = stands.strands i d within in
        let asks = wants_more (first_ready strand) (place_of strand) (is_some strand.ended) (wants_in strand strand.intake) wants.Input refl refl input in
        let fed = takes_of_lane reads strand strand.intake did h.intake asks.1 in
        (none_of did.ended (ap is_some (sym h.ended.ended) ∙ asks.0), rw (stands.graphs i within, stands.places i within) at fed)

    done_ended : want_at i ≡ wants.Done → is_some did.ended ≡ true
    done_ended done = ended_of_done plain reads writes strand did (stands.strands i d within) done

    held_for : (lane : ℕ) → want_at i ≡ wants.Output lane → Contains (outlets_of pipes (head_at pipes i)) lane × (did.closed lane ≡ false)
    held_for lane output =
        let waits = waits_for_lane plain reads writes strand did (stands.strands i d within) lane output in
        (rw (stands.graphs i within, stands.places i within) at waits.0, waits.1)

    done_closed : (lane : ℕ) → want_at i ≡ wants.Done → Contains (outlets_of pipes (head_at pipes i)) lane → did.closed lane ≡ true
    done_closed lane done outlet =
        let head = lane_is_head pipes lane (outlet_is_lane pipes (head_at pipes i) lane outlet) in
        let pipe = there pipes lane (head_within pipes lane head) in
        let filled : Contains (outlets_of did.pipes did.head) lane = rw (stands.graphs i within, stands.places i within) outlet in
        let stood : slice_get did.pipes lane ≡ Some pipe.0 = rw (stands.graphs i within) pipe.1 in
        (lane_stands plain reads writes strand did (stands.strands i d within) lane pipe.0 filled stood).closed done

  -- the items that wait for a head are behind what came to it
  waiting_of : (i filler : ℕ) → i < length (heads pipes) → filler_of pipes (head_at pipes i) ≡ Some filler
      → IsJoined (past filler) (past (head_at pipes i)) (head_at pipes i) (map (plain_item plain) (items_at net.lanes.items i))
  waiting_of i filler within filled = stands.joined i filler within filled

  module _ (resting : (i : ℕ) → i < length (heads pipes) → is_due_at net.pumps.pumps i ≡ false) where
    -- the next strand that is held back, behind a lane that this one fills
    record HeldNext (i : ℕ) : Type 0 where
      pub next : ℕ
      pub within : next < length (heads pipes)
      pub filled : Contains (outlets_of pipes (head_at pipes i)) (head_at pipes next)
      pub held : blockers_at net.pumps next ≢ 0

    rests_or_held : (i : ℕ) → i < length (heads pipes) → ((pump_at net.pumps i).ready ≡ false) ⊎ (blockers_at net.pumps i ≢ 0)
    rests_or_held i within = rests_or_is_held net.pumps i (omega (arith, within, stands.shape.pumps)) (resting i within)

    -- a strand behind a full lane whose end wasn't sent isn't at rest
    not_at_rest : (i j : ℕ) → (within : i < length (heads pipes)) → (inside : j < length (heads pipes))
        → Contains (outlets_of pipes (head_at pipes i)) (head_at pipes j) → (past (head_at pipes i)).closed (head_at pipes j) ≡ false
        → (items_at net.lanes.items j ≡ [] → ⊥) → IsAtRest net pipes j (slice_index_or net.strands.items j d) → ⊥
    not_at_rest i j within inside filled ajar waits (inl done) =
        let joined = waiting_of j (head_at pipes i) inside (outlet_is_filled pipes (head_at pipes i) (head_at pipes j) filled) in
        let closed = ended_was_closed _ _ _ _ joined (done_ended j inside done) in
        let no : true ≡ false = sym closed ∙ ajar in
        cc
    not_at_rest i j within inside filled ajar waits (inr starved) = waits starved.1

    held_next : (i : ℕ) → i < length (heads pipes) → blockers_at net.pumps i ≢ 0 → HeldNext i
    held_next i within held =
        let back = stands.pumped.held i d within held in
        let waits = held_for i within back.lane back.wants in
        let number = head_number pipes back.lane (lane_is_head pipes back.lane (outlet_is_lane pipes (head_at pipes i) back.lane waits.0)) in
        let j = number.0 in
        let numbered : slice_index_or net.numbers.items back.lane 0 ≡ j =
        subst (λ (place : ℕ). slice_index_or net.numbers.items place 0 ≡ j) number.2 (stands.shape.numbers j number.1) in
        let full : IsFull (slice_index_or net.lanes.items j None) =
        subst (λ (k : ℕ). IsFull (slice_index_or net.lanes.items k None)) numbered back.full in
        let filled : Contains (outlets_of pipes (head_at pipes i)) (head_at pipes j) = rw number.2 waits.0 in
        let ajar : (past (head_at pipes i)).closed (head_at pipes j) ≡ false = rw number.2 waits.1 in
        let some = full_waits (lane_length pipes (head_at pipes j)) (slice_index_or net.lanes.items j None)
        (queue_is_some pipes well (head_at pipes j) (head_within pipes (head_at pipes j) (head_there pipes j number.1))) (stands.shape.room j) full in
        record {
          next = j;
          within = number.1;
          filled = filled;
          held = elim (rests_or_held j number.1) [
            | inl unready ↦ absurd (not_at_rest i j within number.1 filled ajar some (stands.pumped.ready j d number.1 unready))
            | inr held_too ↦ held_too
          ];
        }

    -- so one would come further and further from its source
    none_so_far : (left steps i : ℕ) → steps + left ≡ length pipes → reached_within steps ends_at_source pipes (head_at pipes i) ≡ None
        → i < length (heads pipes) → blockers_at net.pumps i ≢ 0 → ⊥
    none_so_far zero steps i count far within held =
        let all : steps ≡ length pipes = omega (arith, count) in
        none_is_none (source_of pipes (head_at pipes i)) (has_source pipes well (head_at pipes i) (head_within pipes (head_at pipes i) (head_there pipes i within)))
        (rw all at far)
    none_so_far (suc left) steps i count far within held =
        let more = held_next i within held in
        none_so_far left (suc steps) more.next (omega (arith, count)) (further_on pipes well steps (head_at pipes i) (head_at pipes more.next) more.filled far) more.within more.held

    none_is_held : (i : ℕ) → i < length (heads pipes) → blockers_at net.pumps i ≢ 0 → ⊥
    none_is_held i within held = none_so_far (length pipes) 0 i (omega arith) refl within held

    all_rest : (i : ℕ) → i < length (heads pipes) → IsAtRest net pipes i (slice_index_or net.strands.items i d)
    all_rest i within = elim (rests_or_held i within) [
      | inl unready ↦ stands.pumped.ready i d within unready
      | inr held ↦ absurd (none_is_held i within held)
    ]

    -- the strand of a head is done
    abbrev IsDoneAt : ℕ → Pipe → Type 0
    IsDoneAt head pipe = (i : ℕ) → i < length (heads pipes) → head_at pipes i ≡ head → want_at i ≡ wants.Done

    done_source : (source : ℕ) (pipe : Pipe) → slice_get pipes source ≡ Some pipe → is_source pipe.kind ≡ true → IsDoneAt source pipe
    done_source source pipe stood is i within at = elim (all_rest i within) [
      | inl done ↦ done
      | inr starved ↦
          let fed = (waits_goes_on i within starved.0).1 in
          absurd (let no : false ≡ true = rw (at, stood, is) at fed in cc)
    ]

    done_further : (lane filler : ℕ) (pipe own : Pipe) → IsFilled pipes lane filler pipe own → IsDoneAt filler own → IsDoneAt lane pipe
    done_further lane filler pipe own filled before i within at = elim (all_rest i within) [
      | inl done ↦ done
      | inr starved ↦
          let number = head_number pipes filler filled.filler_is in
          let outlet : Contains (outlets_of pipes (head_at pipes number.0)) lane = rw number.2 filled.outlet in
          let closed : (past filler).closed lane ≡ true =
          subst (λ (place : ℕ). (past place).closed lane ≡ true) number.2 (done_closed number.0 number.1 lane (before number.0 number.1 number.2) outlet) in
          let joined = waiting_of i filler within (rw at filled.filled) in
          let none : map (plain_item plain) (items_at net.lanes.items i) ≡ [] = ap (map (plain_item plain)) starved.1 in
          absurd (closed_came _ _ _ _ joined none (rw at closed) (waits_goes_on i within starved.0).0)
    ]

    all_done : (i : ℕ) → i < length (heads pipes) → want_at i ≡ wants.Done
    all_done i within =
        let head = head_there pipes i within in
        let inside = head_within pipes (head_at pipes i) head in
        let source = comes_to_source pipes well (head_at pipes i) inside in
        let pipe = there pipes (head_at pipes i) inside in
        along_lanes pipes well IsDoneAt source.source (λ pipe head stood is. done_source source.source pipe stood is) done_further
        (head_at pipes i) pipe.0 head source.reached pipe.1 i within refl

    lane_empty : (i : ℕ) → i < length (heads pipes) → items_at net.lanes.items i ≡ []
    lane_empty i within = elim (cases_Bool (passes_at is_fed pipes (head_at pipes i))) [
      | inl fed ↦
          let lane = fed_is_lane pipes (head_at pipes i) (head_there pipes i within) fed in
          let filler = lane_is_filled pipes well (head_at pipes i) lane in
          let joined = waiting_of i filler.0 within filler.1 in
          no_items (plain_item plain) (items_at net.lanes.items i) (none_behind_end _ _ _ _ joined (done_ended i within (all_done i within)))
      | inr none ↦ empty_where_none (slice_index_or net.lanes.items i None) (stands.shape.lanes i within ∙ none)
    ]

module _ {P S K : Type 0} (plain : P → PlainPacket) (reads : S → SourceState) (writes : K → SinkState)
    (net : Net P S K) (pipes : List Pipe) (past : ℕ → History) (stands : NetStands plain reads writes net pipes past)
    (resting : (i : ℕ) → i < length (heads pipes) → is_due_at net.pumps.pumps i ≡ false) where
  every_lane_empty : (i : ℕ) → items_at net.lanes.items i ≡ []
  every_lane_empty i = elim (cases_lt i (length (heads pipes))) [
    | inl within ↦ elim (slice_get_cases net.strands.items i).1 [
      | inl some ↦ lane_empty plain reads writes net pipes past stands some.0 resting i within
      | inr past ↦ absurd (omega (arith, within, past.0, stands.shape.strands))
    ]
    | inr beyond ↦
        let none : slice_index_or net.lanes.items i None ≡ None = get_or_past net.lanes.items i None (omega (arith, beyond, stands.shape.lane_count)) in
        ap (λ (o : Option (Lane P)). option_map_or (λ (lane : Lane P). lane.items) o []) none
  ]

  -- where no pump is due, it is over
  pub rests_when_over : IsOver net pipes
  rests_when_over = record {
    strands = λ i d within. all_done plain reads writes net pipes past stands d resting i within;
    lanes = every_lane_empty;
  }
