-- How much is still to be done, after a step.
use Rattle.std.proofs.Common.{◌≡◌, ℕ, suc, ◌+◌, ◌-◌, ◌*◌, ◌<◌, ◌≤◌, List, length, Bool, true, false, not, Option, None, Some, is_some, slice_get, refl, sym, ap, ◌∙◌, subst, arith, length-append, mul-le-mul_right, if◌then◌else◌, inl, inr}
use mathlib.Core.Path.{fun_ext}
use Rattle.std.specs.List.{Contains}
use Rattle.std.specs.Option.{option_map_or}
use Rattle.std.proofs.lemmas.Bool.{cases_Bool}
use Rattle.up_engine.proofs.Bounded.{lane_within}
use Rattle.up_engine.proofs.Fillers.{filled_is_lane, head_there, lane_is_filled, lane_is_head}
use Rattle.up_engine.proofs.Pumping.{few_left}
use Rattle.up_engine.proofs.Standing.{LaneStep, now, number_is}
use Rattle.up_engine.proofs.Sums.{sum_falls, sum_same, times_more}
use Rattle.up_engine.specs.Flows.{flow_meant, put_out}
use Rattle.up_engine.specs.Joins.{filler_of, items_come, items_sent}
use Rattle.up_engine.specs.Nets.{GoesOn, NetStands, Turned, items_due, fed_at, fed_in_all, head_at, moves_at, moves_left, pumps_left, reads_at, reads_left, reads_of, sent_at, turns_left}
use Rattle.up_engine.specs.declared.net.Net.{Net}
use Rattle.up_engine.specs.declared.net.Turn.TheVariants as turns
use Rattle.up_model.proofs.Members.{kept_passes, passing_pipe}
use Rattle.up_model.proofs.Steps.{found_passes}
use Rattle.up_model.specs.Ends.{is_source}
use Rattle.up_model.specs.Inputs.{ends_at_source, passes_at, places, source_of}
use Rattle.up_model.specs.Meaning.{Feeding, input_by, to_sources}
use Rattle.up_model.specs.Packet.{Flow, count_with_bytes}
use Rattle.up_model.specs.Plans.{heads, is_fed, is_head, lanes}
use Rattle.up_model.specs.declared.kind.Kind.{Kind}
use Rattle.up_model.specs.declared.kind.Kind.TheVariants.{Source}
use Rattle.up_model.specs.declared.outcome.Outcome.{Outcome}
use Rattle.up_model.specs.declared.pipe.Pipe.{Pipe}
use Rattle.up_model.specs.declared.plain_packet.PlainPacket.{PlainPacket}
use Rattle.up_outside.specs.States.{SourceState, SinkState}
use Rattle.up_shape.specs.Stores.{StoreState}
use Rattle.up_strand.specs.History.{History, doing, head_flow}

-- a source that gave no more
pub record GaveNoMore (before after : History) : Type 0 where
  pub flow : head_flow after ≡ head_flow before
  pub read : after.read ≡ before.read
  pub fed : after.fed ≡ before.fed
  pub ended : after.ended ≡ before.ended

same_reads_of : (before after : History) (kind : Kind) → (is_source kind ≡ true → GaveNoMore before after) → reads_of after kind ≡ reads_of before kind
same_reads_of before after (Source path form limit) same =
    let none = same refl in
    ap (λ (e : Option Outcome). if is_some e then 0 else (2 * limit + 3) - (length after.read + length after.fed)) none.ended
    ∙ ap (λ (bytes : List ℕ). if is_some before.ended then 0 else (2 * limit + 3) - (length bytes + length after.fed)) none.read
    ∙ ap (λ (fed : Flow). if is_some before.ended then 0 else (2 * limit + 3) - (length before.read + length fed)) none.fed
same_reads_of before after kind same = refl

source_kind : (source fed : Bool) → fed ≡ not source → fed ≡ false → source ≡ true
source_kind true fed is none = refl
source_kind false fed is none = absurd (let no : true ≡ false = sym is ∙ none in cc)

module _ (pipes : List Pipe) (past now : ℕ → History) where
  -- no source gave more
  abbrev pub KeepsSources : Type 0
  KeepsSources = (place : ℕ) → passes_at ends_at_source pipes place ≡ true → GaveNoMore (past place) (now place)

  module _ (kept : KeepsSources) where
    same_feeding : (place : ℕ) → to_sources pipes (put_out pipes now) place ≡ to_sources pipes (put_out pipes past) place
    same_feeding place = elim (cases_Bool (passes_at ends_at_source pipes place)) [
      | inl is ↦ ap (λ (flow : Flow). if passes_at ends_at_source pipes place then Some flow else None) (kept place is).flow
      | inr fails ↦ rw fails refl
    ]

    same_meant : (source lane : ℕ) (pipe : Pipe) → passes_at ends_at_source pipes source ≡ true → flow_meant pipes now source lane pipe ≡ flow_meant pipes past source lane pipe
    same_meant source lane pipe is =
        ap (λ (e : Option Outcome). input_by (doing e) pipes (to_sources pipes (put_out pipes now)) lane pipe) (kept source is).ended
        ∙ ap (λ (fed : Feeding). input_by (doing (past source).ended) pipes fed lane pipe)
        (fun_ext {f = to_sources pipes (put_out pipes now)} {g = to_sources pipes (put_out pipes past)} same_feeding)

    same_by_source : (lane : ℕ) (pipe : Pipe) (source : Option ℕ) → source_of pipes lane ≡ source
        → option_map_or (λ (source : ℕ). suc (length (flow_meant pipes now source lane pipe))) source 0
        ≡ option_map_or (λ (source : ℕ). suc (length (flow_meant pipes past source lane pipe))) source 0
    same_by_source lane pipe None of = refl
    same_by_source lane pipe (Some source) of =
        let found = found_passes ends_at_source pipes (length pipes) lane source of in
        ap (λ (flow : Flow). suc (length flow)) (same_meant source lane pipe (ap (λ (p : Option Pipe). option_map_or (λ (pipe : Pipe). is_source pipe.kind) p false) found.1 ∙ found.2))

    same_by_pipe : (lane : ℕ) (pipe : Option Pipe)
        → option_map_or (λ (pipe : Pipe). option_map_or (λ (source : ℕ). suc (length (flow_meant pipes now source lane pipe))) (source_of pipes lane) 0) pipe 0
        ≡ option_map_or (λ (pipe : Pipe). option_map_or (λ (source : ℕ). suc (length (flow_meant pipes past source lane pipe))) (source_of pipes lane) 0) pipe 0
    same_by_pipe lane None = refl
    same_by_pipe lane (Some pipe) = same_by_source lane pipe (source_of pipes lane) refl

    pub same_due : (lane : ℕ) → items_due pipes now lane ≡ items_due pipes past lane
    same_due lane = same_by_pipe lane (slice_get pipes lane)

    same_reads_by : (head : ℕ) (pipe : Option Pipe) → slice_get pipes head ≡ pipe
        → option_map_or (λ (pipe : Pipe). reads_of (now head) pipe.kind) pipe 0 ≡ option_map_or (λ (pipe : Pipe). reads_of (past head) pipe.kind) pipe 0
    same_reads_by head None there = refl
    same_reads_by head (Some pipe) there =
        same_reads_of (past head) (now head) pipe.kind
        (λ is. kept head (ap (λ (p : Option Pipe). option_map_or (λ (pipe : Pipe). is_source pipe.kind) p false) there ∙ is))

    pub same_reads_left : reads_left pipes now ≡ reads_left pipes past
    same_reads_left = sum_same (reads_at pipes now) (reads_at pipes past) (heads pipes) (λ head there. same_reads_by head (slice_get pipes head) refl)

    same_fed : (head : ℕ) → Contains (heads pipes) head → fed_at pipes now head ≡ fed_at pipes past head
    same_fed head there = elim (cases_Bool (passes_at is_fed pipes head)) [
      | inl fed ↦ rw fed refl
      | inr none ↦
          let pipe = passing_pipe is_head pipes head (kept_passes (passes_at is_head pipes) (places pipes) head there) in
          let fails : not (is_source pipe.0.kind) ≡ false = sym (ap (λ (p : Option Pipe). option_map_or (λ (pipe : Pipe). not (is_source pipe.kind)) p false) pipe.1) ∙ none in
          let is : passes_at ends_at_source pipes head ≡ true =
          ap (λ (p : Option Pipe). option_map_or (λ (pipe : Pipe). is_source pipe.kind) p false) pipe.1 ∙ source_kind (is_source pipe.0.kind) (not (is_source pipe.0.kind)) refl fails in
          ap (λ (flow : Flow). if passes_at is_fed pipes head then 0 else count_with_bytes flow) (kept head is).fed
    ]

    pub same_fed_in_all : fed_in_all pipes now ≡ fed_in_all pipes past
    same_fed_in_all = sum_same (fed_at pipes now) (fed_at pipes past) (heads pipes) same_fed

sent_is : (pipes : List Pipe) (past : ℕ → History) (lane filler : ℕ) → filler_of pipes lane ≡ Some filler → sent_at pipes past lane ≡ length (items_sent (past filler) lane)
sent_is pipes past lane filler filled = ap (λ (f : Option ℕ). option_map_or (λ (filler : ℕ). length (items_sent (past filler) lane)) f 0) filled

fewer_moves : (moves fewer count left now : ℕ) → fewer < moves → now ≤ 2 * count → fewer * (2 * count + 1) + now < moves * (2 * count + 1) + left
fewer_moves moves fewer count left now less few =
    let times = 2 * count + 1 in
    let one_more : (1 + fewer) * times ≤ moves * times = mul-le-mul_right {m = 1 + fewer} {n = moves} times (omega (arith, less)) in
    omega (arith, one_more, times_more fewer times, few)

module _ {P S K : Type 0} (plain : P → PlainPacket) (reads : S → SourceState) (writes : K → SinkState) (pipes : List Pipe) (past : ℕ → History)
    (net : Net P S K) (stands : NetStands plain reads writes net pipes past) (new : Net P S K) (i : ℕ) (within : i < length (heads pipes)) (h : History) where
  abbrev later : ℕ → History
  later = now plain reads writes pipes past net stands new i within h

  abbrev Step : ℕ → ℕ → Type 0
  Step k filler = LaneStep plain reads writes pipes past net stands new i within h k filler

  module _ (kept : KeepsSources pipes past later) where
    numbers_go_on : (k filler : ℕ) → filler_of pipes (head_at pipes k) ≡ Some filler → (step : Step k filler)
        → (sent_at pipes later (head_at pipes k) ≡ sent_at pipes past (head_at pipes k) + length step.more)
        × (length (items_come (later (head_at pipes k))) ≡ length (items_come (past (head_at pipes k))) + length step.came)
    numbers_go_on k filler filled step = (
      sent_is pipes later (head_at pipes k) filler filled ∙ ap length step.sent ∙ length-append (items_sent (past filler) (head_at pipes k)) step.more
          ∙ ap (λ (n : ℕ). n + length step.more) (sym (sent_is pipes past (head_at pipes k) filler filled)),
      ap length step.come ∙ length-append (items_come (past (head_at pipes k))) step.came,
    )

    -- no more moves are left at any lane
    step_is_no_more : (k filler : ℕ) → filler_of pipes (head_at pipes k) ≡ Some filler → Step k filler
        → moves_at pipes later (head_at pipes k) ≤ moves_at pipes past (head_at pipes k)
    step_is_no_more k filler filled step =
        let go_on = numbers_go_on k filler filled step in
        let sent = go_on.0 in
        let come = go_on.1 in
        let due = same_due pipes past later kept (head_at pipes k) in
        omega (arith, sent, come, due)

    module _ (stood : NetStands plain reads writes new pipes later) (steps : (k filler : ℕ) → k < length (heads pipes) → filler_of pipes (head_at pipes k) ≡ Some filler → Step k filler) where
      no_more_moves : (lane : ℕ) → Contains (lanes pipes) lane → moves_at pipes later lane ≤ moves_at pipes past lane
      no_more_moves lane is =
          let number = number_is plain reads writes pipes past net stands lane (lane_is_head pipes lane is) in
          let filler = lane_is_filled pipes stands.shape.well lane is in
          let filled : filler_of pipes (head_at pipes number.0) ≡ Some filler.0 = ap (filler_of pipes) number.2 ∙ filler.1 in
          subst (λ (place : ℕ). moves_at pipes later place ≤ moves_at pipes past place) number.2
          (step_is_no_more number.0 filler.0 filled (steps number.0 filler.0 number.1 filled))

      -- fewer are left in all where an item went into a lane or came out of one
      pub fewer_moves_left : (k filler : ℕ) → k < length (heads pipes) → filler_of pipes (head_at pipes k) ≡ Some filler
          → (step : Step k filler) → 0 < length step.came + length step.more → moves_left pipes later < moves_left pipes past
      fewer_moves_left k filler inside filled step some =
          let lane = head_at pipes k in
          let is : Contains (lanes pipes) lane = filled_is_lane pipes stands.shape.well filler lane (head_there pipes k inside) filled in
          let bound = lane_within plain reads writes pipes later new stood lane filler is filled in
          let go_on = numbers_go_on k filler filled step in
          let sent = go_on.0 in
          let come = go_on.1 in
          let due = same_due pipes past later kept lane in
          let sent_now = sent_is pipes later lane filler filled in
          let come_within = bound.come in
          let sent_within = bound.sent in
          sum_falls (moves_at pipes later) (moves_at pipes past) (lanes pipes) lane is no_more_moves
          (omega (arith, sent, come, due, sent_now, come_within, sent_within, some))

      pub fewer_turns : (k filler : ℕ) → k < length (heads pipes) → filler_of pipes (head_at pipes k) ≡ Some filler
          → (step : Step k filler) → 0 < length step.came + length step.more
          → turns_left pipes later new.pumps < turns_left pipes past net.pumps
      fewer_turns k filler inside filled step some =
          let count = stood.shape.pumps in
          let few = few_left pipes later new.pumps in
          fewer_moves (moves_left pipes past) (moves_left pipes later) (length (heads pipes)) (pumps_left pipes past net.pumps) (pumps_left pipes later new.pumps)
          (fewer_moves_left k filler inside filled step some) (omega (arith, few, count))

    -- an item was moved
    pub turned_by_move : {F : Type 0} (old after : StoreState F) (stood : NetStands plain reads writes new pipes later)
        → ((head : ℕ) → GoesOn (past head) (later head)) → old.drawn ≤ after.drawn
        → turns_left pipes later new.pumps < turns_left pipes past net.pumps
        → Turned plain reads writes pipes past net new old after turns.Moved
    turned_by_move old after stood on drawn fewer = record {
      went = record {
        now = later;
        stands = stood;
        on = on;
        drawn = let fed = same_fed_in_all pipes past later kept in omega (arith, fed, drawn);
      };
      read = λ is. absurd (cc);
      same_reads = λ other. same_reads_left pipes past later kept;
      moved = λ is. fewer;
      done = λ is. absurd (cc);
    }

  -- nothing was moved, but a pump rests or is held back
  pub turned_by_rest : {F : Type 0} (old after : StoreState F) → NetStands plain reads writes new pipes past → old.drawn ≤ after.drawn
      → pumps_left pipes past new.pumps < pumps_left pipes past net.pumps → Turned plain reads writes pipes past net new old after turns.Moved
  turned_by_rest old after stood drawn fewer = record {
    went = record {
      now = past;
      stands = stood;
      on = λ head. record { source = refl; sinks = refl };
      drawn = omega (arith, drawn);
    };
    read = λ is. absurd (cc);
    same_reads = λ other. refl;
    moved = λ is. omega (arith, fewer);
    done = λ is. absurd (cc);
  }
