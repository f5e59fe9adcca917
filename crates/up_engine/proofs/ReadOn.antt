-- A net of which a source was read.
use Rattle.std.proofs.Common.{◌≡◌, ℕ, ◌+◌, ◌-◌, ◌*◌, ◌<◌, ◌≤◌, ◌==◌, List, [], ◌++◌, length, get_or, set, count_by, All, Bool, Option, None, Some, true, is_some, slice_get, refl, sym, ap, ◌∙◌, subst, arith, length-append, if◌then◌else◌, inl, inr}
use Rattle.std.specs.Option.{option_map_or}
use Rattle.std.proofs.lemmas.Bool.Decides.{eqb_tells}
use Rattle.std.proofs.lemmas.List.{get_or-set_same}
use Rattle.up_engine.proofs.Asking.{asks_to_read}
use Rattle.up_engine.proofs.Bounded.{first_is_shorter}
use Rattle.up_engine.proofs.Fillers.{filled_is_lane, head_there, head_within, lane_is_fed, source_is_unfed}
use Rattle.up_engine.proofs.Fitting.{fits_on}
use Rattle.up_engine.proofs.GoneOn.{gone_on, still_step, went}
use Rattle.up_engine.proofs.Items.{at_other}
use Rattle.up_engine.proofs.Pumping.{IsDue, pumped_on}
use Rattle.up_engine.proofs.Standing.{IsSameButAt, LaneStep, now, now_here, same_but_strand, same_itself, stands_now}
use Rattle.up_engine.proofs.Still.{not_both}
use Rattle.up_engine.proofs.Sums.{sum_falls, sum_grows}
use Rattle.up_engine.specs.Joins.{filler_of}
use Rattle.up_engine.specs.Nets.{ArePumped, IsFull, NetFits, NetStands, Turned, fed_at, fed_in_all, head_at, items_at, reads_at, reads_left, reads_of}
use Rattle.up_engine.specs.declared.net.Net.{Net}
use Rattle.up_engine.specs.declared.net.Turn.TheVariants as turns
use Rattle.up_model.proofs.Carried.{few_carried}
use Rattle.up_model.proofs.Counting.{count_with_bytes-append}
use Rattle.up_model.proofs.Members.{kept_once, kept_passes, passing_pipe}
use Rattle.up_model.proofs.WellFormed.{is_pipe}
use Rattle.up_model.specs.Ends.{is_source}
use Rattle.up_model.specs.Inputs.{ends_at_source, passes_at, places}
use Rattle.up_model.specs.Outcomes.{settled_source_flow}
use Rattle.up_model.specs.Packet.{count_with_bytes}
use Rattle.up_model.specs.Plans.{heads, is_fed, is_head}
use Rattle.up_model.specs.declared.form.SourceForm.{SourceForm}
use Rattle.up_model.specs.declared.kind.Kind.{Kind}
use Rattle.up_model.specs.declared.kind.Kind.TheVariants as kinds
use Rattle.up_model.specs.declared.outcome.Outcome.{Outcome}
use Rattle.up_model.specs.declared.outcome.Outcome.TheVariants.{ReadFault}
use Rattle.up_model.specs.declared.pipe.Pipe.{Pipe}
use Rattle.up_model.specs.declared.plain_packet.PlainPacket.{PlainPacket}
use Rattle.up_outside.specs.States.{SourceState, SinkState}
use Rattle.up_pump.specs.Pumps.{Pumps, blockers_at, pump_at}
use Rattle.up_queue.specs.Lane.{Lane}
use Rattle.up_shape.specs.Stores.{StoreState}
use Rattle.up_strand.proofs.HeadFlows.{few_read_of_head}
use Rattle.up_strand.proofs.HeadPackets.{settled_first}
use Rattle.up_strand.specs.History.{History}
use Rattle.up_strand.specs.StrandCalls.{IsLegalItem, ItemFits, SteppedRead}
use Rattle.up_strand.specs.Strands.{StandsFor, StrandFits, want_of}
use Rattle.up_strand.specs.declared.strand.Strand.{Strand}
use Rattle.up_strand.specs.declared.want.Want.TheVariants as wants

-- the kind of a source
record IsOfSource (kind : Kind) : Type 0 where
  pub path : List ℕ
  pub form : SourceForm
  pub limit : ℕ
  pub is : kind ≡ kinds.Source path form limit

source_is : (kind : Kind) → is_source kind ≡ true → IsOfSource kind
source_is (kinds.Source path form limit) is = record { path = path; form = form; limit = limit; is = refl }
source_is kind is = absurd (cc)

-- fewer reads are left once more was read, or the flow ended
fewer_reads : (limit before after : ℕ) (ended : Option Outcome) → before ≤ 2 * limit + 2 → (ended ≡ None → before < after)
    → (ended ≡ None → after ≤ 2 * limit + 2) → (if is_some ended then 0 else (2 * limit + 3) - after) < (2 * limit + 3) - before
fewer_reads limit before after None few more within = let grows = more refl in let bound = within refl in omega (arith, grows, bound)
fewer_reads limit before after (Some outcome) few more within = omega (arith, few)

module _ {P S K : Type 0} (plain : P → PlainPacket) (reads : S → SourceState) (writes : K → SinkState) (pipes : List Pipe) (past : ℕ → History)
    (net : Net P S K) (stands : NetStands plain reads writes net pipes past) (i : ℕ) (within : i < length (heads pipes)) (d : Strand P S K)
    (asks : want_of (get_or net.strands.items i d) ≡ wants.Read) (new : Net P S K) (strand : Strand P S K)
    (strands_are : new ≡ record net { strands = new.strands }) (put : new.strands.items ≡ set net.strands.items i strand) where
  abbrev place : ℕ
  place = head_at pipes i

  abbrev before : History
  before = past place

  going : before.ended ≡ None
  going = (asks_to_read plain reads writes (get_or net.strands.items i d) before (stands.strands i d within) asks).0

  source_here : passes_at ends_at_source pipes place ≡ true
  source_here =
      let source = (asks_to_read plain reads writes (get_or net.strands.items i d) before (stands.strands i d within) asks).1 in
      ap (λ (ps : List Pipe). passes_at ends_at_source ps place) (sym (stands.graphs i within))
      ∙ ap (λ (n : ℕ). passes_at ends_at_source before.pipes n) (sym (stands.places i within)) ∙ source

  same : IsSameButAt net new i
  same = same_but_strand net net new i (same_itself net i) strand strands_are put

  same_lanes : new.lanes.items ≡ net.lanes.items
  same_lanes = ap (λ (n : Net P S K). n.lanes.items) strands_are

  same_pumps : new.pumps ≡ net.pumps
  same_pumps = ap (λ (n : Net P S K). n.pumps) strands_are

  here : (e : Strand P S K) → get_or new.strands.items i e ≡ strand
  here e =
      let count = stands.shape.strands in
      ap (λ (ss : List (Strand P S K)). get_or ss i e) put ∙ get_or-set_same net.strands.items i strand e (omega (arith, count, within))

  pub read_fits : {F : Type 0} (fits : P → F → Type 0) (family : F) → NetFits net fits family → StrandFits strand fits family → NetFits new fits family
  read_fits fits family fit good =
      fits_on fits family net new i same fit (λ e. subst (λ (s : Strand P S K). StrandFits s fits family) (sym (here e)) good)
      (λ k. subst (λ (ls : List (Option (Lane P))). All (ItemFits fits family) (items_at ls k)) (sym same_lanes) (fit.lanes k))

  same_blockers : (k : ℕ) → blockers_at new.pumps k ≡ blockers_at net.pumps k
  same_blockers k = ap (λ (loop : Pumps). blockers_at loop k) same_pumps

  same_ready : (k : ℕ) → (pump_at new.pumps k).ready ≡ (pump_at net.pumps k).ready
  same_ready k = ap (λ (loop : Pumps). (pump_at loop k).ready) same_pumps

  still_pumped : IsDue net.pumps i → ArePumped new pipes
  still_pumped due =
      let free = same_blockers i ∙ due.free in
      pumped_on net new pipes i same stands.pumped
      (λ e rests. absurd (not_both (pump_at net.pumps i).ready due.ready (sym (same_ready i) ∙ rests)))
      (λ k other rests. (sym (same_ready k) ∙ rests, ap (λ (ls : List (Option (Lane P))). items_at ls k) same_lanes))
      (λ e held. absurd (held free))
      (λ k other. let blockers = same_blockers k in omega (arith, blockers))
      (λ k e lane other inside held waits full. subst (λ (ls : List (Option (Lane P))). IsFull (get_or ls (get_or net.numbers.items lane 0) None)) (sym same_lanes) full)
      (omega (arith, free))

  module _ {F : Type 0} (old after : StoreState F) (stepped : SteppedRead plain reads writes strand before old after) where
    abbrev done : History
    done = went plain reads writes pipes past net stands new i within strand [] stepped.step going d

    abbrev later : ℕ → History
    later = now plain reads writes pipes past net stands new i within done

    steps : (k filler : ℕ) → k < length (heads pipes) → filler_of pipes (head_at pipes k) ≡ Some filler
        → LaneStep plain reads writes pipes past net stands new i within done k filler
    steps k filler inside filled = elim (eqb_tells k i) [
      | inl at ↦
          let fills = ap (λ (n : ℕ). filler_of pipes (head_at pipes n)) (sym at.1) ∙ filled in
          absurd (not_both (passes_at is_fed pipes place) (lane_is_fed pipes place (filled_is_lane pipes stands.shape.well filler place (head_there pipes i within) fills))
          (source_is_unfed pipes place source_here))
      | inr other ↦
          still_step plain reads writes pipes past net stands new i within strand [] stepped.step going d k filler inside other.1 filled
          (ap (λ (ls : List (Option (Lane P))). items_at ls k) same_lanes)
    ]

    read_stands : IsDue net.pumps i → NetStands plain reads writes new pipes later
    read_stands due =
        stands_now plain reads writes pipes past net stands new i within done same
        (λ e. subst (λ (s : Strand P S K). StandsFor plain reads writes s done) (sym (here e)) stepped.step.stands)
        refl refl steps (λ k. subst (λ (ls : List (Option (Lane P))). All (IsLegalItem plain) (items_at ls k)) (sym same_lanes) (stands.legal k)) (still_pumped due)

    -- while a source goes on it gave no more packets than bytes, and at most one byte past its limit
    few : (h : History) (s : Strand P S K) (pipe : Pipe) (path : List ℕ) (form : SourceForm) (limit : ℕ) → StandsFor plain reads writes s h → h.pipes ≡ pipes → h.head ≡ place
        → slice_get pipes place ≡ Some pipe → pipe.kind ≡ kinds.Source path form limit → h.ended ≡ None → length h.read + length h.fed ≤ 2 * limit + 2
    few h s pipe path form limit stood graph head there kind on =
        let at : slice_get h.pipes h.head ≡ Some pipe = ap (λ (ps : List Pipe). slice_get ps h.head) graph ∙ ap (λ (n : ℕ). slice_get pipes n) head ∙ there in
        let read = few_read_of_head reads s.intake h pipe path form limit stood.intake at kind in
        let first = settled_first reads s.intake h pipe stood.intake at (ap is_source kind) on in
        let packets = first_is_shorter h.fed (settled_source_flow pipe.kind h.read) first in
        let settled : length (settled_source_flow pipe.kind h.read) ≤ length h.read = few_carried ReadFault pipe.kind h.read (is_pipe pipes stands.shape.well place pipe there).kind in
        omega (arith, read, packets, settled)

    fewer_here_of : (pipe : Pipe) → slice_get pipes place ≡ Some pipe → IsOfSource pipe.kind → reads_of done pipe.kind < reads_of before pipe.kind
    fewer_here_of pipe there of =
        let was = few before (get_or net.strands.items i d) pipe of.path of.form of.limit (stands.strands i d within) (stands.graphs i within) (stands.places i within) there of.is going in
        let is = few done strand pipe of.path of.form of.limit stepped.step.stands (stands.graphs i within) (stands.places i within) there of.is in
        let longer = length-append before.read stepped.step.read in
        let more_fed = length-append before.fed stepped.step.fed in
        subst (λ (kind : Kind). reads_of done kind < reads_of before kind) (sym of.is)
        (subst (λ (e : Option Outcome). reads_of done (kinds.Source of.path of.form of.limit) < (if is_some e then 0 else (2 * of.limit + 3) - (length before.read + length before.fed))) (sym going)
        (fewer_reads of.limit (length before.read + length before.fed) (length (before.read ++ stepped.step.read) + length (before.fed ++ stepped.step.fed)) stepped.step.ended was
        (λ none. let more = stepped.moves none in omega (arith, longer, more_fed, more)) is))

    reads_by : (h : History) (pipe : Pipe) → slice_get pipes place ≡ Some pipe → option_map_or (λ (pipe : Pipe). reads_of h pipe.kind) (slice_get pipes place) 0 ≡ reads_of h pipe.kind
    reads_by h pipe there = ap (λ (p : Option Pipe). option_map_or (λ (pipe : Pipe). reads_of h pipe.kind) p 0) there

    fewer_here : reads_at pipes later place < reads_at pipes past place
    fewer_here =
        let pipe = passing_pipe ends_at_source pipes place source_here in
        let less = fewer_here_of pipe.0 pipe.1 (source_is pipe.0.kind pipe.2) in
        let is : reads_at pipes later place ≡ reads_of done pipe.0.kind =
        ap (λ (h : History). option_map_or (λ (pipe : Pipe). reads_of h pipe.kind) (slice_get pipes place) 0) (now_here plain reads writes pipes past net stands new i within done)
        ∙ reads_by done pipe.0 pipe.1 in
        let was : reads_at pipes past place ≡ reads_of before pipe.0.kind = reads_by before pipe.0 pipe.1 in
        omega (arith, less, is, was)

    no_more_reads : (head : ℕ) → reads_at pipes later head ≤ reads_at pipes past head
    no_more_reads head = elim (eqb_tells head place) [
      | inl at ↦ subst (λ (n : ℕ). reads_at pipes later n ≤ reads_at pipes past n) (sym at.1) (let less = fewer_here in omega (arith, less))
      | inr other ↦
          let same : reads_at pipes later head ≡ reads_at pipes past head =
          ap (λ (h : History). option_map_or (λ (pipe : Pipe). reads_of h pipe.kind) (slice_get pipes head) 0) (at_other place done past head other.1) in
          omega (arith, same)
    ]

    fewer_left : reads_left pipes later < reads_left pipes past
    fewer_left = sum_falls (reads_at pipes later) (reads_at pipes past) (heads pipes) place (head_there pipes i within) (λ head there. no_more_reads head) fewer_here

    abbrev fed_by : History → ℕ → ℕ
    fed_by h head = if passes_at is_fed pipes head then 0 else count_with_bytes h.fed

    fed_here : fed_at pipes later place ≤ fed_at pipes past place + count_with_bytes stepped.step.fed
    fed_here =
        let unfed = source_is_unfed pipes place source_here in
        let is : fed_at pipes later place ≡ count_with_bytes (before.fed ++ stepped.step.fed) =
        ap (λ (h : History). fed_by h place) (now_here plain reads writes pipes past net stands new i within done)
        ∙ ap (λ (b : Bool). if b then 0 else count_with_bytes (before.fed ++ stepped.step.fed)) unfed in
        let was : fed_at pipes past place ≡ count_with_bytes before.fed = ap (λ (b : Bool). if b then 0 else count_with_bytes before.fed) unfed in
        let longer = count_with_bytes-append before.fed stepped.step.fed in
        omega (arith, is, was, longer)

    fed_drawn : old.drawn + fed_in_all pipes later ≤ after.drawn + fed_in_all pipes past
    fed_drawn =
        let once : count_by (λ other. other == place) (heads pipes) ≡ 1 =
        kept_once (passes_at is_head pipes) place (length pipes) (head_within pipes place (head_there pipes i within))
        (kept_passes (passes_at is_head pipes) (places pipes) place (head_there pipes i within)) in
        let grown = sum_grows (fed_at pipes later) (fed_at pipes past) place (count_with_bytes stepped.step.fed)
        (λ other differs. ap (λ (h : History). fed_by h other) (at_other place done past other differs)) fed_here (heads pipes) in
        let times : count_by (λ other. other == place) (heads pipes) * count_with_bytes stepped.step.fed ≡ count_with_bytes stepped.step.fed =
        ap (λ (n : ℕ). n * count_with_bytes stepped.step.fed) once ∙ omega arith in
        let drawn = stepped.drawn in
        omega (arith, grown, times, drawn)

    pub read_turned : IsDue net.pumps i → Turned plain reads writes pipes past net new old after turns.Read
    read_turned due = record {
      went = record {
        now = later;
        stands = read_stands due;
        on = gone_on plain reads writes pipes past net stands new i within strand [] stepped.step going d;
        drawn = fed_drawn;
      };
      read = λ is. fewer_left;
      same_reads = λ other. absurd (other refl);
      moved = λ is. absurd (cc);
      done = λ is. absurd (cc);
    }
