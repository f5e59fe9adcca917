-- What was taken out for a lane is what its input put out of the packets that the head had.
use Rattle.std.proofs.Common.{◌≡◌, ℕ, suc, ◌+◌, ◌-◌, ◌<◌, ◌≤◌, ◌⊎◌, List, [], ◌∷◌, ◌++◌, map, length, get_or, Bool, true, false, not, ◌&&◌, ◌||◌, is_some, nat_lt, Option, Some, None, slice_get, position, refl, sym, ap, ◌∙◌, subst, append_assoc, append-nil, arith, inl, inr, if◌then◌else◌}
use Rattle.std.specs.Prelude.{option_and_then, unwrap_or}
use Rattle.std.specs.List.{Contains, range_with_len, position_or_len}
use Rattle.std.specs.Option.{option_map_or}
use Rattle.std.proofs.lemmas.Bool.{cases_Bool, cases_lt}
use Rattle.std.proofs.lemmas.Bool.Decides.{eqb_tells, leb_tells}
use Rattle.std.proofs.lemmas.List.{get_or-append-add, get_or_default, length-append, length-map, map-append}
use Rattle.std.proofs.lemmas.List.FromFn.{length-range_with_len, get_or-range_with_len}
use Rattle.std.proofs.lemmas.List.Elements.{Contains-get_or}
use Rattle.std.proofs.lemmas.List.Quantifiers.{position-Some}
use Rattle.std.proofs.lemmas.List.Sums.{fails_before_first}
use Rattle.std.proofs.lemmas.Option.{slice_get_cases}
use Rattle.up_base.specs.Lists.{IsPrefix}
use Rattle.up_model.specs.Inputs.{input_at}
use Rattle.up_model.specs.Meaning.{Doing, flow_by, input_by, shared, taken_by, taken_from}
use Rattle.up_model.specs.Packet.{Flow}
use Rattle.up_model.specs.Plans.{outlets_of, strand_of}
use Rattle.up_model.specs.declared.pipe.Pipe.{Pipe}
use Rattle.up_model.specs.declared.plain_packet.PlainPacket.{PlainPacket}
use Rattle.up_outside.specs.States.{SourceState, SinkState}
use Rattle.up_strand.proofs.Found.{at_first, before_first, first_of, want_there, wanted_inside}
use Rattle.up_strand.proofs.Meanings.{begins, behind_head, comes, given_other}
use Rattle.up_strand.proofs.Reaching.{prefix_on, whole_output}
use Rattle.up_strand.proofs.ShapeOutlets.{rising_outlets}
use Rattle.up_strand.specs.History.{History, doing, head_flow, to_head}
use Rattle.up_strand.specs.Nodes.{Seat, PartStands, node_work, is_outlet, is_whole, takes_from}
use Rattle.up_strand.specs.StrandCalls.{HasMoreDue, HasNoneWaiting, LaneStands, is_output}
use Rattle.up_strand.specs.Strands.{StandsFor, first_ready, has_item, item_waits, kept_at, place_of, want_of, wants_in}
use Rattle.up_strand.specs.declared.intake.Intake.{Intake}
use Rattle.up_strand.specs.declared.intake.Intake.TheVariants.{FromSource, FromFrames, FromLane}
use Rattle.up_strand.specs.declared.node.Node.{Node}
use Rattle.up_strand.specs.declared.node.Part.{Part}
use Rattle.up_strand.specs.declared.node.Part.TheVariants.{Head, Pipe as PipePart, Sink, Outlet, Ended}
use Rattle.up_strand.specs.declared.strand.Strand.{Strand}
use Rattle.up_strand.specs.declared.want.Want.{Want}
use Rattle.up_strand.specs.declared.want.Want.TheVariants.{Output, Done}

outlet_has_no_kind : {P K : Type 0} (plain : P → PlainPacket) (writes : K → SinkState) (seat : Seat) (short : Bool) (part : Part K) (fed : Flow) → is_outlet part ≡ true
    → PartStands plain writes seat short part fed → seat.kind ≡ None
outlet_has_no_kind plain writes seat short Head fed outlet part = absurd (cc)
outlet_has_no_kind plain writes seat short (PipePart m) fed outlet part = absurd (cc)
outlet_has_no_kind plain writes seat short (Sink sink spelling failed) fed outlet part = absurd (cc)
outlet_has_no_kind plain writes seat short Outlet fed outlet part = part
outlet_has_no_kind plain writes seat short (Ended whole) fed outlet part = absurd (cc)

-- where no place passes, this one doesn't
none_passes : (test : ℕ → Bool) (count i : ℕ) → position test (range_with_len 0 count) ≡ None → i < count → test i ≡ false
none_passes test count i none within =
    let all = range_with_len 0 count in
    let long = length-range_with_len 0 count in
    let at : get_or all i 0 ≡ i = get_or-range_with_len 0 count i 0 within ∙ omega arith in
    elim (leb_tells (suc (position_or_len test all)) (length all)) [
      | inl some ↦ absurd (let found = rw some.0 at none in cc)
      | inr past ↦ sym (ap test at) ∙ fails_before_first test all i 0 (omega (arith, past.1, long, within))
    ]

none_waits : {X : Type 0} (xs : List X) → nat_lt 0 (length xs) ≡ false → xs ≡ []
none_waits [] is = refl
none_waits (x ∷ xs) is = elim (leb_tells 1 (length (x ∷ xs))) [
  | inl some ↦ absurd (let no = sym some.0 ∙ is in cc)
  | inr none ↦ absurd (omega (arith, none.1))
]

no_item : (outlet packets ends : Bool) → outlet ≡ true → (outlet && (packets || ends)) ≡ false → (packets ≡ false) × (ends ≡ false)
no_item false packets ends outlet none = absurd (cc)
no_item true true ends outlet none = absurd (cc)
no_item true false ends outlet none = (refl, none)

end_was_taken : (ended closed : Bool) → ended ≡ true → (ended && not closed) ≡ false → closed ≡ true
end_was_taken false closed is none = absurd (cc)
end_was_taken true true is none = refl
end_was_taken true false is none = absurd (cc)

none_ready : (ready : Option ℕ) (places : ℕ → ℕ) (other : Want) → is_output (option_map_or (λ i. Output (places i)) ready other) ≡ false → ready ≡ None
none_ready None places other is = refl
none_ready (Some i) places other is = absurd (cc)

has_ended : (ready : Option ℕ) (places : ℕ → ℕ) (ended : Bool) (other : Want) → (other ≡ Done → ⊥)
    → option_map_or (λ i. Output (places i)) ready (if ended then Done else other) ≡ Done → (ready ≡ None) × (ended ≡ true)
has_ended (Some i) places ended other goes_on is = absurd (cc)
has_ended None places true other goes_on is = (refl, refl)
has_ended None places false other goes_on is = absurd (goes_on is)

-- a strand wants to give out for the lane of a node that is ready
gives_out : (ready : Option ℕ) (places : ℕ → ℕ) (ended : Bool) (intake : Want) (lane : ℕ) → is_output intake ≡ false
    → option_map_or (λ i. Output (places i)) ready (if ended then Done else intake) ≡ Output lane → (i : ℕ) × (ready ≡ Some i) × (places i ≡ lane)
gives_out (Some i) places ended intake lane comes_in is = (i, refl, cc)
gives_out None places true intake lane comes_in is = absurd (cc)
gives_out None places false intake lane comes_in is = absurd (let no : false ≡ true = sym comes_in ∙ ap is_output is in cc)

same_lane : (a b : ℕ) → Output a ≡ Output b → a ≡ b
same_lane a b same = cc

-- the first place that passes does
first_passes : (test : ℕ → Bool) (count i : ℕ) → position test (range_with_len 0 count) ≡ Some i → (i < count) × (test i ≡ true)
first_passes test count i is =
    let found = position-Some test (range_with_len 0 count) i 0 is in
    let long = length-range_with_len 0 count in
    let within : i < count = omega (arith, long, found.0) in
    let at : get_or (range_with_len 0 count) i 0 ≡ i = get_or-range_with_len 0 count i 0 within ∙ omega arith in
    (within, sym (ap test at) ∙ found.1)

an_item : (outlet waits ended closed : Bool) → (outlet && (waits || (ended && not closed))) ≡ true
    → (outlet ≡ true) × ((waits ≡ true) ⊎ (closed ≡ false))
an_item true true ended closed is = (refl, inl refl)
an_item true false true true is = absurd (cc)
an_item true false true false is = (refl, inr refl)
an_item true false false closed is = absurd (cc)
an_item false waits ended closed is = absurd (cc)

one_or_end : (outlet waits ended closed : Bool) → (outlet && (waits || (ended && not closed))) ≡ true
    → (waits ≡ true) ⊎ ((ended ≡ true) × (closed ≡ false))
one_or_end true true ended closed is = inl refl
one_or_end true false true true is = absurd (cc)
one_or_end true false true false is = inr (refl, refl)
one_or_end true false false closed is = absurd (cc)
one_or_end false waits ended closed is = absurd (cc)

some_wait : {X : Type 0} (xs ys : List X) → nat_lt 0 (length (xs ++ ys)) ≡ true → 0 < length xs + length ys
some_wait xs ys is = elim (leb_tells 1 (length (xs ++ ys))) [
  | inl some ↦ let long = length-append xs ys in omega (arith, some.1, long)
  | inr none ↦ absurd (let no = sym none.0 ∙ is in cc)
]

module _ {P S K : Type 0} (plain : P → PlainPacket) (reads : S → SourceState) (writes : K → SinkState) (strand : Strand P S K) (h : History)
    (stands : StandsFor plain reads writes strand h) where
  goes_on : (intake : Intake S) → wants_in strand intake ≡ Done → ⊥
  goes_on (FromSource source block limit left) is = cc
  goes_on (FromFrames frames) is = cc
  goes_on FromLane is = cc

  module _ (at : ℕ) (d : Node P K) (within : at < length strand.tree.nodes.items) (there : slice_get strand.tree.nodes.items at ≡ Some d)
      (outlet : is_outlet (get_or strand.tree.nodes.items at d).part ≡ true) (here : get_or strand.tree.nodes.items at d ≡ d) (lane : ℕ) (is_lane : place_of strand at ≡ lane) where
    abbrev waits : List P
    waits = (get_or strand.tree.nodes.items at d).out.packets

    abbrev kept : List P
    kept = kept_at strand at

    -- what the outlet took was taken out, or waits, or is lacking
    took : stands.past.fed at ≡ h.sent lane ++ (map plain kept ++ (map plain waits ++ (stands.stand.node at d within).holds.lacking))
    took =
        let node = stands.stand.node at d within in
        let kind = outlet_has_no_kind plain writes (stands.past.seats at) _ _ (stands.past.fed at) outlet node.part in
        let rest = map plain waits ++ node.holds.lacking in
        let sent : stands.past.gone at ≡ h.sent lane ++ map plain kept = stands.sent.sent at d within outlet ∙ ap (λ place. h.sent place ++ map plain kept) is_lane in
        sym (ap (λ k. (node_work (is_whole (get_or strand.tree.nodes.items at d).part) k (stands.past.fed at)).flow) kind) ∙ node.holds.flow ∙ append_assoc (stands.past.gone at) (map plain waits) node.holds.lacking
        ∙ ap (λ gone. gone ++ rest) sent ∙ append_assoc (h.sent lane) (map plain kept) rest

    first_of_fed : IsPrefix (h.sent lane) (stands.past.fed at)
    first_of_fed = (map plain kept ++ (map plain waits ++ (stands.stand.node at d within).holds.lacking), took)

    all_of_fed : h.short ≡ false → kept ++ waits ≡ [] → h.sent lane ≡ stands.past.fed at
    all_of_fed long none =
        let lacking = (stands.stand.node at d within).holds.all ((comes plain reads writes strand h stands long).long at d within) in
        let waiting : map plain kept ++ map plain waits ≡ [] = sym (map-append plain kept waits) ∙ ap (map plain) none in
        sym (took ∙ ap (λ l. h.sent lane ++ (map plain kept ++ (map plain waits ++ l))) lacking
        ∙ ap (λ l. h.sent lane ++ (map plain kept ++ l)) (append-nil (map plain waits)) ∙ ap (λ l. h.sent lane ++ l) waiting ∙ append-nil (h.sent lane))

    -- no item waits there
    nothing_waits : has_item strand at ≡ false → (kept ++ waits ≡ []) × ((is_some strand.ended && not (get_or strand.closed.items at false)) ≡ false)
    nothing_waits none =
        let item : has_item strand at ≡ item_waits strand at d = ap (λ (o : Option (Node P K)). option_map_or (item_waits strand at) o false) there in
        let node : item_waits strand at (get_or strand.tree.nodes.items at d) ≡ false = ap (item_waits strand at) here ∙ sym item ∙ none in
        let parts = no_item _ _ _ outlet node in
        (none_waits (kept ++ waits) parts.0, parts.1)

    -- where none waits at any node
    nothing_there : first_ready strand ≡ None → (kept ++ waits ≡ []) × ((is_some strand.ended && not (get_or strand.closed.items at false)) ≡ false)
    nothing_there none = nothing_waits (none_passes (has_item strand) (length strand.tree.nodes.items) at none within)

    -- an item waits there: a packet, or the end
    something_waits : has_item strand at ≡ true → (0 < length kept + length waits) ⊎ ((is_some strand.ended ≡ true) × (get_or strand.closed.items at false ≡ false))
    something_waits some =
        let item : has_item strand at ≡ item_waits strand at d = ap (λ (o : Option (Node P K)). option_map_or (item_waits strand at) o false) there in
        let node : item_waits strand at (get_or strand.tree.nodes.items at d) ≡ true = ap (item_waits strand at) here ∙ sym item ∙ some in
        elim (one_or_end (is_outlet (get_or strand.tree.nodes.items at d).part) (nat_lt 0 (length (kept ++ waits))) (is_some strand.ended) (get_or strand.closed.items at false) node) [
          | inl packet ↦ inl (some_wait kept waits packet)
          | inr ends ↦ inr ends
        ]

    abbrev DueOf : Pipe → Flow
    DueOf pipe = input_by (doing h.ended) h.pipes (to_head h.head (head_flow h)) lane pipe

    -- what the outlet took is what the head of its lane takes, or comes first of that
    took_due : (pipe : Pipe) → slice_get h.pipes lane ≡ Some pipe
        → IsPrefix (stands.past.fed at) (DueOf pipe) × (h.short ≡ false → stands.past.fed at ≡ DueOf pipe)
    took_due pipe stood =
        let own = stands.built.lanes at d within outlet in
        let given = to_head h.head (head_flow h) in
        let takes : takes_from (get_or strand.tree.nodes.items at d).input own.0 ≡ true =
        rw own.1 (elim (eqb_tells own.0 own.0) [ inl same ↦ same.0 | inr other ↦ absurd (other.1 refl) ]) in
        let input : pipe.input ≡ Some (place_of strand own.0) =
        sym (ap (option_and_then (λ (p : Pipe). p.input)) stood) ∙ sym (ap (input_at h.pipes) is_lane) ∙ own.2 in
        let behind = stands.built.swept.tree.inputs at d own.0 within takes in
        let before = stands.built.are.each own.0 d behind.0 (stands.built.are.inner at own.0 d within takes) in
        let unfed : given lane ≡ None =
        given_other h.head (head_flow h) lane (λ same. behind_head plain reads writes strand h stands at own.0 d within takes (is_lane ∙ same)) in
        let due : (does : Doing) → flow_by does h.pipes given (place_of strand own.0) ≡ input_by does h.pipes given lane pipe =
        λ does. sym (ap (λ fed. unwrap_or fed (taken_by h.pipes (flow_by does h.pipes given) pipe)) unfed
        ∙ ap (taken_from h.pipes (flow_by does h.pipes given) pipe.select) input
        ∙ ap (λ (o : Option Pipe). shared o pipe.select (flow_by does h.pipes given (place_of strand own.0))) before.there
        ∙ whole_output before.pipe.kind pipe.select (flow_by does h.pipes given (place_of strand own.0))) in (
          subst (IsPrefix (stands.past.fed at)) (due (doing h.ended))
              ((begins plain reads writes strand h stands).reached.outlets at own.0 d within takes),
          λ long. (comes plain reads writes strand h stands long).reached.outlets at own.0 d within takes ∙ due (doing h.ended),
        )

    lane_stands_at : (pipe : Pipe) → slice_get h.pipes lane ≡ Some pipe → LaneStands h lane pipe (want_of strand)
    lane_stands_at pipe stood =
        let took_so = took_due pipe stood in
        let over : h.closed lane ≡ true → (is_some h.ended ≡ true) × (kept ++ waits ≡ []) =
        λ closed. stands.sent.over at d within outlet (ap h.closed is_lane ∙ closed) in
        record {
          first = prefix_on _ _ _ first_of_fed took_so.0;
          all = λ long want. all_of_fed long (nothing_there (none_ready (first_ready strand) (place_of strand) _ want)).0 ∙ took_so.1 long;
          over = λ closed. (over closed).0;
          all_over = λ long closed. all_of_fed long (over closed).1 ∙ took_so.1 long;
          closed = λ done.
              let ended = has_ended (first_ready strand) (place_of strand) (is_some strand.ended) (wants_in strand strand.intake) (goes_on strand.intake) done in
              sym (stands.sent.closed at d within outlet ∙ ap h.closed is_lane) ∙ end_was_taken _ _ ended.1 (nothing_there ended.0).1;
        }

    none_waiting_at : (pipe : Pipe) → slice_get h.pipes lane ≡ Some pipe → has_item strand at ≡ false → HasNoneWaiting h lane pipe
    none_waiting_at pipe stood is_none =
        let none = nothing_waits is_none in
        record {
          all = λ long. all_of_fed long none.0 ∙ (took_due pipe stood).1 long;
          over = λ ended.
              sym (stands.sent.closed at d within outlet ∙ ap h.closed is_lane)
              ∙ end_was_taken _ _ (ap is_some stands.ended.ended ∙ ended) none.1;
        }

    more_due_at : (pipe : Pipe) → slice_get h.pipes lane ≡ Some pipe → has_item strand at ≡ true → HasMoreDue h lane pipe
    more_due_at pipe stood is_some_item =
        let lacking = (stands.stand.node at d within).holds.lacking in
        let rest = map plain waits ++ lacking in
        let due = took_due pipe stood in
        let fed : length (stands.past.fed at) ≡ length (h.sent lane) + length (map plain kept ++ rest) = ap length took ∙ length-append (h.sent lane) (map plain kept ++ rest) in
        let parts = length-append (map plain kept) rest in
        let behind = length-append (map plain waits) lacking in
        let kept_many = length-map kept plain in
        let waits_many = length-map waits plain in
        let all : length (DueOf pipe) ≡ length (stands.past.fed at) + length due.0.0 = ap length due.0.1 ∙ length-append (stands.past.fed at) due.0.0 in
        elim (something_waits is_some_item) [
          | inl some ↦ inl (omega (arith, some, fed, parts, behind, kept_many, waits_many, all))
          | inr ends ↦ inr (ap is_some (sym stands.ended.ended) ∙ ends.0, sym (stands.sent.closed at d within outlet ∙ ap h.closed is_lane) ∙ ends.1)
        ]

  -- the node at which a lane ends
  record EndsAt (lane : ℕ) : Type 0 where
    pub at : ℕ
    pub node : Node P K
    pub within : at < length strand.tree.nodes.items
    pub there : slice_get strand.tree.nodes.items at ≡ Some node
    pub outlet : is_outlet (get_or strand.tree.nodes.items at node).part ≡ true
    pub here : get_or strand.tree.nodes.items at node ≡ node
    pub is_lane : place_of strand at ≡ lane
    pub number : ℕ
    pub sum : length (strand_of h.pipes h.head) + number ≡ at

  ends_at : (lane : ℕ) → Contains (outlets_of h.pipes h.head) lane → EndsAt lane
  ends_at lane contains =
      let own = strand_of h.pipes h.head in
      let lanes = outlets_of h.pipes h.head in
      let at = length own + contains.0 in
      let long = length-append own lanes in
      let all = ap length stands.built.places in
      let count = stands.built.count in
      let within : at < length strand.tree.nodes.items = omega (arith, long, all, count, contains.1) in
      let is_lane : place_of strand at ≡ lane =
      ap (λ (l : List ℕ). get_or l at 0) stands.built.places ∙ get_or-append-add own lanes contains.0 0
      ∙ get_or_default lanes contains.0 0 lane contains.1 ∙ contains.2 in
      elim (slice_get_cases strand.tree.nodes.items at).1 [
        | inl node ↦ record {
          at = at;
          node = node.0;
          within = within;
          there = node.2;
          outlet =
              stands.built.outlets at node.0 within ∙ elim (leb_tells (length own) at) [ inl past ↦ past.0 | inr before ↦ absurd (omega (arith, before.1)) ];
          here = node.3;
          is_lane = is_lane;
          number = contains.0;
          sum = refl;
        }
        | inr past ↦ absurd (omega (arith, within, past.0))
      ]

  pub lane_stands : (lane : ℕ) (pipe : Pipe) → Contains (outlets_of h.pipes h.head) lane → slice_get h.pipes lane ≡ Some pipe → LaneStands h lane pipe (want_of strand)
  lane_stands lane pipe contains stood =
      let end = ends_at lane contains in lane_stands_at end.at end.node end.within end.there end.outlet end.here lane end.is_lane pipe stood

  -- the node at which an item waits is that of the lane that is asked for
  ready_is : (lane : ℕ) → want_of strand ≡ Output lane → (strand.ready < length strand.tree.nodes.items) × (place_of strand strand.ready ≡ lane)
  ready_is lane wants =
      let inside = wanted_inside strand lane stands.sent.ready wants in
      (inside, same_lane (place_of strand strand.ready) lane (sym (want_there strand stands.sent.ready inside) ∙ wants))

  pub more_due : (lane : ℕ) (pipe : Pipe) → want_of strand ≡ Output lane → Contains (outlets_of h.pipes h.head) lane → slice_get h.pipes lane ≡ Some pipe → HasMoreDue h lane pipe
  more_due lane pipe wants contains stood =
      let end = ends_at lane contains in
      let ready = ready_is lane wants in
      let count = stands.built.count in
      let end_inside = end.within in
      let same : end.at ≡ strand.ready =
      stands.built.apart end.at strand.ready (omega (arith, count, end_inside)) (omega (arith, count, ready.0)) (end.is_lane ∙ sym ready.1) in
      let is_ready : strand.ready ≡ first_of (has_item strand) (length strand.tree.nodes.items) = stands.sent.ready in
      let item : has_item strand end.at ≡ true =
      ap (has_item strand) (same ∙ is_ready) ∙ at_first (has_item strand) (length strand.tree.nodes.items) (omega (arith, is_ready, ready.0)) in
      more_due_at end.at end.node end.within end.there end.outlet end.here lane end.is_lane pipe stood item

  -- the ends of lanes stand in the order of their heads
  in_order : (one two : ℕ) → one < two → (first : EndsAt one) → (second : EndsAt two) → first.at < second.at
  in_order one two less first second =
      let own = strand_of h.pipes h.head in
      let lanes = outlets_of h.pipes h.head in
      let place : (end : ℕ) (number : ℕ) → length own + number ≡ end → place_of strand end ≡ get_or lanes number 0 =
      λ end number sum. ap (λ (l : List ℕ). get_or l end 0) stands.built.places ∙ ap (λ n. get_or (own ++ lanes) n 0) (sym sum) ∙ get_or-append-add own lanes number 0 in
      let first_sum = first.sum in
      let second_sum = second.sum in
      let first_inside = first.within in
      let long = length-append own lanes in
      let all = ap length stands.built.places in
      let count = stands.built.count in
      let first_place : get_or lanes first.number 0 ≡ one = sym (place first.at first.number first_sum) ∙ first.is_lane in
      let second_place : get_or lanes second.number 0 ≡ two = sym (place second.at second.number second_sum) ∙ second.is_lane in
      elim (cases_lt first.number second.number) [
        | inl before ↦ omega (arith, before, first_sum, second_sum)
        | inr past ↦ elim (cases_lt second.number first.number) [
          | inl behind ↦
              let rises = rising_outlets h.pipes h.head second.number first.number 0 behind (omega (arith, first_sum, first_inside, long, all, count)) in
              absurd (omega (arith, rises, first_place, second_place, less))
          | inr level ↦
              let same : get_or lanes first.number 0 ≡ get_or lanes second.number 0 = ap (λ n. get_or lanes n 0) (let equal : first.number ≡ second.number = omega (arith, past, level) in equal) in
              absurd (omega (arith, same, first_place, second_place, less))
        ]
      ]

  pub none_waiting : (lane other : ℕ) (pipe : Pipe) → want_of strand ≡ Output lane → Contains (outlets_of h.pipes h.head) lane → Contains (outlets_of h.pipes h.head) other → other < lane
      → slice_get h.pipes other ≡ Some pipe → HasNoneWaiting h other pipe
  none_waiting lane other pipe wants wanted contains less stood =
      let end = ends_at other contains in
      let mine = ends_at lane wanted in
      let ready = ready_is lane wants in
      let count = stands.built.count in
      let inside = mine.within in
      let same : mine.at ≡ strand.ready =
      stands.built.apart mine.at strand.ready (omega (arith, count, inside)) (omega (arith, count, ready.0)) (mine.is_lane ∙ sym ready.1) in
      let is_ready : strand.ready ≡ first_of (has_item strand) (length strand.tree.nodes.items) = stands.sent.ready in
      let before = in_order other lane less end mine in
      let is_none : has_item strand end.at ≡ false =
      before_first (has_item strand) (length strand.tree.nodes.items) end.at (omega (arith, before, same, is_ready)) in
      none_waiting_at end.at end.node end.within end.there end.outlet end.here other end.is_lane pipe stood is_none

  comes_in : (intake : Intake S) → is_output (wants_in strand intake) ≡ false
  comes_in (FromSource source block limit left) = refl
  comes_in (FromFrames frames) = refl
  comes_in FromLane = refl

  -- a strand that is done has come to its end
  pub ended_of_done : want_of strand ≡ Done → is_some h.ended ≡ true
  ended_of_done done =
      ap is_some (sym stands.ended.ended)
      ∙ (has_ended (first_ready strand) (place_of strand) (is_some strand.ended) (wants_in strand strand.intake) (goes_on strand.intake) done).1

  -- the node of a lane
  is_lane_of : (i : ℕ) (d : Node P K) → i < length strand.tree.nodes.items → is_outlet (get_or strand.tree.nodes.items i d).part ≡ true
      → Contains (outlets_of h.pipes h.head) (place_of strand i)
  is_lane_of i d within outlet =
      let own = strand_of h.pipes h.head in
      let lanes = outlets_of h.pipes h.head in
      let long = length-append own lanes in
      let all = ap length stands.built.places in
      let count = stands.built.count in
      let behind : length own ≤ i = elim (leb_tells (length own) i) [
        | inl past ↦ past.1
        | inr before ↦ absurd (let no : false ≡ true = sym before.0 ∙ sym (stands.built.outlets i d within) ∙ outlet in cc)
      ] in
      let k = i - length own in
      let sum : length own + k ≡ i = omega (arith, behind) in
      let inside : k < length lanes = omega (arith, sum, long, all, count, within) in
      let here : get_or lanes k 0 ≡ place_of strand i =
      sym (get_or-append-add own lanes k 0) ∙ ap (λ n. get_or (own ++ lanes) n 0) sum ∙ sym (ap (λ (l : List ℕ). get_or l i 0) stands.built.places) in
      subst (Contains lanes) here (Contains-get_or lanes k 0 inside)

  -- an item that waits is for a lane whose end wasn't taken out
  pub waits_for_lane : (lane : ℕ) → want_of strand ≡ Output lane → Contains (outlets_of h.pipes h.head) lane × (h.closed lane ≡ false)
  waits_for_lane lane wants =
      let nodes = strand.tree.nodes.items in
      let ready = gives_out (first_ready strand) (place_of strand) (is_some strand.ended) (wants_in strand strand.intake) lane (comes_in strand.intake) wants in
      let i = ready.0 in
      let first = first_passes (has_item strand) (length nodes) i ready.1 in
      elim (slice_get_cases nodes i).1 [
        | inl node ↦
            let d = node.0 in
            let here : item_waits strand i (get_or nodes i d) ≡ true =
            ap (item_waits strand i) node.3 ∙ sym (ap (λ (o : Option (Node P K)). option_map_or (item_waits strand i) o false) node.2) ∙ first.1 in
            let item = an_item _ _ _ _ here in
            let is_open : h.closed (place_of strand i) ≡ false =
            elim (cases_Bool (h.closed (place_of strand i))) [
              | inl closed ↦
                  let over = stands.sent.over i d first.0 item.0 closed in
                  elim item.1 [
                    | inl waits ↦ absurd (let no : false ≡ true = sym (ap (λ (ps : List P). nat_lt 0 (length ps)) over.1) ∙ waits in cc)
                    | inr goes_on ↦ absurd (let no : false ≡ true = sym goes_on ∙ stands.sent.closed i d first.0 item.0 ∙ closed in cc)
                  ]
              | inr other ↦ other
            ] in
            (subst (Contains (outlets_of h.pipes h.head)) ready.2 (is_lane_of i d first.0 item.0), sym (ap h.closed ready.2) ∙ is_open)
        | inr past ↦ absurd (omega (arith, first.0, past.0))
      ]
