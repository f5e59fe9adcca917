-- What a strand that is asked for something did, and what is known of the lanes that it fills.
use Rattle.std.proofs.Common.{◌≡◌, ℕ, List, Bool, true, false, None, is_some, slice_get, refl, sym, ap, ◌∙◌, subst}
use Rattle.std.specs.List.{Contains}
use Rattle.up_engine.proofs.Fillers.{lane_is_fed, outlet_is_lane}
use Rattle.up_engine.specs.Flows.{IsPastOf}
use Rattle.up_model.proofs.Members.{passing_pipe}
use Rattle.up_model.specs.Inputs.{ends_at_source, passes_at}
use Rattle.up_model.specs.Plans.{is_fed, outlets_of}
use Rattle.up_model.specs.declared.pipe.Pipe.{Pipe}
use Rattle.up_model.specs.declared.plain_packet.PlainPacket.{PlainPacket}
use Rattle.up_outside.specs.States.{SourceState, SinkState}
use Rattle.up_strand.proofs.HeadFlows.{none_of, reads_of_source, takes_of_lane, wants_more}
use Rattle.up_strand.proofs.LaneFlows.{lane_stands, waits_for_lane}
use Rattle.up_strand.specs.History.{History}
use Rattle.up_strand.specs.Strands.{StandsFor, first_ready, place_of, want_of, wants_in}
use Rattle.up_strand.specs.declared.strand.Strand.{Strand}
use Rattle.up_strand.specs.declared.want.Want.TheVariants.{Input, Output, Read}

not_over : (closed over : Bool) → (closed ≡ true → over ≡ true) → over ≡ false → closed ≡ false
not_over true over ends goes_on = absurd (let no : true ≡ false = sym (ends refl) ∙ goes_on in cc)
not_over false over ends goes_on = refl

module _ {P S K : Type 0} (plain : P → PlainPacket) (reads : S → SourceState) (writes : K → SinkState) (strand : Strand P S K) (h : History)
    (stands : StandsFor plain reads writes strand h) where
  pub asks_to_read : want_of strand ≡ Read → (h.ended ≡ None) × (passes_at ends_at_source h.pipes h.head ≡ true)
  asks_to_read wants =
      let asks = wants_more (first_ready strand) (place_of strand) (is_some strand.ended) (wants_in strand strand.intake) Read refl refl wants in
      (none_of h.ended (ap is_some (sym stands.ended.ended) ∙ asks.0), reads_of_source reads strand strand.intake h stands.intake asks.1)

  pub asks_for_input : want_of strand ≡ Input → (h.ended ≡ None) × (passes_at is_fed h.pipes h.head ≡ true)
  asks_for_input wants =
      let asks = wants_more (first_ready strand) (place_of strand) (is_some strand.ended) (wants_in strand strand.intake) Input refl refl wants in
      (none_of h.ended (ap is_some (sym stands.ended.ended) ∙ asks.0), takes_of_lane reads strand strand.intake h stands.intake asks.1)

  -- the end is taken out for no lane while the flow goes on
  pub lane_is_open : (lane : ℕ) → h.ended ≡ None → Contains (outlets_of h.pipes h.head) lane → h.closed lane ≡ false
  lane_is_open lane goes_on outlet =
      let there = passing_pipe is_fed h.pipes lane (lane_is_fed h.pipes lane (outlet_is_lane h.pipes h.head lane outlet)) in
      not_over (h.closed lane) (is_some h.ended) (lane_stands plain reads writes strand h stands lane there.0 outlet there.1).over (ap is_some goes_on)

  -- the lane of an item that waits is one that the strand fills, and its end wasn't taken out
  pub waits_for : (pipes : List Pipe) (head lane : ℕ) → h.pipes ≡ pipes → h.head ≡ head → want_of strand ≡ Output lane
      → Contains (outlets_of pipes head) lane × (h.closed lane ≡ false)
  waits_for pipes head lane same_pipes same_head wants =
      let waits = waits_for_lane plain reads writes strand h stands lane wants in
      (subst (λ (n : ℕ). Contains (outlets_of pipes n) lane) same_head (subst (λ (ps : List Pipe). Contains (outlets_of ps h.head) lane) same_pipes waits.0), waits.1)

  pub past_of : (pipes : List Pipe) (head : ℕ) → h.pipes ≡ pipes → h.head ≡ head → IsPastOf pipes head h
  past_of pipes head same_pipes same_head =
      let same = λ (lane : ℕ). λ (outlet : Contains (outlets_of pipes head) lane).
      subst (λ (n : ℕ). Contains (outlets_of h.pipes n) lane) (sym same_head) (subst (λ (ps : List Pipe). Contains (outlets_of ps head) lane) (sym same_pipes) outlet) in
      record {
        graph = same_pipes;
        place = same_head;
        first = λ lane pipe outlet there. (lane_stands plain reads writes strand h stands lane pipe (same lane outlet) (ap (λ ps. slice_get ps lane) same_pipes ∙ there)).first;
        over = λ lane outlet closed.
            let pipe = passing_pipe is_fed pipes lane (lane_is_fed pipes lane (outlet_is_lane pipes head lane outlet)) in
            (lane_stands plain reads writes strand h stands lane pipe.0 (same lane outlet) (ap (λ ps. slice_get ps lane) same_pipes ∙ pipe.1)).over closed;
        all_over = λ lane pipe outlet there. (lane_stands plain reads writes strand h stands lane pipe (same lane outlet) (ap (λ ps. slice_get ps lane) same_pipes ∙ there)).all_over;
      }
