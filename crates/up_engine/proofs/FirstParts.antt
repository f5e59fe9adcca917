-- The head of a strand had the first of what it is to take, and so had the pipes behind it.
use Rattle.std.proofs.Common.{◌≡◌, ◌⊎◌, ℕ, List, true, false, not, Option, Some, None, slice_get, refl, sym, ap, ◌∙◌, subst, inl, inr}
use Rattle.std.specs.Prelude.{unwrap_or}
use Rattle.std.specs.List.{Contains}
use Rattle.std.proofs.lemmas.Option.{same_Some}
use Rattle.up_base.specs.Lists.{IsPrefix}
use Rattle.up_engine.proofs.AlongLanes.{IsFilled, along_lanes}
use Rattle.up_engine.proofs.CutAtHeads.{IsBehind, first_behind, same_behind}
use Rattle.up_engine.proofs.ThroughLanes.{came_first, came_whole}
use Rattle.up_engine.specs.Flows.{AreJoined, HeadStands, IsPastOf, doing_behind, flow_meant, put_out}
use Rattle.up_engine.specs.Joins.{IsJoined, PlainItem, filler_of}
use Rattle.up_model.proofs.FedSources.{fed_source}
use Rattle.up_model.proofs.GraphFlows.{GrowsTo, so_far-grows, so_far-wholly}
use Rattle.up_model.proofs.Members.{kept_passes}
use Rattle.up_model.specs.Ends.{is_source}
use Rattle.up_model.specs.Inputs.{passes_at, source_of}
use Rattle.up_model.specs.Meaning.{Doing, flow_by, input_by, so_far, taken_by, to_sources}
use Rattle.up_model.specs.Packet.{Flow}
use Rattle.up_model.specs.Plans.{heads, is_fed, lanes}
use Rattle.up_model.specs.WellFormed.{IsWellFormed}
use Rattle.up_model.specs.declared.outcome.Outcome.{Outcome}
use Rattle.up_model.specs.declared.outcome.Outcome.TheVariants.{Whole, ReadFault, WriteFault, BadFrame, TooLong, Broken, NoMemory}
use Rattle.up_model.specs.declared.pipe.Pipe.{Pipe}
use Rattle.up_strand.proofs.Reaching.{prefix_on}
use Rattle.up_strand.proofs.ReadSteps.{same_first}
use Rattle.up_strand.specs.History.{History, doing, head_flow, to_head}
use Rattle.up_strand.specs.StrandCalls.{flow_due}

-- a flow came to its whole end, or all of the work isn't done
pub whole_or_so_far : (ended : Option Outcome) → (ended ≡ Some Whole) ⊎ (doing ended ≡ so_far)
whole_or_so_far None = inr refl
whole_or_so_far (Some Whole) = inl refl
whole_or_so_far (Some ReadFault) = inr refl
whole_or_so_far (Some WriteFault) = inr refl
whole_or_so_far (Some (BadFrame offset)) = inr refl
whole_or_so_far (Some (TooLong limit)) = inr refl
whole_or_so_far (Some Broken) = inr refl
whole_or_so_far (Some NoMemory) = inr refl

grows_by : (ended : Option Outcome) → GrowsTo so_far (doing ended)
grows_by None = so_far-grows
grows_by (Some Whole) = so_far-wholly
grows_by (Some ReadFault) = so_far-grows
grows_by (Some WriteFault) = so_far-grows
grows_by (Some (BadFrame offset)) = so_far-grows
grows_by (Some (TooLong limit)) = so_far-grows
grows_by (Some Broken) = so_far-grows
grows_by (Some NoMemory) = so_far-grows

-- what the head of a lane had came through it
pub flow_came : (pipes : List Pipe) (head : ℕ) (h : History) (pipe : Pipe) → IsPastOf pipes head h → slice_get pipes head ≡ Some pipe
    → is_source pipe.kind ≡ false → head_flow h ≡ h.came
flow_came pipes head h pipe strand there none = rw (strand.graph, strand.place, there, none) refl

-- a source has no lane
no_lane : (pipes : List Pipe) (head : ℕ) (pipe : Pipe) → Contains (lanes pipes) head → slice_get pipes head ≡ Some pipe → is_source pipe.kind ≡ true → ⊥
no_lane pipes head pipe is there source =
    let fed : not (is_source pipe.kind) ≡ true = rw there at (kept_passes (passes_at is_fed pipes) (heads pipes) head is) in
    let no : false ≡ true = sym (ap not source) ∙ fed in
    cc

-- what a source put out is what it is to take
pub source_takes : (pipes : List Pipe) (past : ℕ → History) (source : ℕ) (pipe : Pipe) → slice_get pipes source ≡ Some pipe → is_source pipe.kind ≡ true
    → head_flow (past source) ≡ flow_meant pipes past source source pipe
source_takes pipes past source pipe there is =
    sym (ap (λ fed. unwrap_or fed (taken_by pipes (flow_by (doing_behind pipes past source) pipes (to_sources pipes (put_out pipes past))) pipe))
    (fed_source pipes (put_out pipes past) source pipe there is))

-- what a pipe is to take of the packets that the head of its strand had
pub due_is : (pipes : List Pipe) (head place : ℕ) (h : History) (pipe : Pipe) (does : Doing) → IsPastOf pipes head h
    → flow_due h place pipe does ≡ input_by does pipes (to_head head (head_flow h)) place pipe
due_is pipes head place h pipe does strand = rw (strand.graph, strand.place) refl

module _ (pipes : List Pipe) (past : ℕ → History) (well : IsWellFormed pipes) (source place head : ℕ) (pipe own : Pipe) (behind : IsBehind pipes place head pipe own)
    (strand : IsPastOf pipes head (past head)) where
  -- a pipe behind a head that had all is to take all
  pub all_behind : doing (past head).ended ≡ doing_behind pipes past source → head_flow (past head) ≡ flow_meant pipes past source head own
      → flow_due (past head) place pipe (doing (past head).ended) ≡ flow_meant pipes past source place pipe
  all_behind same all =
      due_is pipes head place (past head) pipe (doing (past head).ended) strand ∙ ap (λ (does : Doing). input_by does pipes (to_head head (head_flow (past head))) place pipe) same
      ∙ same_behind pipes well (put_out pipes past) place head pipe own behind (doing_behind pipes past source) (head_flow (past head)) all

  -- and otherwise the first of it
  pub part_behind : HeadStands pipes past source head own
      → IsPrefix (flow_due (past head) place pipe (doing (past head).ended)) (flow_meant pipes past source place pipe)
  part_behind stands = elim (whole_or_so_far (past head).ended) [
    | inl whole ↦ same_first _ _ (sym (all_behind (ap doing (whole ∙ sym (stands.whole whole))) (stands.all whole)))
    | inr part ↦
        subst (λ (flow : Flow). IsPrefix flow (flow_meant pipes past source place pipe))
        (sym (due_is pipes head place (past head) pipe (doing (past head).ended) strand ∙ ap (λ (does : Doing). input_by does pipes (to_head head (head_flow (past head))) place pipe) part))
        (first_behind pipes well (put_out pipes past) place head pipe own behind so_far (doing_behind pipes past source) (head_flow (past head)) (grows_by (past source).ended) stands.first)
  ]

module _ (pipes : List Pipe) (past : ℕ → History) (waiting : ℕ → List PlainItem) (well : IsWellFormed pipes) (joined : AreJoined pipes past waiting) (source : ℕ) where
  -- so had this head, and what was taken out for its lane is the first of that too
  pub record IsGivenFirst (head : ℕ) (pipe : Pipe) : Type 0 where
    pub stands : HeadStands pipes past source head pipe
    pub sent : (filler : ℕ) → Contains (lanes pipes) head → filler_of pipes head ≡ Some filler
        → IsPrefix ((past filler).sent head) (flow_meant pipes past source head pipe)

  source_given : (pipe : Pipe) → Contains (heads pipes) source → slice_get pipes source ≡ Some pipe → is_source pipe.kind ≡ true → IsGivenFirst source pipe
  source_given pipe is there source_is =
      let takes = source_takes pipes past source pipe there source_is in
      record {
        stands = record { first = same_first _ _ (sym takes); whole = λ whole. whole; all = λ whole. takes };
        sent = λ filler lane. absurd (no_lane pipes source pipe lane there source_is);
      }

  module _ (lane filler : ℕ) (pipe own : Pipe) (filled : IsFilled pipes lane filler pipe own) where
    abbrev strand : IsPastOf pipes filler (past filler)
    strand = joined.strands filler filled.filler_is

    abbrev lane_is : IsJoined (past filler) (past lane) lane (waiting lane)
    lane_is = joined.lanes lane filler filled.lane_is filled.filled

    sent_first : HeadStands pipes past source filler own → IsPrefix ((past filler).sent lane) (flow_meant pipes past source lane pipe)
    sent_first stands =
        prefix_on ((past filler).sent lane) (flow_due (past filler) lane pipe (doing (past filler).ended)) (flow_meant pipes past source lane pipe)
        (strand.first lane pipe filled.outlet filled.behind.there)
        (part_behind pipes past well source lane filler pipe own filled.behind strand stands)

    lane_stands : HeadStands pipes past source filler own → HeadStands pipes past source lane pipe
    lane_stands stands =
        let came = flow_came pipes lane (past lane) pipe (joined.strands lane filled.head_is) filled.behind.there filled.none in
        let whole_came = came_whole (past filler) (past lane) lane (waiting lane) lane_is in
        record {
          first = subst (λ (flow : Flow). IsPrefix flow (flow_meant pipes past source lane pipe)) (sym came)
              (prefix_on (past lane).came ((past filler).sent lane) (flow_meant pipes past source lane pipe)
              (came_first (past filler) (past lane) lane (waiting lane) lane_is) (sent_first stands));
          whole = λ whole. stands.whole (whole_came whole).whole;
          all = λ whole.
              let all = whole_came whole in
              came ∙ all.packets ∙ strand.all_over lane pipe filled.outlet filled.behind.there all.long all.closed
              ∙ all_behind pipes past well source lane filler pipe own filled.behind strand
              (ap doing (all.whole ∙ sym (stands.whole all.whole))) (stands.all all.whole);
        }

    lane_given : IsGivenFirst filler own → IsGivenFirst lane pipe
    lane_given before = record {
      stands = lane_stands before.stands;
      sent = λ other is fills.
          subst (λ (f : ℕ). IsPrefix ((past f).sent lane) (flow_meant pipes past source lane pipe)) (same_Some filler other (sym filled.filled ∙ fills)) (sent_first before.stands);
    }

  pub is_given_first : (head : ℕ) (pipe : Pipe) → Contains (heads pipes) head → source_of pipes head ≡ Some source → slice_get pipes head ≡ Some pipe
      → IsGivenFirst head pipe
  is_given_first head pipe is of there = along_lanes pipes well IsGivenFirst source source_given lane_given head pipe is of there
