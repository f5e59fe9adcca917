-- What the pipes of a strand are to take of the packets that its head had.
use Rattle.std.proofs.Common.{◌≡◌, ◌≢◌, ℕ, List, length, Some, slice_get, refl, sym, ap, ◌∙◌, subst, inl, inr}
use Rattle.std.specs.List.{Contains}
use Rattle.std.proofs.lemmas.Bool.Decides.{eqb_tells}
use Rattle.std.proofs.lemmas.Option.{same_Some}
use Rattle.up_base.specs.Lists.{IsPrefix}
use Rattle.up_engine.proofs.AlongLanes.{input_of, source_is_head}
use Rattle.up_engine.proofs.CutAtHeads.{IsBehind, head_takes}
use Rattle.up_engine.proofs.FirstParts.{all_behind, due_is, is_given_first, part_behind}
use Rattle.up_engine.proofs.WholeParts.{same_doing}
use Rattle.up_engine.specs.Flows.{AreJoined, HaveEnded, HeadEnds, HeadStands, IsPastOf, bytes_meant, doing_behind, flow_meant}
use Rattle.up_engine.specs.Joins.{PlainItem}
use Rattle.up_model.proofs.AlongInputs.{starts_at}
use Rattle.up_model.proofs.GraphFlows.{written_grows}
use Rattle.up_model.proofs.WellFormed.{is_pipe}
use Rattle.up_model.specs.Inputs.{ends_at_source, source_of}
use Rattle.up_model.specs.Kinds.{written_of}
use Rattle.up_model.specs.Meaning.{Doing}
use Rattle.up_model.specs.Packet.{Flow}
use Rattle.up_model.specs.Plans.{heads, strand_of}
use Rattle.up_model.specs.WellFormed.{IsWellFormed}
use Rattle.up_model.specs.declared.pipe.Pipe.{Pipe}
use Rattle.up_plan.proofs.OneStrand.{in_strand, strand_is_joined}
use Rattle.up_strand.specs.History.{History, doing, head_flow}
use Rattle.up_strand.specs.StrandCalls.{bytes_due, flow_due}

-- a pipe of a strand that isn't its head is behind it
is_behind : (pipes : List Pipe) (head place : ℕ) (pipe own : Pipe) → Contains (strand_of pipes head) place → slice_get pipes head ≡ Some own → slice_get pipes place ≡ Some pipe
    → place ≢ head → IsBehind pipes place head pipe own
is_behind pipes head place pipe own within stands there other =
    let joined = strand_is_joined pipes head place within other in
    record {
      there = there;
      stands = stands;
      other = other;
      input = joined.input;
      takes = input_of pipes place joined.input pipe there joined.takes;
      within = in_strand pipes head joined.input joined.within;
    }

module _ (pipes : List Pipe) (past : ℕ → History) (well : IsWellFormed pipes) (source head place : ℕ) (pipe own : Pipe) (strand : IsPastOf pipes head (past head))
    (within : Contains (strand_of pipes head) place) (stands : slice_get pipes head ≡ Some own) (there : slice_get pipes place ≡ Some pipe) where
  due_at_head : (does : Doing) → place ≡ head → flow_due (past head) place pipe does ≡ head_flow (past head)
  due_at_head does is =
      due_is pipes head place (past head) pipe does strand ∙ rw is (head_takes does pipes head (head_flow (past head)) pipe)

  meant_at_head : place ≡ head → flow_meant pipes past source head own ≡ flow_meant pipes past source place pipe
  meant_at_head is =
      let same : own ≡ pipe = same_Some own pipe (sym stands ∙ sym (ap (slice_get pipes) is) ∙ there) in
      rw (is, same) refl

  -- the first of what the graph means where its head had the first
  pub due_first : HeadStands pipes past source head own → IsPrefix (flow_due (past head) place pipe (doing (past head).ended)) (flow_meant pipes past source place pipe)
  due_first had = elim (eqb_tells place head) [
    | inl same ↦
        subst (IsPrefix (flow_due (past head) place pipe (doing (past head).ended))) (meant_at_head same.1)
        (subst (λ (flow : Flow). IsPrefix flow (flow_meant pipes past source head own)) (sym (due_at_head (doing (past head).ended) same.1)) had.first)
    | inr other ↦ part_behind pipes past well source place head pipe own (is_behind pipes head place pipe own within stands there other.1) strand had
  ]

  -- and all of it where the head had all
  pub due_all : doing (past head).ended ≡ doing_behind pipes past source → head_flow (past head) ≡ flow_meant pipes past source head own
      → flow_due (past head) place pipe (doing (past head).ended) ≡ flow_meant pipes past source place pipe
  due_all same all = elim (eqb_tells place head) [
    | inl here ↦ due_at_head (doing (past head).ended) here.1 ∙ all ∙ meant_at_head here.1
    | inr other ↦ all_behind pipes past well source place head pipe own (is_behind pipes head place pipe own within stands there other.1) strand same all
  ]

module _ (pipes : List Pipe) (past : ℕ → History) (waiting : ℕ → List PlainItem) (well : IsWellFormed pipes) (joined : AreJoined pipes past waiting) (source head place : ℕ) (pipe : Pipe)
    (is : Contains (heads pipes) head) (within : Contains (strand_of pipes head) place) (of : source_of pipes head ≡ Some source) (there : slice_get pipes place ≡ Some pipe) where
  -- what is due to a sink is the first of what the graph means
  pub sink_due_first : IsPrefix (bytes_due (past head) place pipe (doing (past head).ended)) (bytes_meant pipes past source place pipe)
  sink_due_first =
      let own = starts_at ends_at_source pipes (length pipes) head source of in
      let had = (is_given_first pipes past waiting well joined source head own.0 is of own.1).stands in
      written_grows pipe.kind (flow_due (past head) place pipe (doing (past head).ended)) (flow_meant pipes past source place pipe)
      (is_pipe pipes well place pipe there).kind
      (due_first pipes past well source head place pipe own.0 (joined.strands head is) within own.1 there had)

  -- and all of it where the head had all
  pub sink_due_all : (own : Pipe) → slice_get pipes head ≡ Some own → HeadEnds pipes past source head own → HaveEnded pipes past
      → bytes_due (past head) place pipe (doing (past head).ended) ≡ bytes_meant pipes past source place pipe
  sink_due_all own stands had ended =
      ap (written_of pipe.kind)
      (due_all pipes past well source head place pipe own (joined.strands head is) within stands there
      (same_doing pipes past ended source (source_is_head pipes head source of) head own had) had.all)
