-- What the strands of a graph did, by the place of each head, and what the graph means of what its
-- sources carried.
use Rattle.std.specs.Prelude.{◌≡◌, ◌⊎◌, ℕ, List, slice_get, true, false, Some}
use Rattle.std.specs.List.{Contains}
use Rattle.std.specs.Option.{is_some}
use Rattle.up_base.specs.Lists.{IsPrefix}
use Rattle.up_engine.specs.Joins.{IsJoined, PlainItem, filler_of}
use Rattle.up_model.specs.Meaning.{Doing, bytes_by, input_by, to_sources}
use Rattle.up_model.specs.Outcomes.{outcome_behind}
use Rattle.up_model.specs.Packet.{Flow}
use Rattle.up_model.specs.Plans.{heads, lanes, outlets_of}
use Rattle.up_model.specs.declared.outcome.Outcome.{Outcome}
use Rattle.up_model.specs.declared.outcome.Outcome.TheVariants as outcomes
use Rattle.up_model.specs.declared.pipe.Pipe.{Pipe}
use Rattle.up_strand.specs.History.{History, doing, head_flow}
use Rattle.up_strand.specs.StrandCalls.{flow_due}

-- what is known of what the strand of a head did, whatever it is made of
pub record IsPastOf (pipes : List Pipe) (head : ℕ) (h : History) : Type 0 where
  pub graph : h.pipes ≡ pipes
  pub place : h.head ≡ head
  -- for each lane that it fills, the first of what its head is to take was taken out
  pub first : (lane : ℕ) (pipe : Pipe) → Contains (outlets_of pipes head) lane
      → slice_get pipes lane ≡ Some pipe
      → IsPrefix (h.sent lane) (flow_due h lane pipe (doing h.ended))
  -- the end was taken out once its flow had ended, and behind all of that
  pub over : (lane : ℕ) → Contains (outlets_of pipes head) lane → h.closed lane ≡ true
      → is_some h.ended ≡ true
  pub all_over : (lane : ℕ) (pipe : Pipe) → Contains (outlets_of pipes head) lane
      → slice_get pipes lane ≡ Some pipe → h.short ≡ false → h.closed lane ≡ true
      → h.sent lane ≡ flow_due h lane pipe (doing h.ended)

module _ (pipes : List Pipe) (past : ℕ → History) where
  -- the strands of the graph did this, and this waits in the lane of each head
  pub record AreJoined (waiting : ℕ → List PlainItem) : Type 0 where
    pub strands : (head : ℕ) → Contains (heads pipes) head → IsPastOf pipes head (past head)
    pub lanes : (lane filler : ℕ) → Contains (lanes pipes) lane
        → filler_of pipes lane ≡ Some filler
        → IsJoined (past filler) (past lane) lane (waiting lane)

  -- what each source put out so far, and in all once its flow has ended
  abbrev pub put_out : ℕ → Flow
  put_out place = head_flow (past place)

  -- what the pipes behind a source did with what they took
  abbrev pub doing_behind : ℕ → Doing
  doing_behind source = doing (past source).ended

  -- what a pipe behind the source is to take, and what is to be written to it, of what the sources
  -- put out
  abbrev pub flow_meant : ℕ → ℕ → Pipe → Flow
  flow_meant source place pipe =
      input_by (doing_behind source) pipes (to_sources pipes put_out) place pipe

  abbrev pub bytes_meant : ℕ → ℕ → Pipe → List ℕ
  bytes_meant source place pipe =
      bytes_by (doing_behind source) pipes (to_sources pipes put_out) place pipe

  -- the head had the first of what it is to take; and all of it where its flow came to its whole
  -- end, which is its source's
  pub record HeadStands (source head : ℕ) (pipe : Pipe) : Type 0 where
    pub first : IsPrefix (head_flow (past head)) (flow_meant source head pipe)
    pub whole : (past head).ended ≡ Some outcomes.Whole
        → (past source).ended ≡ Some outcomes.Whole
    pub all : (past head).ended ≡ Some outcomes.Whole
        → head_flow (past head) ≡ flow_meant source head pipe

  -- memory ran out in no strand that fills a lane
  abbrev pub HadMemory : Type 0
  HadMemory = (lane filler : ℕ) → Contains (lanes pipes) lane
      → filler_of pipes lane ≡ Some filler → (past filler).short ≡ false

  -- every flow has ended
  abbrev pub HaveEnded : Type 0
  HaveEnded = (head : ℕ) → Contains (heads pipes) head → is_some (past head).ended ≡ true

  -- the head had all that it is to take, and its flow ended as its source's did
  pub record HeadEnds (source head : ℕ) (pipe : Pipe) : Type 0 where
    pub all : head_flow (past head) ≡ flow_meant source head pipe
    pub ended : (outcome : Outcome) → (past source).ended ≡ Some outcome
        → (head ≡ source) ⊎ ((past head).ended ≡ Some (outcome_behind outcome))
