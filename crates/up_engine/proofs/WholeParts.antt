-- Once all flows have ended, so that each lane's end came, the head of each strand had all that it is to take.
use Rattle.std.proofs.Common.{◌≡◌, ℕ, List, [], ◌∷◌, true, false, is_some, Option, Some, None, slice_get, refl, sym, ap, ◌∙◌, inl, inr}
use Rattle.std.specs.List.{Contains}
use Rattle.up_engine.proofs.AlongLanes.{IsFilled, along_lanes}
use Rattle.up_engine.proofs.FirstParts.{all_behind, flow_came, source_takes}
use Rattle.up_engine.proofs.ThroughLanes.{came_all}
use Rattle.up_engine.specs.Flows.{AreJoined, HadMemory, HaveEnded, HeadEnds, doing_behind}
use Rattle.up_engine.specs.Joins.{PlainItem, end_come}
use Rattle.up_model.specs.Ends.{is_source}
use Rattle.up_model.specs.Inputs.{source_of}
use Rattle.up_model.specs.Outcomes.{outcome_behind}
use Rattle.up_model.specs.Plans.{heads}
use Rattle.up_model.specs.WellFormed.{IsWellFormed}
use Rattle.up_model.specs.declared.outcome.Outcome.{Outcome}
use Rattle.up_model.specs.declared.outcome.Outcome.TheVariants.{Whole, ReadFault, WriteFault, BadFrame, TooLong, Broken, NoMemory}
use Rattle.up_model.specs.declared.pipe.Pipe.{Pipe}
use Rattle.up_queue.specs.declared.end_kind.EndKind.{EndKind}
use Rattle.up_queue.specs.declared.end_kind.EndKind.TheVariants as ends
use Rattle.up_queue.specs.declared.item.Item.TheVariants.{End}
use Rattle.up_strand.specs.History.{History, doing, end_by}
use Rattle.up_strand.specs.Strands.{IsEndOfLane}

pub some_outcome : (o : Option Outcome) → is_some o ≡ true → (outcome : Outcome) × (o ≡ Some outcome)
some_outcome None some = absurd (cc)
some_outcome (Some outcome) some = (outcome, refl)

-- pipes behind do as much with what they took
doing_as_before : (outcome : Outcome) → doing (Some (outcome_behind outcome)) ≡ doing (Some outcome)
doing_as_before Whole = refl
doing_as_before ReadFault = refl
doing_as_before WriteFault = refl
doing_as_before (BadFrame offset) = refl
doing_as_before (TooLong limit) = refl
doing_as_before Broken = refl
doing_as_before NoMemory = refl

pub behind_twice : (outcome : Outcome) → outcome_behind (outcome_behind outcome) ≡ outcome_behind outcome
behind_twice Whole = refl
behind_twice ReadFault = refl
behind_twice WriteFault = refl
behind_twice (BadFrame offset) = refl
behind_twice (TooLong limit) = refl
behind_twice Broken = refl
behind_twice NoMemory = refl

whole_behind : (outcome : Outcome) → end_by false (Some outcome) ≡ ends.Whole → Some Whole ≡ Some (outcome_behind outcome)
whole_behind Whole is = refl
whole_behind ReadFault is = absurd (cc)
whole_behind WriteFault is = absurd (cc)
whole_behind (BadFrame offset) is = absurd (cc)
whole_behind (TooLong limit) is = absurd (cc)
whole_behind Broken is = absurd (cc)
whole_behind NoMemory is = absurd (cc)

broken_behind : (outcome : Outcome) → end_by false (Some outcome) ≡ ends.Broken → Some Broken ≡ Some (outcome_behind outcome)
broken_behind Whole is = absurd (cc)
broken_behind ReadFault is = refl
broken_behind WriteFault is = refl
broken_behind (BadFrame offset) is = refl
broken_behind (TooLong limit) is = refl
broken_behind Broken is = refl
broken_behind NoMemory is = refl

-- the end that came through a lane tells how the flow before it ended
record IsToldBy (ended : Option Outcome) (kind : EndKind) : Type 0 where
  pub come : end_come ended ≡ End kind ∷ []
  pub tells : (outcome : Outcome) → end_by false (Some outcome) ≡ kind → ended ≡ Some (outcome_behind outcome)

is_told : (ended : Option Outcome) → IsEndOfLane ended → is_some ended ≡ true → (kind : EndKind) × IsToldBy ended kind
is_told None lane some = absurd (cc)
is_told (Some Whole) lane some = (ends.Whole, record { come = refl; tells = whole_behind })
is_told (Some ReadFault) lane some = absurd lane
is_told (Some WriteFault) lane some = absurd lane
is_told (Some (BadFrame offset)) lane some = absurd lane
is_told (Some (TooLong limit)) lane some = absurd lane
is_told (Some Broken) lane some = (ends.Broken, record { come = refl; tells = broken_behind })
is_told (Some NoMemory) lane some = absurd lane

module _ (pipes : List Pipe) (past : ℕ → History) (ended : HaveEnded pipes past) (source : ℕ) (source_is : Contains (heads pipes) source) where
  -- a strand did as much with what its pipes took as those behind its source do
  pub same_doing : (head : ℕ) (pipe : Pipe) → HeadEnds pipes past source head pipe → doing (past head).ended ≡ doing_behind pipes past source
  same_doing head pipe stands =
      let own = some_outcome (past source).ended (ended source source_is) in
      elim (stands.ended own.0 own.1) [
        | inl same ↦ ap (λ at. doing (past at).ended) same
        | inr behind ↦ ap doing behind ∙ doing_as_before own.0 ∙ sym (ap doing own.1)
      ]

  module _ (waiting : ℕ → List PlainItem) (well : IsWellFormed pipes) (joined : AreJoined pipes past waiting)
      (memory : HadMemory pipes past) where
    source_ends : (pipe : Pipe) → Contains (heads pipes) source → slice_get pipes source ≡ Some pipe → is_source pipe.kind ≡ true → HeadEnds pipes past source source pipe
    source_ends pipe is there kind = record {
      all = source_takes pipes past source pipe there kind;
      ended = λ outcome is. inl refl;
    }

    lane_ends : (lane filler : ℕ) (pipe own : Pipe) → IsFilled pipes lane filler pipe own → HeadEnds pipes past source filler own → HeadEnds pipes past source lane pipe
    lane_ends lane filler pipe own filled before =
        let strand = joined.strands filler filled.filler_is in
        let lane_is = joined.lanes lane filler filled.lane_is filled.filled in
        let end = is_told (past lane).ended lane_is.ends (ended lane filled.head_is) in
        let all = came_all (past filler) (past lane) lane (waiting lane) lane_is end.0 end.1.come in
        let long = memory lane filler filled.lane_is filled.filled in
        let kind : end_by false (past filler).ended ≡ end.0 = sym (ap (λ short. end_by short (past filler).ended) long) ∙ all.end in
        let tells : (outcome : Outcome) → (past filler).ended ≡ Some outcome → (past lane).ended ≡ Some (outcome_behind outcome) =
        λ outcome is. end.1.tells outcome (sym (ap (end_by false) is) ∙ kind) in
        record {
          all = flow_came pipes lane (past lane) pipe (joined.strands lane filled.head_is) filled.behind.there filled.none ∙ all.packets
              ∙ strand.all_over lane pipe filled.outlet filled.behind.there long all.closed
              ∙ all_behind pipes past well source lane filler pipe own filled.behind strand (same_doing filler own before) before.all;
          ended = λ outcome is. inr (elim (before.ended outcome is) [
            | inl same ↦ tells outcome (ap (λ at. (past at).ended) same ∙ is)
            | inr behind ↦ tells (outcome_behind outcome) behind ∙ ap Some (behind_twice outcome)
          ]);
        }

    pub heads_end : (head : ℕ) (pipe : Pipe) → Contains (heads pipes) head → source_of pipes head ≡ Some source → slice_get pipes head ≡ Some pipe
        → HeadEnds pipes past source head pipe
    heads_end head pipe is of there = along_lanes pipes well (HeadEnds pipes past source) source source_ends lane_ends head pipe is of there
