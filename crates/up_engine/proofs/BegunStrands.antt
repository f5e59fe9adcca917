-- Strands that did nothing yet are joined too.
use Rattle.std.proofs.Common.{◌≡◌, ℕ, List, [], length, false, true, Option, refl, sym, ap, ◌∙◌, subst, arith}
use Rattle.std.specs.List.{Contains}
use Rattle.up_base.specs.Lists.{IsPrefix}
use Rattle.up_engine.proofs.Fillers.{filler_is_head, lane_is_head}
use Rattle.up_engine.proofs.StrandEnds.{SourceStands}
use Rattle.up_engine.specs.Flows.{AreJoined, IsPastOf}
use Rattle.up_engine.specs.Joins.{IsJoined}
use Rattle.up_engine.specs.Making.{AllBegin, source_told}
use Rattle.up_engine.specs.Objects.{object_at}
use Rattle.up_engine.specs.declared.object.Object.{Object}
use Rattle.up_model.specs.Outcomes.{settled_source_flow}
use Rattle.up_model.specs.Packet.{Flow}
use Rattle.up_model.specs.Plans.{heads}
use Rattle.up_model.specs.declared.pipe.Pipe.{Pipe}
use Rattle.up_outside.specs.States.{SourceState, SinkState}
use Rattle.up_strand.specs.History.{History, doing}
use Rattle.up_strand.specs.StrandCalls.{begun, flow_due}
use Rattle.up_strand.specs.Strands.{ended_at_fault}

begun_past : (pipes : List Pipe) (head : ℕ) (source : Option SourceState) (told : ℕ → SinkState) → IsPastOf pipes head (begun pipes head source told)
begun_past pipes head source told = record {
  graph = refl;
  place = refl;
  first = λ lane pipe outlet there. (flow_due (begun pipes head source told) lane pipe (doing (begun pipes head source told).ended), refl);
  over = λ lane outlet closed. absurd (let no : false ≡ true = closed in cc);
  all_over = λ lane pipe outlet there long closed. absurd (let no : false ≡ true = closed in cc);
}

begun_lane : (pipes : List Pipe) (filler lane : ℕ) (source other : Option SourceState) (told seen : ℕ → SinkState)
    → IsJoined (begun pipes filler source told) (begun pipes lane other seen) lane []
begun_lane pipes filler lane source other told seen = record { all = refl; ends = tt }

module _ {S K : Type 0} (reads : S → SourceState) (writes : K → SinkState) (pipes : List Pipe) (table : List (Object S K)) (past : ℕ → History)
    (begins : AllBegin reads writes pipes table past) where
  abbrev told_of : ℕ → Option SourceState
  told_of head = source_told reads writes pipes (object_at table head)

  pub begun_joined : AreJoined pipes past (λ lane. [])
  begun_joined = record {
    strands = λ head is. let own = begins head is in subst (IsPastOf pipes head) (sym own.begins) (begun_past pipes head (told_of head) own.told);
    lanes = λ lane filler is filled.
        let own = begins lane (lane_is_head pipes lane is) in
        let from = begins filler (filler_is_head pipes filler lane filled) in
        subst (λ (h : History). IsJoined h (past lane) lane []) (sym from.begins)
        (subst (λ (h : History). IsJoined (begun pipes filler (told_of filler) from.told) h lane []) (sym own.begins) (begun_lane pipes filler lane (told_of filler) (told_of lane) from.told own.told));
  }

  pub begun_gave : (head : ℕ) → Contains (heads pipes) head → SourceStands pipes head (past head)
  begun_gave head is =
      let begun = (begins head is).begins in
      let none : length (past head).read ≡ 0 = ap (λ (h : History). length h.read) begun in
      let unfed : (past head).fed ≡ [] = ap (λ (h : History). h.fed) begun in
      let fine : ended_at_fault (past head).ended ≡ false = ap (λ (h : History). ended_at_fault h.ended) begun in
      record {
        few = λ pipe path form limit there kind. omega (arith, none);
        unshown = λ pipe there fault. absurd (let no : true ≡ false = sym fault ∙ fine in cc);
        settled = λ pipe there source on.
            let flow = settled_source_flow pipe.kind (past head).read in
            subst (λ (fed : Flow). IsPrefix fed flow) (sym unfed) (flow, refl);
      }
