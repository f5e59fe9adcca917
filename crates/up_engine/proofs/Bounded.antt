-- A net's strands are joined, so no more comes through a lane than was sent, and no more is sent than what the sources gave is due to give.
use Rattle.std.proofs.Common.{◌≡◌, ℕ, suc, ◌+◌, ◌<◌, ◌≤◌, List, [], ◌∷◌, ◌++◌, length, get_or, map, Bool, true, false, Option, Some, slice_get, sym, ap, ◌∙◌, subst, arith, length-append, if◌then◌else◌, inl, inr}
use Rattle.std.specs.List.{Contains}
use Rattle.std.specs.Option.{option_map_or}
use Rattle.std.proofs.lemmas.List.{length-map}
use Rattle.std.proofs.lemmas.Option.{slice_get_cases, slice_get_within}
use Rattle.up_base.specs.Lists.{IsPrefix}
use Rattle.up_engine.proofs.Asking.{past_of}
use Rattle.up_engine.proofs.Fillers.{lane_is_fed, lane_is_head}
use Rattle.up_engine.proofs.FirstParts.{is_given_first}
use Rattle.up_engine.proofs.Items.{sent_of}
use Rattle.up_engine.proofs.Standing.{number_is, waiting}
use Rattle.up_engine.specs.Flows.{AreJoined, IsPastOf, flow_meant}
use Rattle.up_engine.specs.Joins.{IsJoined, PlainItem, filler_of, items_come, items_sent}
use Rattle.up_engine.specs.Nets.{NetStands, items_due, head_at}
use Rattle.up_engine.specs.declared.net.Net.{Net}
use Rattle.up_model.proofs.Members.{passing_pipe}
use Rattle.up_model.proofs.WellFormed.{comes_to_source}
use Rattle.up_model.specs.Inputs.{source_of}
use Rattle.up_model.specs.Packet.{Flow}
use Rattle.up_model.specs.Plans.{heads, is_fed, lanes}
use Rattle.up_model.specs.declared.pipe.Pipe.{Pipe}
use Rattle.up_model.specs.declared.plain_packet.PlainPacket.{PlainPacket}
use Rattle.up_outside.specs.States.{SourceState, SinkState}
use Rattle.up_queue.specs.declared.end_kind.EndKind.{EndKind}
use Rattle.up_queue.specs.declared.item.Item.TheVariants.{Packet, End}
use Rattle.up_strand.specs.History.{History, end_by}
use Rattle.up_strand.specs.declared.strand.Strand.{Strand}

-- one of a list that isn't empty
pub some_one : {X : Type 0} (items : List X) (i : ℕ) → i < length items → X
some_one items i within = elim (slice_get_cases items i).1 [ inl there ↦ there.0 | inr past ↦ absurd (let behind = past.0 in omega (arith, behind, within)) ]

end_is_one : (closed : Bool) (kind : EndKind) → length {A = PlainItem} (if closed then End kind ∷ [] else []) ≤ 1
end_is_one true kind = omega arith
end_is_one false kind = omega arith

mapped_then : {X Y : Type 0} (f : X → Y) (xs : List X) (ys : List Y) → length (map f xs ++ ys) ≡ length xs + length ys
mapped_then f xs ys = length-append (map f xs) ys ∙ ap (λ (n : ℕ). n + length ys) (length-map xs f)

sent_length : (sent : Flow) (closed : Bool) (kind : EndKind) → length (sent_of sent closed kind) ≤ suc (length sent)
sent_length sent closed kind =
    let all : length (sent_of sent closed kind) ≡ length sent + length {A = PlainItem} (if closed then End kind ∷ [] else []) =
    mapped_then Packet sent (if closed then End kind ∷ [] else []) in
    let one = end_is_one closed kind in
    omega (arith, all, one)

pub first_is_shorter : (front whole : Flow) → IsPrefix front whole → length front ≤ length whole
first_is_shorter front whole first = omega (arith, ap length first.1, length-append front first.0)

come_is_shorter : (come waits sent : List PlainItem) → come ++ waits ≡ sent → length come ≤ length sent
come_is_shorter come waits sent all = omega (arith, ap length all, length-append come waits)

module _ {P S K : Type 0} (plain : P → PlainPacket) (reads : S → SourceState) (writes : K → SinkState) (pipes : List Pipe) (past : ℕ → History)
    (net : Net P S K) (stands : NetStands plain reads writes net pipes past) where
  abbrev waits_at : ℕ → List PlainItem
  waits_at lane = waiting plain reads writes pipes past net (get_or net.numbers.items lane 0)

  strand_past : (head : ℕ) → Contains (heads pipes) head → IsPastOf pipes head (past head)
  strand_past head there =
      let number = number_is plain reads writes pipes past net stands head there in
      let count = stands.shape.strands in
      let inside = number.1 in
      let d : Strand P S K = some_one net.strands.items number.0 (omega (arith, count, inside)) in
      subst (λ (place : ℕ). IsPastOf pipes place (past place)) number.2
      (past_of plain reads writes (get_or net.strands.items number.0 d) (past (head_at pipes number.0)) (stands.strands number.0 d number.1) pipes (head_at pipes number.0)
      (stands.graphs number.0 number.1) (stands.places number.0 number.1))

  pub net_joined : AreJoined pipes past waits_at
  net_joined = record {
    strands = strand_past;
    lanes = λ lane filler is filled.
        let number = number_is plain reads writes pipes past net stands lane (lane_is_head pipes lane is) in
        let here : IsJoined (past filler) (past (head_at pipes number.0)) (head_at pipes number.0) (waiting plain reads writes pipes past net number.0) =
        stands.joined number.0 filler number.1 (ap (filler_of pipes) number.2 ∙ filled) in
        subst (λ (n : ℕ). IsJoined (past filler) (past lane) lane (waiting plain reads writes pipes past net n)) (sym number.3)
        (subst (λ (place : ℕ). IsJoined (past filler) (past place) place (waiting plain reads writes pipes past net number.0)) number.2 here);
  }

  due_is : (lane source : ℕ) (pipe : Pipe) → slice_get pipes lane ≡ Some pipe → source_of pipes lane ≡ Some source
      → items_due pipes past lane ≡ suc (length (flow_meant pipes past source lane pipe))
  due_is lane source pipe there of =
      ap (λ (p : Option Pipe). option_map_or (λ (pipe : Pipe). option_map_or (λ (source : ℕ). suc (length (flow_meant pipes past source lane pipe))) (source_of pipes lane) 0) p 0) there
      ∙ ap (λ (s : Option ℕ). option_map_or (λ (source : ℕ). suc (length (flow_meant pipes past source lane pipe))) s 0) of

  pub record IsWithinDue (lane filler : ℕ) : Type 0 where
    pub come : length (items_come (past lane)) ≤ length (items_sent (past filler) lane)
    pub sent : length (items_sent (past filler) lane) ≤ items_due pipes past lane

  pub lane_within : (lane filler : ℕ) → Contains (lanes pipes) lane → filler_of pipes lane ≡ Some filler → IsWithinDue lane filler
  lane_within lane filler is filled =
      let joined = net_joined.lanes lane filler is filled in
      let there = passing_pipe is_fed pipes lane (lane_is_fed pipes lane is) in
      let pipe = there.0 in
      let from = comes_to_source pipes stands.shape.well lane (slice_get_within pipes lane pipe there.1) in
      let first = (is_given_first pipes past waits_at stands.shape.well net_joined from.source lane pipe (lane_is_head pipes lane is) from.reached there.1).sent filler is filled in
      let short = sent_length ((past filler).sent lane) ((past filler).closed lane) (end_by (past filler).short (past filler).ended) in
      let due = due_is lane from.source pipe there.1 from.reached in
      let within = first_is_shorter ((past filler).sent lane) (flow_meant pipes past from.source lane pipe) first in
      record {
        come = come_is_shorter (items_come (past lane)) (waits_at lane) (items_sent (past filler) lane) joined.all;
        sent = omega (arith, short, due, within);
      }
