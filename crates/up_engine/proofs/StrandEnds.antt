-- How the strands of a net ended, by the places of their heads.
use Rattle.std.proofs.Common.{◌≡◌, ℕ, ◌+◌, ◌<◌, ◌≤◌, List, length, get_or, true, false, None, Some, slice_get, ap, ◌∙◌, subst, arith, inl, inr}
use Rattle.std.specs.List.{Contains}
use Rattle.std.proofs.lemmas.Option.{slice_get_cases}
use Rattle.up_base.specs.Lists.{IsPrefix}
use Rattle.up_engine.proofs.Fillers.{head_number}
use Rattle.up_engine.specs.Flows.{HaveEnded}
use Rattle.up_engine.specs.Nets.{IsOver, NetStands, head_at}
use Rattle.up_engine.specs.declared.net.Net.{Net}
use Rattle.up_model.specs.Ends.{is_source}
use Rattle.up_model.specs.Outcomes.{is_cause, own_outcome, settled_source_flow, shown_of}
use Rattle.up_model.specs.Plans.{heads}
use Rattle.up_model.specs.declared.form.SourceForm.{SourceForm}
use Rattle.up_model.specs.declared.kind.Kind.TheVariants.{Source}
use Rattle.up_model.specs.declared.outcome.Outcome.{Outcome}
use Rattle.up_model.specs.declared.pipe.Pipe.{Pipe}
use Rattle.up_model.specs.declared.plain_packet.PlainPacket.{PlainPacket}
use Rattle.up_outside.specs.States.{SourceState, SinkState}
use Rattle.up_strand.proofs.HeadFlows.{few_read_of_head, long_of_head, source_ended, unshown_at_fault}
use Rattle.up_strand.proofs.HeadPackets.{settled_first}
use Rattle.up_strand.proofs.LaneFlows.{ended_of_done}
use Rattle.up_strand.specs.History.{History, head_flow}
use Rattle.up_strand.specs.Strands.{StandsFor, ended_at_fault, want_of}
use Rattle.up_strand.specs.declared.strand.Strand.{Strand}
use Rattle.up_strand.specs.declared.want.Want.TheVariants.{Done}

-- the source of a head gave at most one byte past its limit; where a read failed, its bytes show no other cause; and while it goes on it
-- put out packets that they hold whatever comes behind them
pub record SourceStands (pipes : List Pipe) (head : ℕ) (h : History) : Type 0 where
  pub few : (pipe : Pipe) (path : List ℕ) (form : SourceForm) (limit : ℕ) → slice_get pipes head ≡ Some pipe
      → pipe.kind ≡ Source path form limit → length h.read ≤ limit + 1
  pub unshown : (pipe : Pipe) → slice_get pipes head ≡ Some pipe → ended_at_fault h.ended ≡ true → shown_of pipe.kind h.read ≡ None
  pub settled : (pipe : Pipe) → slice_get pipes head ≡ Some pipe → is_source pipe.kind ≡ true → h.ended ≡ None
      → IsPrefix h.fed (settled_source_flow pipe.kind h.read)

-- what the head of a strand was fed, and how its flow ended where it is a source
pub record EndsAs (pipes : List Pipe) (head : ℕ) (h : History) : Type 0 where
  pub graph : h.pipes ≡ pipes
  pub place : h.head ≡ head
  pub fed : h.short ≡ false → h.fed ≡ head_flow h
  pub own : (pipe : Pipe) (outcome : Outcome) → h.short ≡ false → slice_get pipes head ≡ Some pipe → is_source pipe.kind ≡ true
      → h.ended ≡ Some outcome → own_outcome pipe.kind (ended_at_fault h.ended) h.read ≡ Some outcome
  pub long : (pipe : Pipe) (outcome : Outcome) → slice_get pipes head ≡ Some pipe → is_source pipe.kind ≡ true
      → h.ended ≡ Some outcome → is_cause outcome ≡ true → h.short ≡ false
  pub gave : SourceStands pipes head h

module _ {P S K : Type 0} (plain : P → PlainPacket) (reads : S → SourceState) (writes : K → SinkState) where
  ends_as : (strand : Strand P S K) (h : History) → StandsFor plain reads writes strand h → (pipes : List Pipe) (head : ℕ) → h.pipes ≡ pipes → h.head ≡ head
      → EndsAs pipes head h
  ends_as strand h stands pipes head graph place =
      let there : (pipe : Pipe) → slice_get pipes head ≡ Some pipe → slice_get h.pipes h.head ≡ Some pipe =
      λ pipe at. ap (λ ps. slice_get ps h.head) graph ∙ ap (slice_get pipes) place ∙ at in
      record {
        graph = graph;
        place = place;
        fed = stands.fed.all;
        own = λ pipe outcome long at source ended. source_ended reads strand.intake h pipe outcome stands.intake long (there pipe at) source ended;
        long = λ pipe outcome at source ended cause. long_of_head reads strand.intake h pipe outcome stands.intake (there pipe at) source ended cause;
        gave = record {
          few = λ pipe path form limit at kind. few_read_of_head reads strand.intake h pipe path form limit stands.intake (there pipe at) kind;
          unshown = λ pipe at fault. unshown_at_fault reads strand.intake h pipe stands.intake (there pipe at) fault;
          settled = λ pipe at source on. settled_first reads strand.intake h pipe stands.intake (there pipe at) source on;
        };
      }

  module _ (pipes : List Pipe) (past : ℕ → History) (net : Net P S K) (stands : NetStands plain reads writes net pipes past) where
    -- the strand of a head
    record IsStrandOf (head : ℕ) : Type 0 where
      pub strand : Strand P S K
      pub did : StandsFor plain reads writes strand (past head)
      pub graph : (past head).pipes ≡ pipes
      pub place : (past head).head ≡ head
      pub done : IsOver net pipes → want_of strand ≡ Done

    at_number : (i : ℕ) → i < length (heads pipes) → Strand P S K → IsStrandOf (head_at pipes i)
    at_number i within d = record {
      strand = get_or net.strands.items i d;
      did = stands.strands i d within;
      graph = stands.graphs i within;
      place = stands.places i within;
      done = λ over. over.strands i d within;
    }

    strand_of_head : (head : ℕ) → Contains (heads pipes) head → IsStrandOf head
    strand_of_head head is =
        let number = head_number pipes head is in
        let count = stands.shape.strands in
        let within = number.1 in
        elim (slice_get_cases net.strands.items number.0).1 [
          | inl there ↦ subst IsStrandOf number.2 (at_number number.0 number.1 there.0)
          | inr past_end ↦ absurd (let behind = past_end.0 in omega (arith, count, within, behind))
        ]

    pub strands_end : (head : ℕ) → Contains (heads pipes) head → EndsAs pipes head (past head)
    strands_end head is = let own = strand_of_head head is in ends_as own.strand (past head) own.did pipes head own.graph own.place

    -- every flow has ended where nothing is left to be done
    pub have_ended : IsOver net pipes → HaveEnded pipes past
    have_ended over head is = let own = strand_of_head head is in ended_of_done plain reads writes own.strand (past head) own.did (own.done over)
