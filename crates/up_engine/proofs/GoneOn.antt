-- What a strand did that went on, and what went through the lanes by then: nothing of what it sent changed.
use Rattle.std.proofs.Common.{◌≡◌, ◌≢◌, ℕ, ◌<◌, List, [], ◌++◌, length, get_or, map, None, Some, refl, sym, ap, ◌∙◌, subst, append-nil}
use Rattle.std.specs.List.{Contains}
use Rattle.up_engine.proofs.Asking.{lane_is_open}
use Rattle.up_engine.proofs.Fillers.{filled_is_lane, filled_is_outlet, head_there}
use Rattle.up_engine.proofs.Items.{at_each, sent_open}
use Rattle.up_engine.proofs.Standing.{LaneStep, now, now_other, waiting}
use Rattle.up_engine.specs.Joins.{filler_of, items_come, items_sent, plain_item}
use Rattle.up_engine.specs.Nets.{GoesOn, NetStands, head_at, items_at}
use Rattle.up_engine.specs.declared.net.Net.{Net}
use Rattle.up_model.specs.Packet.{Flow}
use Rattle.up_model.specs.Plans.{heads, outlets_of}
use Rattle.up_model.specs.declared.pipe.Pipe.{Pipe}
use Rattle.up_model.specs.declared.plain_packet.PlainPacket.{PlainPacket}
use Rattle.up_outside.specs.States.{SourceState, SinkState}
use Rattle.up_queue.specs.declared.item.Item.{Item}
use Rattle.up_strand.specs.History.{History, end_by}
use Rattle.up_strand.specs.StrandCalls.{Stepped}
use Rattle.up_strand.specs.Strands.{IsEndOfLane}
use Rattle.up_strand.specs.declared.strand.Strand.{Strand}

module _ {P S K : Type 0} (plain : P → PlainPacket) (reads : S → SourceState) (writes : K → SinkState) (pipes : List Pipe) (past : ℕ → History)
    (net : Net P S K) (stands : NetStands plain reads writes net pipes past) (new : Net P S K) (i : ℕ) (within : i < length (heads pipes)) where
  -- a lane through which nothing went
  pub still_lane : (h : History) (k filler : ℕ) → k < length (heads pipes) → k ≢ i → filler_of pipes (head_at pipes k) ≡ Some filler
      → items_sent (now plain reads writes pipes past net stands new i within h filler) (head_at pipes k) ≡ items_sent (past filler) (head_at pipes k)
      → items_at new.lanes.items k ≡ items_at net.lanes.items k
      → LaneStep plain reads writes pipes past net stands new i within h k filler
  still_lane h k filler inside other filled sent same =
      let was = now_other plain reads writes pipes past net stands new i within h k inside other in
      record {
        came = [];
        more = [];
        come = ap items_come was ∙ sym (append-nil (items_come (past (head_at pipes k))));
        sent = sent ∙ sym (append-nil (items_sent (past filler) (head_at pipes k)));
        waits = ap (λ (items : List (Item P)). map (plain_item plain) items) same ∙ sym (append-nil (waiting plain reads writes pipes past net k));
        ends = subst (λ (g : History). IsEndOfLane g.ended) (sym was) (stands.joined k filler inside filled).ends;
      }

  module _ (strand : Strand P S K) (came : Flow) (step : Stepped plain reads writes strand (past (head_at pipes i)) came) (going : (past (head_at pipes i)).ended ≡ None)
      (d : Strand P S K) where
    abbrev before : History
    before = past (head_at pipes i)

    abbrev pub went : History
    went = record before {
      source_now = step.source_now;
      sinks_now = step.sinks_now;
      read = before.read ++ step.read;
      came = before.came ++ came;
      fed = before.fed ++ step.fed;
      ended = step.ended;
      short = step.short;
      failed = step.failed;
    }

    abbrev later : ℕ → History
    later = now plain reads writes pipes past net stands new i within went

    sends_no_more : (lane : ℕ) → Contains (outlets_of pipes (head_at pipes i)) lane → items_sent went lane ≡ items_sent before lane
    sends_no_more lane outlet =
        let place : Contains (outlets_of before.pipes before.head) lane =
        subst (λ (n : ℕ). Contains (outlets_of before.pipes n) lane) (sym (stands.places i within))
        (subst (λ (ps : List Pipe). Contains (outlets_of ps (head_at pipes i)) lane) (sym (stands.graphs i within)) outlet) in
        sent_open (before.sent lane) (before.closed lane) (end_by step.short step.ended) (end_by before.short before.ended)
        (lane_is_open plain reads writes (get_or net.strands.items i d) before (stands.strands i d within) lane going place)

    -- nothing more was sent
    pub same_sent : (lane filler : ℕ) → Contains (heads pipes) lane → filler_of pipes lane ≡ Some filler → items_sent (later filler) lane ≡ items_sent (past filler) lane
    same_sent lane filler head filled =
        at_each (head_at pipes i) went past (λ (p : ℕ) (g : History). filler_of pipes lane ≡ Some p → items_sent g lane ≡ items_sent (past p) lane)
        (λ fills. sends_no_more lane (filled_is_outlet pipes (head_at pipes i) lane (filled_is_lane pipes stands.shape.well (head_at pipes i) lane head fills) fills))
        filler (λ other fills. refl) filled

    pub still_step : (k filler : ℕ) → k < length (heads pipes) → k ≢ i → filler_of pipes (head_at pipes k) ≡ Some filler
        → items_at new.lanes.items k ≡ items_at net.lanes.items k
        → LaneStep plain reads writes pipes past net stands new i within went k filler
    still_step k filler inside other filled same =
        still_lane went k filler inside other filled (same_sent (head_at pipes k) filler (head_there pipes k inside) filled) same

    pub gone_on : (head : ℕ) → GoesOn (past head) (later head)
    gone_on head = at_each (head_at pipes i) went past (λ (p : ℕ) (g : History). GoesOn (past p) g) (record { source = refl; sinks = refl }) head
        (λ other. record { source = refl; sinks = refl })
