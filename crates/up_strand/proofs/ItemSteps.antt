-- What a strand behind a lane did, once it took the next item of the lane.
use Rattle.std.proofs.Common.{◌≡◌, ℕ, [], ◌++◌, length, Bool, true, false, not, Option, Some, None, slice_get, refl, sym, ap, ◌∙◌, append-nil, if◌then◌else◌}
use Rattle.std.specs.Option.{option_map_or}
use Rattle.up_base.specs.Lists.{IsPrefix}
use Rattle.up_model.specs.Ends.{is_source}
use Rattle.up_model.specs.Packet.{Flow}
use Rattle.up_model.specs.declared.outcome.Outcome.{Outcome}
use Rattle.up_model.specs.declared.pipe.Pipe.{Pipe}
use Rattle.up_model.specs.declared.plain_packet.PlainPacket.{PlainPacket}
use Rattle.up_outside.specs.States.{SourceState, SinkState}
use Rattle.up_strand.proofs.ReadSteps.{fed_more, fed_still, same_first}
use Rattle.up_queue.specs.declared.end_kind.EndKind.{EndKind}
use Rattle.up_queue.specs.declared.item.Item.{Item}
use Rattle.up_queue.specs.declared.item.Item.TheVariants.{Packet, End}
use Rattle.up_strand.proofs.StrandSteps.{goes_on, looked_as, none_is_ready, sinks_after, source_in, stepped_on, still_stopped, still_told, tree_going}
use Rattle.up_strand.specs.History.{History, head_flow, carried_by}
use Rattle.up_strand.specs.Steps.{IsGoing, OnceLooked, TreeIs, TreeTook, taken_where}
use Rattle.up_strand.specs.StrandCalls.{SteppedItem, end_in, is_done, is_output, packets_in}
use Rattle.up_strand.specs.Strands.{IsBehindLane, IsEndOfLane, StandsFor, StandsForSome, StrandFits, first_ready, has_failed_at, want_of}
use Rattle.up_strand.specs.declared.intake.Intake.{Intake}
use Rattle.up_strand.specs.declared.intake.Intake.TheVariants.{FromSource, FromFrames, FromLane}
use Rattle.up_strand.specs.declared.strand.Strand.{Strand}
use Rattle.up_strand.specs.declared.tree.Tree.{Tree}
use Rattle.up_strand.specs.declared.want.Want.TheVariants.{Read, Input}

-- the head behind a lane has what came through it
flow_of_lane : (h : History) (pipe : Option Pipe) → option_map_or (λ p. not (is_source p.kind)) pipe false ≡ true
    → option_map_or (λ p. if is_source p.kind then carried_by h.ended h.fed p.kind h.read else h.came) pipe [] ≡ h.came
flow_of_lane h None fed = absurd (cc)
flow_of_lane h (Some pipe) fed = by_source (is_source pipe.kind) refl
  where
    by_source : (b : Bool) → is_source pipe.kind ≡ b → (if is_source pipe.kind then carried_by h.ended h.fed pipe.kind h.read else h.came) ≡ h.came
    by_source true is = let wrong : false ≡ true = rw is at fed in absurd (cc)
    by_source false is = rw is refl

module _ {P S K : Type 0} (plain : P → PlainPacket) (reads : S → SourceState) (writes : K → SinkState)
    (old : Strand P S K) (tree : Tree P K) (ended : Option Outcome) (ready : ℕ) (h : History) (came fed : Flow)
    (wants : want_of old ≡ Input) (stood : StandsFor plain reads writes old h) where
  not_output : is_output (want_of old) ≡ false
  not_output = ap is_output wants

  not_done : is_done (want_of old) ≡ false
  not_done = ap is_done wants

  pub going : h.ended ≡ None
  going = sym stood.ended.ended ∙ goes_on old not_output not_done

  behind : (intake : Intake S) → old.intake ≡ intake → old.intake ≡ FromLane
  behind FromLane is = is
  behind (FromSource source block limit left) is =
      let none = none_is_ready old not_output in
      let none_ended = goes_on old not_output not_done in
      let wrong : Read ≡ Input = rw (none, none_ended, is) at wants in absurd (cc)
  behind (FromFrames frames) is =
      let none = none_is_ready old not_output in
      let none_ended = goes_on old not_output not_done in
      let wrong : Read ≡ Input = rw (none, none_ended, is) at wants in absurd (cc)

  lane_stands : IsBehindLane h
  lane_stands = rw (behind old.intake refl) at stood.intake

  abbrev stepped : Strand P S K
  stepped = record old { tree = tree; ended = ended; last = None; ready = ready }

  abbrev did : History
  did = record h {
    source_now = source_in reads old.intake;
    sinks_now = sinks_after plain reads writes old h stepped;
    read = h.read ++ [];
    came = h.came ++ came;
    fed = h.fed ++ fed;
    ended = ended;
    short = tree.short;
    failed = has_failed_at stepped;
  }

  pub flow_before : head_flow h ≡ h.came
  flow_before = flow_of_lane h (slice_get h.pipes h.head) lane_stands.fed

  flow_after : head_flow did ≡ h.came ++ came
  flow_after = flow_of_lane did (slice_get h.pipes h.head) lane_stands.fed

  -- the item was taken
  pub lane_step : IsEndOfLane ended → TreeTook plain writes old.tree tree fed → TreeIs tree ended
      → ready ≡ option_map_or (λ i. i) (first_ready stepped) (length tree.nodes.items)
      → IsPrefix (h.fed ++ fed) (h.came ++ came) × (tree.short ≡ false → h.fed ++ fed ≡ h.came ++ came)
      → StandsFor plain reads writes stepped did
  lane_step ends took is found fed_so =
      stepped_on plain reads writes old tree old.intake ended ready h [] came fed not_output not_done
      took.order took.nodes.count took.nodes.placed stood took.nodes.stand is found
      (rw flow_after fed_so)
      (rw (behind old.intake refl) (record {
        fed = lane_stands.fed;
        none = lane_stands.none;
        none_now = refl;
        alone = append-nil h.read ∙ lane_stands.alone;
        ends = ends;
      }))

  -- it has no source
  source_stays : source_in reads old.intake ≡ h.source_now
  source_stays = ap (source_in reads) (behind old.intake refl) ∙ sym lane_stands.none_now

  stays : TreeTook plain writes old.tree tree fed → h.short ≡ true → tree.short ≡ true
  stays took short = took.stays (stood.ended.short ∙ short)

module _ {P S K : Type 0} (plain : P → PlainPacket) (reads : S → SourceState) (writes : K → SinkState) (old : Strand P S K) (wants : want_of old ≡ Input) where
  -- the strand goes on
  pub old_goes_on : old.ended ≡ None
  old_goes_on = goes_on old (ap is_output wants) (ap is_done wants)

  pub old_is_going : {F : Type 0} (fits : P → F → Type 0) (family : F) → StandsForSome plain reads writes old → StrandFits old fits family
      → IsGoing plain writes fits family old.tree
  old_is_going fits family stood fit = tree_going plain reads writes fits family old stood.0 stood.1 (sym stood.1.ended.ended ∙ old_goes_on) fit

  module _ (item : Item P) (now : Strand P S K) (ended : Option Outcome) (fed : Flow) (same : now ≡ record old { tree = now.tree; ended = ended })
      (ends : IsEndOfLane ended) (is_end : ended ≡ end_in item) (none : old.tree.short ≡ true → fed ≡ []) (took : TreeTook plain writes old.tree now.tree fed) (is : TreeIs now.tree ended) where
    -- it took the item
    item_taken : ((h : History) → StandsFor plain reads writes old h
        → IsPrefix (h.fed ++ fed) (h.came ++ packets_in plain item) × (now.tree.short ≡ false → h.fed ++ fed ≡ h.came ++ packets_in plain item))
        → OnceLooked now (λ strand. (h : History) → StandsFor plain reads writes old h → SteppedItem plain reads writes strand h item)
    item_taken fed_so =
        looked_as (λ strand. (h : History) → StandsFor plain reads writes old h → SteppedItem plain reads writes strand h item)
        now (record old { tree = now.tree; ended = ended }) same
        (λ ready found h stood. record {
          step = record {
            read = [];
            fed = fed;
            ended = ended;
            short = now.tree.short;
            failed = has_failed_at (record old { tree = now.tree; ended = ended; last = None; ready = ready });
            source_now = source_in reads old.intake;
            sinks_now = sinks_after plain reads writes old h (record old { tree = now.tree; ended = ended; last = None; ready = ready });
            stands = lane_step plain reads writes old now.tree ended ready h (packets_in plain item) fed wants stood ends took is found (fed_so h stood);
            stays = λ short. took.stays (stood.ended.short ∙ short);
            stopped = still_stopped plain reads writes old h (record old { tree = now.tree; ended = ended; last = None; ready = ready }) stood refl
                took.nodes.count took.nodes.placed;
            given_up = λ short. (
              none (stood.ended.short ∙ short),
              still_told plain reads writes old h (record old { tree = now.tree; ended = ended; last = None; ready = ready }) stood refl
                  took.nodes.count took.nodes.placed short,
            );
          };
          unread = refl;
          source_stays = source_stays plain reads writes old now.tree ended ready h [] fed wants stood;
          ended = is_end;
        })

  lane_flow : (h : History) → StandsFor plain reads writes old h → head_flow h ≡ h.came
  lane_flow h stood = flow_before plain reads writes old old.tree None 0 h [] [] wants stood

  -- it took a packet
  pub packet_taken : (p : P) (now : Strand P S K) → now ≡ record old { tree = now.tree } → TreeTook plain writes old.tree now.tree (taken_where old.tree.short (plain p))
      → TreeIs now.tree None → OnceLooked now (λ strand. (h : History) → StandsFor plain reads writes old h → SteppedItem plain reads writes strand h (Packet p))
  packet_taken p now same took is =
      item_taken (Packet p) now None (taken_where old.tree.short (plain p)) (same ∙ ap (λ (e : Option Outcome). record old { tree = now.tree; ended = e }) old_goes_on)
      tt refl (λ short. rw short refl) took is
      (λ h stood.
      let flow = lane_flow h stood in
      fed_more h.fed h.came (plain p) old.tree.short now.tree.short took.stays (rw flow at stood.fed.first)
      (λ long. stood.fed.all (sym stood.ended.short ∙ long) ∙ flow))

  -- and the end of the lane
  pub end_taken : (kind : EndKind) (outcome : Outcome) (now : Strand P S K) → now ≡ record old { tree = now.tree; ended = Some outcome }
      → IsEndOfLane (Some outcome) → Some outcome ≡ end_in {P = P} (End kind) → TreeTook plain writes old.tree now.tree [] → TreeIs now.tree (Some outcome)
      → OnceLooked now (λ strand. (h : History) → StandsFor plain reads writes old h → SteppedItem plain reads writes strand h (End kind))
  end_taken kind outcome now same ends is_end took is =
      item_taken (End kind) now (Some outcome) [] same ends is_end (λ short. refl) took is
      (λ h stood.
      let flow = lane_flow h stood in
      fed_still h.fed h.came (h.came ++ []) old.tree.short now.tree.short took.stays (rw flow at stood.fed.first)
      (λ long. stood.fed.all (sym stood.ended.short ∙ long) ∙ flow)
      (same_first h.came (h.came ++ []) (append-nil h.came)) (λ long. append-nil h.came))
