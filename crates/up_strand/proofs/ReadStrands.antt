-- What a strand whose head is a source did, once it took what the source gave.
use Rattle.std.proofs.Common.{◌≡◌, ◌≢◌, ℕ, ◌+◌, ◌-◌, ◌*◌, ◌<◌, ◌≤◌, List, [], ◌∷◌, ◌++◌, append-nil, length, take, Bool, true, false, Option, Some, None, slice_get, refl, sym, ap, ◌∙◌, subst, arith, length-append}
use Rattle.std.specs.Option.{option_map_or}
use Rattle.std.specs.Prelude.{MatchOption}
use Rattle.up_base.specs.Lists.{IsPrefix}
use Rattle.up_model.proofs.Counting.{count_with_bytes-few}
use Rattle.up_model.proofs.Packets.{plain_is_legal}
use Rattle.up_model.specs.Cutting.{blocks, full_blocks}
use Rattle.up_model.specs.Packet.{Flow, IsLegal, plain as bare}
use Rattle.up_model.specs.declared.form.SourceForm.TheVariants.{Raw, Framed}
use Rattle.up_model.specs.declared.kind.Kind.TheVariants as kinds
use Rattle.up_model.specs.declared.outcome.Outcome.{Outcome}
use Rattle.up_model.specs.declared.outcome.Outcome.TheVariants as outcomes
use Rattle.up_model.specs.declared.pipe.Pipe.{Pipe}
use Rattle.up_model.specs.declared.plain_packet.PlainPacket.{PlainPacket}
use Rattle.up_outside.specs.Counts.{CountsOnce}
use Rattle.up_outside.specs.States.{SourceState, SinkState}
use Rattle.up_shape.specs.Stores.{StoreState, Stays}
use Rattle.up_strand.proofs.ReadSteps.{block_more, cutting_on, end_more, fault_more, flow_now, go_on, last_more, long_more, raw_told, raw_unshown, raw_whole, same_first}
use Rattle.up_strand.proofs.StrandSteps.{goes_on, looked_as, sinks_after, stepped_on, still_stopped, tree_going}
use Rattle.up_strand.specs.Gifts.{NodesFit}
use Rattle.up_strand.specs.History.{History, head_flow, carried_by}
use Rattle.up_strand.specs.Reads.{ReadsPacket, block_read_failed as is_fault_of}
use Rattle.up_strand.specs.Steps.{IsGoing, OnceLooked, TreeIs, TreeTook, ended_where}
use Rattle.up_strand.specs.StrandCalls.{SteppedRead, is_done, is_output}
use Rattle.up_strand.specs.Strands.{EndsRightly, IsCutting, StandsFor, StandsForSome, StrandFits, first_ready, has_failed_at, ended_at_fault, want_of}
use Rattle.up_strand.specs.declared.intake.Intake.TheVariants.{FromSource}
use Rattle.up_strand.specs.declared.source_packet.Next.{Next}
use Rattle.up_strand.specs.declared.source_packet.Next.TheVariants as nexts
use Rattle.up_strand.specs.declared.strand.Strand.{Strand}
use Rattle.up_strand.specs.declared.want.Want.TheVariants.{Read}

-- what it holds is of the family, where only its nodes took more
pub read_fits : {P S K F : Type 0} (fits : P → F → Type 0) (family middle : F) (old now : Strand P S K) → now.kept ≡ old.kept → middle ≡ family
    → NodesFit fits middle now.tree.nodes.items → StrandFits old fits family → StrandFits now fits family
read_fits {P} {F} fits family middle old now kept same nodes before = record {
  nodes = rw same at nodes;
  kept = subst (λ (k : Option P). MatchOption k (Unit {0}) (λ packet. fits packet family)) (sym kept) before.kept;
}

-- where memory runs out or not, no read failed
ended_no_fault : (short : Bool) → ended_at_fault (ended_where short) ≡ false
ended_no_fault true = refl
ended_no_fault false = refl

-- how much was read, where it was a block
ends_where : (block limit : ℕ) (rest : Option (List ℕ)) (h : History) (short : Bool) → h.short ≡ short → length h.read ≤ limit
    → EndsRightly (Raw block) limit rest h (ended_where short)
ends_where block limit rest h true is within = (is, omega arith)
ends_where block limit rest h false is within = (is, omega arith)

carried_where : (short : Bool) (path : List ℕ) (block limit : ℕ) (put : Flow) (bytes : List ℕ) → full_blocks block bytes ≡ put
    → carried_by (ended_where short) put (kinds.Source path (Raw block) limit) bytes ≡ put
carried_where true path block limit put bytes is = is
carried_where false path block limit put bytes is = refl

module _ {P S K : Type 0} (plain : P → PlainPacket) (reads : S → SourceState) (writes : K → SinkState)
    (old : Strand P S K) (wants : want_of old ≡ Read) where
  not_output : is_output (want_of old) ≡ false
  not_output = ap is_output wants

  not_done : is_done (want_of old) ≡ false
  not_done = ap is_done wants

  -- the strand goes on
  pub read_goes_on : old.ended ≡ None
  read_goes_on = goes_on old not_output not_done

  pub read_is_going : {F : Type 0} (fits : P → F → Type 0) (family middle : F) → middle ≡ family → StandsForSome plain reads writes old
      → StrandFits old fits family → IsGoing plain writes fits middle old.tree
  read_is_going fits family middle same stood fit =
      rw same (tree_going plain reads writes fits family old stood.0 stood.1 (sym stood.1.ended.ended ∙ read_goes_on) fit)

  module _ (source : S) (block limit left : ℕ) (from : old.intake ≡ FromSource source block limit left) where
    -- what it read before
    module _ (h : History) (stood : StandsFor plain reads writes old h) where
      pub was_reading : IsCutting (reads source) block limit left h
      was_reading = rw from at stood.intake

      pub was_going : h.ended ≡ None
      was_going = sym stood.ended.ended ∙ read_goes_on

      pub was_long : h.short ≡ false
      was_long = let ends = rw was_going at was_reading.reading.ends in ends.0

      pub tree_long : old.tree.short ≡ false
      tree_long = stood.ended.short ∙ was_long

      pub was_all : h.fed ≡ head_flow h
      was_all = stood.fed.all was_long

    -- what it read is a legal packet
    pub read_is_legal : StandsForSome plain reads writes old → (packet : PlainPacket) (taken : List ℕ) → packet ≡ bare taken → length taken ≤ block → IsLegal packet
    read_is_legal stood packet taken is within =
        let small = (was_reading stood.0 stood.1).in_block.1 in
        subst IsLegal (sym is) (plain_is_legal taken (omega (arith, small, within)))

    module _ (source_now : S) (left_now : ℕ) (taken : List ℕ) (ended : Option Outcome) (fed : Flow) (short : Bool) (h : History) where
      abbrev did : (ℕ → Bool) → (ℕ → SinkState) → History
      did failed sinks_now = record h {
        source_now = Some (reads source_now);
        sinks_now = sinks_now;
        read = h.read ++ taken;
        came = h.came ++ [];
        fed = h.fed ++ fed;
        ended = ended;
        short = short;
        failed = failed;
      }

      -- what is to be known of a history, that it goes on so
      pub record GoesOn (reading : IsCutting (reads source) block limit left h) : Type 0 where
        pub ends : (failed : ℕ → Bool) (sinks_now : ℕ → SinkState) → EndsRightly (Raw block) limit (reads source_now).left (did failed sinks_now) ended
        pub rest : ended ≡ None → length (h.read ++ taken) + left_now ≡ limit
        pub even : ended ≡ None → (count : ℕ) × (length (h.read ++ taken) ≡ count * block)
        pub moves : ended ≡ None → 0 < length taken
        pub put : ended ≡ None → h.fed ++ fed ≡ full_blocks block (h.read ++ taken)
        pub first : IsPrefix (h.fed ++ fed) (carried_by ended (h.fed ++ fed) (kinds.Source reading.reading.path (Raw block) limit) (h.read ++ taken))
        pub all : short ≡ false → h.fed ++ fed ≡ carried_by ended (h.fed ++ fed) (kinds.Source reading.reading.path (Raw block) limit) (h.read ++ taken)

    module _ {F : Type 0} (source_now : S) (left_now : ℕ) (next : Next P) (read : ReadsPacket plain block left (reads source) (reads source_now) next)
        (now : Strand P S K) (ended : Option Outcome) (fed : Flow)
        (same : now ≡ record old { tree = now.tree; intake = FromSource source_now block limit left_now; ended = ended })
        (took : TreeTook plain writes old.tree now.tree fed) (is : TreeIs now.tree ended) (before after : StoreState F)
        (fault : is_fault_of next ≡ ended_at_fault ended) (one : length fed ≤ 1)
        (room : ended ≢ Some outcomes.NoMemory → before.drawn < after.drawn)
        (into : 0 < length read.taken → before.drawn < after.drawn) (drawn : before.drawn + length fed ≤ after.drawn) where
      abbrev stepped : ℕ → Strand P S K
      stepped ready = record old { tree = now.tree; intake = FromSource source_now block limit left_now; ended = ended; last = None; ready = ready }

      module _ (h : History) (stood : StandsFor plain reads writes old h)
          (goes : GoesOn source_now left_now read.taken ended fed now.tree.short h (was_reading h stood))
          (ready : ℕ) (found : ready ≡ option_map_or (λ i. i) (first_ready (stepped ready)) (length now.tree.nodes.items)) where
        abbrev reading : IsCutting (reads source) block limit left h
        reading = was_reading h stood

        abbrev failed : ℕ → Bool
        failed = has_failed_at (stepped ready)

        abbrev sinks_now : ℕ → SinkState
        sinks_now = sinks_after plain reads writes old h (stepped ready)

        faults : CountsOnce (ended_at_fault ended) (reads source).faults (reads source_now).faults
        faults = subst (λ (b : Bool). CountsOnce b (reads source).faults (reads source_now).faults) fault read.faults

        flow_is : head_flow (did source_now left_now read.taken ended fed now.tree.short h failed sinks_now)
            ≡ carried_by ended (h.fed ++ fed) (kinds.Source reading.reading.path (Raw block) limit) (h.read ++ read.taken)
        flow_is = flow_now h (reads source) (reads source_now) block limit left reading (was_going h stood) read.taken read.took fed ended now.tree.short failed sinks_now faults

        stands : StandsFor plain reads writes (stepped ready) (did source_now left_now read.taken ended fed now.tree.short h failed sinks_now)
        stands =
            stepped_on plain reads writes old now.tree (FromSource source_now block limit left_now) ended ready h read.taken [] fed not_output not_done
            took.order took.nodes.count took.nodes.placed stood took.nodes.stand is found
            (rw flow_is (goes.first, goes.all))
            (cutting_on h (reads source) (reads source_now) block limit left reading (was_going h stood) read.taken read.took fed ended now.tree.short failed sinks_now faults
            left_now (goes.ends failed sinks_now) goes.put goes.rest goes.even)

        in_block : (pipe : Pipe) (path : List ℕ) (size most : ℕ) → slice_get h.pipes h.head ≡ Some pipe → pipe.kind ≡ kinds.Source path (Raw size) most
            → length read.taken ≤ size
        in_block pipe path size most there kind =
            let there_too : Some reading.reading.pipe ≡ Some pipe = sym reading.reading.there ∙ there in
            let kind_too : reading.reading.pipe.kind ≡ kinds.Source reading.reading.path (Raw block) limit = reading.reading.kind in
            let size_is : block ≡ size = cc in
            let within = read.in_block in
            omega (arith, size_is, within)

        is_raw : (pipe : Pipe) (path : List ℕ) (most : ℕ) → slice_get h.pipes h.head ≡ Some pipe → pipe.kind ≡ kinds.Source path Framed most → ⊥
        is_raw pipe path most there kind =
            let there_too : Some reading.reading.pipe ≡ Some pipe = sym reading.reading.there ∙ there in
            let kind_too : reading.reading.pipe.kind ≡ kinds.Source reading.reading.path (Raw block) limit = reading.reading.kind in
            cc

        pub read_step : SteppedRead plain reads writes (stepped ready) h before after
        read_step = record {
          step = record {
            read = read.taken;
            fed = fed;
            ended = ended;
            short = now.tree.short;
            failed = failed;
            source_now = Some (reads source_now);
            sinks_now = sinks_now;
            stands = stands;
            stays = λ was. took.stays (stood.ended.short ∙ was);
            stopped = still_stopped plain reads writes old h (stepped ready) stood refl took.nodes.count took.nodes.placed;
            given_up = λ short. absurd (let wrong : true ≡ false = sym short ∙ was_long h stood in cc);
          };
          moves = λ none. let some = goes.moves none in omega (arith, some);
          one = one;
          raw = λ pipe path size most there kind. record {
            moves = goes.moves;
            block = in_block pipe path size most there kind;
            room = room;
            into = into;
          };
          framed = λ pipe path most there kind. absurd (is_raw pipe path most there kind);
          drawn = let few = count_with_bytes-few fed in omega (arith, few, drawn);
        }

      -- it took what the source gave
      pub read_taken : ((h : History) (stood : StandsFor plain reads writes old h)
          → GoesOn source_now left_now read.taken ended fed now.tree.short h (was_reading h stood))
          → OnceLooked now (λ strand. (h : History) → StandsFor plain reads writes old h → SteppedRead plain reads writes strand h before after)
      read_taken goes =
          looked_as (λ strand. (h : History) → StandsFor plain reads writes old h → SteppedRead plain reads writes strand h before after)
          now (record old { tree = now.tree; intake = FromSource source_now block limit left_now; ended = ended }) same
          (λ ready found h stood. read_step h stood (goes h stood) ready found)

    module _ {F : Type 0} (source_now : S) (now : Strand P S K) (before middle after : StoreState F) (stays : Stays middle after) where
      abbrev Steps : Type 0
      Steps = OnceLooked now (λ strand. (h : History) → StandsFor plain reads writes old h → SteppedRead plain reads writes strand h before after)

      -- a whole block
      pub block_taken : (p : P) (wide : ℕ) → wide ≡ block → ReadsPacket plain block left (reads source) (reads source_now) (nexts.Packet p) → before.drawn < middle.drawn
          → now ≡ record old { tree = now.tree; intake = FromSource source_now block limit (left - wide); ended = ended_where now.tree.short }
          → TreeTook plain writes old.tree now.tree (plain p ∷ []) → TreeIs now.tree (ended_where now.tree.short) → Steps
      block_taken p wide width read drew same took is =
          let more = stays.more in
          read_taken source_now (left - wide) (nexts.Packet p) read now (ended_where now.tree.short) (plain p ∷ []) same took is before after
          (sym (ended_no_fault now.tree.short)) (omega arith) (λ other. omega (arith, drew, more)) (λ some. omega (arith, drew, more)) (omega (arith, drew, more))
          (λ h stood.
          let reading = was_reading h stood in
          let going = was_going h stood in
          let sum = reading.rest going in
          let whole = read.are.1 in
          let fits = read.are.2 in
          let long = length-append h.read read.taken in
          let even = reading.even going in
          let some = reading.in_block.0 in
          let is_even : length h.read ≡ even.0 * block = even.1 in
          let one_more : (even.0 + 1) * block ≡ even.0 * block + block = omega arith in
          let put : full_blocks block (h.read ++ read.taken) ≡ h.fed ++ plain p ∷ [] =
          block_more h (reads source) (reads source_now) block limit left reading going read.taken read.took [] None false (λ place. false) h.sinks_now read.faults whole
          ∙ ap (λ (x : PlainPacket). head_flow h ++ x ∷ []) (sym read.are.0) ∙ ap (λ (f : Flow). f ++ plain p ∷ []) (sym (was_all h stood)) in
          let flow : carried_by (ended_where now.tree.short) (h.fed ++ plain p ∷ []) (kinds.Source reading.reading.path (Raw block) limit) (h.read ++ read.taken) ≡ h.fed ++ plain p ∷ [] =
          carried_where now.tree.short reading.reading.path block limit (h.fed ++ plain p ∷ []) (h.read ++ read.taken) put in
          record {
            ends = λ failed sinks_now. ends_where block limit (reads source_now).left (did source_now (left - wide) read.taken (ended_where now.tree.short) (plain p ∷ []) now.tree.short h failed sinks_now)
                now.tree.short refl (omega (arith, sum, whole, fits, long, width));
            rest = λ none. omega (arith, sum, whole, fits, long, width);
            even = λ none. (even.0 + 1, omega (arith, is_even, one_more, whole, long));
            moves = λ none. omega (arith, whole, some);
            put = λ none. sym put;
            first = same_first (h.fed ++ plain p ∷ []) _ flow;
            all = λ is_long. sym flow;
          })

      -- the last packet
      pub last_taken : (p : P) → ReadsPacket plain block left (reads source) (reads source_now) (nexts.Last p) → before.drawn < middle.drawn
          → now ≡ record old { tree = now.tree; intake = FromSource source_now block limit left; ended = Some outcomes.Whole }
          → TreeTook plain writes old.tree now.tree (plain p ∷ []) → TreeIs now.tree (Some outcomes.Whole) → Steps
      last_taken p read drew same took is =
          let more = stays.more in
          read_taken source_now left (nexts.Last p) read now (Some outcomes.Whole) (plain p ∷ []) same took is before after
          refl (omega arith) (λ other. omega (arith, drew, more)) (λ some. omega (arith, drew, more)) (omega (arith, drew, more))
          (λ h stood.
          let reading = was_reading h stood in
          let going = was_going h stood in
          let sum = reading.rest going in
          let fits = read.are.3 in
          let long = length-append h.read read.taken in
          let flow : blocks block (h.read ++ read.taken) ≡ h.fed ++ plain p ∷ [] =
          last_more h (reads source) (reads source_now) block limit left reading going read.taken read.took [] None false (λ place. false) h.sinks_now read.faults read.are.1 read.are.2
          ∙ ap (λ (x : PlainPacket). head_flow h ++ x ∷ []) (sym read.are.0) ∙ ap (λ (f : Flow). f ++ plain p ∷ []) (sym (was_all h stood)) in
          record {
            ends = λ failed sinks_now. (raw_whole block limit (h.read ++ read.taken) (omega (arith, sum, fits, long)), read.are.4);
            rest = λ wrong. absurd (cc);
            even = λ wrong. absurd (cc);
            moves = λ wrong. absurd (cc);
            put = λ wrong. absurd (cc);
            first = same_first (h.fed ++ plain p ∷ []) _ flow;
            all = λ is_long. sym flow;
          })

      module _ (h : History) (stood : StandsFor plain reads writes old h) where
        -- a flow that is the one before
        still : (flow : Flow) → flow ≡ head_flow h → flow ≡ h.fed ++ []
        still flow is = is ∙ sym (was_all h stood) ∙ sym (append-nil h.fed)

      -- the end
      pub end_taken : ReadsPacket plain block left (reads source) (reads source_now) nexts.End → before.drawn < middle.drawn
          → now ≡ record old { tree = now.tree; intake = FromSource source_now block limit left; ended = Some outcomes.Whole }
          → TreeTook plain writes old.tree now.tree [] → TreeIs now.tree (Some outcomes.Whole) → Steps
      end_taken read drew same took is =
          let more = stays.more in
          read_taken source_now left nexts.End read now (Some outcomes.Whole) [] same took is before after
          refl (omega arith) (λ other. omega (arith, drew, more)) (λ some. omega (arith, drew, more)) (omega (arith, drew, more))
          (λ h stood.
          let reading = was_reading h stood in
          let going = was_going h stood in
          let sum = reading.rest going in
          let long = length-append h.read read.taken in
          let none : length read.taken ≡ 0 = ap length read.are.0 in
          let flow = still h stood (blocks block (h.read ++ read.taken))
          (end_more h (reads source) (reads source_now) block limit left reading going read.taken read.took [] None false (λ place. false) h.sinks_now read.faults read.are.0) in
          record {
            ends = λ failed sinks_now. (raw_whole block limit (h.read ++ read.taken) (omega (arith, sum, none, long)), read.are.1);
            rest = λ wrong. absurd (cc);
            even = λ wrong. absurd (cc);
            moves = λ wrong. absurd (cc);
            put = λ wrong. absurd (cc);
            first = same_first (h.fed ++ []) _ flow;
            all = λ is_long. sym flow;
          })

      -- a fault
      pub fault_taken : ReadsPacket plain block left (reads source) (reads source_now) nexts.Fault → before.drawn < middle.drawn
          → now ≡ record old { tree = now.tree; intake = FromSource source_now block limit left; ended = Some outcomes.ReadFault }
          → TreeTook plain writes old.tree now.tree [] → TreeIs now.tree (Some outcomes.ReadFault) → now.tree.short ≡ old.tree.short → Steps
      fault_taken read drew same took is short =
          let more = stays.more in
          read_taken source_now left nexts.Fault read now (Some outcomes.ReadFault) [] same took is before after
          refl (omega arith) (λ other. omega (arith, drew, more)) (λ some. omega (arith, drew, more)) (omega (arith, drew, more))
          (λ h stood.
          let reading = was_reading h stood in
          let going = was_going h stood in
          let sum = reading.rest going in
          let fits = read.are.1 in
          let long = length-append h.read read.taken in
          let flow = still h stood (full_blocks block (h.read ++ read.taken))
          (fault_more h (reads source) (reads source_now) block limit left reading going read.taken read.took [] (Some outcomes.ReadFault) false (λ place. false) h.sinks_now read.faults read.are.0) in
          record {
            ends = λ failed sinks_now. record { long = short ∙ tree_long h stood; few = omega (arith, sum, fits, long); by = raw_unshown block limit (h.read ++ read.taken) (omega (arith, sum, fits, long)) };
            rest = λ wrong. absurd (cc);
            even = λ wrong. absurd (cc);
            moves = λ wrong. absurd (cc);
            put = λ wrong. absurd (cc);
            first = same_first (h.fed ++ []) _ flow;
            all = λ is_long. sym flow;
          })

      -- a byte past the limit
      pub long_taken : ReadsPacket plain block left (reads source) (reads source_now) nexts.TooLong → before.drawn < middle.drawn
          → now ≡ record old { tree = now.tree; intake = FromSource source_now block limit left; ended = Some (outcomes.TooLong limit) }
          → TreeTook plain writes old.tree now.tree [] → TreeIs now.tree (Some (outcomes.TooLong limit)) → now.tree.short ≡ old.tree.short → Steps
      long_taken read drew same took is short =
          let more = stays.more in
          read_taken source_now left nexts.TooLong read now (Some (outcomes.TooLong limit)) [] same took is before after
          refl (omega arith) (λ other. omega (arith, drew, more)) (λ some. omega (arith, drew, more)) (omega (arith, drew, more))
          (λ h stood.
          let reading = was_reading h stood in
          let going = was_going h stood in
          let sum = reading.rest going in
          let over : length read.taken ≡ left + 1 = read.are in
          let long = length-append h.read read.taken in
          let flow = still h stood (full_blocks block (take limit (h.read ++ read.taken)))
          (long_more h (reads source) (reads source_now) block limit left reading going read.taken read.took [] None false (λ place. false) h.sinks_now read.faults over read.in_block) in
          record {
            ends = λ failed sinks_now. raw_told block limit (reads source_now).left
                (did source_now left read.taken (Some (outcomes.TooLong limit)) [] now.tree.short h failed sinks_now) (short ∙ tree_long h stood) (omega (arith, sum, over, long));
            rest = λ wrong. absurd (cc);
            even = λ wrong. absurd (cc);
            moves = λ wrong. absurd (cc);
            put = λ wrong. absurd (cc);
            first = same_first (h.fed ++ []) _ flow;
            all = λ is_long. sym flow;
          })

      -- and no memory, for a room or for a packet of what was read into it
      pub none_taken : (next : Next P) (read : ReadsPacket plain block left (reads source) (reads source_now) next) → is_fault_of next ≡ false
          → before.drawn ≤ middle.drawn → (0 < length read.taken → before.drawn < middle.drawn)
          → now ≡ record old { tree = now.tree; intake = FromSource source_now block limit left; ended = Some outcomes.NoMemory }
          → TreeTook plain writes old.tree now.tree [] → TreeIs now.tree (Some outcomes.NoMemory) → now.tree.short ≡ true → Steps
      none_taken next read fault drew into same took is short =
          let more = stays.more in
          read_taken source_now left next read now (Some outcomes.NoMemory) [] same took is before after
          fault (omega arith) (λ other. absurd (other refl)) (λ some. omega (arith, into some, more)) (omega (arith, drew, more))
          (λ h stood.
          let reading = was_reading h stood in
          let going = was_going h stood in
          let sum = reading.rest going in
          let fits = read.in_limit in
          let long = length-append h.read read.taken in
          let front : h.fed ++ [] ≡ head_flow h = append-nil h.fed ∙ was_all h stood in
          record {
            ends = λ failed sinks_now. (short, omega (arith, sum, fits, long));
            rest = λ wrong. absurd (cc);
            even = λ wrong. absurd (cc);
            moves = λ wrong. absurd (cc);
            put = λ wrong. absurd (cc);
            first = subst (λ (f : Flow). IsPrefix f (full_blocks block (h.read ++ read.taken))) (sym front)
                (go_on h (reads source) (reads source_now) block limit left reading going read.taken read.took [] None false (λ place. false) h.sinks_now
                (subst (λ (b : Bool). CountsOnce b (reads source).faults (reads source_now).faults) fault read.faults));
            all = λ is_long. let wrong : true ≡ false = sym short ∙ is_long in absurd (cc);
          })
