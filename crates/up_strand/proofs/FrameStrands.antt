-- What a strand whose head is a source of frames did, once it took what the source gave.
use Rattle.std.proofs.Common.{◌≡◌, ◌≢◌, ◌⊎◌, ℕ, ◌+◌, ◌<◌, ◌≤◌, List, [], ◌∷◌, ◌++◌, append-nil, length, take, Bool, true, false, Option, Some, None, slice_get, refl, sym, ap, ◌∙◌, subst, arith, inl, inr}
use Rattle.std.specs.Option.{option_map_or}
use Rattle.std.proofs.lemmas.Bool.Decides.{leb_tells}
use Rattle.up_base.specs.Lists.{IsPrefix}
use Rattle.up_model.proofs.FrameMoreBytes.{frames_first}
use Rattle.up_model.specs.FrameStreams.{whole_frames}
use Rattle.up_model.specs.Outcomes.{carried_as}
use Rattle.up_model.specs.Packet.{Flow, count_with_bytes}
use Rattle.up_model.specs.declared.form.SourceForm.TheVariants.{Raw, Framed}
use Rattle.up_model.specs.declared.kind.Kind.TheVariants as kinds
use Rattle.up_model.specs.declared.outcome.Outcome.{Outcome}
use Rattle.up_model.specs.declared.outcome.Outcome.TheVariants as outcomes
use Rattle.up_model.specs.declared.pipe.Pipe.{Pipe}
use Rattle.up_model.specs.declared.plain_packet.PlainPacket.{PlainPacket}
use Rattle.up_outside.specs.Counts.{CountsOnce}
use Rattle.up_outside.specs.States.{SourceState, SinkState}
use Rattle.up_shape.specs.Stores.{StoreState, Stays}
use Rattle.up_strand.proofs.Gives.{placed_itself}
use Rattle.up_strand.proofs.HeadPackets.{frames_within, prefix_of_prefix}
use Rattle.up_strand.proofs.Passing.{stand_still}
use Rattle.up_strand.proofs.ReadSteps.{flow_so, reading_on, same_first}
use Rattle.up_strand.proofs.ReadStrands.{read_goes_on}
use Rattle.up_strand.proofs.StrandSteps.{looked_as, sinks_after, stepped_on, still_stopped, tree_is}
use Rattle.up_strand.specs.Frames.{GaveFrame, FramesStand, frame_read_failed, framed_source}
use Rattle.up_strand.specs.History.{History, head_flow, carried_by}
use Rattle.up_strand.specs.Steps.{OnceLooked, TreeIs, TreeTook, ended_where}
use Rattle.up_strand.specs.Reads.{EndsBy}
use Rattle.up_strand.specs.StrandCalls.{SteppedRead, is_done, is_output}
use Rattle.up_strand.specs.Strands.{EndsRightly, IsReading, IsGivingFrames, StandsFor, StandsForSome, first_ready, has_failed_at, ended_at_fault, want_of}
use Rattle.up_strand.specs.declared.frame_source.FrameSource.{FrameSource}
use Rattle.up_strand.specs.declared.frame_source.NextFrame.{NextFrame}
use Rattle.up_strand.specs.declared.frame_source.NextFrame.TheVariants as nexts
use Rattle.up_strand.specs.declared.intake.Intake.TheVariants.{FromFrames}
use Rattle.up_strand.specs.declared.strand.Strand.{Strand}
use Rattle.up_strand.specs.declared.tree.Tree.{Tree}
use Rattle.up_strand.specs.declared.want.Want.TheVariants.{Read}

-- more was drawn for a packet with bytes
pub one_drawn : (before middle after : ℕ) (packet : PlainPacket) → before ≤ middle → middle ≤ after → (0 < length packet.bytes → before < middle)
    → before + count_with_bytes (packet ∷ []) ≤ after
one_drawn before middle after packet first then drew = elim (leb_tells 1 (length packet.bytes)) [
  | inl some ↦ let more = drew some.1 in rw some.0 (omega (arith, more, then))
  | inr none ↦ rw none.0 (omega (arith, first, then))
]

-- the same tree took nothing
same_took : {P K : Type 0} (plain : P → PlainPacket) (state : K → SinkState) (tree : Tree P K) → TreeTook plain state tree tree []
same_took plain state tree = record {
  nodes = record { stand = stand_still plain state tree.nodes.items; placed = λ i d within. placed_itself _; count = refl };
  order = refl;
  stays = λ short. short;
}

-- what a path is doesn't matter
carried_alike : (outcome : Outcome) (path : List ℕ) (limit : ℕ) (read : List ℕ) → carried_as outcome (framed_source limit) read ≡ carried_as outcome (kinds.Source path Framed limit) read
carried_alike outcomes.Whole path limit read = refl
carried_alike outcomes.ReadFault path limit read = refl
carried_alike outcomes.WriteFault path limit read = refl
carried_alike (outcomes.BadFrame offset) path limit read = refl
carried_alike (outcomes.TooLong most) path limit read = refl
carried_alike outcomes.Broken path limit read = refl
carried_alike outcomes.NoMemory path limit read = refl

first_where : (short : Bool) (path : List ℕ) (limit : ℕ) (put : Flow) (read : List ℕ) → IsPrefix put (whole_frames read)
    → IsPrefix put (carried_by (ended_where short) put (kinds.Source path Framed limit) read)
first_where true path limit put read first = first
first_where false path limit put read first = ([], sym (append-nil put))

all_where : (short : Bool) (path : List ℕ) (limit : ℕ) (put : Flow) (read : List ℕ) → short ≡ false
    → put ≡ carried_by (ended_where short) put (kinds.Source path Framed limit) read
all_where true path limit put read long = absurd (cc)
all_where false path limit put read long = refl

ends_where : (limit : ℕ) (rest : Option (List ℕ)) (h : History) (short : Bool) → h.short ≡ short → length h.read ≤ limit + 1 → EndsRightly Framed limit rest h (ended_where short)
ends_where limit rest h true is few = (is, few)
ends_where limit rest h false is few = (is, few)

none_where : (short : Bool) → ended_at_fault (ended_where short) ≡ false
none_where true = refl
none_where false = refl

-- a source that ended so ended rightly
ends_as : (limit : ℕ) (rest : Option (List ℕ)) (h : History) (outcome : Outcome) → length h.read ≤ limit + 1 → (outcome ≢ outcomes.Whole → h.short ≡ false)
    → EndsBy Framed limit rest h.read outcome → EndsRightly Framed limit rest h (Some outcome)
ends_as limit rest h outcomes.Whole few long ends = ends
ends_as limit rest h outcomes.ReadFault few long ends = record { long = long (λ same. cc); few = few; by = ends }
ends_as limit rest h outcomes.WriteFault few long ends = absurd ends
ends_as limit rest h (outcomes.BadFrame offset) few long ends = record { long = long (λ same. cc); few = few; by = ends }
ends_as limit rest h (outcomes.TooLong most) few long ends = record { long = long (λ same. cc); few = few; by = ends }
ends_as limit rest h outcomes.Broken few long ends = absurd ends
ends_as limit rest h outcomes.NoMemory few long ends = absurd ends

fault_as : (P : Type 0) (limit : ℕ) (rest : Option (List ℕ)) (read : List ℕ) (outcome : Outcome) → EndsBy Framed limit rest read outcome
    → frame_read_failed {P = P} (nexts.Ended outcome) ≡ ended_at_fault (Some outcome)
fault_as P limit rest read outcomes.Whole ends = refl
fault_as P limit rest read outcomes.ReadFault ends = refl
fault_as P limit rest read outcomes.WriteFault ends = absurd ends
fault_as P limit rest read (outcomes.BadFrame offset) ends = refl
fault_as P limit rest read (outcomes.TooLong most) ends = refl
fault_as P limit rest read outcomes.Broken ends = absurd ends
fault_as P limit rest read outcomes.NoMemory ends = absurd ends

module _ {P S K : Type 0} (plain : P → PlainPacket) (reads : S → SourceState) (writes : K → SinkState)
    (old : Strand P S K) (wants : want_of old ≡ Read) (frames : FrameSource S) (from : old.intake ≡ FromFrames frames) where
  not_output : is_output (want_of old) ≡ false
  not_output = ap is_output wants

  not_done : is_done (want_of old) ≡ false
  not_done = ap is_done wants

  module _ (h : History) (stood : StandsFor plain reads writes old h) where
    pub was_giving : IsGivingFrames (reads frames.source) frames h
    was_giving = rw from at stood.intake

    pub was_going : h.ended ≡ None
    was_going = sym stood.ended.ended ∙ read_goes_on plain reads writes old wants

    pub was_long : h.short ≡ false
    was_long = let ends = rw was_going at was_giving.reading.ends in ends.0

    pub was_so : FramesStand frames h.read h.fed
    was_so = was_giving.stands was_going

  -- it stood for something
  pub gives_frames : StandsForSome plain reads writes old → (read : List ℕ) × ((put : Flow) × FramesStand frames read put)
  gives_frames stood = (stood.0.read, (stood.0.fed, was_so stood.0 stood.1))

  module _ (new : FrameSource S) (taken : List ℕ) (ended : Option Outcome) (fed : Flow) (short : Bool) (h : History) where
    abbrev did : (ℕ → Bool) → (ℕ → SinkState) → History
    did failed sinks_now = record h {
      source_now = Some (reads new.source);
      sinks_now = sinks_now;
      read = h.read ++ taken;
      came = h.came ++ [];
      fed = h.fed ++ fed;
      ended = ended;
      short = short;
      failed = failed;
    }

    -- what is to be known of a history, that it goes on so
    pub record GoesOn : Type 0 where
      pub ends : (failed : ℕ → Bool) (sinks_now : ℕ → SinkState) → EndsRightly Framed frames.limit (reads new.source).left (did failed sinks_now) ended
      pub stands : ended ≡ None → FramesStand new (h.read ++ taken) (h.fed ++ fed)
      pub moves : ended ≡ None → 0 < length taken + length fed
      pub first : (path : List ℕ) → IsPrefix (h.fed ++ fed) (carried_by ended (h.fed ++ fed) (kinds.Source path Framed frames.limit) (h.read ++ taken))
      pub all : short ≡ false → (path : List ℕ) → h.fed ++ fed ≡ carried_by ended (h.fed ++ fed) (kinds.Source path Framed frames.limit) (h.read ++ taken)
      pub before : 0 < length taken → h.fed ≡ whole_frames (take frames.limit h.read)

  module _ {F : Type 0} (new : FrameSource S) (next : NextFrame P) (step : GaveFrame plain reads frames new next)
      (now : Strand P S K) (ended : Option Outcome) (fed : Flow)
      (same : now ≡ record old { tree = now.tree; intake = FromFrames new; ended = ended })
      (took : TreeTook plain writes old.tree now.tree fed) (is : TreeIs now.tree ended) (before after : StoreState F)
      (fault : frame_read_failed next ≡ ended_at_fault ended) (one : length fed ≤ 1) (either : (step.taken ≡ []) ⊎ (fed ≡ []))
      (drawn : before.drawn + count_with_bytes fed ≤ after.drawn) where
    abbrev stepped : ℕ → Strand P S K
    stepped ready = record old { tree = now.tree; intake = FromFrames new; ended = ended; last = None; ready = ready }

    module _ (h : History) (stood : StandsFor plain reads writes old h) (goes : GoesOn new step.taken ended fed now.tree.short h)
        (ready : ℕ) (found : ready ≡ option_map_or (λ i. i) (first_ready (stepped ready)) (length now.tree.nodes.items)) where
      abbrev failed : ℕ → Bool
      failed = has_failed_at (stepped ready)

      abbrev sinks_now : ℕ → SinkState
      sinks_now = sinks_after plain reads writes old h (stepped ready)

      faults : CountsOnce (ended_at_fault ended) (reads frames.source).faults (reads new.source).faults
      faults = subst (λ (b : Bool). CountsOnce b (reads frames.source).faults (reads new.source).faults) fault step.faults

      flow_is : head_flow (did new step.taken ended fed now.tree.short h failed sinks_now)
          ≡ carried_by ended (h.fed ++ fed) (kinds.Source (was_giving h stood).reading.path Framed frames.limit) (h.read ++ step.taken)
      flow_is = flow_so h (reads frames.source) (reads new.source) Framed frames.limit (was_giving h stood).reading (was_going h stood) step.taken step.took fed ended now.tree.short
          failed sinks_now

      unframing : IsGivingFrames (reads new.source) new (did new step.taken ended fed now.tree.short h failed sinks_now)
      unframing = record {
        reading = subst (λ (limit : ℕ). IsReading (reads new.source) Framed limit (did new step.taken ended fed now.tree.short h failed sinks_now)) (sym step.limit)
            (reading_on h (reads frames.source) (reads new.source) Framed frames.limit (was_giving h stood).reading (was_going h stood) step.taken step.took fed ended now.tree.short
            failed sinks_now faults (goes.ends failed sinks_now));
        stands = goes.stands;
      }

      stands : StandsFor plain reads writes (stepped ready) (did new step.taken ended fed now.tree.short h failed sinks_now)
      stands =
          stepped_on plain reads writes old now.tree (FromFrames new) ended ready h step.taken [] fed not_output not_done
          took.order took.nodes.count took.nodes.placed stood took.nodes.stand is found
          (rw flow_is (goes.first (was_giving h stood).reading.path, λ long. goes.all long (was_giving h stood).reading.path))
          unframing

      -- it is of one limit
      within_limit : (pipe : Pipe) (path : List ℕ) (most : ℕ) → slice_get h.pipes h.head ≡ Some pipe → pipe.kind ≡ kinds.Source path Framed most → frames.limit ≡ most
      within_limit pipe path most there kind =
          let reading = (was_giving h stood).reading in
          let there_too : Some reading.pipe ≡ Some pipe = sym reading.there ∙ there in
          let kind_too : reading.pipe.kind ≡ kinds.Source reading.path Framed frames.limit = reading.kind in
          cc

      is_framed : (pipe : Pipe) (path : List ℕ) (size most : ℕ) → slice_get h.pipes h.head ≡ Some pipe → pipe.kind ≡ kinds.Source path (Raw size) most → ⊥
      is_framed pipe path size most there kind =
          let reading = (was_giving h stood).reading in
          let there_too : Some reading.pipe ≡ Some pipe = sym reading.there ∙ there in
          let kind_too : reading.pipe.kind ≡ kinds.Source reading.path Framed frames.limit = reading.kind in
          cc

      pub frame_step : SteppedRead plain reads writes (stepped ready) h before after
      frame_step = record {
        step = record {
          read = step.taken;
          fed = fed;
          ended = ended;
          short = now.tree.short;
          failed = failed;
          source_now = Some (reads new.source);
          sinks_now = sinks_now;
          stands = stands;
          stays = λ was. took.stays (stood.ended.short ∙ was);
          stopped = still_stopped plain reads writes old h (stepped ready) stood refl took.nodes.count took.nodes.placed;
          given_up = λ short. absurd (let wrong : true ≡ false = sym short ∙ was_long h stood in cc);
        };
        moves = goes.moves;
        one = one;
        raw = λ pipe path size most there kind. absurd (is_framed pipe path size most there kind);
        framed = λ pipe path most there kind. record {
          piece = step.piece;
          either = either;
          all = λ some. goes.before some ∙ ap (λ limit. whole_frames (take limit h.read)) (within_limit pipe path most there kind);
        };
        drawn = drawn;
      }

    -- it took what the source gave
    pub frame_taken : ((h : History) (stood : StandsFor plain reads writes old h) → GoesOn new step.taken ended fed now.tree.short h)
        → OnceLooked now (λ strand. (h : History) → StandsFor plain reads writes old h → SteppedRead plain reads writes strand h before after)
    frame_taken goes =
        looked_as (λ strand. (h : History) → StandsFor plain reads writes old h → SteppedRead plain reads writes strand h before after)
        now (record old { tree = now.tree; intake = FromFrames new; ended = ended }) same
        (λ ready found h stood. frame_step h stood (goes h stood) ready found)

  module _ {F : Type 0} (new : FrameSource S) (now : Strand P S K) (before middle after : StoreState F) (first : Stays before middle) (then : Stays middle after) where
    abbrev Steps : Type 0
    Steps = OnceLooked now (λ strand. (h : History) → StandsFor plain reads writes old h → SteppedRead plain reads writes strand h before after)

    -- what was put out comes first of what more bytes hold
    put_first : (from_source : FrameSource S) (read more : List ℕ) (put : Flow) → FramesStand from_source read put → IsPrefix put (whole_frames (read ++ more))
    put_first from_source read more put so =
        prefix_of_prefix put (whole_frames (take from_source.limit read)) (whole_frames (read ++ more)) (so.reader.waiting, so.reader.whole)
        (prefix_of_prefix (whole_frames (take from_source.limit read)) (whole_frames read) (whole_frames (read ++ more)) (frames_within from_source.limit read) (frames_first read more))

    -- a packet
    pub packet_taken : (p : P) (step : GaveFrame plain reads frames new (nexts.Packet p)) → (0 < length (plain p).bytes → before.drawn < middle.drawn)
        → now ≡ record old { tree = now.tree; intake = FromFrames new; ended = ended_where now.tree.short }
        → TreeTook plain writes old.tree now.tree (plain p ∷ []) → TreeIs now.tree (ended_where now.tree.short) → StandsForSome plain reads writes old → Steps
    packet_taken p step drew same took is some =
        let none : step.taken ≡ [] = (step.are some.0.read some.0.fed (was_so some.0 some.1)).0 in
        frame_taken new (nexts.Packet p) step now (ended_where now.tree.short) (plain p ∷ []) same took is before after
        (sym (none_where now.tree.short)) (omega arith) (inl none) (one_drawn before.drawn middle.drawn after.drawn (plain p) first.more then.more drew)
        (λ h stood.
        let are = step.are h.read h.fed (was_so h stood) in
        let read_is : h.read ++ step.taken ≡ h.read = ap (λ l. h.read ++ l) none ∙ append-nil h.read in
        let so : FramesStand new (h.read ++ step.taken) (h.fed ++ plain p ∷ []) = subst (λ (l : List ℕ). FramesStand new l (h.fed ++ plain p ∷ [])) (sym read_is) are.1 in
        let begins : IsPrefix (h.fed ++ plain p ∷ []) (whole_frames (h.read ++ step.taken)) =
        subst (λ (l : List ℕ). IsPrefix (h.fed ++ plain p ∷ []) (whole_frames l)) (append-nil (h.read ++ step.taken)) (put_first new (h.read ++ step.taken) [] (h.fed ++ plain p ∷ []) so) in
        record {
          ends = λ failed sinks_now. ends_where frames.limit (reads new.source).left (did new step.taken (ended_where now.tree.short) (plain p ∷ []) now.tree.short h failed sinks_now)
              now.tree.short refl (let few = so.few in let limit = step.limit in omega (arith, few, limit));
          stands = λ going. so;
          moves = λ going. omega arith;
          first = λ path. first_where now.tree.short path frames.limit (h.fed ++ plain p ∷ []) (h.read ++ step.taken) begins;
          all = λ long path. all_where now.tree.short path frames.limit (h.fed ++ plain p ∷ []) (h.read ++ step.taken) long;
          before = λ some. absurd (let nothing = ap length none in omega (arith, some, nothing));
        })

    -- a piece alone
    pub piece_taken : (step : GaveFrame plain reads frames new nexts.Piece) → now ≡ record old { intake = FromFrames new } → StandsForSome plain reads writes old → Steps
    piece_taken step same some =
        let tree_same : now.tree ≡ old.tree = ap (λ (s : Strand P S K). s.tree) same in
        let as_before : now ≡ record old { tree = now.tree; intake = FromFrames new; ended = None } =
        same ∙ sym (rw (tree_same, read_goes_on plain reads writes old wants) refl) in
        frame_taken new nexts.Piece step now None [] as_before
        (rw tree_same (same_took plain writes old.tree)) (rw tree_same (tree_is plain reads writes old some.0 some.1 (was_going some.0 some.1))) before after
        refl (omega arith) (inr refl) (let a = first.more in let b = then.more in omega (arith, a, b))
        (λ h stood.
        let are = step.are h.read h.fed (was_so h stood) in
        let so : FramesStand new (h.read ++ step.taken) (h.fed ++ []) = subst (λ (f : Flow). FramesStand new (h.read ++ step.taken) f) (sym (append-nil h.fed)) are.1 in
        record {
          before = λ some. are.2 ∙ ap (λ limit. whole_frames (take limit h.read)) step.limit;
          ends = λ failed sinks_now. (ap (λ (t : Tree P K). t.short) tree_same ∙ stood.ended.short ∙ was_long h stood, let few = so.few in let limit = step.limit in omega (arith, few, limit));
          stands = λ going. so;
          moves = λ going. let moved = are.0 in omega (arith, moved);
          first = λ path. ([], sym (append-nil (h.fed ++ [])));
          all = λ long path. refl;
        })

    -- the end
    pub frames_ended : (outcome : Outcome) (step : GaveFrame plain reads frames new (nexts.Ended outcome))
        → now ≡ record old { tree = now.tree; intake = FromFrames new; ended = Some outcome }
        → TreeTook plain writes old.tree now.tree [] → TreeIs now.tree (Some outcome) → (outcome ≢ outcomes.Whole → now.tree.short ≡ old.tree.short) → StandsForSome plain reads writes old → Steps
    frames_ended outcome step same took is short some =
        let ends_so = (step.are some.0.read some.0.fed (was_so some.0 some.1)).1 in
        let none : step.taken ≡ [] = (step.are some.0.read some.0.fed (was_so some.0 some.1)).0 in
        frame_taken new (nexts.Ended outcome) step now (Some outcome) [] same took is before after
        (fault_as P new.limit (reads new.source).left some.0.read outcome ends_so) (omega arith) (inl none) (let a = first.more in let b = then.more in omega (arith, a, b))
        (λ h stood.
        let are = step.are h.read h.fed (was_so h stood) in
        let read_is : h.read ++ step.taken ≡ h.read = ap (λ l. h.read ++ l) none ∙ append-nil h.read in
        let ends_here : EndsBy Framed frames.limit (reads new.source).left (h.read ++ step.taken) outcome =
        subst (λ (limit : ℕ). EndsBy Framed limit (reads new.source).left (h.read ++ step.taken) outcome) step.limit
        (subst (λ (l : List ℕ). EndsBy Framed new.limit (reads new.source).left l outcome) (sym read_is) are.1) in
        let flow : (path : List ℕ) → h.fed ++ [] ≡ carried_as outcome (kinds.Source path Framed frames.limit) (h.read ++ step.taken) =
        λ path. append-nil h.fed ∙ are.2 ∙ ap (λ (limit : ℕ). carried_as outcome (framed_source limit) h.read) step.limit
        ∙ carried_alike outcome path frames.limit h.read ∙ ap (λ (l : List ℕ). carried_as outcome (kinds.Source path Framed frames.limit) l) (sym read_is) in
        record {
          ends = λ failed sinks_now. ends_as frames.limit (reads new.source).left (did new step.taken (Some outcome) [] now.tree.short h failed sinks_now) outcome
              (let few = (was_so h stood).few in let long = ap length read_is in omega (arith, few, long)) (λ other. short other ∙ stood.ended.short ∙ was_long h stood) ends_here;
          stands = λ wrong. absurd (cc);
          moves = λ wrong. absurd (cc);
          first = λ path. same_first (h.fed ++ []) _ (sym (flow path));
          all = λ long path. flow path;
          before = λ some. absurd (let nothing = ap length none in omega (arith, some, nothing));
        })

    -- and no memory
    pub no_frame_taken : (step : GaveFrame plain reads frames new nexts.NoMemory)
        → now ≡ record old { tree = now.tree; intake = FromFrames new; ended = Some outcomes.NoMemory }
        → TreeTook plain writes old.tree now.tree [] → TreeIs now.tree (Some outcomes.NoMemory) → now.tree.short ≡ true → Steps
    no_frame_taken step same took is short =
        frame_taken new nexts.NoMemory step now (Some outcomes.NoMemory) [] same took is before after
        refl (omega arith) (inr refl) (let a = first.more in let b = then.more in omega (arith, a, b))
        (λ h stood.
        let are = step.are h.read h.fed (was_so h stood) in
        let few = are.0 in
        let limit = step.limit in
        record {
          before = λ some. are.1 some ∙ ap (λ most. whole_frames (take most h.read)) step.limit;
          ends = λ failed sinks_now. (short, omega (arith, few, limit));
          stands = λ wrong. absurd (cc);
          moves = λ wrong. absurd (cc);
          first = λ path. subst (λ (f : Flow). IsPrefix f (whole_frames (h.read ++ step.taken))) (sym (append-nil h.fed)) (put_first frames h.read step.taken h.fed (was_so h stood));
          all = λ long path. let wrong : true ≡ false = sym short ∙ long in absurd (cc);
        })
