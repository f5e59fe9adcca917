-- What is left of a strand that is given up: its sinks, and what is told of its pipes.
use Rattle.std.proofs.Common.{◌≡◌, ℕ, zero, suc, ◌<◌, ◌≤◌, List, [], ◌∷◌, length, map, take, get_or, Bool, true, false, Option, Some, slice_get, refl, sym, ap, ap₂, ◌∙◌, subst, arith, inl, inr}
use Rattle.std.specs.List.{filter}
use Rattle.std.specs.Prelude.{All}
use Rattle.std.specs.Option.{option_map_or}
use Rattle.std.proofs.lemmas.Bool.{cases_Bool, cases_lt, le-leb}
use Rattle.std.proofs.lemmas.List.{get_or-map, get_or-take, get_or_default, length-append, length-map, length-take-le}
use Rattle.std.proofs.lemmas.Option.{same_Some, slice_get-get_or, slice_get_within, get_or_from_slice_get}
use Rattle.up_model.specs.Ends.{is_sink, is_source}
use Rattle.up_model.specs.Inputs.{passes_at}
use Rattle.up_model.specs.Meaning.{selected}
use Rattle.up_model.specs.Packet.{Flow}
use Rattle.up_model.specs.Plans.{ends_at_sink, outlets_of, sinks_of, strand_of}
use Rattle.up_model.specs.Tallies.{IsAtMost, uncaught}
use Rattle.up_model.specs.declared.form.SinkForm.{SinkForm}
use Rattle.up_model.specs.declared.catch_set.CatchSet.{CatchSet}
use Rattle.up_model.specs.declared.kind.Kind.{Kind}
use Rattle.up_model.specs.declared.kind.Kind.TheVariants as kinds
use Rattle.up_model.specs.declared.outcome.Outcome.{Outcome}
use Rattle.up_model.specs.declared.pipe.Pipe.{Pipe}
use Rattle.up_model.specs.declared.plain_packet.PlainPacket.{PlainPacket}
use Rattle.up_model.specs.declared.tally.Tally.{Tally}
use Rattle.up_outside.specs.States.{SourceState, SinkState}
use Rattle.up_shape.specs.Outgoing.{Outgoing}
use Rattle.up_strand.proofs.Meanings.{is_pipe_node, place_of_pipe, sink_ends, sums_are, sums_most}
use Rattle.up_strand.proofs.NodeSteps.{any_has_module}
use Rattle.up_strand.proofs.Reaching.{same_kind}
use Rattle.up_strand.proofs.Told.{outcome_is}
use Rattle.up_strand.specs.AnyModule.{any_kind, has_module}
use Rattle.up_strand.specs.Closing.{AreTold, AreWithoutSinks, outcome_at, sinks_in, sinks_of_nodes}
use Rattle.up_strand.specs.Gifts.{NodesFit}
use Rattle.up_strand.specs.History.{History, sums_at, told_at, told_at_last}
use Rattle.up_strand.specs.Making.{catches_nothing}
use Rattle.up_strand.specs.Nodes.{PartStands, Seat, is_outlet, holds_sink}
use Rattle.up_strand.specs.Spellings.{IsSinkOf, form_of}
use Rattle.up_strand.specs.StrandCalls.{SinkEnds}
use Rattle.up_strand.specs.Strands.{StandsFor, outcome_of_part, place_of}
use Rattle.up_strand.specs.Tree.{AllAt}
use Rattle.up_strand.specs.declared.closing.Ending.{Ending}
use Rattle.up_strand.specs.declared.closing.Told.{Told}
use Rattle.up_strand.specs.declared.node.Node.{Node}
use Rattle.up_strand.specs.declared.node.Part.{Part}
use Rattle.up_strand.specs.declared.node.Part.TheVariants.{Head, Pipe as PipePart, Sink, Outlet, Ended}
use Rattle.up_strand.specs.declared.spelling.Spelling.{Spelling}
use Rattle.up_strand.specs.declared.strand.Strand.{Strand}

-- items that are told one by one
alike : {Y Z : Type 0} (g : Y → Z) (xs : List Z) (ys : List Y) → length xs ≡ length ys
    → ((i : ℕ) (d : Z) (e : Y) → i < length ys → get_or xs i d ≡ g (get_or ys i e)) → xs ≡ map g ys
alike g [] [] same each = refl
alike g [] (y ∷ ys) same each = absurd (omega (arith, same))
alike g (x ∷ xs) [] same each = absurd (omega (arith, same))
alike g (x ∷ xs) (y ∷ ys) same each =
    ap₂ (λ a b. a ∷ b) (each 0 x y (omega arith)) (alike g xs ys (omega (arith, same)) (λ i d e within. each (suc i) d e (omega (arith, within))))

an_item : {X : Type 0} (xs : List X) (i : ℕ) → i < length xs → X
an_item [] i within = absurd (omega (arith, within))
an_item (x ∷ xs) i within = x

-- an end of a lane is no sink
outlet_is_none : {K : Type 0} (part : Part K) → is_outlet part ≡ true → holds_sink part ≡ false
outlet_is_none Head is = absurd (cc)
outlet_is_none (PipePart m) is = absurd (cc)
outlet_is_none (Sink sink spelling failed) is = absurd (cc)
outlet_is_none Outlet is = refl
outlet_is_none (Ended whole) is = absurd (cc)

source_is_none : (kind : Kind) → is_source kind ≡ true → false ≡ is_sink kind
source_is_none (kinds.Source path form limit) is = refl
source_is_none kind is = absurd (cc)

module_is_none : (kind : Kind) → has_module kind ≡ true → false ≡ is_sink kind
module_is_none (kinds.Source path form limit) has = refl
module_is_none (kinds.Sink path form) has = absurd (cc)
module_is_none kind has = refl

sink_is_one : (form : SinkForm) (kind : Kind) → IsSinkOf form kind → true ≡ is_sink kind
sink_is_one form (kinds.Sink path own) is = refl
sink_is_one form kind is = absurd is

-- a part is a sink where its kind is
part_is_sink : {P K : Type 0} (plain : P → PlainPacket) (state : K → SinkState) (seat : Seat) (kind : Kind) (short : Bool) (part : Part K) (fed : Flow)
    → seat.kind ≡ Some kind → is_outlet part ≡ false → PartStands plain state seat short part fed → holds_sink part ≡ is_sink kind
part_is_sink plain state seat kind short Head fed is inner part = source_is_none kind (rw is at part)
part_is_sink plain state seat kind short (PipePart m) fed is inner part =
    module_is_none kind (ap has_module (same_Some kind (any_kind m) (sym is ∙ part.0)) ∙ any_has_module m)
part_is_sink plain state seat kind short (Sink sink spelling failed) fed is inner part = sink_is_one (form_of spelling) kind (rw is at part.0)
part_is_sink plain state seat kind short Outlet fed is inner part = absurd (cc)
part_is_sink plain state seat kind short (Ended whole) fed is inner part = module_is_none kind (rw is at part)

module _ {K : Type 0} where
  -- the sink in a part
  none_in : (part : Part K) → holds_sink part ≡ false → sinks_in part ≡ []
  none_in Head none = refl
  none_in (PipePart m) none = refl
  none_in (Sink sink spelling failed) none = absurd (cc)
  none_in Outlet none = refl
  none_in (Ended whole) none = refl

  record HoldsSink (part : Part K) : Type 0 where
    pub sink : K
    pub spelling : Spelling
    pub failed : Bool
    pub is : part ≡ Sink sink spelling failed

  one_in : (part : Part K) → holds_sink part ≡ true → HoldsSink part
  one_in Head has = absurd (cc)
  one_in (PipePart m) has = absurd (cc)
  one_in (Sink sink spelling failed) has = record { sink = sink; spelling = spelling; failed = failed; is = refl }
  one_in Outlet has = absurd (cc)
  one_in (Ended whole) has = absurd (cc)

module _ {P K : Type 0} where
  module _ (test : ℕ → Bool) where
    -- the nodes are sinks where the places pass
    abbrev Match : List (Node P K) → List ℕ → Type 0
    Match nodes own = (i : ℕ) (d : Node P K) → i < length own → holds_sink (get_or nodes i d).part ≡ test (get_or own i 0)

    later : (node : Node P K) (nodes : List (Node P K)) (place : ℕ) (own : List ℕ) → Match (node ∷ nodes) (place ∷ own) → Match nodes own
    later node nodes place own match i d within = match (suc i) d (omega (arith, within))

    -- there are as many sinks as places that pass
    pub as_many : (nodes : List (Node P K)) (own : List ℕ) → length nodes ≡ length own → Match nodes own
        → length (sinks_of_nodes nodes) ≡ length (filter test own)
    as_many [] [] same match = refl
    as_many [] (place ∷ own) same match = absurd (omega (arith, same))
    as_many (node ∷ nodes) [] same match = absurd (omega (arith, same))
    as_many (node ∷ nodes) (place ∷ own) same match =
        let rest = as_many nodes own (omega (arith, same)) (later node nodes place own match) in
        let here = match 0 node (omega arith) in
        elim (cases_Bool (test place)) [
          | inl passing ↦
              let one = one_in node.part (here ∙ passing) in
              rw (passing, one.is) (ap suc rest)
          | inr failing ↦ rw (failing, none_in node.part (here ∙ failing)) rest
        ]

    -- the node of one of the sinks
    pub record IsSinkAt (nodes : List (Node P K)) (own : List ℕ) (place : ℕ) (given : K) : Type 0 where
      pub i : ℕ
      pub within : i < length own
      pub place_is : get_or own i 0 ≡ place
      pub spelling : Spelling
      pub failed : Bool
      pub part : (d : Node P K) → (get_or nodes i d).part ≡ Sink given spelling failed

    behind : (node : Node P K) (nodes : List (Node P K)) (first : ℕ) (own : List ℕ) (place : ℕ) (given : K)
        → IsSinkAt nodes own place given → IsSinkAt (node ∷ nodes) (first ∷ own) place given
    behind node nodes first own place given sink = record {
      i = suc sink.i;
      within = omega (arith, sink.within);
      place_is = sink.place_is;
      spelling = sink.spelling;
      failed = sink.failed;
      part = sink.part;
    }

    pub sink_at : (nodes : List (Node P K)) (own : List ℕ) → length nodes ≡ length own → Match nodes own
        → (k : ℕ) (d : K) → k < length (filter test own) → IsSinkAt nodes own (get_or (filter test own) k 0) (get_or (sinks_of_nodes nodes) k d)
    sink_at [] [] same match k d within = absurd (omega (arith, within))
    sink_at [] (place ∷ own) same match k d within = absurd (omega (arith, same))
    sink_at (node ∷ nodes) [] same match k d within = absurd (omega (arith, same))
    sink_at (node ∷ nodes) (place ∷ own) same match k d within =
        let here = match 0 node (omega arith) in
        let on = sink_at nodes own (omega (arith, same)) (later node nodes place own match) in
        elim (cases_Bool (test place)) [
          | inl passing ↦
              let one = one_in node.part (here ∙ passing) in
              let first : IsSinkAt (node ∷ nodes) (place ∷ own) place one.sink = record {
                i = 0;
                within = omega arith;
                place_is = refl;
                spelling = one.spelling;
                failed = one.failed;
                part = λ e. one.is;
              } in
              let inside : k < length (place ∷ filter test own) = rw passing at within in
              let all : IsSinkAt (node ∷ nodes) (place ∷ own) (get_or (place ∷ filter test own) k 0) (get_or (one.sink ∷ sinks_of_nodes nodes) k d) =
              by_k one.sink k inside first on in
              rw (passing, ap sinks_in one.is) all
          | inr failing ↦
              let inside : k < length (filter test own) = rw failing at within in
              rw (failing, none_in node.part (here ∙ failing)) (behind node nodes place own _ _ (on k d inside))
        ]
      where
        by_k : (sink : K) (k : ℕ) → k < length (place ∷ filter test own) → IsSinkAt (node ∷ nodes) (place ∷ own) place sink
            → ((k : ℕ) (d : K) → k < length (filter test own) → IsSinkAt nodes own (get_or (filter test own) k 0) (get_or (sinks_of_nodes nodes) k d))
            → IsSinkAt (node ∷ nodes) (place ∷ own) (get_or (place ∷ filter test own) k 0) (get_or (sink ∷ sinks_of_nodes nodes) k d)
        by_k sink zero inside first on = first
        by_k sink (suc k) inside first on = behind node nodes place own _ _ (on k d (omega (arith, inside)))

-- what waits is of the family, also where the sinks are gone
pub fits_left : {P K F : Type 0} (fits : P → F → Type 0) (family : F) (count : ℕ) (olds news : List (Node P K)) → length news ≡ length olds
    → AreWithoutSinks count olds news → NodesFit fits family olds → NodesFit fits family news
fits_left fits family count olds news same left fit i d within =
    subst (λ (out : Outgoing _). All (λ packet. fits packet family) out.packets) (sym (left.out i d)) (fit i d (omega (arith, same, within)))

module _ {P S K : Type 0} (plain : P → PlainPacket) (reads : S → SourceState) (writes : K → SinkState) (strand : Strand P S K) (h : History)
    (stands : StandsFor plain reads writes strand h) where
  abbrev nodes : List (Node P K)
  nodes = strand.tree.nodes.items

  abbrev own : List ℕ
  own = strand_of h.pipes h.head

  abbrev caught : List CatchSet
  caught = strand.caught.items

  abbrev is_sink_place : ℕ → Bool
  is_sink_place = passes_at ends_at_sink h.pipes

  pub first_nodes : length caught ≤ length nodes
  first_nodes =
      let all = ap length stands.built.places ∙ length-append own (outlets_of h.pipes h.head) in
      omega (arith, all, stands.built.count, stands.built.catches)

  first_are : length (take (length caught) nodes) ≡ length own
  first_are = length-take-le (length caught) nodes first_nodes ∙ stands.built.catches

  first_item : (i : ℕ) (d : Node P K) → i < length own → get_or (take (length caught) nodes) i d ≡ get_or nodes i d
  first_item i d within = get_or-take (length caught) nodes i d (let catches = stands.built.catches in omega (arith, catches, within))

  is_within : (i : ℕ) → i < length own → i < length nodes
  is_within i within = let upto = first_nodes in let catches = stands.built.catches in omega (arith, upto, catches, within)

  below_caught : (i : ℕ) → i < length own → i < length caught
  below_caught i within = let catches = stands.built.catches in omega (arith, catches, within)

  -- the nodes of sinks stand for the pipes that are
  sink_is : (i : ℕ) (d : Node P K) → i < length own → holds_sink (get_or nodes i d).part ≡ is_sink_place (get_or own i 0)
  sink_is i d within =
      let there = is_pipe_node plain reads writes strand h stands i d within in
      let node = stands.built.are.each i d there.0 there.1 in
      let kind : (stands.past.seats i).kind ≡ Some node.pipe.kind = node.kind ∙ ap Some (same_kind (selected h.pipes (place_of strand i)) node.pipe.kind) in
      part_is_sink plain writes (stands.past.seats i) node.pipe.kind (get_or nodes i d).short (get_or nodes i d).part (stands.past.fed i) kind there.1 (stands.stand.node i d there.0).part
      ∙ ap (λ (pipe : Option Pipe). option_map_or (λ (p : Pipe). is_sink p.kind) pipe false) (sym node.there)
      ∙ ap is_sink_place (place_of_pipe plain reads writes strand h stands i within)

  matches : Match is_sink_place (take (length caught) nodes) own
  matches i d within = ap (λ (n : Node P K). holds_sink n.part) (first_item i d within) ∙ sink_is i d within

  pub sinks_are : length (sinks_of_nodes (take (length caught) nodes)) ≡ length (sinks_of h.pipes h.head)
  sinks_are = as_many is_sink_place (take (length caught) nodes) own first_are matches

  -- none of the nodes is a sink any more
  pub none_left : (news : List (Node P K)) → length news ≡ length nodes → AreWithoutSinks (length caught) nodes news
      → AllAt (λ node. holds_sink node.part ≡ false) news
  none_left news same left i d within =
      elim (cases_lt i (length caught)) [
        | inl below ↦ left.none i d below
        | inr past ↦
            let outlet : is_outlet (get_or nodes i d).part ≡ true =
            stands.built.outlets i d (omega (arith, same, within)) ∙ le-leb (length own) i (let catches = stands.built.catches in omega (arith, catches, past)) in
            rw (left.rest i d past) (outlet_is_none (get_or nodes i d).part outlet)
      ]

  module _ (ending : Ending) (told : Told K) (short : ending.short ≡ strand.tree.short) (ended : ending.ended ≡ strand.ended)
      (are : AreTold ending caught nodes told) where
    pub outcomes_are : told.outcomes.items ≡ map (λ place. told_at_last ending.done (told_at h place)) own
    outcomes_are =
        alike (λ place. told_at_last ending.done (told_at h place)) told.outcomes.items own
        (ap length are.outcomes ∙ length-map (take (length caught) nodes) (outcome_at ending) ∙ first_are)
        (λ i d e within.
        let node = an_item nodes i (is_within i within) in
        let told_here : get_or told.outcomes.items i d ≡ outcome_at ending (get_or nodes i node) =
        ap (λ (l : List Outcome). get_or l i d) are.outcomes
        ∙ get_or-map (outcome_at ending) (take (length caught) nodes) i node d (omega (arith, first_are, within))
        ∙ ap (outcome_at ending) (first_item i node within) in
        told_here
        ∙ ap₂ (λ (fell : Bool) (how : Option Outcome). told_at_last ending.done (outcome_of_part (get_or nodes i node).part fell how)) short ended
        ∙ ap (told_at_last ending.done) (outcome_is plain reads writes strand h stands i node within)
        ∙ ap (λ place. told_at_last ending.done (told_at h place)) (place_of_pipe plain reads writes strand h stands i within ∙ get_or_default own i 0 e within))

    pub tallies_are : h.short ≡ false → told.tallies.items ≡ map (sums_at h) own
    tallies_are long =
        alike (sums_at h) told.tallies.items own (are.count_of ∙ stands.built.catches)
        (λ i d e within.
        let node = an_item nodes i (is_within i within) in
        let below = below_caught i within in
        are.tallies i node catches_nothing d below
        ∙ sums_are plain reads writes strand h stands i node (get_or caught i catches_nothing) within long (slice_get-get_or caught i catches_nothing below)
        ∙ ap (sums_at h) (place_of_pipe plain reads writes strand h stands i within ∙ get_or_default own i 0 e within))

    pub most_is : (k place : ℕ) (d : Tally) → slice_get own k ≡ Some place → IsAtMost (get_or told.tallies.items k d) (sums_at h place)
    most_is k place d there =
        let within = slice_get_within own k place there in
        let node = an_item nodes k (is_within k within) in
        let below = below_caught k within in
        let is : place_of strand k ≡ place = place_of_pipe plain reads writes strand h stands k within ∙ get_or_from_slice_get own k place 0 there in
        subst (λ (t : Tally). IsAtMost t (sums_at h place)) (sym (are.tallies k node catches_nothing d below))
        (subst (λ (p : ℕ). IsAtMost (uncaught (get_or caught k catches_nothing) (get_or nodes k node).out.tally) (sums_at h p)) is
        (sums_most plain reads writes strand h stands k node (get_or caught k catches_nothing) within (slice_get-get_or caught k catches_nothing below)))

    pub count_is : length told.tallies.items ≡ length own
    count_is = are.count_of ∙ stands.built.catches

    pub as_many_sinks : length told.sinks.items ≡ length (sinks_of h.pipes h.head)
    as_many_sinks = ap length are.sinks ∙ sinks_are

    pub written_is : (k place : ℕ) (pipe : Pipe) (d : K) → slice_get (sinks_of h.pipes h.head) k ≡ Some place → slice_get h.pipes place ≡ Some pipe
        → SinkEnds h place pipe (writes (get_or told.sinks.items k d))
    written_is k place pipe d at there =
        let within = slice_get_within (sinks_of h.pipes h.head) k place at in
        let sink = sink_at is_sink_place (take (length caught) nodes) own first_are matches k d within in
        let inside : sink.i < length own = sink.within in
        let given = get_or (sinks_of_nodes (take (length caught) nodes)) k d in
        let node = an_item nodes sink.i (is_within sink.i inside) in
        let is : place_of strand sink.i ≡ place =
        place_of_pipe plain reads writes strand h stands sink.i inside ∙ sink.place_is ∙ get_or_from_slice_get (sinks_of h.pipes h.head) k place 0 at in
        let part : (get_or nodes sink.i node).part ≡ Sink given sink.spelling sink.failed = sym (ap (λ (n : Node P K). n.part) (first_item sink.i node inside)) ∙ sink.part node in
        let ends : SinkEnds h (place_of strand sink.i) pipe (writes given) =
        sink_ends plain reads writes strand h stands sink.i node given sink.spelling sink.failed pipe (is_within sink.i inside) part (ap (slice_get h.pipes) is ∙ there) in
        subst (λ (sinks : List K). SinkEnds h place pipe (writes (get_or sinks k d))) (sym are.sinks) (subst (λ (p : ℕ). SinkEnds h p pipe (writes given)) is ends)
