-- A net whose strands were all made and did nothing yet.
use Rattle.std.proofs.Common.{◌≡◌, ℕ, ◌+◌, ◌<◌, List, [], ◌∷◌, length, map, get_or, All, true, false, is_some, Option, Some, None, refl, sym, ap, ◌∙◌, subst, arith, inl, inr}
use Rattle.std.specs.Option.{option_map_or}
use Rattle.std.specs.Vec.{vec_capacity}
use Rattle.std.specs.List.{Contains}
use Rattle.std.proofs.lemmas.Bool.{cases_lt}
use Rattle.std.proofs.lemmas.List.{get_or_append_left, get_or_past, get_or_push, length_push}
use Rattle.up_engine.proofs.BegunNets.{same_beginning}
use Rattle.up_engine.proofs.Fillers.{head_there, head_within}
use Rattle.up_engine.proofs.Numbered.{heads_apart}
use Rattle.up_engine.proofs.GivenBack.{elsewhere}
use Rattle.up_engine.specs.Begun.{AddsStrand, AreTakenOf, HasSameObjects, StrandsFit, StrandsStand, beginning, places_at}
use Rattle.up_engine.specs.Joins.{IsJoined, plain_item}
use Rattle.up_engine.specs.Nets.{ArePumped, IsNetOf, NetFits, NetStands, head_at, items_at}
use Rattle.up_engine.specs.Parts.{AreApart}
use Rattle.up_engine.specs.Tables.{AreEmptyLanes, HasTables, IsEmptyLane}
use Rattle.up_engine.specs.declared.net.Net.{Net}
use Rattle.up_engine.specs.declared.object.Object.{Object}
use Rattle.up_model.specs.Inputs.{passes_at}
use Rattle.up_model.specs.Plans.{heads, is_fed, lane_length}
use Rattle.up_model.specs.WellFormed.{IsWellFormed}
use Rattle.up_model.specs.declared.pipe.Pipe.{Pipe}
use Rattle.up_model.specs.declared.plain_packet.PlainPacket.{PlainPacket}
use Rattle.up_outside.specs.States.{SourceState, SinkState}
use Rattle.up_plan.proofs.OneStrand.{own_head, strand_has}
use Rattle.up_plan.specs.Plan.{plan_of, plan_strand}
use Rattle.up_plan.specs.declared.plan.Plan.{Plan}
use Rattle.up_pump.specs.Pumps.{pump_at}
use Rattle.up_pump.specs.declared.pump.Pump.{Pump}
use Rattle.up_queue.specs.Lane.{Lane}
use Rattle.up_queue.specs.declared.item.Item.{Item}
use Rattle.up_strand.specs.History.{History}
use Rattle.up_strand.specs.StrandCalls.{IsLegalItem, ItemFits}
use Rattle.up_strand.specs.Strands.{StandsFor}
use Rattle.up_strand.specs.declared.strand.Strand.{Strand}

heads_again : (pipes : List Pipe) (own : List ℕ) → map (λ strand. strand.head) (map (plan_strand pipes) own) ≡ own
heads_again pipes [] = refl
heads_again pipes (head ∷ own) = ap (λ l. head ∷ l) (heads_again pipes own)

-- the heads of a plan are those of the graph
pub planned_heads : (pipes : List Pipe) (plan : Plan) (own : List ℕ) → plan ≡ plan_of pipes → own ≡ map (λ strand. strand.head) plan.strands → own ≡ heads pipes
planned_heads pipes plan own is are = are ∙ ap (λ (p : Plan). map (λ strand. strand.head) p.strands) is ∙ heads_again pipes (heads pipes)

-- they stand within the graph, each once
pub planned_within : (pipes : List Pipe) (own : List ℕ) → own ≡ heads pipes → (i : ℕ) → i < length own → get_or own i 0 < length pipes
planned_within pipes own are i below =
    rw are (head_within pipes (head_at pipes i) (head_there pipes i (omega (arith, below, ap length are))))

pub planned_apart : (pipes : List Pipe) (own : List ℕ) → own ≡ heads pipes → AreApart own
planned_apart pipes own are = subst AreApart (sym are) (heads_apart pipes)

module _ {P : Type 0} (pipes : List Pipe) (own : List ℕ) (lanes : List (Option (Lane P))) (empty : AreEmptyLanes pipes own (length own) lanes) where
  none_waits_in : (head : ℕ) (lane : Option (Lane P)) → IsEmptyLane pipes head lane → option_map_or (λ (lane : Lane P). lane.items) lane [] ≡ []
  none_waits_in head None is = refl
  none_waits_in head (Some lane) is = is.2

  -- nothing waits in any lane
  pub nothing_waits : (i : ℕ) → items_at lanes i ≡ []
  nothing_waits i = elim (cases_lt i (length own)) [
    | inl below ↦ none_waits_in (get_or own i 0) (get_or lanes i None) (empty.each i below)
    | inr past ↦ ap (λ (lane : Option (Lane P)). option_map_or (λ (lane : Lane P). lane.items) lane []) (get_or_past lanes i None (let size = empty.size in omega (arith, past, size)))
  ]

  lane_where_fed : (head : ℕ) (lane : Option (Lane P)) → IsEmptyLane pipes head lane → is_some lane ≡ passes_at is_fed pipes head
  lane_where_fed head None is = sym is
  lane_where_fed head (Some lane) is = sym is.0

  pub lanes_there : (i : ℕ) → i < length own → is_some (get_or lanes i None) ≡ passes_at is_fed pipes (get_or own i 0)
  lanes_there i below = lane_where_fed (get_or own i 0) (get_or lanes i None) (empty.each i below)

  pub lanes_have_room : (i : ℕ) (lane : Lane P) → get_or lanes i None ≡ Some lane → lane.cap ≡ lane_length pipes (get_or own i 0)
  lanes_have_room i lane is = elim (cases_lt i (length own)) [
    | inl below ↦ let here = rw is at (empty.each i below) in here.1
    | inr past ↦ absurd (let none : None ≡ Some lane = sym (get_or_past lanes i None (let size = empty.size in omega (arith, past, size))) ∙ is in cc)
  ]

module _ {P S K : Type 0} (plain : P → PlainPacket) (reads : S → SourceState) (writes : K → SinkState) (pipes : List Pipe) (table : List (Object S K)) where
  abbrev past : ℕ → History
  past = beginning reads writes pipes table

  -- one strand more was made
  pub strand_made : (old new : Net P S K) (before after : List (Object S K)) → length old.strands.items < length (heads pipes) → AddsStrand plain reads writes pipes old new before after
      → StrandsStand plain reads writes pipes old.strands.items past → AreTakenOf pipes (length old.strands.items) table before
      → StrandsStand plain reads writes pipes new.strands.items past × AreTakenOf pipes (length new.strands.items) table after
  strand_made old new before after within adds stand taken =
      let n = length old.strands.items in
      let count : length new.strands.items ≡ n + 1 = ap length adds.added ∙ length_push old.strands.items adds.strand in
      let head = head_at pipes n in
      let is_head = head_there pipes n within in
      let same = same_beginning reads writes pipes table before head (strand_has pipes head head (own_head pipes head is_head)) (λ place has. taken.same n place (omega arith) within has) in
      let begins = subst (StandsFor plain reads writes adds.strand) same adds.begins in (
        record {
          few = omega (arith, count, within);
          stand = λ i d below. elim (cases_lt i n) [
            | inl before_it ↦
                subst (λ (x : Strand P S K). StandsFor plain reads writes x (past (head_at pipes i)))
                (sym (ap (λ l. get_or l i d) adds.added ∙ get_or_append_left old.strands.items (adds.strand ∷ []) d i before_it)) (stand.stand i d before_it)
            | inr after_it ↦
                let last : n ≡ i = omega (arith, after_it, below, count) in
                subst (λ (x : Strand P S K). StandsFor plain reads writes x (past (head_at pipes i)))
                (sym (ap (λ l. get_or l i d) adds.added ∙ get_or_push old.strands.items adds.strand d i last))
                (subst (λ (k : ℕ). StandsFor plain reads writes adds.strand (past (head_at pipes k))) last begins)
          ];
          graphs = λ i below. refl;
          places = λ i below. refl;
        },
        record {
          size = adds.others.size ∙ taken.size;
          none = λ i below place has. elim (cases_lt i n) [
            | inl before_it ↦
                adds.others.same place (elsewhere pipes i n place (omega (arith, before_it, within)) within (λ is. omega (arith, is, before_it)) has) ∙ taken.none i before_it place has
            | inr after_it ↦
                let last : i ≡ n = omega (arith, after_it, below, count) in
                adds.none place (subst (λ (k : ℕ). Contains (places_at pipes k) place) last has)
          ];
          same = λ i place from below has.
              adds.others.same place (elsewhere pipes i n place below within (λ is. omega (arith, is, from, count)) has) ∙ taken.same i place (omega (arith, from, count)) below has;
        },
      )

  -- what was taken stays so where all objects are the same
  pub still_taken : (count : ℕ) (before after : List (Object S K)) → AreTakenOf pipes count table before → HasSameObjects before after → AreTakenOf pipes count table after
  still_taken count before after taken same = record {
    size = same.size ∙ taken.size;
    none = λ i below place has. same.same place ∙ taken.none i below place has;
    same = λ i place from below has. same.same place ∙ taken.same i place from below has;
  }

  -- the tables stay while strands are made
  pub same_tables : (old new : Net P S K) → HasTables pipes old → vec_capacity new.strands ≡ vec_capacity old.strands → new ≡ record old { strands = new.strands }
      → HasTables pipes new
  same_tables old new tables room same =
      subst (HasTables pipes) (sym same) (record {
        head_places = tables.head_places;
        lanes = tables.lanes;
        filler_count = tables.filler_count;
        fillers = tables.fillers;
        number_count = tables.number_count;
        numbers = tables.numbers;
        pump_count = tables.pump_count;
        pumps = tables.pumps;
        room = let there = tables.room in omega (arith, there, room);
      })

  module _ (net : Net P S K) (well : IsWellFormed pipes) (tables : HasTables pipes net) (count : length net.strands.items ≡ length (heads pipes)) where
    pub empty_lanes : (i : ℕ) → items_at net.lanes.items i ≡ []
    empty_lanes = nothing_waits pipes (heads pipes) net.lanes.items tables.lanes

    is_net : IsNetOf net pipes
    is_net = record {
      well = well;
      head_places = tables.head_places;
      strands = count;
      lane_count = tables.lanes.size;
      lanes = lanes_there pipes (heads pipes) net.lanes.items tables.lanes;
      room = lanes_have_room pipes (heads pipes) net.lanes.items tables.lanes;
      filler_count = tables.filler_count;
      fillers = tables.fillers;
      number_count = tables.number_count;
      numbers = tables.numbers;
      pumps = tables.pump_count;
    }

    are_pumped : ArePumped net pipes
    are_pumped = record {
      ready = λ i d below is. absurd (let no : true ≡ false = sym (ap (λ (pump : Pump). pump.ready) (tables.pumps i below)) ∙ is in cc);
      held = λ i d below is. absurd (is (ap (λ (pump : Pump). pump.blockers) (tables.pumps i below)));
      few = λ i below. let none : (pump_at net.pumps i).blockers ≡ 0 = ap (λ (pump : Pump). pump.blockers) (tables.pumps i below) in omega (arith, none);
    }

    no_items : (Q : Item P → Type 0) (i : ℕ) → All Q (items_at net.lanes.items i)
    no_items Q i = subst (All Q) (sym (empty_lanes i)) (λ k d below. absurd (omega (arith, below)))

    pub fresh_stands : StrandsStand plain reads writes pipes net.strands.items past → NetStands plain reads writes net pipes past
    fresh_stands stand = record {
      shape = is_net;
      strands = λ i d below. stand.stand i d (omega (arith, below, count));
      graphs = λ i below. refl;
      places = λ i below. refl;
      joined = λ i filler below filled.
          subst (λ (items : List (Item P)). IsJoined (past filler) (past (head_at pipes i)) (head_at pipes i) (map (plain_item plain) items)) (sym (empty_lanes i))
          (record { all = refl; ends = tt });
      legal = no_items (IsLegalItem plain);
      pumped = are_pumped;
    }

    pub fresh_fits : {F : Type 0} (fits : P → F → Type 0) (family : F) → StrandsFit net.strands.items fits family → NetFits net fits family
    fresh_fits fits family all = record { strands = all; lanes = no_items (ItemFits fits family) }
