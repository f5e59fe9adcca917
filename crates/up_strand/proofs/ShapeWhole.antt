-- The shape of a strand, of its parts.
use Rattle.std.proofs.Common.{◌≡◌, ◌≢◌, ℕ, suc, ◌-◌, ◌<◌, ◌≤◌, ◌⊎◌, List, ◌++◌, length, map, get_or, Option, Some, None, refl, ap, sym, ◌∙◌, subst, arith, inl, inr}
use Rattle.std.specs.List.{Contains, filter}
use Rattle.std.specs.Option.{is_some, option_map_or}
use Rattle.std.proofs.lemmas.Bool.{cases_lt, ne_eqb}
use Rattle.std.proofs.lemmas.Bool.Decides.{eqb_tells}
use Rattle.std.proofs.lemmas.List.Elements.{Contains-get_or}
use Rattle.std.proofs.lemmas.List.{get_or_append_left, get_or-append_right, get_or_default, get_or-map, length-append, length-map}
use Rattle.std.proofs.lemmas.Option.{same_Some, slice_get-get_or}
use Rattle.up_model.specs.Inputs.{input_at}
use Rattle.up_model.specs.Plans.{head_of, heads, outlets_of, strand_of}
use Rattle.up_model.specs.WellFormed.{IsWellFormed}
use Rattle.up_model.specs.declared.pipe.Pipe.{Pipe}
use Rattle.up_plan.proofs.OneStrand.{in_strand, own_head, strand_has, strand_is_joined}
use Rattle.up_strand.proofs.ShapeDepths.{depth_at_head, depth_rises}
use Rattle.up_strand.proofs.ShapeOutlets.{apart, found_place, is_outlet, outlet_is_other, outlets_are, place_found}
use Rattle.up_strand.specs.Shapes.{AreTakersIn, IsInputIn, IsShapeOf, depth_of, input_among, input_in, node_depth, node_input, place_in}
use Rattle.up_strand.specs.Tree.{IsOrder}
use Rattle.up_strand.specs.declared.shape.Shape.{Shape}

module _ (pipes : List Pipe) (well : IsWellFormed pipes) (head : ℕ) where
  abbrev own : List ℕ
  own = strand_of pipes head

  abbrev ends : List ℕ
  ends = outlets_of pipes head

  abbrev nodes : List ℕ
  nodes = own ++ ends

  abbrev place : ℕ → ℕ
  place i = get_or nodes i 0

  abbrev input : ℕ → Option ℕ
  input i = node_input pipes own head (place i)

  abbrev rank : ℕ → ℕ
  rank i = node_depth pipes head nodes i

  -- the node takes from one of a pipe, from whose place its own takes
  record IsFed (i : ℕ) : Type 0 where
    other : place i ≢ head
    node : ℕ
    inner : node < length own
    is : input i ≡ Some node
    takes : input_at pipes (place i) ≡ Some (place node)
    within : head_of pipes (place node) ≡ Some head

  -- the node is the head
  record IsFirst (i : ℕ) : Type 0 where
    here : place i ≡ head
    inner : i < length own
    is : input i ≡ None

  fed_by : (i from : ℕ) → place i ≢ head → input_at pipes (place i) ≡ Some from → head_of pipes from ≡ Some head → IsFed i
  fed_by i from other takes is =
      let found = place_found own from (strand_has pipes head from is) in
      let at = found_place own from found.0 0 found.1 in
      let same : place found.0 ≡ from = get_or_append_left own ends 0 found.0 at.0 ∙ at.1 in
      record {
        other = other;
        node = found.0;
        inner = at.0;
        is = rw (ne_eqb (place i) head other, takes) found.1;
        takes = takes ∙ ap Some (sym same);
        within = ap (head_of pipes) same ∙ is;
      }

  first_of : (i : ℕ) → place i ≡ head → i < length own → IsFirst i
  first_of i here inner = record {
    here = here;
    inner = inner;
    is = elim (eqb_tells (place i) head) [
      | inl same ↦ rw same.0 refl
      | inr other ↦ absurd (other.1 here)
    ];
  }

  each_node : (i : ℕ) → i < length nodes → IsFirst i ⊎ IsFed i
  each_node i within = elim (cases_lt i (length own)) [
    | inl inner ↦
        let there : Contains own (place i) = subst (Contains own) (sym (get_or_append_left own ends 0 i inner)) (Contains-get_or own i 0 inner) in
        elim (eqb_tells (place i) head) [
          | inl same ↦ inl (first_of i same.1 inner)
          | inr other ↦
              let joined = strand_is_joined pipes head (place i) there other.1 in
              inr (fed_by i joined.input other.1 joined.takes (in_strand pipes head joined.input joined.within))
        ]
    | inr beyond ↦
        let end : i - length own < length ends = omega (arith, within, beyond, length-append own ends) in
        let there : Contains ends (place i) =
        subst (Contains ends) (sym (get_or-append_right own ends (length own) i 0 refl beyond)) (Contains-get_or ends (i - length own) 0 end) in
        let outlet = is_outlet pipes well head (place i) there in
        inr (fed_by i outlet.input (outlet_is_other pipes well head (place i) there) outlet.takes outlet.within)
  ]

  -- the places are those of the nodes, where they are those of the strand and of the lanes that they fill
  pub places_are : (pipe_places all places : List ℕ) → pipe_places ≡ own → all ≡ heads pipes
      → places ≡ pipe_places ++ filter (λ place. is_some (input_among pipes pipe_places place)) all → places ≡ nodes
  places_are pipe_places all places is_own is_heads is =
      is ∙ ap (λ (l : List ℕ). l ++ filter (λ place. is_some (input_among pipes l place)) all) is_own
      ∙ ap (λ (l : List ℕ). own ++ filter (λ place. is_some (input_among pipes own place)) l) is_heads
      ∙ ap (λ (l : List ℕ). own ++ l) (outlets_are pipes well head)

  inside : (i : ℕ) → i < length own → i < length nodes
  inside i inner = omega (arith, inner, length-append own ends)

  rank_is : (i : ℕ) → i < length nodes → rank i ≡ depth_of pipes head (place i)
  rank_is i within = ap (λ place. option_map_or (depth_of pipes head) place 0) (slice_get-get_or nodes i 0 within)

  rank_rises : (i : ℕ) → i < length nodes → (fed : IsFed i) → rank fed.node < rank i
  rank_rises i within fed =
      omega (arith, rank_is i within, rank_is fed.node (inside fed.node fed.inner), depth_rises pipes head (place i) (place fed.node) fed.other fed.takes fed.within)

  rises : (i k : ℕ) → i < length nodes → input i ≡ Some k → rank k < rank i
  rises i k within is = elim (each_node i within) [
    | inl first ↦ absurd (let wrong : None ≡ Some k = sym first.is ∙ is in cc)
    | inr fed ↦ subst (λ (n : ℕ). rank n < rank i) (same_Some fed.node k (sym fed.is ∙ is)) (rank_rises i within fed)
  ]

  module _ (there : Contains (heads pipes) head) (order : List ℕ) (sweeps : IsOrder rank (length nodes) order) where
    head_stands : Contains own head
    head_stands = strand_has pipes head head (own_head pipes head there)

    head_place : place head_stands.0 ≡ head
    head_place = get_or_append_left own ends 0 head_stands.0 head_stands.1 ∙ get_or_default own head_stands.0 0 head head_stands.1 ∙ head_stands.2

    head_rank : rank head_stands.0 ≡ 0
    head_rank = rank_is head_stands.0 (inside head_stands.0 head_stands.1) ∙ ap (depth_of pipes head) head_place ∙ depth_at_head pipes head (suc (length pipes))

    some : 0 < length order
    some = let at = sweeps.all head_stands.0 (inside head_stands.0 head_stands.1) in omega (arith, at.1)

    first_is : (d : ℕ) → IsFirst (get_or order 0 d)
    first_is d = elim (each_node (get_or order 0 d) (sweeps.within 0 d some)) [
      | inl first ↦ first
      | inr fed ↦
          let at = sweeps.all head_stands.0 (inside head_stands.0 head_stands.1) in
          let less : rank (get_or order 0 d) ≤ rank (get_or order at.0 d) = sweeps.rising 0 at.0 d (omega arith) at.1 in
          let none : rank (get_or order at.0 d) ≡ 0 = ap rank (at.2 d) ∙ head_rank in
          absurd (omega (arith, less, none, rank_rises (get_or order 0 d) (sweeps.within 0 d some) fed))
    ]

    only_first : (i d : ℕ) → i < length nodes → input i ≡ None → get_or order 0 d ≡ i
    only_first i d within none = elim (each_node i within) [
      | inl first ↦ apart pipes well head (get_or order 0 d) i (sweeps.within 0 d some) within ((first_is d).here ∙ sym first.here)
      | inr fed ↦ absurd (let wrong : None ≡ Some fed.node = sym none ∙ fed.is in cc)
    ]

  module _ (there : Contains (heads pipes) head) (shape : Shape) (places : shape.places.items ≡ nodes) (count : shape.pipes ≡ length own)
      (inputs : shape.inputs.items ≡ map (node_input pipes own head) nodes)
      (same_takers : length shape.takers.items ≡ length shape.inputs.items)
      (takers : (k : ℕ) → k < length shape.inputs.items → AreTakersIn shape.inputs.items k (get_or shape.takers.items k None))
      (sweeps : IsOrder rank (length nodes) shape.order.items) where
    within_nodes : (i : ℕ) → i < length shape.places.items → i < length nodes
    within_nodes i within = omega (arith, within, ap length places)

    place_is : (i : ℕ) → place_in pipes head shape i ≡ place i
    place_is i = ap (λ (l : List ℕ). get_or l i 0) places

    input_is : (i : ℕ) → i < length nodes → input_in shape.inputs.items i ≡ input i
    input_is i within = ap (λ (l : List (Option ℕ)). get_or l i None) inputs ∙ get_or-map (node_input pipes own head) nodes i 0 None within

    inputs_count : length shape.inputs.items ≡ length shape.places.items
    inputs_count = ap length inputs ∙ length-map _ _ ∙ sym (ap length places)

    is_input : (i : ℕ) → i < length nodes → IsInputIn pipes head shape i (input_in shape.inputs.items i)
    is_input i within = elim (each_node i within) [
      | inl first ↦
          subst (IsInputIn pipes head shape i) (sym (input_is i within ∙ first.is)) (place_is i ∙ first.here, omega (arith, first.inner, count))
      | inr fed ↦
          subst (IsInputIn pipes head shape i) (sym (input_is i within ∙ fed.is))
          (omega (arith, fed.inner, count), ap (input_at pipes) (place_is i) ∙ fed.takes ∙ ap Some (sym (place_is fed.node)))
    ]

    end_takes : (i : ℕ) → i < length nodes → shape.pipes ≤ i → (k : ℕ) × (input_in shape.inputs.items i ≡ Some k)
    end_takes i within beyond = elim (each_node i within) [
      | inl first ↦ absurd (omega (arith, first.inner, beyond, count))
      | inr fed ↦ (fed.node, input_is i within ∙ fed.is)
    ]

    pub shape_is : IsShapeOf pipes head shape
    shape_is = record {
      places = places;
      pipes_of = count;
      apart = λ i j within inner same. apart pipes well head i j (within_nodes i within) (within_nodes j inner) (sym (place_is i) ∙ same ∙ place_is j);
      inputs_of = inputs_count;
      input = λ i within. is_input i (within_nodes i within);
      lanes = λ i within. end_takes i (within_nodes i within);
      takers_of = same_takers ∙ inputs_count;
      takers = λ k within. takers k (omega (arith, within, inputs_count));
      rank = rank;
      rises = λ i k within is. rises i k (within_nodes i within) (sym (input_is i (within_nodes i within)) ∙ is);
      order = subst (λ (n : ℕ). IsOrder rank n shape.order.items) (sym (ap length places)) sweeps;
      some = some there shape.order.items sweeps;
      first = λ d. input_is (get_or shape.order.items 0 d) (sweeps.within 0 d (some there shape.order.items sweeps)) ∙ (first_is there shape.order.items sweeps d).is;
      one_head = λ i within none d. only_first there shape.order.items sweeps i d (within_nodes i within) (sym (input_is i (within_nodes i within)) ∙ none);
    }
