-- A strand that is made stands for nothing done.
use Rattle.std.proofs.Common.{◌≡◌, ◌≢◌, ℕ, zero, suc, ◌+◌, ◌<◌, ◌≤◌, ◌==◌, List, [], ◌∷◌, ◌++◌, length, map, take, drop, get_or, cond, replicate, Bool, true, false, Option, Some, None, slice_get, refl, sym, ap, ◌∙◌, subst, arith, inl, inr}
use Rattle.std.specs.Prelude.{MatchOption, IfSome, nat_lt, nat_le, option_map}
use Rattle.std.specs.List.{filter, position_or_len}
use Rattle.std.proofs.lemmas.Bool.{cases_Bool, cases_lt, lt-ltb, ltb-true}
use Rattle.std.proofs.lemmas.Bool.Decides.{eqb_tells}
use Rattle.std.proofs.lemmas.List.{get_or-map, get_or-take, get_or-drop, get_or_append_left, get_or_past, length-map, length-take-le}
use Rattle.std.proofs.Math.Seq.{take-length, take-append_seam, get_or-append_seam}
use Rattle.std.proofs.lemmas.List.Filters.{length-filter_more}
use Rattle.std.proofs.lemmas.Option.{slice_get-get_or}
use Rattle.up_base.specs.ReservedList.{Reserved}
use Rattle.up_model.proofs.WellFormed.{is_pipe}
use Rattle.up_model.specs.Ends.{written_by}
use Rattle.up_model.specs.Inputs.{passes_at}
use Rattle.up_model.specs.Kinds.{IsWithinBounds}
use Rattle.up_model.specs.Plans.{ends_at_sink, outlets_of, strand_of}
use Rattle.up_model.specs.WellFormed.{IsWellFormed}
use Rattle.up_model.specs.declared.form.SinkForm.{SinkForm}
use Rattle.up_model.specs.declared.form.SinkForm.TheVariants as sink_forms
use Rattle.up_model.specs.declared.kind.Kind.TheVariants as kinds
use Rattle.up_model.specs.declared.pipe.Pipe.{Pipe}
use Rattle.up_model.specs.declared.plain_packet.PlainPacket.{PlainPacket}
use Rattle.up_model.specs.declared.value.Value.{Value}
use Rattle.up_outside.specs.Counts.{CountsOnce}
use Rattle.up_outside.specs.States.{SinkState}
use Rattle.up_strand.proofs.Writes.{receives_nothing}
use Rattle.up_strand.specs.Making.{CanBegin, HasBegun, is_sink_in, node_place, own_in, seat_in, sink_places, value_in}
use Rattle.up_strand.specs.StrandCalls.{told_of}
use Rattle.up_strand.specs.Nodes.{NodeStands, PartStands, Seat, has_ended, has_failed, is_outlet}
use Rattle.up_strand.specs.Shapes.{IsShapeOf, input_in}
use Rattle.up_strand.specs.Spellings.{IsSinkOf, form_of}
use Rattle.up_strand.specs.Values.{value_at}
use Rattle.up_strand.specs.Writing.{Receives}
use Rattle.up_strand.specs.declared.node.Node.{Node}
use Rattle.up_strand.specs.declared.node.Part.{Part}
use Rattle.up_strand.specs.declared.node.Part.TheVariants.{Sink}
use Rattle.up_strand.specs.declared.node.Takers.{Takers}
use Rattle.up_strand.specs.declared.shape.Shape.{Shape}
use Rattle.up_strand.specs.declared.spelling.Spelling.{Spelling}

counts_none : (n : ℕ) → CountsOnce false n n
counts_none n = record {
  counts = record { later = omega arith; rose = λ wrong. absurd (cc); stays = λ is. refl };
  once = omega arith;
}

nothing_written : (form : SinkForm) → written_by form [] ≡ []
nothing_written sink_forms.Raw = refl
nothing_written sink_forms.Framed = refl

-- a sink that was given nothing
pub sink_begins : {K : Type 0} (state : K → SinkState) (seat : Seat) (path : List ℕ) (form : SinkForm) (sink : K) (spelling : Spelling)
    → seat.kind ≡ Some (kinds.Sink path form) → form_of spelling ≡ form → seat.start ≡ state sink
    → MatchOption seat.kind ⊥ (IsSinkOf (form_of spelling)) × Receives seat.start (state sink) true (written_by (form_of spelling) [])
    × CountsOnce false seat.start.faults (state sink).faults
sink_begins state seat path form sink spelling is same start =
    rw (is, same, start, nothing_written form) ((refl, receives_nothing (state sink) true, counts_none (state sink).faults))

pub one_plus : (n : ℕ) → 1 + n ≡ suc n
one_plus n = omega arith

module _ (test : ℕ → Bool) where
  -- how many pass before a place, and there
  pub fewer_before : (own : List ℕ) (i : ℕ) → i < length own → test (get_or own i 0) ≡ true
      → length (filter test (take i own)) < length (filter test own)
  fewer_before [] i within passes = absurd (omega arith)
  fewer_before (x ∷ own) zero within passes = rw passes (omega arith)
  fewer_before (x ∷ own) (suc i) within passes =
      let later = fewer_before own i (omega arith) passes in
      elim (cases_Bool (test x)) [
        | inl passing ↦ rw passing (omega (arith, later))
        | inr failing ↦ rw failing later
      ]

  -- an item that passes stands behind those that pass before it
  pub place_of_passing : (own : List ℕ) (i : ℕ) → i < length own → test (get_or own i 0) ≡ true
      → ((j : ℕ) → j < i → get_or own j 0 ≢ get_or own i 0)
      → position_or_len (λ other. other == get_or own i 0) (filter test own) ≡ length (filter test (take i own))
  place_of_passing [] i within passes apart = absurd (omega arith)
  place_of_passing (x ∷ own) zero within passes apart =
      let here : (x == x) ≡ true = elim (eqb_tells x x) [ inl same ↦ same.0 | inr other ↦ absurd (other.1 refl) ] in
      rw (passes, here) refl
  place_of_passing (x ∷ own) (suc i) within passes apart =
      let later = place_of_passing own i (omega arith) passes (λ j before. apart (suc j) (omega arith)) in
      let differs : (x == get_or own i 0) ≡ false = elim (eqb_tells x (get_or own i 0)) [ inl same ↦ absurd (apart 0 (omega arith) same.1) | inr other ↦ other.0 ] in
      elim (cases_Bool (test x)) [
        | inl passing ↦ rw (passing, differs) (ap (λ n. 1 + n) later ∙ one_plus (length (filter test (take i own))))
        | inr failing ↦ rw failing later
      ]

-- how many nodes of sinks stand before a place
abbrev pub sinks_before : List Pipe → Shape → ℕ → ℕ
sinks_before pipes shape i = length (filter (passes_at ends_at_sink pipes) (take i (own_in shape)))

not_below : (i n : ℕ) → n ≤ i → nat_lt i n ≡ false
not_below i n past =
    elim (cases_Bool (nat_lt i n)) [
      | inl below ↦ absurd (let less : i < n = ltb-true i n below in omega arith)
      | inr is ↦ is
    ]

take_past : (n m : ℕ) (xs : List ℕ) → length xs ≤ n → length xs ≤ m → take n xs ≡ take m xs
take_past zero zero xs one two = refl
take_past zero (suc m) [] one two = refl
take_past zero (suc m) (x ∷ xs) one two = absurd (omega arith)
take_past (suc n) zero [] one two = refl
take_past (suc n) zero (x ∷ xs) one two = absurd (omega arith)
take_past (suc n) (suc m) [] one two = refl
take_past (suc n) (suc m) (x ∷ xs) one two = ap (λ rest. x ∷ rest) (take_past n m xs (omega arith) (omega arith))

module _ (pipes : List Pipe) (shape : Shape) (can : CanBegin pipes shape) where
  own_length : length (own_in shape) ≡ shape.pipes
  own_length = length-take-le shape.pipes shape.places.items can.pipes_of

  own_place : (i : ℕ) → i < shape.pipes → get_or (own_in shape) i 0 ≡ node_place shape i
  own_place i below = get_or-take shape.pipes shape.places.items i 0 below

  pub one_more : (i : ℕ) → sinks_before pipes shape (i + 1) ≡ sinks_before pipes shape i + cond (is_sink_in pipes shape i) 1 0
  one_more i =
      elim (cases_lt i shape.pipes) [
        | inl below ↦
            let more = length-filter_more (passes_at ends_at_sink pipes) (own_in shape) i 0 (omega (arith, own_length)) in
            rw (lt-ltb i shape.pipes below) (rw (own_place i below) at more)
        | inr past ↦
            let same : take (i + 1) (own_in shape) ≡ take i (own_in shape) = take_past (i + 1) i (own_in shape) (omega (arith, own_length)) (omega (arith, own_length)) in
            let no_pipe : nat_lt i shape.pipes ≡ false = not_below i shape.pipes past in
            rw (same, no_pipe) (omega arith)
      ]

  pub all_before : (i : ℕ) → length shape.places.items ≤ i → sinks_before pipes shape i ≡ length (sink_places pipes shape)
  all_before i past =
      let same : take i (own_in shape) ≡ take (length (own_in shape)) (own_in shape) =
      take_past i (length (own_in shape)) (own_in shape) (let upto = can.pipes_of in omega (arith, own_length)) (omega arith) in
      ap (λ own. length (filter (passes_at ends_at_sink pipes) own)) (same ∙ take-length (own_in shape))

  -- before a node of a sink there is one more
  pub sink_waits : {K : Type 0} (sinks : List K) (i : ℕ) → length sinks ≡ length (sink_places pipes shape) → is_sink_in pipes shape i ≡ true
      → sinks_before pipes shape i < length sinks
  sink_waits sinks i count is =
      elim (cases_lt i shape.pipes) [
        | inl below ↦
            let within : i < length (own_in shape) = omega (arith, own_length) in
            let passing : passes_at ends_at_sink pipes (node_place shape i) ≡ true = rw (lt-ltb i shape.pipes below) at is in
            let passes : passes_at ends_at_sink pipes (get_or (own_in shape) i 0) ≡ true = rw (own_place i below) passing in
            let less = fewer_before (passes_at ends_at_sink pipes) (own_in shape) i within passes in
            omega (arith, less, count)
        | inr past ↦
            let no_pipe : nat_lt i shape.pipes ≡ false = not_below i shape.pipes past in
            absurd (let wrong : false ≡ true = rw no_pipe at is in cc)
      ]

  -- the next sink is that of the next node of a sink
  pub next_sink : {K : Type 0} (state : K → SinkState) (sinks : List K) (i : ℕ) (d : K) → length sinks ≡ length (sink_places pipes shape)
      → is_sink_in pipes shape i ≡ true
      → (sinks_before pipes shape i < length sinks) × ((seat_in pipes shape (told_of state (sink_places pipes shape) sinks) i).start ≡ state (get_or (drop (sinks_before pipes shape i) sinks) 0 d))
  next_sink state sinks i d count is =
      elim (cases_lt i shape.pipes) [
        | inl below ↦
            let within : i < length (own_in shape) = omega (arith, own_length) in
            let here = own_place i below in
            let passing : passes_at ends_at_sink pipes (node_place shape i) ≡ true = rw (lt-ltb i shape.pipes below) at is in
            let passes : passes_at ends_at_sink pipes (get_or (own_in shape) i 0) ≡ true = rw here passing in
            let less = fewer_before (passes_at ends_at_sink pipes) (own_in shape) i within passes in
            let apart : (j : ℕ) → j < i → get_or (own_in shape) j 0 ≢ get_or (own_in shape) i 0 = λ j before same.
            let upto = can.pipes_of in
            let one : j ≡ i = can.apart j i (omega arith) (omega arith) (sym (own_place j (omega arith)) ∙ same ∙ here) in
            omega arith in
            let place = place_of_passing (passes_at ends_at_sink pipes) (own_in shape) i within passes apart in
            let place_here : position_or_len (λ other. other == node_place shape i) (sink_places pipes shape) ≡ sinks_before pipes shape i = rw here at place in
            let inside : sinks_before pipes shape i < length sinks = omega (arith, less, count) in
            let item : get_or (drop (sinks_before pipes shape i) sinks) 0 d ≡ get_or sinks (sinks_before pipes shape i) d =
            get_or-drop (sinks_before pipes shape i) sinks 0 d ∙ ap (λ k. get_or sinks k d) (let n : sinks_before pipes shape i + 0 ≡ sinks_before pipes shape i = omega arith in n) in
            (inside, rw (lt-ltb i shape.pipes below, place_here, lt-ltb (sinks_before pipes shape i) _ less, slice_get-get_or sinks (sinks_before pipes shape i) d inside, item) refl)
        | inr past ↦
            let no_pipe : nat_lt i shape.pipes ≡ false = not_below i shape.pipes past in
            absurd (let wrong : false ≡ true = rw no_pipe at is in cc)
      ]

  -- the next value is that of the next node
  pub next_owned : (values : List (Option Value)) (i : ℕ) → values ≡ map (value_at pipes) (own_in shape) → get_or (drop i values) 0 None ≡ value_in pipes shape i
  next_owned values i are =
      let plus : i + 0 ≡ i = omega arith in
      let next : get_or (drop i values) 0 None ≡ get_or (map (value_at pipes) (own_in shape)) i None =
      get_or-drop i values 0 None ∙ ap (λ k. get_or values k None) plus ∙ ap (λ l. get_or l i None) are in
      elim (cases_lt i shape.pipes) [
        | inl below ↦
            let item = get_or-map (value_at pipes) (own_in shape) i 0 None (omega (arith, own_length)) in
            rw (lt-ltb i shape.pipes below) (next ∙ item ∙ ap (value_at pipes) (own_place i below))
        | inr past ↦
            let none = get_or_past (map (value_at pipes) (own_in shape)) i None (let long = length-map (own_in shape) (value_at pipes) in omega (arith, own_length, long)) in
            rw (not_below i shape.pipes past) (next ∙ none)
      ]

module _ (pipes : List Pipe) (well : IsWellFormed pipes) (shape : Shape) (told : ℕ → SinkState) where
  -- what a node is is within its bounds
  seat_bounded : (i : ℕ) → IfSome (seat_in pipes shape told i).kind IsWithinBounds
  seat_bounded i =
      elim (cases_lt i shape.pipes) [
        | inl below ↦ rw (lt-ltb i shape.pipes below) (by_pipe (slice_get pipes (node_place shape i)) refl)
        | inr past ↦ rw (not_below i shape.pipes past) tt
      ]
    where
      by_pipe : (found : Option Pipe) → slice_get pipes (node_place shape i) ≡ found → IfSome (option_map (λ (pipe : Pipe). pipe.kind) found) IsWithinBounds
      by_pipe None is = tt
      by_pipe (Some pipe) is = (is_pipe pipes well (node_place shape i) pipe is).kind

  module _ {P K : Type 0} (plain : P → PlainPacket) (state : K → SinkState) where
    -- a node that is made has begun
    pub node_begins : (i : ℕ) (input : Option ℕ) (takers : Option Takers) (part : Part K) (node : Node P K)
        → node ≡ record { input = input; takers = takers; part = part; out = node.out; short = false }
        → node.out.packets ≡ []
        → ((seat : Seat) → IfSome seat.kind IsWithinBounds → PartStands plain state seat false part [] → NodeStands plain state seat node [] [])
        → PartStands plain state (seat_in pipes shape told i) false part []
        → ((sink : K) (spelling : Spelling) (failed : Bool) → part ≡ Sink sink spelling failed → (seat_in pipes shape told i).start ≡ state sink)
        → input ≡ input_in shape.inputs.items i → takers ≡ get_or shape.takers.items i None
        → is_outlet part ≡ nat_le shape.pipes i → has_ended part ≡ false → has_failed part ≡ false
        → HasBegun pipes shape plain state told i node
    node_begins i input takers part node made empty stands part_stands start input_is takers_is outlet going works =
        let part_is : node.part ≡ part = ap (λ (n : Node P K). n.part) made in
        record {
          input = ap (λ (n : Node P K). n.input) made ∙ input_is;
          takers = ap (λ (n : Node P K). n.takers) made ∙ takers_is;
          outlet = rw part_is outlet;
          start = λ sink spelling failed is. start sink spelling failed (sym part_is ∙ is);
          failed = rw part_is works;
          empty = empty;
          sound = record { long = ap (λ (n : Node P K). n.short) made; going = rw part_is going };
          stands = stands (seat_in pipes shape told i) (seat_bounded i) part_stands;
        }

-- one more at the end is as good
pub more_at : {X : Type 0} (Q : ℕ → X → Type 0) (xs : List X) (x : X) (n : ℕ) → length xs ≡ n → ((i : ℕ) (d : X) → i < n → Q i (get_or xs i d)) → Q n x
    → (i : ℕ) (d : X) → i < n + 1 → Q i (get_or (xs ++ x ∷ []) i d)
more_at {X} Q xs x n long each last i d within =
    elim (cases_lt i n) [
      | inl below ↦ subst (Q i) (sym (get_or_append_left xs (x ∷ []) d i (omega arith))) (each i d below)
      | inr past ↦
          let same : n ≡ i = omega arith in
          let item : get_or (xs ++ x ∷ []) n d ≡ x = subst (λ (k : ℕ). get_or (xs ++ x ∷ []) k d ≡ x) long (get_or-append_seam xs x [] d) in
          subst (λ (k : ℕ). Q k (get_or (xs ++ x ∷ []) k d)) same (subst (Q n) (sym item) last)
    ]

-- the places of the pipes are those of the strand
pub own_is : (pipes : List Pipe) (head : ℕ) (shape : Shape) → IsShapeOf pipes head shape → own_in shape ≡ strand_of pipes head
own_is pipes head shape is = rw (is.pipes_of, is.places) (take-append_seam (strand_of pipes head) (outlets_of pipes head))

pub reserved_is : {T : Type 0} (list : Reserved T) (n : ℕ) → list.room ≡ n → list.items ≡ [] → list ≡ record { room = n; items = [] }
reserved_is list n room items = rw (sym room, sym items) refl

-- no item that is made by number is another
pub none_set : (n i : ℕ) → get_or (replicate n false) i false ≡ false
none_set zero i = refl
none_set (suc n) zero = refl
none_set (suc n) (suc i) = none_set n i
