-- The pumps of the strands of a net, after a step.
use Rattle.std.proofs.Common.{◌≡◌, ◌≢◌, ℕ, ◌+◌, ◌*◌, ◌<◌, ◌≤◌, ◌==◌, ◌&&◌, List, length, get_or, cond, count_by, Bool, true, false, None, refl, sym, ap, ◌∙◌, subst, arith, inl, inr}
use Rattle.std.proofs.lemmas.Bool.Decides.{Decides-eqb, eqb_tells}
use Rattle.std.proofs.lemmas.List.{get_or-set_same, get_or-set_other, get_or_default, length-set}
use Rattle.std.proofs.lemmas.List.Sums.{count_by-le-length, sum_by-set}
use Rattle.std.proofs.lemmas.Option.{slice_get_cases}
use Rattle.up_engine.proofs.Standing.{IsSameButAt}
use Rattle.up_engine.specs.Nets.{ArePumped, IsAtRest, IsFull, IsHeldBack, items_at, pumps_left}
use Rattle.up_engine.specs.declared.net.Net.{Net}
use Rattle.up_model.specs.Plans.{heads}
use Rattle.up_model.specs.declared.pipe.Pipe.{Pipe}
use Rattle.up_pump.specs.Circle.{is_due_at}
use Rattle.up_pump.specs.Pump.{idle}
use Rattle.up_pump.specs.Pumps.{Pumps, blockers_at, pump_at, with_blockers, with_pump, with_readiness}
use Rattle.up_pump.specs.declared.pump.Pump.{Pump}
use Rattle.up_strand.specs.History.{History}
use Rattle.up_strand.specs.Strands.{want_of}
use Rattle.up_strand.specs.declared.strand.Strand.{Strand}
use Rattle.up_strand.specs.declared.want.Want.TheVariants as wants

both_left : (a b : Bool) → (a && b) ≡ true → a ≡ true
both_left true b is = refl
both_left false b is = is

both_right : (a b : Bool) → (a && b) ≡ true → b ≡ true
both_right true b is = is
both_right false b is = absurd (cc)

-- a pump that is due is there, is ready and isn't held back
pub record IsDue (loop : Pumps) (i : ℕ) : Type 0 where
  pub within : i < length loop.pumps
  pub ready : (pump_at loop i).ready ≡ true
  pub free : blockers_at loop i ≡ 0

pub is_due_so : (loop : Pumps) (i : ℕ) → is_due_at loop.pumps i ≡ true → IsDue loop i
is_due_so loop i due = elim (slice_get_cases loop.pumps i).1 [
  | inl there ↦
      let is : (there.0.ready && (there.0.blockers == 0)) ≡ true = rw there.2 at due in
      let same : pump_at loop i ≡ there.0 = get_or_default loop.pumps i idle there.0 there.1 ∙ there.3 in
      record {
        within = there.1;
        ready = ap (λ (p : Pump). p.ready) same ∙ both_left there.0.ready (there.0.blockers == 0) is;
        free = ap (λ (p : Pump). p.blockers) same ∙ (Decides-eqb there.0.blockers 0).0 (both_right there.0.ready (there.0.blockers == 0) is);
      }
  | inr past ↦ absurd (let none = rw past.1 at due in cc)
]

abbrev one_if : Bool → ℕ
one_if b = cond b 1 0

module _ (loop : Pumps) (i : ℕ) (pump : Pump) where
  pub pump_same : i < length loop.pumps → pump_at (with_pump loop i pump) i ≡ pump
  pump_same within = get_or-set_same loop.pumps i pump idle within

  pub pump_other : (k : ℕ) → k ≢ i → pump_at (with_pump loop i pump) k ≡ pump_at loop k
  pump_other k other = get_or-set_other loop.pumps i k pump idle other

  pub pump_count : length (with_pump loop i pump).pumps ≡ length loop.pumps
  pump_count = length-set loop.pumps i pump

  count_change : (test : Pump → Bool) → i < length loop.pumps
      → count_by test (with_pump loop i pump).pumps + one_if (test (pump_at loop i)) ≡ count_by test loop.pumps + one_if (test pump)
  count_change test within = sum_by-set (λ (p : Pump). one_if (test p)) loop.pumps i pump idle within

module _ (pipes : List Pipe) (past : ℕ → History) (loop : Pumps) (i : ℕ) (due : IsDue loop i) where
  -- a pump that rests, or is held back, is one less
  pub rests_less : pumps_left pipes past (with_readiness loop i false) < pumps_left pipes past loop
  rests_less =
      let resting : Pump = record (pump_at loop i) { ready = false } in
      let ready = count_change loop i resting (λ (p : Pump). p.ready) due.within in
      let free = count_change loop i resting (λ (p : Pump). p.blockers == 0) due.within in
      let was : one_if (pump_at loop i).ready ≡ 1 = ap one_if due.ready in
      omega (arith, ready, free, was)

  pub blocked_less : pumps_left pipes past (with_blockers loop i 1) < pumps_left pipes past loop
  blocked_less =
      let blocked : Pump = record (pump_at loop i) { blockers = 1 } in
      let ready = count_change loop i blocked (λ (p : Pump). p.ready) due.within in
      let free = count_change loop i blocked (λ (p : Pump). p.blockers == 0) due.within in
      let was : one_if ((pump_at loop i).blockers == 0) ≡ 1 = ap (λ (n : ℕ). one_if (n == 0)) due.free in
      omega (arith, ready, free, was)

pub few_left : (pipes : List Pipe) (past : ℕ → History) (loop : Pumps) → pumps_left pipes past loop ≤ 2 * length loop.pumps
few_left pipes past loop = omega (arith, count_by-le-length (λ (p : Pump). p.ready) loop.pumps, count_by-le-length (λ (p : Pump). p.blockers == 0) loop.pumps)

module _ {P S K : Type 0} (net new : Net P S K) (pipes : List Pipe) (i : ℕ) (same : IsSameButAt net new i) (pumped : ArePumped net pipes) where
  -- the pumps of the other strands are right still, where a lane that any of them waits for is full still, and what waits for one
  -- that isn't ready is what waited
  pub pumped_on : ((d : Strand P S K) → (pump_at new.pumps i).ready ≡ false → IsAtRest new pipes i (get_or new.strands.items i d))
      → ((k : ℕ) → k ≢ i → (pump_at new.pumps k).ready ≡ false → ((pump_at net.pumps k).ready ≡ false) × (items_at new.lanes.items k ≡ items_at net.lanes.items k))
      → ((d : Strand P S K) → blockers_at new.pumps i ≢ 0 → IsHeldBack new pipes (get_or new.strands.items i d))
      → ((k : ℕ) → k ≢ i → blockers_at new.pumps k ≤ blockers_at net.pumps k)
      → ((k : ℕ) (d : Strand P S K) (lane : ℕ) → k ≢ i → k < length (heads pipes) → blockers_at new.pumps k ≢ 0
      → want_of (get_or net.strands.items k d) ≡ wants.Output lane
      → IsFull (get_or net.lanes.items (get_or net.numbers.items lane 0) None) → IsFull (get_or new.lanes.items (get_or net.numbers.items lane 0) None))
      → blockers_at new.pumps i ≤ 1 → ArePumped new pipes
  pumped_on ready_here ready_there held_here held_there full few = record {
    ready = λ k d within rests. elim (eqb_tells k i) [
      | inl is ↦ subst (λ (n : ℕ). IsAtRest new pipes n (get_or new.strands.items n d)) (sym is.1)
          (ready_here d (ap (λ (n : ℕ). (pump_at new.pumps n).ready) (sym is.1) ∙ rests))
      | inr other ↦
          let rested = ready_there k other.1 rests in
          elim (pumped.ready k d within rested.0) [
            | inl done ↦ inl (ap (λ (s : Strand P S K). want_of s) (same.strands k d other.1) ∙ done)
            | inr waits ↦ inr (ap (λ (s : Strand P S K). want_of s) (same.strands k d other.1) ∙ waits.0, rested.1 ∙ waits.1)
          ]
    ];
    held = λ k d within held. elim (eqb_tells k i) [
      | inl is ↦ subst (λ (n : ℕ). IsHeldBack new pipes (get_or new.strands.items n d)) (sym is.1)
          (held_here d (λ free. held (ap (λ (n : ℕ). blockers_at new.pumps n) is.1 ∙ free)))
      | inr other ↦
          let fewer = held_there k other.1 in
          let was = pumped.held k d within (λ free. held (omega (arith, fewer, free))) in
          record {
            lane = was.lane;
            wants = ap (λ (s : Strand P S K). want_of s) (same.strands k d other.1) ∙ was.wants;
            full = subst (λ (numbers : List ℕ). IsFull (get_or new.lanes.items (get_or numbers was.lane 0) None)) (sym same.numbers)
                (full k d was.lane other.1 within held was.wants was.full);
          }
    ];
    few = λ k within. elim (eqb_tells k i) [
      | inl is ↦ subst (λ (n : ℕ). blockers_at new.pumps n ≤ 1) (sym is.1) few
      | inr other ↦ let fewer = held_there k other.1 in let was = pumped.few k within in omega (arith, fewer, was)
    ];
  }
