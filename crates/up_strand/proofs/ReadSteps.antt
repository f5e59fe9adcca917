-- What a strand whose head is a source did, once a packet's worth more was read.
use Rattle.std.proofs.Common.{◌≡◌, ℕ, ◌+◌, ◌*◌, ◌<◌, ◌≤◌, List, [], ◌∷◌, ◌++◌, length, take, Bool, true, false, Option, Some, None, suc, inl, inr, refl, sym, ap, ◌∙◌, subst, append-nil, append_assoc, arith, length-append, length-take}
use Rattle.std.proofs.KnownBytes.{Consumes-trans}
use Rattle.up_base.specs.Lists.{IsPrefix}
use Rattle.std.proofs.lemmas.Bool.Decides.{leb_tells}
use Rattle.up_model.proofs.Blocks.{full_blocks-go_on}
use Rattle.up_model.proofs.Shown.{unshown_is_at_end}
use Rattle.up_model.specs.Cutting.{blocks, full_blocks}
use Rattle.up_model.specs.Outcomes.{shown_by, source_outcome}
use Rattle.up_model.specs.Packet.{Flow, plain as bare}
use Rattle.up_model.specs.declared.form.SourceForm.{SourceForm}
use Rattle.up_model.specs.declared.form.SourceForm.TheVariants.{Raw}
use Rattle.up_model.specs.declared.kind.Kind.TheVariants as kinds
use Rattle.up_model.specs.declared.outcome.Outcome.{Outcome}
use Rattle.up_model.specs.declared.outcome.Outcome.TheVariants.{Whole, TooLong}
use Rattle.up_model.specs.declared.plain_packet.PlainPacket.{PlainPacket}
use Rattle.up_outside.proofs.Told.{summed_on}
use Rattle.up_outside.specs.Counts.{CountsOnce}
use Rattle.up_outside.specs.States.{SourceState, SinkState}
use Rattle.up_outside.specs.Told.{Then}
use Rattle.up_strand.proofs.Cutting.{full_blocks-more, full_blocks-short, blocks-more, blocks-even, within_limit}
use Rattle.up_strand.specs.History.{History, head_flow, carried_by}
use Rattle.up_strand.specs.Reads.{WereRead}
use Rattle.up_strand.specs.Steps.{taken_where}
use Rattle.up_strand.specs.Strands.{EndedWithMemory, EndsRightly, IsCutting, IsReading, ended_at_fault}

-- one read and then another
took_on : (a b c : SourceState) (one two : List ℕ) → WereRead a b one (length one) → WereRead b c two (length two) → WereRead a c (one ++ two) (length (one ++ two))
took_on a b c one two first second = record {
  bytes_of = Consumes-trans _ _ _ _ _ first.bytes_of second.bytes_of;
  sum = subst (λ (n : ℕ). Then (λ before after. after ≡ before + n) a.moved c.moved) (sym (length-append one two))
      (summed_on a.moved b.moved c.moved (length one) (length two) first.sum second.sum);
  place = second.place ∙ first.place;
}

pub long_before : (was short : Bool) → (was ≡ true → short ≡ true) → short ≡ false → was ≡ false
long_before true short stays long = let wrong : true ≡ false = sym (stays refl) ∙ long in absurd (cc)
long_before false short stays long = refl

-- a packet more, which was taken where memory didn't run out before
pub fed_more : (before flow : Flow) (packet : PlainPacket) (was short : Bool) → (was ≡ true → short ≡ true) → IsPrefix before flow
    → (was ≡ false → before ≡ flow)
    → IsPrefix (before ++ taken_where was packet) (flow ++ packet ∷ [])
    × (short ≡ false → before ++ taken_where was packet ≡ flow ++ packet ∷ [])
fed_more before flow packet true short stays first all = (
  subst (λ (f : Flow). IsPrefix f (flow ++ packet ∷ [])) (sym (append-nil before))
      (first.0 ++ packet ∷ [], ap (λ f. f ++ packet ∷ []) first.1 ∙ append_assoc before first.0 (packet ∷ [])),
  λ long. let wrong : true ≡ false = sym (stays refl) ∙ long in absurd (cc),
)
fed_more before flow packet false short stays first all = (
  ([], ap (λ f. f ++ packet ∷ []) (sym (all refl)) ∙ sym (append-nil (before ++ packet ∷ []))),
  λ long. ap (λ f. f ++ packet ∷ []) (all refl),
)

-- nothing more
pub fed_still : (before flow now : Flow) (was short : Bool) → (was ≡ true → short ≡ true) → IsPrefix before flow
    → (was ≡ false → before ≡ flow) → IsPrefix flow now → (short ≡ false → now ≡ flow)
    → IsPrefix (before ++ []) now × (short ≡ false → before ++ [] ≡ now)
fed_still before flow now was short stays first all more same = (
  subst (λ (f : Flow). IsPrefix f now) (sym (append-nil before))
      (first.0 ++ more.0, more.1 ∙ ap (λ f. f ++ more.0) first.1 ∙ append_assoc before first.0 more.0),
  λ long. append-nil before ∙ all (long_before was short stays long) ∙ sym (same long),
)

pub same_first : (flow now : Flow) → now ≡ flow → IsPrefix flow now
same_first flow now is = ([], is ∙ sym (append-nil flow))

-- what raw bytes tell by how many they are
pub raw_unshown : (block limit : ℕ) (bytes : List ℕ) → length bytes ≤ limit → shown_by (Raw block) limit bytes ≡ None
raw_unshown block limit bytes few = elim (leb_tells (suc limit) (length bytes)) [
  | inl more ↦ absurd (omega (arith, few, more.1))
  | inr other ↦ rw other.0 refl
]

pub raw_whole : (block limit : ℕ) (bytes : List ℕ) → length bytes ≤ limit → source_outcome (Raw block) limit bytes ≡ Whole
raw_whole block limit bytes few = unshown_is_at_end (Raw block) limit bytes (raw_unshown block limit bytes few)

raw_shown : (block limit : ℕ) (bytes : List ℕ) → length bytes ≡ limit + 1 → shown_by (Raw block) limit bytes ≡ Some (TooLong limit)
raw_shown block limit bytes many = elim (leb_tells (suc limit) (length bytes)) [
  | inl more ↦ rw more.0 refl
  | inr other ↦ absurd (omega (arith, many, other.1))
]

pub raw_told : (block limit : ℕ) (rest : Option (List ℕ)) (h : History) → h.short ≡ false → length h.read ≡ limit + 1 → EndedWithMemory (Raw block) limit rest h (TooLong limit)
raw_told block limit rest h long many = record {
  long = long;
  few = omega (arith, many);
  by = raw_shown block limit h.read many;
}

module _ (h : History) (was now : SourceState) (form : SourceForm) (limit : ℕ) (reading : IsReading was form limit h) (going : h.ended ≡ None)
    (taken : List ℕ) (took : WereRead was now taken (length taken)) (fed : Flow) (ended : Option Outcome) (short : Bool) (failed : ℕ → Bool) (sinks_now : ℕ → SinkState) where
  abbrev then_so : History
  then_so = record h {
    source_now = Some now;
    sinks_now = sinks_now;
    read = h.read ++ taken;
    came = h.came ++ [];
    fed = h.fed ++ fed;
    ended = ended;
    short = short;
    failed = failed;
  }

  -- the source gave these bytes too
  pub reading_on : CountsOnce (ended_at_fault ended) was.faults now.faults → EndsRightly form limit now.left then_so ended → IsReading now form limit then_so
  reading_on faults ends = record {
    pipe = reading.pipe;
    there = reading.there;
    path = reading.path;
    kind = reading.kind;
    start = reading.start;
    told = reading.told;
    told_now = refl;
    took = took_on reading.start was now h.read taken reading.took took;
    faults =
        let none : ended_at_fault h.ended ≡ false = ap ended_at_fault going in
        subst (λ (n : ℕ). CountsOnce (ended_at_fault ended) n now.faults) (reading.faults.counts.stays none) faults;
    ends = ends;
    in_limit = reading.in_limit;
    alone = append-nil h.came ∙ reading.alone;
  }

  -- what the head has now
  pub flow_so : head_flow then_so ≡ carried_by ended (h.fed ++ fed) (kinds.Source reading.path form limit) (h.read ++ taken)
  flow_so = rw (reading.there, reading.kind) refl

module _ (h : History) (was now : SourceState) (block limit left : ℕ) (cutting : IsCutting was block limit left h) (going : h.ended ≡ None)
    (taken : List ℕ) (took : WereRead was now taken (length taken)) (fed : Flow) (ended : Option Outcome) (short : Bool) (failed : ℕ → Bool) (sinks_now : ℕ → SinkState)
    (faults : CountsOnce (ended_at_fault ended) was.faults now.faults) where
  abbrev then_read : History
  then_read = record h {
    source_now = Some now;
    sinks_now = sinks_now;
    read = h.read ++ taken;
    came = h.came ++ [];
    fed = h.fed ++ fed;
    ended = ended;
    short = short;
    failed = failed;
  }

  pub cutting_on : (left_now : ℕ) → EndsRightly (Raw block) limit now.left then_read ended
      → (ended ≡ None → h.fed ++ fed ≡ full_blocks block (h.read ++ taken))
      → (ended ≡ None → length (h.read ++ taken) + left_now ≡ limit)
      → (ended ≡ None → (count : ℕ) × (length (h.read ++ taken) ≡ count * block))
      → IsCutting now block limit left_now then_read
  cutting_on left_now ends put rest even = record {
    reading = reading_on h was now (Raw block) limit cutting.reading going taken took fed ended short failed sinks_now faults ends;
    put = put;
    rest = rest;
    even = even;
    in_block = cutting.in_block;
  }

  -- what the head had before, and what it has now
  pub flow_before : head_flow h ≡ full_blocks block h.read
  flow_before = rw (cutting.reading.there, cutting.reading.kind, going) (cutting.put going)

  pub flow_now : head_flow then_read ≡ carried_by ended (h.fed ++ fed) (kinds.Source cutting.reading.path (Raw block) limit) (h.read ++ taken)
  flow_now = rw (cutting.reading.there, cutting.reading.kind) refl

  count : ℕ
  count = (cutting.even going).0

  is_even : length h.read ≡ (cutting.even going).0 * block
  is_even = (cutting.even going).1

  some : 0 < block
  some = cutting.in_block.0

  -- a whole block more
  pub block_more : length taken ≡ block → full_blocks block (h.read ++ taken) ≡ head_flow h ++ bare taken ∷ []
  block_more whole =
      full_blocks-more block h.read taken (cutting.even going).0 some is_even whole ∙ ap (λ f. f ++ bare taken ∷ []) (sym flow_before)

  -- a last packet
  pub last_more : 0 < length taken → length taken < block → blocks block (h.read ++ taken) ≡ head_flow h ++ bare taken ∷ []
  last_more any short_of =
      blocks-more block h.read taken (cutting.even going).0 is_even any short_of ∙ ap (λ f. f ++ bare taken ∷ []) (sym flow_before)

  -- and none
  pub end_more : taken ≡ [] → blocks block (h.read ++ taken) ≡ head_flow h
  end_more none =
      ap (λ l. blocks block (h.read ++ l)) none ∙ ap (blocks block) (append-nil h.read)
      ∙ blocks-even block h.read (cutting.even going).0 some is_even ∙ sym flow_before

  -- bytes that fill no block
  pub fault_more : length taken < block → full_blocks block (h.read ++ taken) ≡ head_flow h
  fault_more short_of = full_blocks-short block h.read taken (cutting.even going).0 some is_even short_of ∙ sym flow_before

  -- those within the limit
  pub long_more : length taken ≡ left + 1 → length taken ≤ block → full_blocks block (take limit (h.read ++ taken)) ≡ head_flow h
  long_more over within =
      let short_of : length (take left taken) < block = omega (arith, over, within, length-take {A = ℕ}) in
      ap (full_blocks block) (within_limit h.read taken limit left (cutting.rest going))
      ∙ full_blocks-short block h.read (take left taken) (cutting.even going).0 some is_even short_of ∙ sym flow_before

  -- whatever was read
  pub go_on : IsPrefix (head_flow h) (full_blocks block (h.read ++ taken))
  go_on = subst (λ (f : Flow). IsPrefix f (full_blocks block (h.read ++ taken))) (sym flow_before) (full_blocks-go_on block h.read taken some)
