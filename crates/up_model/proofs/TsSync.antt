-- The kind `ts_sync` keeps the laws.
use Rattle.std.proofs.Common.{◌≡◌, ℕ, zero, suc, ◌+◌, ◌-◌, ◌*◌, ◌<◌, ◌≤◌, ◌==◌, List, [], ◌∷◌, ◌++◌, All, length, map, slice_get, Bool, true, false, cond, Option, Some, None, ◌⊎◌, inl, inr, refl, sym, ap, ◌∙◌, subst, arith, length-append}
use Rattle.std.specs.Prelude.{nat_le, unwrap_or}
use Rattle.std.specs.List.{find, list_all, range_with_len}
use Rattle.std.proofs.lemmas.Bool.{leb-true, le-leb, and_parts, cases_lt, false≢true, both_ways}
use Rattle.std.proofs.lemmas.List.{map-append}
use Rattle.std.proofs.lemmas.List.Elements.{All-nil, All-cons, All-head, All-tail, All-map}
use Rattle.std.proofs.lemmas.Option.{slice_get_past, slice_get_within}
use Rattle.up_base.specs.Lists.{IsPrefix}
use Rattle.up_base.specs.declared.transport.TheConstants.{SYNC_BYTE, TS_SIZE}
use Rattle.up_model.proofs.Joined.{joined-append}
use Rattle.up_model.proofs.Lawful.{KeepsFlows, not_some}
use Rattle.up_model.proofs.Parts.{length-prefix, part_of_front, part_is_legal, of_each}
use Rattle.up_model.specs.Packet.{PlainPacket, Flow, IsLegal, joined}
use Rattle.up_model.specs.Parts.{part_of, of_held, of_cut}
use Rattle.up_model.specs.Tallies.{IsAtMost}
use Rattle.up_model.specs.TsSync.{Walk, is_sync, stops, puts, gains, loses, has_evidence, next_evidence, at_evidence, at_sync, at_byte, synchronised, walk_within, walk_from, walk_of, ts_synced, with_walk, ts_sync_meaning}
use Rattle.up_model.specs.declared.kind.Kind.{Kind}

-- a place of the front holds the same byte, whatever comes behind
slice_get_front : (bytes more : List ℕ) (place : ℕ) → place < length bytes
    → slice_get (bytes ++ more) place ≡ slice_get bytes place
slice_get_front [] more place within = absurd (omega arith)
slice_get_front (byte ∷ bytes) more zero within = refl
slice_get_front (byte ∷ bytes) more (suc place) within = slice_get_front bytes more place (omega arith)

-- sync_byte is a byte that is there
is_sync_within : (bytes : List ℕ) (place : ℕ) → is_sync (slice_get bytes place) ≡ true → place < length bytes
is_sync_within bytes place is = by_end (cases_lt place (length bytes))
  where
    by_end : ((place < length bytes) ⊎ (length bytes ≤ place)) → place < length bytes
    by_end (inl within) = within
    by_end (inr past) = absurd (false≢true (ap is_sync (sym (slice_get_past bytes place past)) ∙ is))

-- The first number of a run that passes a test.
same_number : (start next : ℕ) → Some start ≡ Some next → start ≡ next
same_number start next is = ap (λ found. unwrap_or found start) is

from_first : (passes : Bool) (start next : ℕ) (later : Option ℕ) → (later ≡ Some next → start + 1 ≤ next)
    → cond passes (Some start) later ≡ Some next → start ≤ next
from_first true start next later from is = omega (arith, same_number start next is)
from_first false start next later from is = omega (arith, from is)

module _ (test : ℕ → Bool) where
  pub found_from : (start count next : ℕ) → find test (range_with_len start count) ≡ Some next → start ≤ next
  found_from start zero next is = absurd (not_some next is)
  found_from start (suc count) next is = from_first (test start) start next _ (found_from (start + 1) count next) is

  passes_at_first : (passes : Bool) (start next : ℕ) (later : Option ℕ) → test start ≡ passes
      → (later ≡ Some next → test next ≡ true)
      → cond passes (Some start) later ≡ Some next → test next ≡ true
  passes_at_first true start next later here rest is = subst (λ (n : ℕ). test n ≡ true) (same_number start next is) here
  passes_at_first false start next later here rest is = rest is

  found_passes : (start count next : ℕ) → find test (range_with_len start count) ≡ Some next → test next ≡ true
  found_passes start zero next is = absurd (not_some next is)
  found_passes start (suc count) next is =
      passes_at_first (test start) start next _ refl (found_passes (start + 1) count next) is

  first_or_later : (passes : Bool) (start next : ℕ) (one other : Option ℕ) → (one ≡ Some next → other ≡ Some next)
      → cond passes (Some start) one ≡ Some next → cond passes (Some start) other ≡ Some next
  first_or_later true start next one other rest is = is
  first_or_later false start next one other rest is = rest is

  -- it is found by another test in a longer run, where that test gives the same up to it
  found_by_other : (other : ℕ → Bool) (next : ℕ) → ((place : ℕ) → place ≤ next → other place ≡ test place)
      → (start count all : ℕ) → count ≤ all
      → find test (range_with_len start count) ≡ Some next → find other (range_with_len start all) ≡ Some next
  found_by_other other next same start zero all few is = absurd (not_some next is)
  found_by_other other next same start (suc count) zero few is = absurd (omega arith)
  found_by_other other next same start (suc count) (suc all) few is =
      rw (same start (found_from start (suc count) next is))
      (first_or_later (test start) start next _ _ (found_by_other other next same (start + 1) count all (omega arith)) is)

-- the second walk goes on where the first stops
pub record GoesOn (walk longer : Walk) : Type 0 where
  pub starts : IsPrefix walk.starts longer.starts
  pub gained : walk.gained ≤ longer.gained
  pub lost : walk.lost ≤ longer.lost

stops_first : (walk : Walk) → GoesOn stops walk
stops_first walk = record { starts = (walk.starts, refl); gained = omega arith; lost = omega arith }

module _ (bytes more : List ℕ) where
  -- where a place has evidence, that of each place before it is there too
  evidence_stays : (place next start count : ℕ) → place ≤ next
      → list_all (λ packet. is_sync (slice_get bytes (next + packet * TS_SIZE))) (range_with_len start count) ≡ true
      → list_all (λ packet. is_sync (slice_get (bytes ++ more) (place + packet * TS_SIZE))) (range_with_len start count)
      ≡ list_all (λ packet. is_sync (slice_get bytes (place + packet * TS_SIZE))) (range_with_len start count)
  evidence_stays place next start zero before all = refl
  evidence_stays place next start (suc count) before all =
      let both = and_parts (is_sync (slice_get bytes (next + start * TS_SIZE))) _ all in
      let within : place + start * TS_SIZE < length bytes =
      omega (arith, before, is_sync_within bytes (next + start * TS_SIZE) both.0) in
      rw (
        slice_get_front bytes more (place + start * TS_SIZE) within,
        evidence_stays place next (start + 1) count before both.1,
      ) refl

  module _ (packets : ℕ) where
    -- so the next place that has evidence stays, whatever comes behind
    pub next_stays : (place next : ℕ) → next_evidence packets bytes place ≡ Some next
        → next_evidence packets (bytes ++ more) place ≡ Some next
    next_stays place next is =
        let evidence = found_passes (has_evidence packets bytes) place (length bytes - place) next is in
        found_by_other (has_evidence packets bytes) (has_evidence packets (bytes ++ more)) next
        (λ before least. evidence_stays before next 0 packets least evidence)
        place (length bytes - place) (length (bytes ++ more) - place) (omega (arith, length-append bytes more)) is

    module _ (onward longer : ℕ → Walk) (goes : (place : ℕ) → GoesOn (onward place) (longer place)) where
      evidence_goes : (found other : Option ℕ) → ((next : ℕ) → found ≡ Some next → other ≡ Some next)
          → GoesOn (at_evidence onward found) (at_evidence longer other)
      evidence_goes None other same = stops_first (at_evidence longer other)
      evidence_goes (Some next) other same =
          rw (same next refl)
          (record { starts = (goes next).starts; gained = omega (arith, (goes next).gained); lost = (goes next).lost })

      sync_goes : (place : ℕ) (fits : Bool) → nat_le (place + TS_SIZE) (length bytes) ≡ fits
          → GoesOn (at_sync onward place fits) (at_sync longer place (nat_le (place + TS_SIZE) (length (bytes ++ more))))
      sync_goes place false is = stops_first (at_sync longer place (nat_le (place + TS_SIZE) (length (bytes ++ more))))
      sync_goes place true is =
          let next = goes (place + TS_SIZE) in
          let fits : nat_le (place + TS_SIZE) (length (bytes ++ more)) ≡ true =
          le-leb (place + TS_SIZE) (length (bytes ++ more))
          (omega (arith, leb-true (place + TS_SIZE) (length bytes) is, length-append bytes more)) in
          rw fits (record {
            starts = (next.starts.0, ap (λ rest. place ∷ rest) next.starts.1);
            gained = next.gained;
            lost = next.lost;
          })

      byte_goes : (place : ℕ) (syncs : Bool)
          → GoesOn (at_byte packets bytes onward place syncs) (at_byte packets (bytes ++ more) longer place syncs)
      byte_goes place true = sync_goes place (nat_le (place + TS_SIZE) (length bytes)) refl
      byte_goes place false =
          let next = evidence_goes (next_evidence packets bytes place) (next_evidence packets (bytes ++ more) place)
          (next_stays place) in
          record { starts = next.starts; gained = next.gained; lost = omega (arith, next.lost) }

      synchronised_goes : (place : ℕ) (byte : Option ℕ) → slice_get bytes place ≡ byte
          → GoesOn (synchronised packets bytes onward place byte)
          (synchronised packets (bytes ++ more) longer place (slice_get (bytes ++ more) place))
      synchronised_goes place None is =
          stops_first (synchronised packets (bytes ++ more) longer place (slice_get (bytes ++ more) place))
      synchronised_goes place (Some byte) is =
          let there : slice_get (bytes ++ more) place ≡ Some byte =
          slice_get_front bytes more place (slice_get_within bytes place byte is) ∙ is in
          rw there (byte_goes place (byte == SYNC_BYTE))

    walk_goes : (turns all place : ℕ) → turns ≤ all
        → GoesOn (walk_within packets bytes turns place) (walk_within packets (bytes ++ more) all place)
    walk_goes zero all place few = stops_first (walk_within packets (bytes ++ more) all place)
    walk_goes (suc turns) zero place few = absurd (omega arith)
    walk_goes (suc turns) (suc all) place few =
        synchronised_goes (walk_within packets bytes turns) (walk_within packets (bytes ++ more) all)
        (λ next. walk_goes turns all next (omega arith))
        place (slice_get bytes place) refl

    -- the walk along more bytes goes on with that along the first
    pub walk_goes_on : GoesOn (walk_of packets bytes) (walk_of packets (bytes ++ more))
    walk_goes_on =
        evidence_goes (walk_from packets bytes) (walk_from packets (bytes ++ more))
        (λ place. walk_goes (length bytes) (length (bytes ++ more)) place (omega (arith, length-append bytes more)))
        (next_evidence packets bytes 0) (next_evidence packets (bytes ++ more) 0) (next_stays 0)

module _ (packets : ℕ) (bytes : List ℕ) where
  -- the packet that begins here has all its bytes
  abbrev pub Fits : ℕ → Type 0
  Fits place = place + TS_SIZE ≤ length bytes

  module _ (onward : ℕ → Walk) (fit : (place : ℕ) → All Fits (onward place).starts) where
    evidence_fits : (found : Option ℕ) → All Fits (at_evidence onward found).starts
    evidence_fits None = All-nil Fits
    evidence_fits (Some next) = fit next

    sync_fits : (place : ℕ) (fits : Bool) → nat_le (place + TS_SIZE) (length bytes) ≡ fits
        → All Fits (at_sync onward place fits).starts
    sync_fits place false is = All-nil Fits
    sync_fits place true is = All-cons Fits place _ (leb-true (place + TS_SIZE) (length bytes) is) (fit (place + TS_SIZE))

    byte_fits : (place : ℕ) (syncs : Bool) → All Fits (at_byte packets bytes onward place syncs).starts
    byte_fits place true = sync_fits place (nat_le (place + TS_SIZE) (length bytes)) refl
    byte_fits place false = evidence_fits (next_evidence packets bytes place)

    synchronised_fits : (place : ℕ) (byte : Option ℕ) → All Fits (synchronised packets bytes onward place byte).starts
    synchronised_fits place None = All-nil Fits
    synchronised_fits place (Some byte) = byte_fits place (byte == SYNC_BYTE)

  within_fits : (turns place : ℕ) → All Fits (walk_within packets bytes turns place).starts
  within_fits zero place = All-nil Fits
  within_fits (suc turns) place =
      synchronised_fits (walk_within packets bytes turns) (within_fits turns) place (slice_get bytes place)

  pub packets_fit : All Fits (walk_of packets bytes).starts
  packets_fit = evidence_fits (walk_from packets bytes) (within_fits (length bytes)) (next_evidence packets bytes 0)

  -- A turn begins behind the one before it, so there are enough of them.
  module _ (some : 1 ≤ packets) where
    evidence_is_sync : (place : ℕ) → has_evidence packets bytes place ≡ true → is_sync (slice_get bytes place) ≡ true
    evidence_is_sync place is = by_count packets some is
      where
        by_count : (count : ℕ) → 1 ≤ count
            → list_all (λ packet. is_sync (slice_get bytes (place + packet * TS_SIZE))) (range_with_len 0 count) ≡ true
            → is_sync (slice_get bytes place) ≡ true
        by_count zero none is = absurd (omega arith)
        by_count (suc count) some is =
            let here : place + 0 * TS_SIZE ≡ place = omega arith in
            subst (λ (n : ℕ). is_sync (slice_get bytes n) ≡ true) here
            (and_parts (is_sync (slice_get bytes (place + 0 * TS_SIZE))) _ is).0

    -- behind a byte that isn't sync_byte
    evidence_is_behind : (place byte next : ℕ) → slice_get bytes place ≡ Some byte → (byte == SYNC_BYTE) ≡ false
        → next_evidence packets bytes place ≡ Some next → place < next
    evidence_is_behind place byte next there other is = by_order (cases_lt place next)
      where
        from : place ≤ next
        from = found_from (has_evidence packets bytes) place (length bytes - place) next is

        by_order : ((place < next) ⊎ (next ≤ place)) → place < next
        by_order (inl behind) = behind
        by_order (inr not_behind) =
            let same : next ≡ place = omega (arith, from, not_behind) in
            let evidence = evidence_is_sync next
            (found_passes (has_evidence packets bytes) place (length bytes - place) next is) in
            absurd (both_ways (byte == SYNC_BYTE) other (sym (ap is_sync (ap (slice_get bytes) same ∙ there)) ∙ evidence))

    module _ (turns : ℕ)
        (enough : (place : ℕ) → length bytes ≤ turns + place
        → walk_within packets bytes turns place ≡ walk_within packets bytes (suc turns) place) where
      evidence_enough : (place : ℕ) (found : Option ℕ) → length bytes ≤ suc turns + place
          → ((next : ℕ) → found ≡ Some next → place < next)
          → at_evidence (walk_within packets bytes turns) found ≡ at_evidence (walk_within packets bytes (suc turns)) found
      evidence_enough place None all behind = refl
      evidence_enough place (Some next) all behind = ap gains (enough next (omega (arith, all, behind next refl)))

      sync_enough : (place : ℕ) (fits : Bool) → length bytes ≤ suc turns + place
          → at_sync (walk_within packets bytes turns) place fits ≡ at_sync (walk_within packets bytes (suc turns)) place fits
      sync_enough place false all = refl
      sync_enough place true all = ap (puts place) (enough (place + TS_SIZE) (omega (arith, all)))

      byte_enough : (place byte : ℕ) (syncs : Bool) → length bytes ≤ suc turns + place → slice_get bytes place ≡ Some byte
          → (byte == SYNC_BYTE) ≡ syncs
          → at_byte packets bytes (walk_within packets bytes turns) place syncs
          ≡ at_byte packets bytes (walk_within packets bytes (suc turns)) place syncs
      byte_enough place byte true all there is = sync_enough place (nat_le (place + TS_SIZE) (length bytes)) all
      byte_enough place byte false all there is =
          ap loses (evidence_enough place (next_evidence packets bytes place) all
          (λ next found. evidence_is_behind place byte next there is found))

      synchronised_enough : (place : ℕ) (byte : Option ℕ) → length bytes ≤ suc turns + place → slice_get bytes place ≡ byte
          → synchronised packets bytes (walk_within packets bytes turns) place byte
          ≡ synchronised packets bytes (walk_within packets bytes (suc turns)) place byte
      synchronised_enough place None all there = refl
      synchronised_enough place (Some byte) all there = byte_enough place byte (byte == SYNC_BYTE) all there refl

    turns_are_enough : (turns place : ℕ) → length bytes ≤ turns + place
        → walk_within packets bytes turns place ≡ walk_within packets bytes (suc turns) place
    turns_are_enough zero place all = rw (slice_get_past bytes place (omega arith)) refl
    turns_are_enough (suc turns) place all =
        synchronised_enough turns (turns_are_enough turns) place (slice_get bytes place) all refl

    -- the walk from a synchronised place, unrolled once: above this no turn is counted
    pub walk_from-unrolled : (place : ℕ)
        → walk_from packets bytes place ≡ synchronised packets bytes (walk_from packets bytes) place (slice_get bytes place)
    walk_from-unrolled place = turns_are_enough (length bytes) place (omega arith)

made_the_same : {X : Type 0} (IsSo : ℕ → Type 0) (f g : ℕ → X) → ((n : ℕ) → IsSo n → g n ≡ f n) → (numbers : List ℕ)
    → All IsSo numbers → map g numbers ≡ map f numbers
made_the_same IsSo f g same [] all = refl
made_the_same IsSo f g same (n ∷ numbers) all =
    let first = same n (All-head IsSo n numbers all) in
    let rest = made_the_same IsSo f g same numbers (All-tail IsSo n numbers all) in
    λ i. first i ∷ rest i

module _ (packets : ℕ) where
  goes_on : (taken more : Flow) → GoesOn (walk_of packets (joined taken)) (walk_of packets (joined (taken ++ more)))
  goes_on taken more =
      subst (λ (bytes : List ℕ). GoesOn (walk_of packets (joined taken)) (walk_of packets bytes))
      (sym (joined-append taken more))
      (walk_goes_on (joined taken) (joined more) packets)

  -- what is put out stays, whatever comes behind
  pub synced_stays : (taken more : Flow) → IsPrefix (ts_synced packets taken) (ts_synced packets (taken ++ more))
  synced_stays taken more =
      let walk = goes_on taken more in
      let part : ℕ → PlainPacket = λ place. part_of (taken ++ more) place TS_SIZE in
      let firsts = (walk_of packets (joined taken)).starts in
      let same : map part firsts ≡ ts_synced packets taken =
      made_the_same (Fits packets (joined taken)) (λ place. part_of taken place TS_SIZE) part
      (λ place fits. part_of_front taken more place TS_SIZE (omega arith) fits) firsts (packets_fit packets (joined taken)) in (
        map part walk.starts.0,
        ap (map part) walk.starts.1 ∙ map-append part firsts walk.starts.0
            ∙ ap (λ front. front ++ map part walk.starts.0) same,
      )

  held_sums : (taken more : Flow)
      → IsAtMost (with_walk (walk_of packets (joined taken)) (of_held taken (ts_synced packets taken)))
      (with_walk (walk_of packets (joined (taken ++ more))) (of_held (taken ++ more) (ts_synced packets (taken ++ more))))
  held_sums taken more = record {
    taken = omega (arith, length-append taken more);
    put = length-prefix _ _ (synced_stays taken more);
    dropped = omega arith;
    cut = omega arith;
    gained = (goes_on taken more).gained;
    lost = (goes_on taken more).lost;
  }

  cut_sums : (taken more : Flow)
      → IsAtMost (with_walk (walk_of packets (joined taken)) (of_held taken (ts_synced packets taken)))
      (with_walk (walk_of packets (joined (taken ++ more))) (of_cut (taken ++ more) (ts_synced packets (taken ++ more))))
  cut_sums taken more = record {
    taken = omega (arith, length-append taken more);
    put = length-prefix _ _ (synced_stays taken more);
    dropped = omega arith;
    cut = omega arith;
    gained = (goes_on taken more).gained;
    lost = (goes_on taken more).lost;
  }

  pub synced_is_legal : (taken : Flow) → All IsLegal taken → All IsLegal (ts_synced packets taken)
  synced_is_legal taken legal =
      All-map IsLegal (λ place. part_of taken place TS_SIZE) (walk_of packets (joined taken)).starts
      (of_each IsLegal (λ place. part_of taken place TS_SIZE) (λ place. part_is_legal taken place TS_SIZE (omega arith) legal)
      (walk_of packets (joined taken)).starts)

  pub ts_sync_keeps_flows : (ts_sync : ℕ → Kind) → KeepsFlows (ts_sync_meaning ts_sync packets)
  ts_sync_keeps_flows ts_sync = record {
    settles_nothing = refl;
    settles_no_sums = refl;
    owes_nothing = refl;
    owes_no_sums = refl;
    longer = synced_stays;
    whole = synced_stays;
    sums_longer = held_sums;
    sums_whole = cut_sums;
    counts_settled = λ taken. record { packets_taken = refl; packets_put = refl };
    counts_whole = λ taken. record { packets_taken = refl; packets_put = refl };
    legal = synced_is_legal;
    writes_on = λ taken more. ([], refl);
  }
