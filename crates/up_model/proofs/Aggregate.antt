-- The kind `aggregate` keeps the laws.
use Rattle.std.proofs.Common.{◌≡◌, ℕ, zero, suc, ◌-◌, ◌<◌, ◌≤◌, [], ◌∷◌, ◌++◌, All, length, take, drop, Bool, true, false, if◌then◌else◌, ◌⊎◌, inl, inr, refl, sym, ap, ◌∙◌, arith, length-append}
use Rattle.std.specs.Prelude.{nat_le}
use Rattle.std.proofs.lemmas.Bool.{leb-true, cases_lt}
use Rattle.std.proofs.lemmas.List.{append_assoc, append-nil, take-append-le, take-append-drop}
use Rattle.std.proofs.lemmas.List.Elements.{All-nil, All-cons, All-head, All-tail}
use Rattle.up_base.specs.Lists.{IsPrefix}
use Rattle.up_model.proofs.Joined.{joined-append}
use Rattle.up_model.proofs.Lawful.{KeepsFlows}
use Rattle.up_model.proofs.Legality.{with_bytes}
use Rattle.up_model.proofs.Parts.{begins_first, held_grows}
use Rattle.up_model.specs.Aggregate.{IsMtu, fitting, joining, group_packet, aggregated_behind, aggregated, all_but_last, aggregated_so_far, aggregate_meaning}
use Rattle.up_model.specs.Packet.{PlainPacket, Flow, IsLegal, joined}
use Rattle.up_model.specs.declared.kind.Kind.{Kind}
use Rattle.up_model.specs.declared.limits.TheConstants.{MAX_PACKET}

-- Whichever way a test goes.
fewer : (fits : Bool) (count limit : ℕ) → count ≤ limit → (if fits then suc count else 0) ≤ suc limit
fewer true count limit few = omega arith
fewer false count limit few = omega arith

-- no more fit than there are
pub fitting_within : (room : ℕ) (flow : Flow) → fitting room flow ≤ length flow
fitting_within room [] = omega arith
fitting_within room (packet ∷ flow) =
    fewer (nat_le (length packet.bytes) room) _ (length flow) (fitting_within (room - length packet.bytes) flow)

stays_behind : (fits : Bool) (count count' limit : ℕ) → (count < limit → count' ≡ count)
    → (if fits then suc count else 0) < suc limit → (if fits then suc count' else 0) ≡ (if fits then suc count else 0)
stays_behind true count count' limit same few = ap suc (same (omega arith))
stays_behind false count count' limit same few = refl

-- where not all fit, more packets behind them change nothing
pub fitting_stays : (room : ℕ) (flow more : Flow) → fitting room flow < length flow
    → fitting room (flow ++ more) ≡ fitting room flow
fitting_stays room [] more few = absurd (omega arith)
fitting_stays room (packet ∷ flow) more few =
    stays_behind (nat_le (length packet.bytes) room) _ _ (length flow)
    (fitting_stays (room - length packet.bytes) flow more) few

module _ (mtu : ℕ) where
  pub joining_within : (first : PlainPacket) (flow : Flow) → joining mtu first flow ≤ length flow
  joining_within first flow = by_test (nat_le (length first.bytes) mtu)
    where
      by_test : (fits : Bool) → (if fits then fitting (mtu - length first.bytes) flow else 0) ≤ length flow
      by_test true = fitting_within (mtu - length first.bytes) flow
      by_test false = omega arith

  pub joining_stays : (first : PlainPacket) (flow more : Flow) → joining mtu first flow < length flow
      → joining mtu first (flow ++ more) ≡ joining mtu first flow
  joining_stays first flow more = by_test (nat_le (length first.bytes) mtu)
    where
      by_test : (fits : Bool) → (if fits then fitting (mtu - length first.bytes) flow else 0) < length flow
          → (if fits then fitting (mtu - length first.bytes) (flow ++ more) else 0)
          ≡ (if fits then fitting (mtu - length first.bytes) flow else 0)
      by_test true few = fitting_stays (mtu - length first.bytes) flow more few
      by_test false few = refl

  -- the groups behind some packets are those of the rest
  pub behind_is_rest : (count : ℕ) (flow : Flow) → aggregated_behind mtu count flow ≡ aggregated mtu (drop count flow)
  behind_is_rest zero flow = refl
  behind_is_rest (suc count) [] = refl
  behind_is_rest (suc count) (packet ∷ flow) = behind_is_rest count flow

  -- a flow that isn't empty begins with a group, and the rest is grouped in the same way
  pub group_and_rest : (first : PlainPacket) (flow : Flow)
      → aggregated mtu (first ∷ flow) ≡ group_packet mtu first flow ∷ aggregated mtu (drop (joining mtu first flow) flow)
  group_and_rest first flow = ap (λ rest. group_packet mtu first flow ∷ rest) (behind_is_rest (joining mtu first flow) flow)

  none_behind_all : (count : ℕ) (flow : Flow) → length flow ≤ count → aggregated_behind mtu count flow ≡ []
  none_behind_all count [] all = refl
  none_behind_all zero (packet ∷ flow) all = absurd (omega arith)
  none_behind_all (suc count) (packet ∷ flow) all = none_behind_all count flow (omega arith)

  some_behind : (count : ℕ) (flow : Flow) → count < length flow → 0 < length (aggregated_behind mtu count flow)
  some_behind count [] few = absurd (omega arith)
  some_behind zero (packet ∷ flow) few = omega arith
  some_behind (suc count) (packet ∷ flow) few = some_behind count flow (omega arith)

  pub all_but_last-cons : (packet : PlainPacket) (flow : Flow) → 0 < length flow
      → all_but_last (packet ∷ flow) ≡ packet ∷ all_but_last flow
  all_but_last-cons packet [] some = absurd (omega arith)
  all_but_last-cons packet (next ∷ flow) some =
      let one_less : length (packet ∷ next ∷ flow) - 1 ≡ suc (length (next ∷ flow) - 1) = omega arith in
      rw one_less refl

  -- the same group, where not all packets behind the first join it
  group_stays : (first : PlainPacket) (flow more : Flow) → joining mtu first flow < length flow
      → group_packet mtu first (flow ++ more) ≡ group_packet mtu first flow
  group_stays first flow more few =
      let same : take (joining mtu first (flow ++ more)) (flow ++ more) ≡ take (joining mtu first flow) flow =
      ap (λ count. take count (flow ++ more)) (joining_stays first flow more few)
      ∙ take-append-le (joining mtu first flow) flow more (omega arith) in
      ap (λ group. record first { bytes = first.bytes ++ joined group }) same

  -- all groups but the last stay, whatever comes behind
  pub but_last_stay : (count : ℕ) (flow more : Flow)
      → IsPrefix (all_but_last (aggregated_behind mtu count flow)) (all_but_last (aggregated_behind mtu count (flow ++ more)))
  but_last_stay count [] more = (all_but_last (aggregated_behind mtu count more), refl)
  but_last_stay (suc count) (packet ∷ flow) more = but_last_stay count flow more
  but_last_stay zero (packet ∷ flow) more =
      by_rest (cases_lt (joining mtu packet flow) (length flow)) (but_last_stay (joining mtu packet flow) flow more)
    where
      by_rest : ((joining mtu packet flow < length flow) ⊎ (length flow ≤ joining mtu packet flow))
          → IsPrefix (all_but_last (aggregated_behind mtu (joining mtu packet flow) flow))
          (all_but_last (aggregated_behind mtu (joining mtu packet flow) (flow ++ more)))
          → IsPrefix (all_but_last (aggregated_behind mtu zero (packet ∷ flow)))
          (all_but_last (aggregated_behind mtu zero (packet ∷ flow ++ more)))
      by_rest (inr all) rest =
          rw (none_behind_all (joining mtu packet flow) flow all)
          (all_but_last (aggregated_behind mtu zero (packet ∷ flow ++ more)), refl)
      by_rest (inl few) rest =
          let more_packets : joining mtu packet flow < length (flow ++ more) = omega (arith, few, length-append flow more) in
          let longer = all_but_last-cons (group_packet mtu packet flow)
          (aggregated_behind mtu (joining mtu packet flow) (flow ++ more)) (some_behind _ _ more_packets) in
          let shorter = all_but_last-cons (group_packet mtu packet flow)
          (aggregated_behind mtu (joining mtu packet flow) flow) (some_behind _ _ few) in
          rw (group_stays packet flow more few, joining_stays packet flow more few, longer, shorter)
          (rest.0, ap (λ groups. group_packet mtu packet flow ∷ groups) rest.1)

  but_last_first : (flow : Flow) → IsPrefix (all_but_last flow) flow
  but_last_first flow = (drop (length flow - 1) flow, sym (take-append-drop (length flow - 1) flow))

  pub so_far_longer : (taken more : Flow) → IsPrefix (aggregated_so_far mtu taken) (aggregated_so_far mtu (taken ++ more))
  so_far_longer taken more = but_last_stay 0 taken more

  pub so_far_whole : (taken more : Flow) → IsPrefix (aggregated_so_far mtu taken) (aggregated mtu (taken ++ more))
  so_far_whole taken more = begins_first _ _ _ (so_far_longer taken more) (but_last_first (aggregated mtu (taken ++ more)))

  -- no byte is cut: behind some packets the groups have the bytes of the rest
  pub joined-aggregated : (count : ℕ) (flow : Flow) → joined (aggregated_behind mtu count flow) ≡ joined (drop count flow)
  joined-aggregated zero [] = refl
  joined-aggregated (suc count) [] = refl
  joined-aggregated (suc count) (packet ∷ flow) = joined-aggregated count flow
  joined-aggregated zero (packet ∷ flow) =
      let group = take (joining mtu packet flow) flow in
      let rest = drop (joining mtu packet flow) flow in
      ap (λ bytes. (packet.bytes ++ joined group) ++ bytes) (joined-aggregated (joining mtu packet flow) flow)
      ∙ append_assoc packet.bytes (joined group) (joined rest)
      ∙ ap (λ bytes. packet.bytes ++ bytes)
      (sym (joined-append group rest) ∙ ap joined (take-append-drop (joining mtu packet flow) flow))

fit_in : (fits : Bool) (packet : PlainPacket) (flow : Flow) (count room : ℕ) → nat_le (length packet.bytes) room ≡ fits
    → length (joined (take count flow)) ≤ room - length packet.bytes
    → length (joined (take (if fits then suc count else 0) (packet ∷ flow))) ≤ room
fit_in true packet flow count room is few =
    omega (arith, length-append packet.bytes (joined (take count flow)), leb-true (length packet.bytes) room is, few)
fit_in false packet flow count room is few = omega arith

-- those that fit have no more bytes together
pub fitting_fit : (room : ℕ) (flow : Flow) → length (joined (take (fitting room flow) flow)) ≤ room
fitting_fit room [] = omega arith
fitting_fit room (packet ∷ flow) =
    fit_in (nat_le (length packet.bytes) room) packet flow _ room refl (fitting_fit (room - length packet.bytes) flow)

module _ (mtu : ℕ) (small : mtu ≤ MAX_PACKET) where
  group_is_legal : (first : PlainPacket) (flow : Flow) → IsLegal first → IsLegal (group_packet mtu first flow)
  group_is_legal first flow legal = with_bytes first legal _ (by_test (nat_le (length first.bytes) mtu) refl)
    where
      by_test : (fits : Bool) → nat_le (length first.bytes) mtu ≡ fits
          → length (first.bytes ++ joined (take (if fits then fitting (mtu - length first.bytes) flow else 0) flow))
          ≤ MAX_PACKET
      by_test true is =
          omega (
            arith,
            small,
            leb-true (length first.bytes) mtu is,
            fitting_fit (mtu - length first.bytes) flow,
            length-append first.bytes (joined (take (fitting (mtu - length first.bytes) flow) flow)),
          )
      by_test false is = rw (append-nil first.bytes) legal.size

  pub groups_are_legal : (count : ℕ) (flow : Flow) → All IsLegal flow → All IsLegal (aggregated_behind mtu count flow)
  groups_are_legal count [] legal = All-nil IsLegal
  groups_are_legal (suc count) (packet ∷ flow) legal = groups_are_legal count flow (All-tail IsLegal packet flow legal)
  groups_are_legal zero (packet ∷ flow) legal =
      All-cons IsLegal _ _ (group_is_legal packet flow (All-head IsLegal packet flow legal))
      (groups_are_legal (joining mtu packet flow) flow (All-tail IsLegal packet flow legal))

pub aggregate_keeps_flows : (aggregate : ℕ → Kind) (mtu : ℕ) → IsMtu mtu → KeepsFlows (aggregate_meaning aggregate mtu)
aggregate_keeps_flows aggregate mtu within = record {
  settles_nothing = refl;
  settles_no_sums = refl;
  owes_nothing = refl;
  owes_no_sums = refl;
  longer = so_far_longer mtu;
  whole = so_far_whole mtu;
  sums_longer = λ taken more. held_grows taken more _ _ (so_far_longer mtu taken more);
  sums_whole = λ taken more. held_grows taken more _ _ (so_far_whole mtu taken more);
  counts_settled = λ taken. record { packets_taken = refl; packets_put = refl };
  counts_whole = λ taken. record { packets_taken = refl; packets_put = refl };
  legal = groups_are_legal mtu within.1 0;
  writes_on = λ taken more. ([], refl);
}
