-- What holds of every kind that looks at each packet by itself.
use Rattle.std.proofs.Common.{◌≡◌, ◌+◌, [], ◌∷◌, ◌++◌, List, length, All, Option, Some, None, refl, sym, ap, ◌∙◌, arith, append-nil, length-append}
use Rattle.std.specs.List.{cons_option}
use Rattle.std.proofs.lemmas.List.Elements.{All-cons, All-head, All-tail}
use Rattle.up_model.specs.Packet.{PlainPacket, Flow, IsLegal, joined}
use Rattle.up_model.specs.Packetwise.{Step, put_of, sums_of, passed, summed, work_by, passes_on, IfPasses}
use Rattle.up_model.specs.Tallies.{nothing, plus, IsAtMost, of_passed, of_dropped}
use Rattle.up_model.specs.Work.{Work, Counts, CutsTheRest, PutsAll, PutsOrDrops}
use Rattle.up_model.specs.declared.verdict.Verdict.{Verdict}
use Rattle.up_model.specs.declared.verdict.Verdict.TheVariants.{Passes, Drops}
use Rattle.up_model.specs.declared.tally.Tally.{Tally}

-- the work with one packet more put out, and these sums more
abbrev pub with_packet : Work → PlainPacket → Tally → Work
with_packet work packet tally = record { flow = work.flow ++ packet ∷ []; tally = plus work.tally tally }

-- the work with these sums more, and no packet more put out
abbrev pub with_sums : Work → Tally → Work
with_sums work tally = record { flow = work.flow; tally = plus work.tally tally }

-- work of the same packets and sums is the same
same_work : (flow flow' : Flow) (tally tally' : Tally) → flow ≡ flow' → tally ≡ tally'
    → ◌≡◌ {A = Work} (record { flow = flow; tally = tally }) (record { flow = flow'; tally = tally' })
same_work flow flow' tally tally' flows tallies = λ i. record { flow = flows i; tally = tallies i }

pub plus-nothing : (tally : Tally) → plus tally nothing ≡ tally
plus-nothing tally = grind arith

nothing-plus : (tally : Tally) → plus nothing tally ≡ tally
nothing-plus tally = grind arith

plus-plus : (a b c : Tally) → plus (plus a b) c ≡ plus a (plus b c)
plus-plus a b c = grind arith

at_most-plus : (a b : Tally) → IsAtMost a (plus a b)
at_most-plus a b = record {
  taken = omega arith;
  put = omega arith;
  dropped = omega arith;
  cut = omega arith;
  gained = omega arith;
  lost = omega arith;
}

cons_option-append : {X : Type 0} (o : Option X) (xs ys : List X) → cons_option o xs ++ ys ≡ cons_option o (xs ++ ys)
cons_option-append None xs ys = refl
cons_option-append (Some x) xs ys = refl

-- two flows pass one after the other
pub passed-append : (step : Step) (front more : Flow) → passed step (front ++ more) ≡ passed step front ++ passed step more
passed-append step [] more = refl
passed-append step (packet ∷ front) more =
    ap (cons_option (put_of (step packet))) (passed-append step front more) ∙ sym (cons_option-append (put_of (step packet)) (passed step front) (passed step more))

-- and are counted so
pub summed-append : (step : Step) (front more : Flow) → summed step (front ++ more) ≡ plus (summed step front) (summed step more)
summed-append step [] more = sym (nothing-plus (summed step more))
summed-append step (packet ∷ front) more =
    ap (plus (sums_of packet (step packet))) (summed-append step front more) ∙ sym (plus-plus (sums_of packet (step packet)) (summed step front) (summed step more))

-- so each sum only grows
pub summed-grows : (step : Step) (front more : Flow) → IsAtMost (summed step front) (summed step (front ++ more))
summed-grows step front more = rw (summed-append step front more) (at_most-plus (summed step front) (summed step more))

-- what passes as it is
pub passed-on : (taken : Flow) → passed passes_on taken ≡ taken
passed-on [] = refl
passed-on (packet ∷ taken) = ap (λ rest. packet ∷ rest) (passed-on taken)

module _ (step : Step) (taken : Flow) (packet : PlainPacket) where
  -- one packet more that passes
  pub work-passes : (put : PlainPacket) (cut : _) → step packet ≡ Passes put cut
      → work_by step (taken ++ packet ∷ []) ≡ with_packet (work_by step taken) put (of_passed cut)
  work-passes put cut is = same_work _ _ _ _
      (passed-append step taken (packet ∷ []) ∙ ap (λ p. passed step taken ++ cons_option (put_of p) []) is)
      (summed-append step taken (packet ∷ []) ∙ ap (plus (summed step taken)) (plus-nothing (sums_of packet (step packet)) ∙ ap (sums_of packet) is))

  -- one packet more that is dropped
  pub work-drops : step packet ≡ Drops → work_by step (taken ++ packet ∷ []) ≡ with_sums (work_by step taken) (of_dropped (length packet.bytes))
  work-drops is = same_work _ _ _ _
      (passed-append step taken (packet ∷ []) ∙ ap (λ p. passed step taken ++ cons_option (put_of p) []) is ∙ append-nil (passed step taken))
      (summed-append step taken (packet ∷ []) ∙ ap (plus (summed step taken)) (plus-nothing (sums_of packet (step packet)) ∙ ap (sums_of packet) is))

-- of a legal packet it makes a legal one, or none
abbrev pub KeepsLegal : Step → Type 0
KeepsLegal step = (packet : PlainPacket) → IsLegal packet → IfPasses (step packet) IsLegal

put_is_legal : (p : Verdict PlainPacket) (rest : Flow) → IfPasses p IsLegal → All IsLegal rest → All IsLegal (cons_option (put_of p) rest)
put_is_legal (Passes packet cut) rest legal more = All-cons IsLegal packet rest legal more
put_is_legal Drops rest legal more = more

-- what is put out of legal packets is legal
pub passed_is_legal : (step : Step) → KeepsLegal step → (taken : Flow) → All IsLegal taken → All IsLegal (passed step taken)
passed_is_legal step keeps [] legal = legal
passed_is_legal step keeps (packet ∷ taken) legal =
    put_is_legal (step packet) (passed step taken) (keeps packet (All-head IsLegal packet taken legal)) (passed_is_legal step keeps taken (All-tail IsLegal packet taken legal))

-- the sums of one packet count it as taken, and as put out where it is
counts_taken : (packet : PlainPacket) (p : Verdict PlainPacket) → (sums_of packet p).taken ≡ 1
counts_taken packet (Passes put cut) = refl
counts_taken packet Drops = refl

counts_put : (packet : PlainPacket) (p : Verdict PlainPacket) (rest : Flow) → (sums_of packet p).put + length rest ≡ length (cons_option (put_of p) rest)
counts_put packet (Passes put cut) rest = omega arith
counts_put packet Drops rest = omega arith

summed_taken : (step : Step) (taken : Flow) → (summed step taken).taken ≡ length taken
summed_taken step [] = refl
summed_taken step (packet ∷ taken) = omega (arith, counts_taken packet (step packet), summed_taken step taken)

summed_put : (step : Step) (taken : Flow) → (summed step taken).put ≡ length (passed step taken)
summed_put step [] = refl
summed_put step (packet ∷ taken) = omega (arith, counts_put packet (step packet) (passed step taken), summed_put step taken)

-- so do those of a flow
pub work_counts : (step : Step) (taken : Flow) → Counts (work_by step taken) taken
work_counts step taken = record { packets_taken = summed_taken step taken; packets_put = summed_put step taken }

-- what is cut off a packet and what goes on are its bytes
abbrev pub IsCutOf : PlainPacket → Verdict PlainPacket → Type 0
IsCutOf packet (Passes put cut) = cut + length put.bytes ≡ length packet.bytes
IsCutOf packet Drops = Unit {0}

cut_of_next : (packet : PlainPacket) (p : Verdict PlainPacket) (sums : Tally) (rest taken : Flow) → IsCutOf packet p
    → sums.cut + length (joined rest) ≡ length (joined taken)
    → (plus (sums_of packet p) sums).cut + length (joined (cons_option (put_of p) rest)) ≡ length (joined (packet ∷ taken))
cut_of_next packet (Passes put cut) sums rest taken is before =
    omega (arith, length-append put.bytes (joined rest), length-append packet.bytes (joined taken), is, before)
cut_of_next packet Drops sums rest taken is before = omega (arith, length-append packet.bytes (joined taken), before)

-- of a flow too
pub work_cuts : (step : Step) → ((packet : PlainPacket) → IsCutOf packet (step packet)) → (taken : Flow) → CutsTheRest (work_by step taken) taken
work_cuts step is [] = refl
work_cuts step is (packet ∷ taken) = cut_of_next packet (step packet) (summed step taken) (passed step taken) taken (is packet) (work_cuts step is taken)

-- a packet that was taken is put out or dropped
put_or_dropped : (packet : PlainPacket) (p : Verdict PlainPacket) (sums : Tally) (rest : Flow) → PutsOrDrops (record { flow = rest; tally = sums })
    → PutsOrDrops (record { flow = cons_option (put_of p) rest; tally = plus (sums_of packet p) sums })
put_or_dropped packet (Passes put cut) sums rest before = record {
  packets = omega (arith, before.packets);
  gained = omega (arith, before.gained);
  lost = omega (arith, before.lost);
}
put_or_dropped packet Drops sums rest before = record {
  packets = omega (arith, before.packets);
  gained = omega (arith, before.gained);
  lost = omega (arith, before.lost);
}

pub work_puts_or_drops : (step : Step) (taken : Flow) → PutsOrDrops (work_by step taken)
work_puts_or_drops step [] = record { packets = refl; gained = refl; lost = refl }
work_puts_or_drops step (packet ∷ taken) =
    put_or_dropped packet (step packet) (summed step taken) (passed step taken) (work_puts_or_drops step taken)

-- the packet is put out with all of its bytes
abbrev pub IsKept : PlainPacket → Verdict PlainPacket → Type 0
IsKept packet (Passes put cut) = (put.bytes ≡ packet.bytes) × (cut ≡ 0)
IsKept packet Drops = ⊥

kept_next : (packet : PlainPacket) (p : Verdict PlainPacket) (sums : Tally) (rest taken : Flow) → IsKept packet p
    → PutsAll (record { flow = rest; tally = sums }) taken
    → PutsAll (record { flow = cons_option (put_of p) rest; tally = plus (sums_of packet p) sums }) (packet ∷ taken)
kept_next packet (Passes put cut) sums rest taken is before = record {
  bytes = rw (is.0, before.bytes) refl;
  sums = rw (is.1, before.sums) (grind arith);
}
kept_next packet Drops sums rest taken is before = absurd is

-- where each packet is, all are
pub work_puts_all : (step : Step) → ((packet : PlainPacket) → IsKept packet (step packet)) → (taken : Flow) → PutsAll (work_by step taken) taken
work_puts_all step keeps [] = record { bytes = refl; sums = refl }
work_puts_all step keeps (packet ∷ taken) =
    kept_next packet (step packet) (summed step taken) (passed step taken) taken (keeps packet) (work_puts_all step keeps taken)
