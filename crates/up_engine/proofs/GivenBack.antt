-- The strands of a net, given up from the last on: what they had is back, and what they did is told.
use Rattle.std.proofs.Common.{◌≡◌, ◌≢◌, ℕ, ◌+◌, ◌<◌, List, [], ◌∷◌, ◌++◌, length, refl, sym, ap, ◌∙◌, subst, arith, inl, inr}
use Rattle.std.specs.List.{Contains}
use Rattle.std.proofs.lemmas.Bool.{cases_lt}
use Rattle.std.proofs.lemmas.List.{get_or_append_left, get_or_push, length_push}
use Rattle.up_engine.proofs.Fillers.{head_number}
use Rattle.up_engine.proofs.Numbered.{own_number}
use Rattle.up_engine.proofs.Opened.{none_there}
use Rattle.up_engine.specs.Begun.{AreBackFrom, StrandsStand, places_at}
use Rattle.up_engine.specs.Making.{AreBack, IsBack}
use Rattle.up_engine.specs.Nets.{NetStands, head_at}
use Rattle.up_engine.specs.Objects.{AreThere, object_at}
use Rattle.up_engine.specs.Parts.{HasNone, IsPutBack}
use Rattle.up_engine.specs.declared.net.Net.{Net}
use Rattle.up_engine.specs.declared.object.Object.{Object}
use Rattle.up_model.specs.Plans.{heads, strand_of}
use Rattle.up_model.specs.declared.pipe.Pipe.{Pipe}
use Rattle.up_model.specs.declared.plain_packet.PlainPacket.{PlainPacket}
use Rattle.up_outside.specs.States.{SourceState, SinkState}
use Rattle.up_strand.specs.History.{History}
use Rattle.up_strand.specs.Strands.{StandsFor}
use Rattle.up_strand.specs.declared.strand.Strand.{Strand}

module _ (pipes : List Pipe) where
  -- a place of one strand is no place of another
  pub elsewhere : (i j place : ℕ) → i < length (heads pipes) → j < length (heads pipes) → i ≢ j → Contains (places_at pipes i) place → Contains (places_at pipes j) place → ⊥
  elsewhere i j place i_within j_within apart one other = apart (own_number pipes i j place i_within j_within one other)

  module _ {S K : Type 0} (reads : S → SourceState) (writes : K → SinkState) (past : ℕ → History) where
    -- the objects of one strand more are back
    pub back_next : (count : ℕ) (before after : List (Object S K)) → count < length (heads pipes) → (past (head_at pipes count)).head ≡ head_at pipes count
        → AreBackFrom reads writes pipes (count + 1) past before → IsPutBack reads writes pipes (past (head_at pipes count)) before after
        → AreBackFrom reads writes pipes count past after
    back_next count before after within place so_far put =
        let h = past (head_at pipes count) in
        let own = places_at pipes count in
        let others : (i other : ℕ) → i < length (heads pipes) → i ≢ count → Contains (places_at pipes i) other → object_at after other ≡ object_at before other =
        λ i other below apart has. put.others.same other (λ there.
        elsewhere i count other below within apart has (subst (λ (head : ℕ). Contains (strand_of pipes head) other) place there)) in
        record {
          size = put.others.size ∙ so_far.size;
          none = λ i below other has. others i other (omega (arith, below, within)) (λ same. omega (arith, same, below)) has ∙ so_far.none i (omega (arith, below)) other has;
          back = λ i other pipe from below has there. elim (cases_lt count i) [
            | inl later ↦
                subst (IsBack reads writes pipes (past (head_at pipes i)) other pipe) (sym (others i other below (λ same. omega (arith, same, later)) has))
                (so_far.back i other pipe (omega (arith, later)) below has there)
            | inr not ↦
                let here : i ≡ count = omega (arith, not, from) in
                let has_it = subst (λ (n : ℕ). Contains (places_at pipes n) other) here has in
                subst (λ (n : ℕ). IsBack reads writes pipes (past (head_at pipes n)) other pipe (object_at after other)) (sym here)
                (put.back other pipe (subst (λ (head : ℕ). Contains (strand_of pipes head) other) (sym place) has_it) there)
          ];
        }

    -- all of them once none is left
    pub back_at_end : {X : Type 0} (strands : List X) (before after : List (Object S K)) → strands ≡ [] → after ≡ before → AreBackFrom reads writes pipes (length strands) past before
        → AreBackFrom reads writes pipes 0 past after
    back_at_end strands before after none same back =
        subst (AreBackFrom reads writes pipes 0 past) (sym same) (subst (λ (n : ℕ). AreBackFrom reads writes pipes n past before) (ap length none) back)

    -- none of them while all strands are there
    pub none_back : (count : ℕ) (table : List (Object S K)) → count ≡ length (heads pipes) → AreThere reads writes pipes 0 table → AreBackFrom reads writes pipes count past table
    none_back count table all there = record {
      size = there.size;
      none = λ i below place has. none_there reads writes pipes table there place;
      back = λ i place pipe from below has at. absurd (omega (arith, from, below, all));
    }

    pub all_back : (table : List (Object S K)) → AreBackFrom reads writes pipes 0 past table → AreBack reads writes pipes past table
    all_back table back = record {
      size = back.size;
      each = λ head place pipe is has there.
          let number = head_number pipes head is in
          subst (λ (at : ℕ). IsBack reads writes pipes (past at) place pipe (object_at table place)) number.2
          (back.back number.0 place pipe (omega arith) number.1 (subst (λ (at : ℕ). Contains (strand_of pipes at) place) (sym number.2) has) there);
    }

  module _ {P S K : Type 0} (plain : P → PlainPacket) (reads : S → SourceState) (writes : K → SinkState) (past : ℕ → History) where
    -- what the last strand did
    pub record IsLast (strands : List (Strand P S K)) (strand : Strand P S K) : Type 0 where
      pub within : length strands < length (heads pipes)
      pub stands : StandsFor plain reads writes strand (past (head_at pipes (length strands)))
      pub graph : (past (head_at pipes (length strands))).pipes ≡ pipes
      pub place : (past (head_at pipes (length strands))).head ≡ head_at pipes (length strands)
      pub rest : StrandsStand plain reads writes pipes strands past

    pub last_stands : (strands : List (Strand P S K)) (strand : Strand P S K) → StrandsStand plain reads writes pipes (strands ++ strand ∷ []) past → IsLast strands strand
    last_stands strands strand stand =
        let long = length_push strands strand in
        let few = stand.few in
        let last : length strands < length (strands ++ strand ∷ []) = omega (arith, long) in
        record {
          within = omega (arith, long, few);
          stands = subst (λ (x : Strand P S K). StandsFor plain reads writes x (past (head_at pipes (length strands)))) (get_or_push strands strand strand (length strands) refl)
              (stand.stand (length strands) strand last);
          graph = stand.graphs (length strands) last;
          place = stand.places (length strands) last;
          rest = record {
            few = omega (arith, long, few);
            stand = λ i d below. subst (λ (x : Strand P S K). StandsFor plain reads writes x (past (head_at pipes i))) (get_or_append_left strands (strand ∷ []) d i below)
                (stand.stand i d (omega (arith, below, long)));
            graphs = λ i below. stand.graphs i (omega (arith, below, long));
            places = λ i below. stand.places i (omega (arith, below, long));
          };
        }

    module _ (old new : List (Strand P S K)) (strand : Strand P S K) (last : old ≡ new ++ strand ∷ []) where
      one_more : length old ≡ length new + 1
      one_more = ap length last ∙ length_push new strand

      pub last_of : StrandsStand plain reads writes pipes old past → IsLast new strand
      last_of stand = last_stands new strand (subst (λ (strands : List (Strand P S K)). StrandsStand plain reads writes pipes strands past) last stand)

      -- what the last strand had is back, and those before it stand as they did
      pub last_back : (before after : List (Object S K)) → StrandsStand plain reads writes pipes old past → AreBackFrom reads writes pipes (length old) past before
          → IsPutBack reads writes pipes (past (head_at pipes (length new))) before after
          → StrandsStand plain reads writes pipes new past × AreBackFrom reads writes pipes (length new) past after
      last_back before after stand back put =
          let own = last_of stand in (
            own.rest,
            back_next reads writes past (length new) before after own.within own.place
                (subst (λ (n : ℕ). AreBackFrom reads writes pipes n past before) one_more back) put,
          )

      -- nothing of it stood there
      pub none_of_last : (before : List (Object S K)) → AreBackFrom reads writes pipes (length old) past before → HasNone (places_at pipes (length new)) before
      none_of_last before back = back.none (length new) (omega (arith, one_more))

    -- the strands of a net
    pub net_strands : (net : Net P S K) → NetStands plain reads writes net pipes past → StrandsStand plain reads writes pipes net.strands.items past
    net_strands net stands =
        let count = stands.shape.strands in
        record {
          few = omega (arith, count);
          stand = λ i d below. stands.strands i d (omega (arith, below, count));
          graphs = λ i below. stands.graphs i (omega (arith, below, count));
          places = λ i below. stands.places i (omega (arith, below, count));
        }
