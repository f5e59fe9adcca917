-- The end of a lane: it came where the flow of the head ended, and nothing comes behind it.
use Rattle.std.proofs.Common.{◌≡◌, ℕ, ◌++◌, List, [], ◌∷◌, map, Bool, true, false, Option, None, Some, is_some, refl, sym, ap, ◌∙◌, append-nil}
use Rattle.up_engine.proofs.ThroughLanes.{after_packets, came_all, closing}
use Rattle.up_engine.specs.Joins.{IsJoined, PlainItem, end_come}
use Rattle.up_model.specs.Packet.{Flow}
use Rattle.up_model.specs.declared.outcome.Outcome.{Outcome}
use Rattle.up_queue.specs.declared.end_kind.EndKind.{EndKind}
use Rattle.up_queue.specs.declared.item.Item.TheVariants.{Packet, End}
use Rattle.up_strand.specs.History.{History, end_by}

end_of : (ended : Option Outcome) → is_some ended ≡ true → (kind : EndKind) × (end_come ended ≡ End kind ∷ [])
end_of None some = absurd (cc)
end_of (Some outcome) some = (end_by false (Some outcome), refl)

-- nothing waits behind an end
last_is_end : (came sent : Flow) (rest : List PlainItem) (closed : Bool) (kind other : EndKind)
    → map Packet came ++ (End kind ∷ rest) ≡ map Packet sent ++ closing closed other → rest ≡ []
last_is_end [] [] rest true kind other all = cc
last_is_end [] [] rest false kind other all = absurd (cc)
last_is_end [] (q ∷ sent) rest closed kind other all = absurd (cc)
last_is_end (p ∷ came) [] rest true kind other all = absurd (cc)
last_is_end (p ∷ came) [] rest false kind other all = absurd (cc)
last_is_end (p ∷ came) (q ∷ sent) rest closed kind other all =
    let later : map Packet came ++ (End kind ∷ rest) ≡ map Packet sent ++ closing closed other = cc in
    last_is_end came sent rest closed kind other later

-- packets are no end
no_end_among : (came sent : Flow) (other : EndKind) → map Packet came ≡ map Packet sent ++ End other ∷ [] → ⊥
no_end_among [] [] other all = cc
no_end_among [] (q ∷ sent) other all = cc
no_end_among (p ∷ came) [] other all = cc
no_end_among (p ∷ came) (q ∷ sent) other all = no_end_among came sent other (let later : map Packet came ≡ map Packet sent ++ End other ∷ [] = cc in later)

module _ (filler head : History) (lane : ℕ) (waiting : List PlainItem) (joined : IsJoined filler head lane waiting) where
  -- where the flow of the head ended, the end had been sent
  pub ended_was_closed : is_some head.ended ≡ true → filler.closed lane ≡ true
  ended_was_closed ended =
      let end = end_of head.ended ended in
      (came_all filler head lane waiting joined end.0 end.1).closed

  -- and nothing waits
  pub none_behind_end : is_some head.ended ≡ true → waiting ≡ []
  none_behind_end ended =
      let end = end_of head.ended ended in
      last_is_end head.came (filler.sent lane) waiting (filler.closed lane) end.0 (end_by filler.short filler.ended)
      (sym (ap (λ items. map Packet head.came ++ (items ++ waiting)) end.1) ∙ after_packets filler head lane waiting joined)

  -- where the end was sent and nothing waits, the flow of the head doesn't go on
  pub closed_came : waiting ≡ [] → filler.closed lane ≡ true → head.ended ≡ None → ⊥
  closed_came none closed goes_on =
      let all : map Packet head.came ≡ map Packet (filler.sent lane) ++ End (end_by filler.short filler.ended) ∷ [] =
      sym (append-nil (map Packet head.came))
      ∙ sym (ap (λ items. map Packet head.came ++ (end_come head.ended ++ items)) none ∙ ap (λ ended. map Packet head.came ++ (end_come ended ++ [])) goes_on)
      ∙ after_packets filler head lane waiting joined
      ∙ ap (λ closed. map Packet (filler.sent lane) ++ closing closed (end_by filler.short filler.ended)) closed in
      no_end_among head.came (filler.sent lane) (end_by filler.short filler.ended) all
