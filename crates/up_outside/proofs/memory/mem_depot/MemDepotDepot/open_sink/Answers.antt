use Rattle.std.proofs.Common.{◌≡◌, ◌⊎◌, [], inr, rules}
use Rattle.std.specs.FinMap.{insert}
use Rattle.up_outside.proofs.Rooms.{keeps_others, rooms-insert, rooms-ask, is_held}
use Rattle.up_outside.proofs.memory.mem_depot.MemDepotDepot.open_sink.Goals as goal

pub returns-in_err-ask-2-clause-held : goal.returns-in_err-ask-2-clause-held
returns-in_err-ask-2-clause-held c = rw c.in_ok-set.ensures.set (keeps_others _ _ _)

pub returns-in_err-ask-2-clause-empties : goal.returns-in_err-ask-2-clause-empties
returns-in_err-ask-2-clause-empties c =
    let one_of_two : (c.set.new.self ≡ c.args.self.now.held) ⊎ (c.set.new.self ≡ insert c.args.self.now.held c.args.path.now []) = inr (rw c.new.ensures at c.in_ok-set.ensures.set) in
    search (rules, one_of_two)

pub returns-clause-held : goal.returns-clause-held
returns-clause-held c = rw c.in_ok-set.ensures.set (keeps_others _ _ _)

pub invariant_of-self-2-clause-rooms : goal.invariant_of-self-2-clause-rooms
invariant_of-self-2-clause-rooms c =
    let set = c.in_ok-set.ensures.set in
    let rooms = rooms-insert c.args.self.now.held c.args.self.now.asked.items c.args.path.now c.new.result c.args.self.now.rooms in
    rw set (rooms-ask _ c.args.self.now.asked.items c.ask-2.new.asked.items _ c.ask-2.result c.ask-2.ensures.added c.ask-2.ensures.unchanged rooms (λ _ _. is_held _ _ _))
