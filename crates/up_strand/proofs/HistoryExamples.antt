-- Worked examples of what a strand did and what its calls told, computed.
use Rattle.std.proofs.Common.{◌≡◌, List, ℕ, [], ◌∷◌, ◌==◌, map, Bool, true, false, Option, Some, None, refl, inl, inr, arith}
use Rattle.std.specs.Prelude.{codes, if◌then◌else◌}
use Rattle.up_model.specs.Packet.{plain}
use Rattle.up_model.specs.Plans.{outlets_of, sinks_of, strand_of}
use Rattle.up_model.specs.declared.catch_set.CatchSet.{CatchSet}
use Rattle.up_model.specs.declared.form.SinkForm.TheVariants as sink_forms
use Rattle.up_model.specs.declared.form.SourceForm.TheVariants as source_forms
use Rattle.up_model.specs.declared.kind.Kind.{Kind}
use Rattle.up_model.specs.declared.kind.Kind.TheVariants.{Source, Sink, Idem, Dup, Skip}
use Rattle.up_model.specs.declared.outcome.Outcome.{Outcome}
use Rattle.up_model.specs.declared.outcome.Outcome.TheVariants.{Whole, ReadFault, WriteFault, TooLong, Broken, NoMemory}
use Rattle.up_model.specs.declared.pipe.Pipe.{Pipe}
use Rattle.up_model.specs.declared.plain_packet.PlainPacket.{PlainPacket}
use Rattle.up_queue.specs.declared.end_kind.EndKind.TheVariants as ends
use Rattle.up_queue.specs.declared.item.Item.TheVariants.{Packet, End}
use Rattle.up_strand.specs.History.{History, doing, end_by, head_flow, sums_at, told_at, told_at_last}
use Rattle.up_strand.specs.StrandCalls.{HasMoreDue, HasNoneWaiting, begun, bytes_due, flow_due, gave_out, no_sink}

abbrev none : CatchSet
none = record { drop = false; cut = false; sync = false; lost = false }

abbrev pipe : Kind → List ℕ → Option ℕ → CatchSet → Pipe
pipe kind worker input caught = record {
  name = [];
  worker = worker;
  input = input;
  select = None;
  queue = 64;
  caught = caught;
  kind = kind;
}

abbrev limit : ℕ
limit = 9

abbrev short_skip : Pipe
short_skip = pipe (Skip 3) (codes "a") (Some 1) (record none { cut = true })

abbrev first_sink : Pipe
first_sink = pipe (Sink [] sink_forms.Raw) (codes "a") (Some 2) none

abbrev other_worker : Pipe
other_worker = pipe Idem (codes "b") (Some 1) none

-- a source of blocks of 4 bytes, a `dup`, a `skip` that catches what it cuts with its sink, another sink, and a pipe of
-- another worker with its sink
abbrev graph : List Pipe
graph = pipe (Source [] (source_forms.Raw 4) limit) (codes "a") None none
    ∷ pipe Dup (codes "a") (Some 0) none
    ∷ short_skip
    ∷ first_sink
    ∷ pipe (Sink [] sink_forms.Raw) (codes "a") (Some 1) none
    ∷ other_worker
    ∷ pipe (Sink [] sink_forms.Raw) (codes "b") (Some 5) none
    ∷ []

-- these bytes were read, and the flow of the source ended so; writes to the first sink failed or not
abbrev after : List ℕ → Option Outcome → Bool → Bool → History
after read ended short failed = record (begun graph 0 None (λ place. no_sink)) {
  read = read;
  ended = ended;
  short = short;
  failed = λ place. if place == 3 then failed else false;
}

abbrev outcomes : History → List Outcome
outcomes h = map (told_at h) (strand_of graph 0)

-- the strand is the pipes of the first worker, with two sinks and one lane
pub strand_of_graph : (strand_of graph 0 ≡ 0 ∷ 1 ∷ 2 ∷ 3 ∷ 4 ∷ []) × (sinks_of graph 0 ≡ 3 ∷ 4 ∷ []) × (outlets_of graph 0 ≡ 5 ∷ [])
strand_of_graph = (refl, refl, refl)

-- a sink that failed tells that alone, and its neighbours don't
pub a_failed_sink : outcomes (after (codes "abcdef") (Some Whole) false true) ≡ Whole ∷ Whole ∷ Whole ∷ WriteFault ∷ Whole ∷ []
a_failed_sink = refl

-- behind a read that failed all is broken, but for the sink that failed by itself
pub a_failed_read : outcomes (after (codes "abcdef") (Some ReadFault) false true) ≡ ReadFault ∷ Broken ∷ Broken ∷ WriteFault ∷ Broken ∷ []
a_failed_read = refl

-- where memory ran out all tell that, but for a sink that failed, and a source that a cause of its own had ended
pub no_memory : outcomes (after (codes "abcdef") (Some Whole) true true) ≡ NoMemory ∷ NoMemory ∷ NoMemory ∷ WriteFault ∷ NoMemory ∷ []
no_memory = refl

pub too_long : outcomes (after (codes "abcdefghij") (Some (TooLong limit)) true false) ≡ TooLong limit ∷ NoMemory ∷ NoMemory ∷ NoMemory ∷ NoMemory ∷ []
too_long = refl

-- where the strand wasn't done what has no cause of its own is broken
pub not_done : map (told_at_last false) (outcomes (after (codes "abcd") None false true)) ≡ Broken ∷ Broken ∷ Broken ∷ WriteFault ∷ Broken ∷ []
not_done = refl

-- of six bytes the second block isn't whole, so the head has it at a whole end alone
pub blocks_at_an_end : head_flow (after (codes "abcdef") (Some Whole) false false) ≡ plain (codes "abcd") ∷ plain (codes "ef") ∷ []
blocks_at_an_end = refl

pub blocks_at_a_fault : head_flow (after (codes "abcdef") (Some ReadFault) false false) ≡ plain (codes "abcd") ∷ []
blocks_at_a_fault = refl

-- of ten bytes only those within the limit count
pub blocks_at_the_limit : head_flow (after (codes "abcdefghij") (Some (TooLong limit)) false false) ≡ plain (codes "abcd") ∷ plain (codes "efgh") ∷ []
blocks_at_the_limit = refl

-- so much is due to the sink behind the `skip`, which drops a packet of two bytes; also where the sink failed
pub due_to_a_sink : bytes_due (after (codes "abcdef") (Some Whole) false true) 3 first_sink (doing (Some Whole)) ≡ codes "d"
due_to_a_sink = refl

-- the `skip` cut five bytes, which it catches, and dropped a packet, which it doesn't
pub past_its_own_probe : sums_at (after (codes "abcdef") (Some Whole) false false) 2
    ≡ record { taken = 2; put = 1; dropped = 1; cut = 0; gained = 0; lost = 0 }
past_its_own_probe = refl

-- the end that is passed on is whole only where the flow's was and memory sufficed
pub ends_passed_on : (end_by false (Some Whole) ≡ ends.Whole) × (end_by true (Some Whole) ≡ ends.Broken) × (end_by false (Some ReadFault) ≡ ends.Broken)
ends_passed_on = (refl, refl, refl)

-- the flow of the source goes on, and it put out the one whole block
abbrev read_once : History
read_once = record (after (codes "abcdef") None false false) { fed = plain (codes "abcd") ∷ [] }

pub due_for_a_lane : flow_due read_once 5 other_worker (doing None) ≡ plain (codes "abcd") ∷ []
due_for_a_lane = refl

-- what was taken out for one lane was taken out for no other
abbrev sent_once : History
sent_once = gave_out (λ (packet : PlainPacket). packet) read_once 5 (Packet (plain (codes "abcd")))

pub out_for_a_lane : (sent_once.sent 5 ≡ plain (codes "abcd") ∷ []) × (sent_once.sent 6 ≡ []) × (sent_once.closed 5 ≡ false)
out_for_a_lane = (refl, refl, refl)

-- a packet is due for the lane until it was taken out; the end is due only once the flow has ended
pub a_packet_is_due : HasMoreDue read_once 5 other_worker
a_packet_is_due = inl (omega arith)

pub no_more_is_due : HasNoneWaiting sent_once 5 other_worker
no_more_is_due = record { all = λ long. refl; over = λ wrong. absurd (cc) }

pub the_end_is_due : HasMoreDue (record sent_once { ended = Some ReadFault }) 5 other_worker
the_end_is_due = inr (refl, refl)

pub the_end_was_taken_out :
    HasNoneWaiting (gave_out (λ (packet : PlainPacket). packet) (record sent_once { ended = Some ReadFault }) 5 (End ends.Broken)) 5 other_worker
the_end_was_taken_out = record { all = λ long. refl; over = λ ended. refl }
