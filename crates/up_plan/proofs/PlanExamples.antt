-- Worked examples of strands, heads, lanes and workers, computed.
use Rattle.std.proofs.Common.{◌≡◌, List, ℕ, [], ◌∷◌, Option, Some, None, true, false, refl}
use Rattle.std.specs.Prelude.{codes}
use Rattle.up_model.specs.Inputs.{passes_at}
use Rattle.up_model.specs.Plans.{changes_worker, is_head, heads, head_of, strand_of, sinks_of, is_fed, lanes, outlets_of, lane_length, runs_on, heads_on}
use Rattle.up_model.specs.WellFormed.{worker_places}
use Rattle.up_model.specs.declared.form.SinkForm.TheVariants as sink_forms
use Rattle.up_model.specs.declared.form.SourceForm.TheVariants as source_forms
use Rattle.up_model.specs.declared.kind.Kind.{Kind}
use Rattle.up_model.specs.declared.kind.Kind.TheVariants.{Source, Sink, Idem, Dup}
use Rattle.up_model.specs.declared.pipe.Pipe.{Pipe}
use Rattle.up_plan.specs.Plan.{plan_of}

abbrev pipe : Kind → List ℕ → Option ℕ → Pipe
pipe kind worker input = record {
  name = [];
  worker = worker;
  input = input;
  select = None;
  queue = 64;
  caught = record { drop = false; cut = false; sync = false; lost = false };
  kind = kind;
}

abbrev source : List ℕ → Pipe
source worker = pipe (Source [] (source_forms.Raw 4096) 100) worker None

abbrev sink : List ℕ → ℕ → Pipe
sink worker input = pipe (Sink [] sink_forms.Raw) worker (Some input)

abbrev pass : List ℕ → ℕ → Pipe
pass worker input = pipe Idem worker (Some input)

-- a source feeds two sinks through a `dup`, one of them on another worker
abbrev branches : List Pipe
branches = source (codes "a") ∷ pipe Dup (codes "a") (Some 0) ∷ sink (codes "b") 1 ∷ sink (codes "a") 1 ∷ []

pub branches_are_split :
    (heads branches ≡ 0 ∷ 2 ∷ []) × (strand_of branches 0 ≡ 0 ∷ 1 ∷ 3 ∷ []) × (strand_of branches 2 ≡ 2 ∷ [])
    × (lanes branches ≡ 2 ∷ []) × (heads_on branches (codes "a") ≡ 0 ∷ []) × (heads_on branches (codes "b") ≡ 2 ∷ [])
branches_are_split = (refl, refl, refl, refl, refl, refl)

-- the first strand fills the lane of the second, and each has a sink of its own
pub branches_are_joined :
    (outlets_of branches 0 ≡ 2 ∷ []) × (outlets_of branches 2 ≡ []) × (lane_length branches 2 ≡ 64)
    × (sinks_of branches 0 ≡ 3 ∷ []) × (sinks_of branches 2 ≡ 2 ∷ [])
branches_are_joined = (refl, refl, refl, refl, refl)

-- two sources on one worker are two strands, and neither has a lane
abbrev two_sources : List Pipe
two_sources = source (codes "a") ∷ source (codes "a") ∷ sink (codes "a") 1 ∷ sink (codes "a") 0 ∷ []

pub sources_are_heads :
    (heads two_sources ≡ 0 ∷ 1 ∷ []) × (strand_of two_sources 0 ≡ 0 ∷ 3 ∷ []) × (strand_of two_sources 1 ≡ 1 ∷ 2 ∷ [])
    × (lanes two_sources ≡ []) × (heads_on two_sources (codes "a") ≡ 0 ∷ 1 ∷ [])
sources_are_heads = (refl, refl, refl, refl, refl)

-- pipes that stand before their inputs
abbrev backwards : List Pipe
backwards = sink (codes "b") 1 ∷ pass (codes "a") 2 ∷ source (codes "a") ∷ []

pub backwards_are_split :
    (heads backwards ≡ 0 ∷ 2 ∷ []) × (strand_of backwards 2 ≡ 1 ∷ 2 ∷ []) × (lanes backwards ≡ 0 ∷ [])
    × (worker_places backwards ≡ 0 ∷ 1 ∷ [])
backwards_are_split = (refl, refl, refl, refl)

-- three workers in one branch, and back to the first
abbrev three_workers : List Pipe
three_workers = source (codes "a") ∷ pass (codes "b") 0 ∷ pass (codes "c") 1 ∷ sink (codes "a") 2 ∷ []

pub each_change_is_a_lane :
    (heads three_workers ≡ 0 ∷ 1 ∷ 2 ∷ 3 ∷ []) × (lanes three_workers ≡ 1 ∷ 2 ∷ 3 ∷ [])
    × (heads_on three_workers (codes "a") ≡ 0 ∷ 3 ∷ []) × (heads_on three_workers (codes "d") ≡ [])
each_change_is_a_lane = (refl, refl, refl, refl)

-- a pipe has one head: a head itself, another pipe that of its input, a place without a pipe none
pub heads_of_places :
    (head_of branches 0 ≡ Some 0) × (head_of branches 3 ≡ Some 0) × (head_of branches 2 ≡ Some 2) × (head_of branches 4 ≡ None)
heads_of_places = (refl, refl, refl, refl)

-- pipes that take each other's output have none, nor has one whose input isn't there
pub no_head :
    (head_of (pass (codes "a") 1 ∷ pass (codes "a") 0 ∷ []) 0 ≡ None) × (head_of (pass (codes "a") 9 ∷ []) 0 ≡ None)
    × (heads (pass (codes "a") 9 ∷ []) ≡ [])
no_head = (refl, refl, refl)

-- a worker's name is another from its last byte on
pub changes :
    (changes_worker (source (codes "a") ∷ []) (sink (codes "ab") 0) ≡ true)
    × (changes_worker (source (codes "ab") ∷ []) (sink (codes "ab") 0) ≡ false)
    × (changes_worker [] (source (codes "a")) ≡ false) × (is_head [] 0 (source (codes "a")) ≡ true)
changes = (refl, refl, refl, refl)

pub fed : (passes_at is_fed branches 0 ≡ false) × (passes_at is_fed branches 1 ≡ true) × (passes_at is_fed branches 4 ≡ false)
fed = (refl, refl, refl)

pub running : (passes_at (runs_on (codes "a")) branches 0 ≡ true) × (passes_at (runs_on (codes "a")) branches 2 ≡ false)
running = (refl, refl)

-- the whole plan: strands by their heads, workers by their first pipes
pub plan_of_backwards : plan_of backwards ≡ record {
  strands = record { head = 0; pipes = 0 ∷ [] } ∷ record { head = 2; pipes = 1 ∷ 2 ∷ [] } ∷ [];
  workers = record { name = codes "b"; strands = 0 ∷ [] } ∷ record { name = codes "a"; strands = 2 ∷ [] } ∷ [];
  lane_count = 1;
}
plan_of_backwards = refl

pub no_pipes : plan_of [] ≡ record { strands = []; workers = []; lane_count = 0 }
no_pipes = refl
