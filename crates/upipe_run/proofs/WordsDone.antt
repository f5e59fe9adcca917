-- What is done for the words, by the job that was read of them.
use Rattle.std.proofs.Common.{◌≡◌, ℕ, false, List, Option, Some, None, Ok, Err, inl, inr, refl, sym, subst, ◌∙◌, arith}
use Rattle.up_outside.specs.Counts.{CountsWhere}
use Rattle.up_outside.specs.States.{DepotState, SinkState}
use Rattle.up_outside.specs.Told.{Then}
use Rattle.up_report.specs.declared.fault.Fault.TheVariants.{Usage}
use Rattle.up_words.specs.Words.{IsRead}
use Rattle.up_words.specs.declared.job.Job.{Job}
use Rattle.up_words.specs.declared.job.Job.TheVariants.{Run}
use Rattle.up_words.specs.declared.read.WordsRefused.TheVariants as words
use Rattle.upipe_run.specs.Runs.{Does, IsExplained, KeepsOtherPaths, KeepsPaths, Runs, WritesWhole}
use Rattle.upipe_run.specs.Seen.{Seen, seen}
use Rattle.upipe_run.specs.Tells.{TellsFault, TellsNoMemory}
use Rattle.upipe_run.specs.declared.ending.Ending.TheVariants.{NoMemory}

-- what is told stands so to itself
Then-refl : {X : Type 0} (R : X → X → Type 0) (a : Option X) → ((x : X) → R x x) → Then R a a
Then-refl R None each = tt
Then-refl R (Some x) each = each x

nothing_counted : (count : ℕ) → CountsWhere false count count
nothing_counted count = record { later = omega arith; rose = λ failed. absurd (cc); stays = λ whole. refl }

-- there was no memory for them
pub does_no_memory : (job : Option Job) (depot : DepotState) (out old new : SinkState) (status : ℕ) → IsRead job (Err words.NoMemory) → TellsNoMemory old new status
    → Does job (seen depot out old) (seen depot out new) status
does_no_memory None depot out old new status read tells = absurd read
does_no_memory (Some (Run path)) depot out old new status read tells = record {
  whole_output = λ zero. absurd (let wrong : 0 ≡ 7 = sym zero ∙ tells.status_is in cc);
  others_stay = Then-refl (KeepsOtherPaths path) depot.held (λ before other none. refl);
  report_text = refl;
  explained = record {
    ending = NoMemory;
    causes = inl (inr (record {
      asked = Then-refl (λ before after. after ≡ before) depot.asked (λ before. refl);
      held = refl;
      counts = record { sources = nothing_counted depot.source_faults; sinks = nothing_counted depot.sink_faults };
    }));
    fault_text = tells;
  };
}

-- the words aren't taken
pub does_usage : (job : Option Job) (depot : DepotState) (out old new : SinkState) (status : ℕ) → IsRead job (Err words.Usage) → TellsFault old new Usage status
    → Does job (seen depot out old) (seen depot out new) status
does_usage None depot out old new status read tells = record { asks_nothing = refl; report_text = refl; fault_text = tells }
does_usage (Some (Run path)) depot out old new status read tells = absurd read

-- a path was run
pub does_run : (job : Option Job) (path : List ℕ) (old new : Seen) (status : ℕ) → IsRead job (Ok (Run path)) → WritesWhole path old new status
    → KeepsPaths path old new → new.out ≡ old.out → IsExplained path old new status → Does job old new status
does_run None path old new status read whole others text explained = absurd read
does_run (Some (Run other)) path old new status read whole others text explained =
    let same : path ≡ other = cc in
    subst (λ (p : List ℕ). Runs p old new status) same (record { whole_output = whole; others_stay = others; report_text = text; explained = explained })
