-- Worked examples of words, computed.
use Rattle.std.proofs.Common.{◌≡◌, [], ◌∷◌, Some, None, refl}
use Rattle.std.specs.Prelude.{codes}
use Rattle.up_words.specs.Words.{job_of}
use Rattle.up_words.specs.declared.job.Job.TheVariants.{Run}

pub taken : job_of (codes "run" ∷ codes "g.toml" ∷ []) ≡ Some (Run (codes "g.toml"))
taken = refl

-- an empty word, and `-` alone, are paths
pub odd_paths : (job_of (codes "run" ∷ [] ∷ []) ≡ Some (Run [])) × (job_of (codes "run" ∷ codes "-" ∷ []) ≡ Some (Run (codes "-")))
odd_paths = (refl, refl)

pub a_flag : job_of (codes "run" ∷ codes "-x" ∷ []) ≡ None
a_flag = refl

pub another_word : job_of (codes "walk" ∷ codes "g.toml" ∷ []) ≡ None
another_word = refl

pub no_path : job_of (codes "run" ∷ []) ≡ None
no_path = refl

pub two_paths : job_of (codes "run" ∷ codes "a" ∷ codes "b" ∷ []) ≡ None
two_paths = refl
