-- The words of a command line, without the program's name, and the job that they ask for.
use Rattle.std.specs.Prelude.{◌≡◌, ℕ, ◌==◌, Bool, true, false, ◌&&◌, List, [], ◌∷◌, codes, Option, Some, None, Result, Ok, Err, if◌then◌else◌}
use Rattle.std.specs.Str.{bytes_eq}
use Rattle.up_words.specs.declared.job.Job.{Job}
use Rattle.up_words.specs.declared.job.Job.TheVariants.{Run}
use Rattle.up_words.specs.declared.read.WordsRefused.{WordsRefused}
use Rattle.up_words.specs.declared.read.WordsRefused.TheVariants.{Usage, NoMemory}

-- a word that begins with `-` is a flag, but for `-` alone
abbrev pub is_positional : List ℕ → Bool
is_positional [] = true
is_positional (byte ∷ []) = true
is_positional (byte ∷ bytes) = if byte == 45 then false else true

-- `run` and one path are taken, and nothing else
abbrev pub job_of : List (List ℕ) → Option Job
job_of (first ∷ path ∷ []) =
    if bytes_eq first (codes "run") && is_positional path then Some (Run path) else None
job_of words = None

-- the job was read, or the words aren't taken; memory runs out only for words that are taken
abbrev pub IsRead : Option Job → Result Job WordsRefused → Type 0
IsRead (Some job) (Ok read) = read ≡ job
IsRead (Some job) (Err Usage) = ⊥
IsRead (Some job) (Err NoMemory) = Unit {0}
IsRead None (Ok read) = ⊥
IsRead None (Err Usage) = Unit {0}
IsRead None (Err NoMemory) = ⊥
