-- The first wrong line of a trace.
use Rattle.std.specs.Prelude.{◌≡◌, ℕ, zero, suc, ◌<◌, ◌≤◌, ◌==◌, List, [], ◌∷◌, Option, Some, None, option_map, if◌then◌else◌}
use Rattle.bp_log.specs.Options.{PlainOptions}
use Rattle.bp_run.specs.Bodies.{Code}
use Rattle.bp_free.specs.Traces.{BeginsTrace}

-- the first so many lines, each with its LF, where so many are there
abbrev pub first_lines : ℕ → List ℕ → Option (List ℕ)
first_lines zero bytes = Some []
first_lines (suc n) [] = None
first_lines (suc n) (b ∷ bytes) =
    option_map (λ front. b ∷ front) (first_lines (if b == 10 then n else suc n) bytes)

-- so many lines are there, and some free run begins with them
pub record IsRight {Origin Set : Type 0} (l : Code Origin Set) (o : PlainOptions) (bytes : List ℕ)
    (n : ℕ) : Type 0 where
  pub front : List ℕ
  pub there : first_lines n bytes ≡ Some front
  pub begins : BeginsTrace l o front

-- this line, counted from 1, is the first that is missing or that no such free run has there
pub record IsFirstWrong {Origin Set : Type 0} (l : Code Origin Set) (o : PlainOptions)
    (bytes : List ℕ) (n : ℕ) : Type 0 where
  pub counted : 1 ≤ n
  pub wrong : ¬ IsRight l o bytes n
  pub earlier : (k : ℕ) → k < n → IsRight l o bytes k
