-- A run for each of some seeds: how they end, by kind, with how many end so and the first seed of
-- each kind.
use Rattle.std.specs.Prelude.{ℕ, zero, suc, ◌+◌, Bool, true, false, nat_lt, List, [], ◌∷◌, ◌++◌, flat_map, Option, Some, None, option_map, option_and_then, decimal, codes, if◌then◌else◌}
use Rattle.std.specs.Str.{bytes_eq}
use Rattle.bp_log.specs.Options.{PlainOptions}
use Rattle.bp_log.specs.Texts.{place_text, verdict_text}
use Rattle.bp_log.specs.declared.verdict.Verdict.{Verdict}
use Rattle.bp_log.specs.declared.verdict.Verdict.TheVariants.{Quiet, Violated, Steps}
use Rattle.bp_run.specs.Bodies.{Code}
use Rattle.bp_run.specs.Configuration.{Configuration, not_ended}
use Rattle.bp_run.specs.Story.{story, alone}
use Rattle.js_program.specs.PlainProgram.{PlainProgram}
use Rattle.bp_code.specs.Code.{code_of}

-- A quiet run whose b-threads have all ended is told from one in which some still stand. Of the
-- others neither the text of a violation nor a number of transitions counts.
abbrev pub kind_text : Bool → Verdict → List ℕ
kind_text false (Quiet n) = codes "quiet, all ended"
kind_text true (Quiet n) = codes "quiet, some stand"
kind_text alive (Violated place t) = codes "violated " ++ place_text place
kind_text alive (Steps n) = codes "limit steps"
kind_text alive v = verdict_text v

abbrev pub kind_in : {Origin : Type 0} → Configuration Origin → Option (List ℕ)
kind_in c = option_map (kind_text (nat_lt 0 (not_ended c.stand))) c.stand.verdict

-- how the run without injectors ends
unfoldable pub kind_alone : {Origin Set : Type 0} → Code Origin Set → PlainOptions → Option (List ℕ)
kind_alone code o = option_and_then kind_in (story code o (alone code o))

-- this many seeds from this one on, each with how its run ends
abbrev pub ends_from : (ℕ → Option (List ℕ)) → ℕ → ℕ → List (ℕ × List ℕ)
ends_from kind zero seed = []
ends_from kind (suc n) seed =
    elim (kind seed) [
      | None ↦ ends_from kind n (seed + 1)
      | Some k ↦ (seed, k) ∷ ends_from kind n (seed + 1)
    ]

pub record Counted : Type 0 where
  pub kind : List ℕ
  pub count : ℕ
  pub first : ℕ

-- as many more of a kind: a kind that is known keeps its place and its first seed, so kinds stand in
-- the order in which they came first
abbrev pub count_more : Counted → List Counted → List Counted
count_more e [] = e ∷ []
count_more e (x ∷ xs) =
    if bytes_eq x.kind e.kind
    then record x { count = x.count + e.count } ∷ xs
    else x ∷ count_more e xs

-- one end more, of this seed
abbrev pub count_one : ℕ × List ℕ → List Counted → List Counted
count_one e xs = count_more (record { kind = e.1; count = 1; first = e.0 }) xs

abbrev pub count_all : List (ℕ × List ℕ) → List Counted → List Counted
count_all [] counted = counted
count_all (e ∷ es) counted = count_all es (count_one e counted)

abbrev pub counted_text : Counted → List ℕ
counted_text x =
    decimal x.count
    ++ (codes " " ++ (x.kind ++ (codes ", first seed " ++ (decimal x.first ++ codes "\n"))))

-- of the seeds from one on, this many
unfoldable pub seeds_text : (ℕ → Option (List ℕ)) → ℕ → ℕ → List ℕ
seeds_text kind n seed = flat_map counted_text (count_all (ends_from kind n seed) [])

abbrev pub under_seed : PlainProgram → PlainOptions → ℕ → Option (List ℕ)
under_seed program options seed =
    let o = record options { seed = seed } in
    kind_alone (code_of program o) o

-- what is said of a program under these options and seeds
abbrev pub seeds_of : PlainProgram → PlainOptions → ℕ → ℕ → List ℕ
seeds_of program options n seed = seeds_text (under_seed program options) n seed
