-- The counts of ends add up to the number of seeds.
use Rattle.std.proofs.Common.{◌≡◌, ◌∙◌, ℕ, zero, suc, ◌+◌, true, List, [], ◌∷◌, length, Option, Some, refl, ap, arith}
use Rattle.std.specs.Prelude.{codes, nat_lt, option_map, option_and_then, if◌then◌else◌}
use Rattle.std.specs.List.{sum_by}
use Rattle.std.proofs.lemmas.List.Sums.{sum_by-cons}
use Rattle.js_program.specs.PlainProgram.{PlainProgram}
use Rattle.bp_log.specs.Options.{PlainOptions}
use Rattle.bp_log.specs.Records.{is_complete, verdict_of}
use Rattle.bp_log.specs.declared.record.Record.{Record}
use Rattle.bp_log.specs.declared.record.Record.TheVariants.{In, Bad, Eof, Sel, End}
use Rattle.bp_log.specs.declared.verdict.Verdict.{Verdict}
use Rattle.bp_run.specs.Bodies.{Code}
use Rattle.bp_run.specs.Configuration.{Configuration, not_ended}
use Rattle.bp_run.specs.Story.{alone}
use Rattle.bp_run.proofs.Stories.{alone_is}
use Rattle.bp_run.proofs.Injectors.{verdict_told}
use Rattle.bp_code.specs.Code.{code_of}
use Rattle.bp_explain.specs.Seeds.{Counted, count_all, ends_from, kind_text, kind_in, kind_alone, under_seed}
use Rattle.bp_seeds.specs.Laws.{CountsAddUp}
use Rattle.bp_seeds.specs.inner.Merged.{total}
use Rattle.bp_seeds.proofs.Merging.{total_all, ends_on}

-- the seeds below 9 end in one way, and the others in another
abbrev below_nine : ℕ → Option (List ℕ)
below_nine n = if nat_lt n 9 then Some (codes "quiet, all ended") else Some (codes "limit steps")

pub five_seeds : sum_by (λ x. x.count) (count_all (ends_from below_nine 5 7) []) ≡ 5
five_seeds = refl

-- ---- each run ends

-- a complete list of records ends in a verdict
ends_so : (rs : List Record) → is_complete rs ≡ true → (v : Verdict) × (verdict_of rs ≡ Some v)
ends_so [] h = absurd (cc)
ends_so (End v ∷ []) h = (v, refl)
ends_so (End v ∷ r ∷ rs) h = ends_so (r ∷ rs) h
ends_so (In j e ∷ rs) h = ends_so rs h
ends_so (Bad j n ∷ rs) h = ends_so rs h
ends_so (Eof j ∷ rs) h = ends_so rs h
ends_so (Sel e ∷ rs) h = ends_so rs h

some_kind : {O : Type 0} (c : Configuration O) (v : Verdict) → c.stand.verdict ≡ Some v → (k : List ℕ) × (kind_in c ≡ Some k)
some_kind c v e =
    let b = nat_lt 0 (not_ended c.stand) in
    (kind_text b v, ap (option_map (kind_text b)) e)

kind_is : {O S : Type 0} (l : Code O S) (o : PlainOptions) → o.injectors ≡ 0 → (k : List ℕ) × (kind_alone l o ≡ Some k)
unfolding kind_alone
kind_is l o i =
    let a = alone_is l o i in
    let v = ends_so (alone l o) a.2 in
    let k = some_kind a.0 v.0 (verdict_told l o (alone l o) v.0 a.0 a.1 v.1) in
    (k.0, ap (option_and_then kind_in) a.1 ∙ k.1)

under_is : (p : PlainProgram) (o : PlainOptions) (seed : ℕ) → o.injectors ≡ 0 → (k : List ℕ) × (under_seed p o seed ≡ Some k)
under_is p o seed i = let s : PlainOptions = record o { seed = seed } in kind_is (code_of p s) s i

-- ---- each is counted

all_long : (kind : ℕ → Option (List ℕ)) (n seed : ℕ) → ((s : ℕ) → (k : List ℕ) × (kind s ≡ Some k)) → length (ends_from kind n seed) ≡ n
all_long kind zero seed h = refl
all_long kind (suc n) seed h =
    let k = h seed in
    let all = ap length (ends_on kind n seed (Some k.0) k.1) in
    let rest = all_long kind n (seed + 1) h in
    omega (arith, all, rest)

total_is : (xs : List Counted) → sum_by (λ x. x.count) xs ≡ total xs
total_is [] = refl
total_is (x ∷ xs) = sum_by-cons (λ (y : Counted). y.count) x xs ∙ ap (λ (n : ℕ). x.count + n) (total_is xs)

pub counts_add_up : CountsAddUp
counts_add_up p o n seed i =
    let kind = under_seed p o in
    let all = total_all (ends_from kind n seed) [] in
    let long = all_long kind n seed (λ s. under_is p o s i) in
    total_is (count_all (ends_from kind n seed) []) ∙ omega (arith, all, long)
