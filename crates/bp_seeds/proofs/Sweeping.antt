-- Parts of a sweep, and their counts.
use Rattle.std.proofs.Common.{◌≡◌, ◌∙◌, ℕ, ◌+◌, ◌-◌, ◌*◌, ◌≤◌, ◌<◌, ◌^◌, List, [], ◌∷◌, ◌++◌, length, length-append, Ok, Err, IfOk, Option, refl, sym, ap, subst, arith}
use Rattle.std.specs.Prelude.{min, slice_index_or, flat_map, Result}
use Rattle.js_program.specs.PlainProgram.{PlainProgram}
use Rattle.bp_log.specs.Options.{PlainOptions}
use Rattle.bp_seeds.specs.declared.sweep.Sweep.{Sweep}
use Rattle.bp_script.specs.Programs.{IsProgram}
use Rattle.bp_explain.specs.Seeds.{Counted, count_more, counted_text, seeds_text, seeds_of, under_seed}
use Rattle.bp_seeds.specs.Sweeps.{HasProgram, IsSweep}
use Rattle.bp_seeds.specs.inner.Merged.{merged, total, counts_from}
use Rattle.bp_seeds.specs.inner.Ends.{IsKind}
use Rattle.bp_seeds.specs.inner.Parts.{AreCounts, before, ArePart}
use Rattle.bp_seeds.proofs.Merging.{counts_append, counts_next, total_counts}

-- no more are counted than there are seeds
pub few_counts : (bytes : List ℕ) (o : PlainOptions) (many seed : ℕ) (counts : List Counted) → HasProgram bytes → AreCounts bytes o many seed counts → total counts ≤ many
few_counts bytes o many seed counts h a =
    let e = ap total (a h.0 h.1) in
    let few = total_counts (under_seed h.0 o) many seed in
    omega (arith, e, few)

-- one seed more
pub counts_on : (bytes : List ℕ) (o : PlainOptions) (step seed : ℕ) (old new : List Counted) (kind : List ℕ) → AreCounts bytes o step seed old → IsKind bytes o (seed + step) kind →
    new ≡ count_more (record { kind = kind; count = 1; first = seed + step }) old → AreCounts bytes o (step + 1) seed new
counts_on bytes o step seed old new kind a k e program is =
    e ∙ ap (count_more (record { kind = kind; count = 1; first = seed + step })) (a program is) ∙ sym (counts_next (under_seed program o) step seed kind (k program is))

min_grows : (n a b : ℕ) → a ≤ b → min n a + (min n b - min n a) ≡ min n b
min_grows n a b h = grind arith

parts_grow : (count size part : ℕ) → before count size part + (before count size (part + 1) - before count size part) ≡ before count size (part + 1)
parts_grow count size part =
    let more : part * size ≤ (part + 1) * size = omega arith in
    min_grows count (part * size) ((part + 1) * size) more

-- one part more
pub part_on : (bytes : List ℕ) (s : Sweep) (size part : ℕ) (old more new : List Counted) → AreCounts bytes s.options (before s.count size part) s.first old → ArePart bytes s size part more →
    new ≡ merged old more → AreCounts bytes s.options (before s.count size (part + 1)) s.first new
part_on bytes s size part old more new a b e program is =
    let n = before s.count size part in
    let m = before s.count size (part + 1) - n in
    let kind = under_seed program s.options in
    e ∙ ap (λ (xs : List Counted). merged xs more) (a program is) ∙ ap (merged (counts_from kind n s.first)) (b program is)
    ∙ sym (counts_append kind n m s.first) ∙ ap (λ (j : ℕ). counts_from kind j s.first) (parts_grow s.count size part)

min_few : (n a : ℕ) → min n a ≤ n
min_few n a = grind arith

pub item_there : {A : Type 0} (xs ys : List A) (x d : A) → slice_index_or (xs ++ x ∷ ys) (length xs) d ≡ x
item_there [] ys x d = refl
item_there (y ∷ xs) ys x d = item_there xs ys x d

-- what holds of each part holds of the one that comes next
pub counted_so_far : {A : Type 0} (P : ℕ → A → Type 0) (all yielded later : List A) (x : A) → yielded ++ x ∷ later ≡ all → ((i : ℕ) (d : A) → i < length all → P i (slice_index_or all i d)) →
    P (length yielded) x
counted_so_far P all yielded later x e each =
    let n = length yielded in
    let many = ap length e in
    let both = length-append yielded (x ∷ later) in
    let here : n < length all = omega (arith, many, both) in
    subst (P n) (ap (λ xs. slice_index_or xs n x) (sym e) ∙ item_there yielded later x x) (each n x here)

-- as many are counted as fit a number of 64 bits
pub few_parts : (bytes : List ℕ) (s : Sweep) (size part : ℕ) (old more : List Counted) → HasProgram bytes → IsSweep s → AreCounts bytes s.options (before s.count size part) s.first old →
    ArePart bytes s size part more → total old + total more < 2 ^ 64
few_parts bytes s size part old more h w a b =
    let x = few_counts bytes s.options (before s.count size part) s.first old h a in
    let y = few_counts bytes s.options (before s.count size (part + 1) - before s.count size part) (s.first + before s.count size part) more h b in
    let p = min_few s.count (part * size) in
    let q = min_few s.count ((part + 1) * size) in
    let few = w.few in
    omega (arith, x, y, p, q, few)

text_at : (kind : ℕ → Option (List ℕ)) (n seed : ℕ) → seeds_text kind n seed ≡ flat_map counted_text (counts_from kind n seed)
unfolding seeds_text
text_at kind n seed = refl

on_ok : {E : Type 0} {A : Type 0} {P Q : A → Type 0} (r : Result A E) → IfOk r P → ((x : A) → P x → Q x) → IfOk r Q
on_ok (Ok x) h f = f x h
on_ok (Err e) h f = tt

-- the lines of the counts are the text of the seeds
pub swept_text : {E T : Type 0} (text : T → List ℕ) (bytes : List ℕ) (s : Sweep) (program : PlainProgram) (counts : List Counted) (r : Result T E) → IsProgram bytes program →
    AreCounts bytes s.options s.count s.first counts → IfOk r (λ t. text t ≡ flat_map counted_text counts) →
    IfOk r (λ t. text t ≡ seeds_of program s.options s.count s.first)
swept_text text bytes s program counts r is a h =
    let told = ap (flat_map counted_text) (a program is) ∙ sym (text_at (under_seed program s.options) s.count s.first) in
    on_ok r h (λ t e. e ∙ told)
