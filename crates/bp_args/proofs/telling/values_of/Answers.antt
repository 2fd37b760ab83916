use Rattle.std.proofs.Common.{ap, refl, ◌≡◌, ◌∙◌, ℕ, List, Option, option_map, unwrap_or, []}
use Rattle.clap.specs.Words.{found_of, first_value, first_of, rows_of, all_of, raw_values, matched_of, matches_of}
use Rattle.clap.specs.declared.parser.matches.Found.{Found}
use Rattle.clap.proofs.WalkLemmas.{first_value-rows, raw_values-rows}
use Rattle.bp_args.specs.declared.key.Key.{Key}
use Rattle.bp_args.specs.declared.key.Key.TheVariants as key
use Rattle.bp_args.specs.declared.values.Values.{Values}
use Rattle.bp_args.specs.Keys.{key_name}
use Rattle.bp_args.specs.inner.NormalWords.{value_in, normal_words}
use Rattle.bp_args.specs.inner.Reading.{names_id, program}
use Rattle.bp_args.proofs.Walks.{value_found, names_found}
use Rattle.bp_args.proofs.telling.values_of.Goals as goal

value_is : (s : Values) (f : Found) (k : Key) (o : Option (List ℕ)) → rows_of f ≡ matches_of program (normal_words s) → o ≡ first_value f (key_name k) → o ≡ value_in s k
value_is s f k o e h = h ∙ (first_value-rows f (key_name k) ∙ (ap (first_of (key_name k)) e ∙ value_found s k))

words_are : (s : Values) (f : Found) (id : List ℕ) (xs : List (List ℕ)) → id ≡ names_id → rows_of f ≡ matches_of program (normal_words s) → xs ≡ unwrap_or (option_map raw_values (matched_of f id)) [] → xs ≡ s.words
words_are s f id xs i e h =
    h ∙ (ap (λ o. unwrap_or o []) (raw_values-rows f id)
    ∙ (ap (λ rows. unwrap_or (all_of id rows) []) e ∙ (ap (λ n. unwrap_or (all_of n (matches_of program (normal_words s))) []) i ∙ names_found s)))

-- values that are equal one by one
same_values : (v w : Values) → w.log ≡ v.log → w.strategy ≡ v.strategy → w.seed ≡ v.seed → w.budget ≡ v.budget → w.steps ≡ v.steps → w.workers ≡ v.workers → w.slice ≡ v.slice → w.wait ≡ v.wait → w.words ≡ v.words → w ≡ v
same_values v w a b c d e f g i h =
    ap (λ (x : Option (List ℕ)). record w { log = x }) a
    ∙ (ap (λ (x : Option (List ℕ)). record w { log = v.log; strategy = x }) b
    ∙ (ap (λ (x : Option (List ℕ)). record w { log = v.log; strategy = v.strategy; seed = x }) c
    ∙ (ap (λ (x : Option (List ℕ)). record w { log = v.log; strategy = v.strategy; seed = v.seed; budget = x }) d
    ∙ (ap (λ (x : Option (List ℕ)). record v { steps = x; workers = w.workers; slice = w.slice; wait = w.wait; words = w.words }) e
    ∙ (ap (λ (x : Option (List ℕ)). record v { workers = x; slice = w.slice; wait = w.wait; words = w.words }) f
    ∙ (ap (λ (x : Option (List ℕ)). record v { slice = x; wait = w.wait; words = w.words }) g
    ∙ (ap (λ (x : Option (List ℕ)). record v { wait = x; words = w.words }) i ∙ ap (λ (x : List (List ℕ)). record v { words = x }) h)))))))

pub returns : goal.returns
returns c = λ s e.
    let f = found_of c.in-Ok.matches in
    let rows = c.in-Ok.ensures.ok s e in
    same_values s _ (value_is s f key.Log _ rows c.in_ok-value_of.ensures)
    (value_is s f key.Strategy _ rows c.in_ok-value_of-2.ensures)
    (value_is s f key.Seed _ rows c.in_ok-value_of-3.ensures)
    (value_is s f key.Budget _ rows c.in_ok-value_of-4.ensures)
    (value_is s f key.Steps _ rows c.in_ok-value_of-5.ensures)
    (value_is s f key.Workers _ rows c.in_ok-value_of-6.ensures)
    (value_is s f key.Slice _ rows c.in_ok-value_of-7.ensures)
    (value_is s f key.Wait _ rows c.in_ok-value_of-8.ensures)
    (words_are s f _ _ refl rows c.in_ok-words_of.ensures)
