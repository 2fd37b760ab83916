-- Options, workers and slice in their ranges.
use Rattle.std.proofs.Common.{◌≡◌, ◌∙◌, ◌≤◌, Bool, true, false, Option, option_map, Some, None, refl, ap}
use Rattle.std.specs.Prelude.{SomeIff, if◌then◌else◌}
use Rattle.std.proofs.lemmas.Bool.{and_parts, le-leb, leb-true, false_from_ne_true}
use Rattle.bp_log.specs.Options.{PlainOptions, AreOptions}
use Rattle.bp_log.specs.Parallelism.{PlainParallelism, IsParallelism}
use Rattle.bp_log.specs.declared.limits.TheConstants.{MOST_INJECTORS}
use Rattle.bp_args.specs.Command.{in_range, parallelism_in_range}

are_in_range : (o : PlainOptions) → AreOptions o → in_range o ≡ true
are_in_range o h = rw (le-leb _ _ h.some_budget, le-leb _ _ h.budget, le-leb _ _ h.some_steps, le-leb _ _ h.steps) refl

are_options : (o : PlainOptions) → o.injectors ≤ MOST_INJECTORS → in_range o ≡ true → AreOptions o
are_options o e h =
    let a = and_parts _ _ h in
    let b = and_parts _ _ a.1 in
    let c = and_parts _ _ b.1 in
    record {
      some_budget = leb-true _ _ a.0;
      budget = leb-true _ _ b.0;
      some_steps = leb-true _ _ c.0;
      steps = leb-true _ _ c.1;
      injectors = e;
    }

told : (o : PlainOptions) (r : Option PlainOptions) → o.injectors ≤ MOST_INJECTORS → SomeIff r (AreOptions o) o → r ≡ (if in_range o then Some o else None)
told o (Some p) e h = rw (are_in_range o h.0) (ap (λ (q : PlainOptions). Some q) h.1)
told o None e h = rw (false_from_ne_true (in_range o) (λ t. h (are_options o e t))) refl

-- the same, whether the run waits or not
waiting : (o : PlainOptions) (b : Bool) → option_map (λ (q : PlainOptions). record q { wait = o.wait }) (if b then Some (record o { wait = true }) else None) ≡ (if b then Some o else None)
waiting o true = refl
waiting o false = refl

pub told_waiting : (o : PlainOptions) (r : Option PlainOptions) → o.injectors ≤ MOST_INJECTORS → SomeIff r (AreOptions (record o { wait = true })) (record o { wait = true }) →
    option_map (λ (q : PlainOptions). record q { wait = o.wait }) r ≡ (if in_range o then Some o else None)
told_waiting o r e h = ap (option_map (λ (q : PlainOptions). record q { wait = o.wait })) (told (record o { wait = true }) r e h) ∙ waiting o (in_range o)

parallelism_is_in_range : (b : PlainParallelism) → IsParallelism b → parallelism_in_range b ≡ true
parallelism_is_in_range b h = rw (le-leb _ _ h.some_workers, le-leb _ _ h.workers, le-leb _ _ h.some_slice, le-leb _ _ h.slice) refl

is_parallelism : (b : PlainParallelism) → parallelism_in_range b ≡ true → IsParallelism b
is_parallelism b h =
    let s = and_parts _ _ h in
    let t = and_parts _ _ s.1 in
    let u = and_parts _ _ t.1 in
    record {
      some_workers = leb-true _ _ s.0;
      workers = leb-true _ _ t.0;
      some_slice = leb-true _ _ u.0;
      slice = leb-true _ _ u.1;
    }

pub told_parallelism : (b : PlainParallelism) (r : Option PlainParallelism) → SomeIff r (IsParallelism b) b → r ≡ (if parallelism_in_range b then Some b else None)
told_parallelism b (Some p) h = rw (parallelism_is_in_range b h.0) (ap (λ (q : PlainParallelism). Some q) h.1)
told_parallelism b None h = rw (false_from_ne_true (parallelism_in_range b) (λ t. h (is_parallelism b t))) refl
