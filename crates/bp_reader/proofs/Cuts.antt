-- A header that ends too early within one of its parts.
use Rattle.std.proofs.Common.{◌≡◌, ℕ, List, Option, Some, None, Result, Ok}
use Rattle.std.specs.Prelude.{IfSome, IsSomeAnd, codes}
use Rattle.bp_log.specs.Options.{PlainOptions}
use Rattle.bp_log.specs.declared.limits.TheConstants.{MOST_BYTES, MOST_BUDGET, MOST_STEPS, MOST_INJECTORS}
use Rattle.bp_log.specs.declared.options.Strategy.{Strategy}
use Rattle.bp_log.specs.declared.version.Version.{Version}
use Rattle.bp_reading.specs.Words.{most_64}
use Rattle.bp_reading.specs.Heads.{Refusal, ◌>>=◌, version_at, strategy_line_at, field_at, program_at, choice_at, limits_at, options_at, wait_line_at, settings_at, body_at, header_at, CutsOff}
use Rattle.bp_reading.proofs.Fronts.{Reads, ReadsFronts, version_fronts, strategy_fronts, field_fronts, choice_fronts, limits_fronts, options_fronts, settings_fronts, cut_first, cut_later}
use Rattle.bp_reader.specs.Fed.{Between}

-- what was read of the bytes between, where the source tells them
abbrev pub GetsBetween : {A : Type 0} → Reads A → A → Option (List ℕ) → Option (List ℕ) → Type 0
GetsBetween p x before after = IfSome before (λ bytes. IsSomeAnd after (λ rest. p bytes ≡ Ok (x, rest)))

within : {A B : Type 0} (before after : Option (List ℕ)) (p : Reads A) (f : A × List ℕ → Result (B × List ℕ) Refusal) → Between before after (CutsOff p) → Between before after (CutsOff (λ b. p b >>= f))
within None after p f h = tt
within (Some bytes) None p f h = absurd h
within (Some bytes) (Some rest) p f h = cut_first p f bytes rest h

behind : {A B : Type 0} (before mid after : Option (List ℕ)) (p : Reads A) (f : A × List ℕ → Result (B × List ℕ) Refusal) (x : A) → ReadsFronts p → GetsBetween p x before mid → Between mid after (CutsOff (λ b. f (x, b))) →
    Between before after (CutsOff (λ b. p b >>= f))
behind None mid after p f x l h k = tt
behind (Some bytes) None after p f x l h k = absurd h
behind (Some bytes) (Some rest) None p f x l h k = absurd k
behind (Some bytes) (Some rest) (Some more) p f x l h k = cut_later p f bytes rest more x l h k

pub in_seed : (a b c : Option (List ℕ)) (s : Strategy) → GetsBetween strategy_line_at s a b → Between b c (CutsOff (field_at (codes "seed ") 0 most_64)) → Between a c (CutsOff choice_at)
unfolding choice_at
in_seed a b c s h k = behind a b c strategy_line_at _ s strategy_fronts h (within b c (field_at (codes "seed ") 0 most_64) _ k)

pub in_steps : (a b c : Option (List ℕ)) (n : ℕ) → GetsBetween (field_at (codes "budget ") 1 MOST_BUDGET) n a b → Between b c (CutsOff (field_at (codes "steps ") 1 MOST_STEPS)) → Between a c (CutsOff limits_at)
unfolding limits_at
in_steps a b c n h k =
    behind a b c (field_at (codes "budget ") 1 MOST_BUDGET) _ n (field_fronts (codes "budget ") 1 MOST_BUDGET) h (within b c (field_at (codes "steps ") 1 MOST_STEPS) _ k)

pub in_limits : (a b c : Option (List ℕ)) (x : Strategy × ℕ) → GetsBetween choice_at x a b → Between b c (CutsOff limits_at) → Between a c (CutsOff options_at)
unfolding options_at
in_limits a b c x h k = behind a b c choice_at _ x choice_fronts h (within b c limits_at _ k)

pub in_injectors : (a b c d : Option (List ℕ)) (x : Strategy × ℕ) (y : ℕ × ℕ) → GetsBetween choice_at x a b → GetsBetween limits_at y b c → Between c d (CutsOff (field_at (codes "injectors ") 0 MOST_INJECTORS)) → Between a d (CutsOff options_at)
unfolding options_at
in_injectors a b c d x y h i k =
    behind a b d choice_at _ x choice_fronts h (behind b c d limits_at _ y limits_fronts i (within c d (field_at (codes "injectors ") 0 MOST_INJECTORS) _ k))

pub in_wait : (a b c : Option (List ℕ)) (v : Version) (o : PlainOptions) → GetsBetween options_at o a b → Between b c (CutsOff (wait_line_at v)) → Between a c (CutsOff (settings_at v))
unfolding settings_at
in_wait a b c v o h k = behind a b c options_at _ o options_fronts h (within b c (wait_line_at v) _ k)

pub in_size : (a b c : Option (List ℕ)) (v : Version) (o : PlainOptions) → GetsBetween (settings_at v) o a b → Between b c (CutsOff (field_at (codes "program ") 0 MOST_BYTES)) → Between a c (CutsOff (body_at v))
unfolding body_at
in_size a b c v o h k = behind a b c (settings_at v) _ o (settings_fronts v) h (within b c (field_at (codes "program ") 0 MOST_BYTES) _ k)

pub in_program : (a b c d : Option (List ℕ)) (v : Version) (o : PlainOptions) (n : ℕ) → GetsBetween (settings_at v) o a b → GetsBetween (field_at (codes "program ") 0 MOST_BYTES) n b c → Between c d (CutsOff (program_at n)) → Between a d (CutsOff (body_at v))
unfolding body_at
in_program a b c d v o n h i k =
    behind a b d (settings_at v) _ o (settings_fronts v) h (behind b c d (field_at (codes "program ") 0 MOST_BYTES) _ n (field_fronts (codes "program ") 0 MOST_BYTES) i (within c d (program_at n) _ k))

pub in_body : (a b c : Option (List ℕ)) (v : Version) → GetsBetween version_at v a b → Between b c (CutsOff (body_at v)) → Between a c (CutsOff header_at)
unfolding header_at
in_body a b c v h k = behind a b c version_at _ v version_fronts h (within b c (body_at v) _ k)
