-- What `clap` makes of a list in the normal form.
use Rattle.std.proofs.Common.{◌≡◌, ℕ, List, [], ◌∷◌, ◌++◌, refl, true, false, codes, Some, None, Option, ap, ap₂, sym, ◌∙◌, append_assoc, append-nil, fold, length, arith, nat_le, ◌&&◌, ◌||◌, not, Bool, is_some, unwrap_or, option_map}
use Rattle.std.specs.List.{list_all}
use Rattle.std.specs.Prelude.{find, ◌≤◌}
use Rattle.std.proofs.lemmas.List.{length-append}
use Rattle.std.specs.Option.{option_or}
use Rattle.std.specs.Str.{bytes_eq}
use Rattle.std.proofs.lemmas.Bool.{and_parts, not-true}
use Rattle.clap.specs.Words.{takes, matches_of, first_of, is_simple}
use Rattle.clap.specs.Walk.{Row, Walk, walked, idle, positional, used, finished, all_of, has_row, reading_by, with_default, more_values}
use Rattle.clap.specs.Simple.{built, Shape, filled, entered, with_index}
use Rattle.clap.specs.Takes.{walk_passes, entered_passes, settle_passes, default_passes, is_valid, value_passes, use_passes, set_passes}
use Rattle.std.proofs.Math.Dec.{leb-zero}
use Rattle.std.specs.Cmp.Derive.{both_true}
use Rattle.clap.specs.declared.parser.matches.ValueSource.TheVariants.{CommandLine}
use Rattle.clap.proofs.OnLiterals.{clap_on_literals}
use Rattle.bp_args.specs.declared.key.Key.{Key}
use Rattle.bp_args.specs.declared.key.Key.TheVariants.{Log, Strategy, Seed, Budget, Steps, Workers, Slice, Wait}
use Rattle.bp_args.proofs.Matches.{opt, used_fresh, row_if, rows_said, apart, misses, distinct, misses_more, found_past, value_at, first_at, is_foreign, foreign_missing, no_default, no_defaults, at_row_none}
use Rattle.bp_args.specs.declared.values.Values.{Values}
use Rattle.bp_args.specs.Keys.{key_name, keys}
use Rattle.bp_args.specs.inner.NormalWords.{value_in, option_word, option_words, all_options, normal_words}
use Rattle.bp_args.specs.inner.Reading.{names_id, names_rule, program}

-- the command as a parse builds it
abbrev top : Shape
top = (built program).top

-- between two options, with these rows
abbrev between : List Row → Walk
between rows = record {
  held = record { rows = rows; pending = None; skip = 0 };
  waiting = idle;
  position = 1;
  is_trailing = false;
  stopped = None;
}

pub option_step : (rows : List Row) (v : List ℕ) (k : Key) → walked top.rules [] (between rows) (option_word k v) ≡ between (used (opt k) (v ∷ []) rows)
unfolding clap_on_literals program
option_step rows v Log = refl
option_step rows v Strategy = refl
option_step rows v Seed = refl
option_step rows v Budget = refl
option_step rows v Steps = refl
option_step rows v Workers = refl
option_step rows v Slice = refl
option_step rows v Wait = refl

set_ok : (rows : List Row) (v : List ℕ) (k : Key) → has_row (key_name k) rows ≡ false → set_passes false (opt k) (v ∷ []) rows ≡ true
unfolding clap_on_literals program
set_ok rows v k h = ap (λ b. (not b || false) && true) h

pub option_passes : (rows : List Row) (v : List ℕ) (rest : List (List ℕ)) (k : Key) → has_row (key_name k) rows ≡ false
    → walk_passes top [] (between rows) (option_word k v ∷ rest) ≡ walk_passes top [] (between (used (opt k) (v ∷ []) rows)) rest
unfolding clap_on_literals program
option_passes rows v rest Log h = ap (λ b. (b && true) && walk_passes top [] (between (used (opt Log) (v ∷ []) rows)) rest) (set_ok rows v Log h)
option_passes rows v rest Strategy h = ap (λ b. (b && true) && walk_passes top [] (between (used (opt Strategy) (v ∷ []) rows)) rest) (set_ok rows v Strategy h)
option_passes rows v rest Seed h = ap (λ b. (b && true) && walk_passes top [] (between (used (opt Seed) (v ∷ []) rows)) rest) (set_ok rows v Seed h)
option_passes rows v rest Budget h = ap (λ b. (b && true) && walk_passes top [] (between (used (opt Budget) (v ∷ []) rows)) rest) (set_ok rows v Budget h)
option_passes rows v rest Steps h = ap (λ b. (b && true) && walk_passes top [] (between (used (opt Steps) (v ∷ []) rows)) rest) (set_ok rows v Steps h)
option_passes rows v rest Workers h = ap (λ b. (b && true) && walk_passes top [] (between (used (opt Workers) (v ∷ []) rows)) rest) (set_ok rows v Workers h)
option_passes rows v rest Slice h = ap (λ b. (b && true) && walk_passes top [] (between (used (opt Slice) (v ∷ []) rows)) rest) (set_ok rows v Slice h)
option_passes rows v rest Wait h = ap (λ b. (b && true) && walk_passes top [] (between (used (opt Wait) (v ∷ []) rows)) rest) (set_ok rows v Wait h)

pub simple : is_simple program ≡ true
unfolding clap_on_literals program
simple = refl

-- ---- all options

abbrev step : Walk → List ℕ → Walk
step = walked top.rules []

walk_one : (k : Key) (o : Option (List ℕ)) (rows : List Row) (rest : List (List ℕ)) → has_row (key_name k) rows ≡ false
    → fold step (between rows) (option_words k o ++ rest) ≡ fold step (between (rows ++ row_if k o)) rest
walk_one k None rows rest h = ap (λ r. fold step (between r) rest) (sym (append-nil rows))
walk_one k (Some v) rows rest h = ap (λ w. fold step w rest) (option_step rows v k ∙ ap between (used_fresh rows v k h))

pass_one : (k : Key) (o : Option (List ℕ)) (rows : List Row) (rest : List (List ℕ)) → has_row (key_name k) rows ≡ false
    → walk_passes top [] (between rows) (option_words k o ++ rest) ≡ walk_passes top [] (between (rows ++ row_if k o)) rest
pass_one k None rows rest h = ap (λ r. walk_passes top [] (between r) rest) (sym (append-nil rows))
pass_one k (Some v) rows rest h = option_passes rows v rest k h ∙ ap (λ r. walk_passes top [] (between r) rest) (used_fresh rows v k h)

misses_if : (ks : List Key) (rows : List Row) (k : Key) (o : Option (List ℕ)) → misses ks rows ≡ true → apart k ks ≡ true → misses ks (rows ++ row_if k o) ≡ true
misses_if ks rows k None m a = ap (misses ks) (append-nil rows) ∙ m
misses_if ks rows k (Some v) m a = misses_more ks rows k v m a

pub walk_all : (ks : List Key) (s : Values) (rows : List Row) (rest : List (List ℕ)) → misses ks rows ≡ true → distinct ks ≡ true
    → fold step (between rows) (all_options s ks ++ rest) ≡ fold step (between (rows ++ rows_said s ks)) rest
walk_all [] s rows rest m d = ap (λ r. fold step (between r) rest) (sym (append-nil rows))
walk_all (k ∷ ks) s rows rest m d =
    let m' = and_parts (not (has_row (key_name k) rows)) (misses ks rows) m in
    let d' = and_parts (apart k ks) (distinct ks) d in
    let o = value_in s k in
    ap (fold step (between rows)) (append_assoc (option_words k o) (all_options s ks) rest)
    ∙ (walk_one k o rows (all_options s ks ++ rest) (not-true _ m'.0)
    ∙ (walk_all ks s (rows ++ row_if k o) rest (misses_if ks rows k o m'.1 d'.0) d'.1
    ∙ ap (λ r. fold step (between r) rest) (append_assoc rows (row_if k o) (rows_said s ks))))

pub pass_all : (ks : List Key) (s : Values) (rows : List Row) (rest : List (List ℕ)) → misses ks rows ≡ true → distinct ks ≡ true
    → walk_passes top [] (between rows) (all_options s ks ++ rest) ≡ walk_passes top [] (between (rows ++ rows_said s ks)) rest
pass_all [] s rows rest m d = ap (λ r. walk_passes top [] (between r) rest) (sym (append-nil rows))
pass_all (k ∷ ks) s rows rest m d =
    let m' = and_parts (not (has_row (key_name k) rows)) (misses ks rows) m in
    let d' = and_parts (apart k ks) (distinct ks) d in
    let o = value_in s k in
    ap (walk_passes top [] (between rows)) (append_assoc (option_words k o) (all_options s ks) rest)
    ∙ (pass_one k o rows (all_options s ks ++ rest) (not-true _ m'.0)
    ∙ (pass_all ks s (rows ++ row_if k o) rest (misses_if ks rows k o m'.1 d'.0) d'.1
    ∙ ap (λ r. walk_passes top [] (between r) rest) (append_assoc rows (row_if k o) (rows_said s ks))))

-- ---- the names

abbrev trailing : List Row → Walk
trailing rows = record (between rows) { is_trailing = true }

-- after `--`, with these names
abbrev at : List Row → List ℕ → List (List ℕ) → Walk
at rows p taken = record {
  held = record { rows = rows; pending = Some (names_id, p ∷ taken); skip = 0 };
  waiting = positional;
  position = 1;
  is_trailing = true;
  stopped = None;
}

dashes : (rows : List Row) → walked top.rules [] (between rows) (codes "--") ≡ trailing rows
unfolding clap_on_literals program
dashes rows = refl

dashes_pass : (rows : List Row) (rest : List (List ℕ)) → walk_passes top [] (between rows) (codes "--" ∷ rest) ≡ walk_passes top [] (trailing rows) rest
unfolding clap_on_literals program
dashes_pass rows rest = refl

first_name : (rows : List Row) (p : List ℕ) → walked top.rules [] (trailing rows) p ≡ at rows p []
unfolding clap_on_literals program
first_name rows p = refl

one_more : (rows : List Row) (p : List ℕ) (taken : List (List ℕ)) (q : List ℕ) → walked top.rules [] (at rows p taken) q ≡ at rows p (taken ++ q ∷ [])
unfolding clap_on_literals program
one_more rows p taken q = refl

all_more : (qs : List (List ℕ)) (rows : List Row) (p : List ℕ) (taken : List (List ℕ)) → fold step (at rows p taken) qs ≡ at rows p (taken ++ qs)
all_more [] rows p taken = ap (at rows p) (sym (append-nil taken))
all_more (q ∷ qs) rows p taken =
    ap (λ w. fold step w qs) (one_more rows p taken q) ∙ (all_more qs rows p (taken ++ q ∷ []) ∙ ap (at rows p) (append_assoc taken (q ∷ []) qs))

first_passes : (rows : List Row) (p : List ℕ) (rest : List (List ℕ)) → walk_passes top [] (trailing rows) (p ∷ rest) ≡ walk_passes top [] (at rows p []) rest
unfolding clap_on_literals program
first_passes rows p rest = refl

each_passes : (qs : List (List ℕ)) (rows : List Row) (p : List ℕ) (taken : List (List ℕ)) → walk_passes top [] (at rows p taken) qs ≡ true
unfolding clap_on_literals program
each_passes [] rows p taken = refl
each_passes (q ∷ qs) rows p taken = each_passes qs rows p (taken ++ q ∷ [])

-- ---- the end of a walk

abbrev pub names_row : List (List ℕ) → Row
names_row vs = record { id = names_id; values = vs; count = None; source = Some CommandLine; reading = reading_by (filled names_rule) }

abbrev pub names_if : List (List ℕ) → List Row
names_if [] = []
names_if (p ∷ qs) = names_row (p ∷ qs) ∷ []

-- after all words
abbrev behind : List Row → List (List ℕ) → Walk
behind rows [] = trailing rows
behind rows (p ∷ qs) = at rows p qs

walk_names : (rows : List Row) (qs : List (List ℕ)) → fold step (between rows) (codes "--" ∷ qs) ≡ behind rows qs
walk_names rows [] = dashes rows
walk_names rows (p ∷ qs) =
    ap (λ w. fold step w (p ∷ qs)) (dashes rows) ∙ (ap (λ w. fold step w qs) (first_name rows p) ∙ all_more qs rows p [])

passes_end : (w : Walk) → walk_passes top [] w [] ≡ true
unfolding clap_on_literals
passes_end w = refl

pass_names : (rows : List Row) (qs : List (List ℕ)) → walk_passes top [] (between rows) (codes "--" ∷ qs) ≡ true
pass_names rows [] = dashes_pass rows [] ∙ passes_end (trailing rows)
pass_names rows (p ∷ qs) = dashes_pass rows (p ∷ qs) ∙ (first_passes rows p qs ∙ each_passes qs rows p [])

used_names : (rows : List Row) (vs : List (List ℕ)) → has_row (names_id) rows ≡ false → used (with_index 1 (filled names_rule)) vs rows ≡ rows ++ names_row vs ∷ []
used_names rows [] h = at_row_none (names_id) (more_values CommandLine []) (names_row [] ∷ []) rows h
used_names rows (v ∷ vs) h = at_row_none (names_id) (more_values CommandLine (v ∷ vs)) (names_row (v ∷ vs) ∷ []) rows h

abbrev settled_by : List Row → List (List ℕ) → List Row
settled_by rows [] = rows
settled_by rows (p ∷ qs) = used (with_index 1 (filled names_rule)) (p ∷ qs) rows

settle : (rows : List Row) (qs : List (List ℕ)) → has_row (names_id) rows ≡ false → settled_by rows qs ≡ rows ++ names_if qs
settle rows [] h = sym (append-nil rows)
settle rows (p ∷ qs) h = used_names rows (p ∷ qs) h

finish : (rows : List Row) (qs : List (List ℕ)) → finished top.rules (behind rows qs).held ≡ fold with_default (settled_by rows qs) top.rules
unfolding clap_on_literals program
finish rows [] = refl
finish rows (p ∷ qs) = refl

quiet : list_all no_default top.rules ≡ true
unfolding clap_on_literals program
quiet = refl

start : (ws : List (List ℕ)) → matches_of program ws ≡ finished top.rules (fold step (between []) ws).held
unfolding clap_on_literals program
start ws = refl

-- what is tested at the end of a walk, where b says that its words passed
abbrev ends : Walk → Bool → Bool
ends w b =
    entered_passes (built program) w.stopped
    && (b && (settle_passes top.rules false w.held && (list_all default_passes top.rules && is_valid top (finished top.rules w.held) (is_some (entered (built program) w.stopped)))))

takes_by : (ws : List (List ℕ)) → takes program ws ≡ ends (fold step (between []) ws) (walk_passes top [] (between []) ws)
unfolding clap_on_literals program
takes_by ws = refl

all_pass : (qs : List (List ℕ)) → list_all (value_passes (with_index 1 (filled names_rule))) qs ≡ true
unfolding clap_on_literals
all_pass [] = refl
all_pass (q ∷ qs) = all_pass qs

use_ok : (rows : List Row) (q : List ℕ) (qs : List (List ℕ)) → nat_le (length (q ∷ qs)) 18446744073709551615 ≡ true → use_passes false (with_index 1 (filled names_rule)) (q ∷ qs) rows ≡ true
use_ok rows q qs h = both_true (leb-zero (length (q ∷ qs))) (both_true h (all_pass (q ∷ qs)))

ends_at : (rows : List Row) (qs : List (List ℕ)) → nat_le (length qs) 18446744073709551615 ≡ true → ends (behind rows qs) true ≡ true
unfolding clap_on_literals program
ends_at rows [] h = refl
ends_at rows (p ∷ qs) h = ap (λ b. b && true) (use_ok rows p qs h)

fresh : misses keys [] ≡ true
fresh = refl

apart_all : distinct keys ≡ true
apart_all = refl

foreign : is_foreign (names_id) keys ≡ true
foreign = refl

-- a list in the normal form is taken
pub taken : (s : Values) → nat_le (length s.words) 18446744073709551615 ≡ true → takes program (normal_words s) ≡ true
taken s h =
    takes_by (normal_words s)
    ∙ (ap₂ ends (walk_all keys s [] (codes "--" ∷ s.words) fresh apart_all ∙ walk_names (rows_said s keys) s.words)
    (pass_all keys s [] (codes "--" ∷ s.words) fresh apart_all ∙ pass_names (rows_said s keys) s.words)
    ∙ ends_at (rows_said s keys) s.words h)

-- and its matches are what was said
pub matches_are : (s : Values) → matches_of program (normal_words s) ≡ rows_said s keys ++ names_if s.words
matches_are s =
    start (normal_words s)
    ∙ (ap (λ w. finished top.rules w.held) (walk_all keys s [] (codes "--" ∷ s.words) fresh apart_all ∙ walk_names (rows_said s keys) s.words)
    ∙ (finish (rows_said s keys) s.words ∙ (no_defaults top.rules _ quiet ∙ settle (rows_said s keys) s.words (foreign_missing keys s (names_id) foreign))))

-- ---- what the getters read

no_more : (o : Option (List ℕ)) → option_or o None ≡ o
no_more None = refl
no_more (Some v) = refl

no_name : (k : Key) (qs : List (List ℕ)) → first_of (key_name k) (names_if qs) ≡ None
no_name k [] = refl
no_name Log (p ∷ qs) = refl
no_name Strategy (p ∷ qs) = refl
no_name Seed (p ∷ qs) = refl
no_name Budget (p ∷ qs) = refl
no_name Steps (p ∷ qs) = refl
no_name Workers (p ∷ qs) = refl
no_name Slice (p ∷ qs) = refl
no_name Wait (p ∷ qs) = refl

value_alone : (s : Values) (k : Key) → value_at s keys (key_name k) None ≡ value_in s k
value_alone s Log = no_more s.log
value_alone s Strategy = no_more s.strategy
value_alone s Seed = no_more s.seed
value_alone s Budget = no_more s.budget
value_alone s Steps = no_more s.steps
value_alone s Workers = no_more s.workers
value_alone s Slice = no_more s.slice
value_alone s Wait = no_more s.wait

-- the value of an option is what was said
pub value_found : (s : Values) (k : Key) → first_of (key_name k) (matches_of program (normal_words s)) ≡ value_in s k
value_found s k =
    ap (first_of (key_name k)) (matches_are s)
    ∙ (first_at keys s (key_name k) (names_if s.words) ∙ (ap (value_at s keys (key_name k)) (no_name k s.words) ∙ value_alone s k))

all_names : (qs : List (List ℕ)) → unwrap_or (option_map (λ (r : Row). r.values) (find (λ (r : Row). bytes_eq r.id (names_id)) (names_if qs))) [] ≡ qs
all_names [] = refl
all_names (p ∷ qs) = refl

-- and the other words are
pub names_found : (s : Values) → unwrap_or (all_of (names_id) (matches_of program (normal_words s))) [] ≡ s.words
names_found s =
    ap (λ rows. unwrap_or (all_of (names_id) rows) []) (matches_are s)
    ∙ (ap (λ o. unwrap_or (option_map (λ (r : Row). r.values) o) []) (found_past (names_id) (rows_said s keys) (names_if s.words) (foreign_missing keys s (names_id) foreign)) ∙ all_names s.words)

-- there are no more of them than words
pub names_within : (s : Values) → length s.words ≤ length (normal_words s)
names_within s = omega (arith, length-append (all_options s keys) (codes "--" ∷ s.words))
