-- Rows of options, whose ids are distinct.
use Rattle.std.proofs.Common.{◌≡◌, ℕ, List, [], ◌∷◌, ◌++◌, refl, true, false, Some, None, Option, ap, sym, ◌∙◌, append_assoc, append-nil, ◌&&◌, not, Bool, if◌then◌else◌, option_and_then, find, fold, slice_get, true≢false}
use Rattle.std.specs.List.{list_all}
use Rattle.std.specs.Option.{option_or}
use Rattle.std.specs.Str.{bytes_eq}
use Rattle.std.proofs.lemmas.Bool.{or_parts, or_from, and_parts, not-true, not_from_false}
use Rattle.std.specs.Cmp.Derive.{both_true}
use Rattle.std.proofs.lemmas.List.Folds.{list_any-append}
use Rattle.clap.specs.Words.{first_of}
use Rattle.clap.specs.Walk.{Rule, Row, used, has_row, reading_by, at_row, with_default, default_rows, more_values}
use Rattle.clap.specs.Simple.{filled}
use Rattle.clap.specs.declared.parser.matches.ValueSource.TheVariants.{CommandLine}
use Rattle.bp_args.specs.declared.key.Key.{Key}
use Rattle.bp_args.specs.declared.values.Values.{Values}
use Rattle.bp_args.specs.Keys.{key_name}
use Rattle.bp_args.specs.inner.NormalWords.{value_in}
use Rattle.bp_args.specs.inner.Reading.{option_rule}

abbrev pub opt : Key → Rule
opt k = filled (option_rule (key_name k))

abbrev pub row : Key → List ℕ → Row
row k v = record { id = key_name k; values = v ∷ []; count = None; source = Some CommandLine; reading = reading_by (opt k) }

pub at_row_none : (id : List ℕ) (change : Row → List Row) (missing rows : List Row) → has_row id rows ≡ false → at_row id change missing rows ≡ rows ++ missing
at_row_none id change missing [] h = refl
at_row_none id change missing (r ∷ rs) h =
    let p = or_parts (bytes_eq r.id id) (has_row id rs) h in
    ap (λ b. if b then change r ++ rs else (r ∷ at_row id change missing rs)) p.0 ∙ ap (λ xs. r ∷ xs) (at_row_none id change missing rs p.1)

-- an option that is not said yet gets its row
pub used_fresh : (rows : List Row) (v : List ℕ) (k : Key) → has_row (key_name k) rows ≡ false → used (opt k) (v ∷ []) rows ≡ rows ++ row k v ∷ []
used_fresh rows v k h =
    let more = more_values CommandLine (v ∷ []) in
    ap (at_row (key_name k) more (row k v ∷ [])) (at_row_none (key_name k) (λ _. []) [] rows h ∙ append-nil rows)
    ∙ at_row_none (key_name k) more (row k v ∷ []) rows h

-- ---- the rows of the options that are said

abbrev pub row_if : Key → Option (List ℕ) → List Row
row_if k None = []
row_if k (Some v) = row k v ∷ []

abbrev pub rows_said : Values → List Key → List Row
rows_said s [] = []
rows_said s (k ∷ ks) = row_if k (value_in s k) ++ rows_said s ks

-- the option has another name than each of these
abbrev pub apart : Key → List Key → Bool
apart k [] = true
apart k (j ∷ js) = not (bytes_eq (key_name k) (key_name j)) && apart k js

-- none of the options has a row
abbrev pub misses : List Key → List Row → Bool
misses [] rows = true
misses (k ∷ ks) rows = not (has_row (key_name k) rows) && misses ks rows

abbrev pub distinct : List Key → Bool
distinct [] = true
distinct (k ∷ ks) = apart k ks && distinct ks

pub misses_more : (ks : List Key) (rows : List Row) (k : Key) (v : List ℕ) → misses ks rows ≡ true → apart k ks ≡ true → misses ks (rows ++ row k v ∷ []) ≡ true
misses_more [] rows k v m a = refl
misses_more (j ∷ js) rows k v m a =
    let m' = and_parts (not (has_row (key_name j) rows)) (misses js rows) m in
    let a' = and_parts (not (bytes_eq (key_name k) (key_name j))) (apart k js) a in
    let none = list_any-append (λ (r : Row). bytes_eq r.id (key_name j)) rows (row k v ∷ [])
    ∙ or_from (has_row (key_name j) rows) (has_row (key_name j) (row k v ∷ [])) (not-true _ m'.0) (or_from (bytes_eq (key_name k) (key_name j)) false (not-true _ a'.0) refl) in
    both_true (not_from_false _ none) (misses_more js rows k v m'.1 a'.1)

-- ---- what is found in rows

-- rows without the id are passed over
pub found_past : (id : List ℕ) (xs ys : List Row) → has_row id xs ≡ false → find (λ (r : Row). bytes_eq r.id id) (xs ++ ys) ≡ find (λ (r : Row). bytes_eq r.id id) ys
found_past id [] ys h = refl
found_past id (x ∷ xs) ys h =
    let p = or_parts (bytes_eq x.id id) (has_row id xs) h in
    ap (λ b. if b then Some x else find (λ (r : Row). bytes_eq r.id id) (xs ++ ys)) p.0 ∙ found_past id xs ys p.1

-- the value of the id among the options that are said, or what is found after them
abbrev pub value_at : Values → List Key → List ℕ → Option (List ℕ) → Option (List ℕ)
value_at s [] id d = d
value_at s (k ∷ ks) id d =
    if bytes_eq (key_name k) id then option_or (value_in s k) (value_at s ks id d) else value_at s ks id d

-- one option, and what is found after it
first_one : (id : List ℕ) (k : Key) (o : Option (List ℕ)) (rest : List Row) (x : Option (List ℕ)) → first_of id rest ≡ x
    → first_of id (row_if k o ++ rest) ≡ (if bytes_eq (key_name k) id then option_or o x else x)
first_one id k None rest x h = h ∙ same (bytes_eq (key_name k) id)
  where
    same : (b : Bool) → x ≡ (if b then x else x)
    same true = refl
    same false = refl
first_one id k (Some v) rest x h = by (bytes_eq (key_name k) id)
  where
    by : (b : Bool) → option_and_then (λ (r : Row). slice_get r.values 0) (if b then Some (row k v) else find (λ (r : Row). bytes_eq r.id id) rest) ≡ (if b then Some v else x)
    by true = refl
    by false = h

pub first_at : (ks : List Key) (s : Values) (id : List ℕ) (ys : List Row) → first_of id (rows_said s ks ++ ys) ≡ value_at s ks id (first_of id ys)
first_at [] s id ys = refl
first_at (k ∷ ks) s id ys =
    ap (first_of id) (append_assoc (row_if k (value_in s k)) (rows_said s ks) ys)
    ∙ first_one id k (value_in s k) (rows_said s ks ++ ys) (value_at s ks id (first_of id ys)) (first_at ks s id ys)

-- an id that no option has
abbrev pub is_foreign : List ℕ → List Key → Bool
is_foreign id [] = true
is_foreign id (k ∷ ks) = not (bytes_eq (key_name k) id) && is_foreign id ks

has_row-if : (id : List ℕ) (k : Key) (o : Option (List ℕ)) → bytes_eq (key_name k) id ≡ false → has_row id (row_if k o) ≡ false
has_row-if id k None h = refl
has_row-if id k (Some v) h = or_from (bytes_eq (key_name k) id) false h refl

pub foreign_missing : (ks : List Key) (s : Values) (id : List ℕ) → is_foreign id ks ≡ true → has_row id (rows_said s ks) ≡ false
foreign_missing [] s id h = refl
foreign_missing (k ∷ ks) s id h =
    let p = and_parts (not (bytes_eq (key_name k) id)) (is_foreign id ks) h in
    list_any-append (λ (r : Row). bytes_eq r.id id) (row_if k (value_in s k)) (rows_said s ks)
    ∙ or_from (has_row id (row_if k (value_in s k))) (has_row id (rows_said s ks)) (has_row-if id k (value_in s k) (not-true _ p.0)) (foreign_missing ks s id p.1)

-- ---- defaults

abbrev pub has_none : List (List ℕ) → Bool
has_none [] = true
has_none (v ∷ vs) = false

abbrev pub no_default : Rule → Bool
no_default a = has_none a.defaults

one_default : (rows : List Row) (a : Rule) (d : List (List ℕ)) → a.defaults ≡ d → has_none d ≡ true → with_default rows a ≡ rows
one_default rows a [] e h = ap (λ ds. if has_row a.id rows then rows else default_rows a.id (reading_by a) ds rows) e ∙ same (has_row a.id rows)
  where
    same : (b : Bool) → (if b then rows else rows) ≡ rows
    same true = refl
    same false = refl
one_default rows a (v ∷ vs) e h = absurd (true≢false (sym h))

pub no_defaults : (rules : List Rule) (rows : List Row) → list_all no_default rules ≡ true → fold with_default rows rules ≡ rows
no_defaults [] rows h = refl
no_defaults (a ∷ rest) rows h =
    let p = and_parts (no_default a) (list_all no_default rest) h in
    ap (λ xs. fold with_default xs rest) (one_default rows a a.defaults refl p.0) ∙ no_defaults rest rows p.1
