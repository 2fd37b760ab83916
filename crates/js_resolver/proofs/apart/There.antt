-- What a scope declares is found in it.
use Rattle.std.proofs.Common.{◌≡◌, ◌⊎◌, inl, inr, ℕ, List, [], ◌∷◌, ◌++◌, append_assoc, refl, ap, sym, subst, Option, Some, None, Bool, true, false, if◌then◌else◌}
use Rattle.std.proofs.lemmas.Bool.{false≢true}
use Rattle.std.proofs.lemmas.Slice.Eq.{bytes_eq-Decides}
use Rattle.std.specs.Prelude.{is_some, max, nat_lt}
use Rattle.std.specs.Str.{bytes_eq}
use Rattle.js_names.specs.declared.mention.Declared.{Declared}
use Rattle.js_names.specs.Entries.{Entry}
use Rattle.js_names.specs.Scopes.{Scope, named, first, one_var, merge, scope_with}
use Rattle.js_names.specs.Mentions.{found, found_var, earlier}
use Rattle.js_resolver.proofs.sound.Found.{IsKept, There}
use Rattle.js_resolver.proofs.sound.Known.{here_look, here_look_var}

abbrev pub AllThere : (List ℕ → Option Declared) → ℕ → Bool → List Entry → Type 0
AllThere look f w [] = Unit {0}
AllThere look f w (e ∷ es) = There look f w e.name × AllThere look f w es

pub there_left : (look : List ℕ → Option Declared) (f : ℕ) (w : Bool) (xs ys : List Entry) → AllThere look f w (xs ++ ys) → AllThere look f w xs
there_left look f w [] ys h = tt
there_left look f w (x ∷ xs) ys h = (h.0, there_left look f w xs ys h.1)

pub there_right : (look : List ℕ → Option Declared) (f : ℕ) (w : Bool) (xs ys : List Entry) → AllThere look f w (xs ++ ys) → AllThere look f w ys
there_right look f w [] ys h = h
there_right look f w (x ∷ xs) ys h = there_right look f w xs ys h.1

there_by : (look other : List ℕ → Option Declared) (f : ℕ) (w : Bool) (es : List Entry) → ((q : List ℕ) → There look f w q → There other f w q) → AllThere look f w es → AllThere other f w es
there_by look other f w [] g h = tt
there_by look other f w (e ∷ es) g h = (g e.name h.0, there_by look other f w es g h.1)

-- entries of one function
abbrev pub AllOf : ℕ → Bool → List Entry → Type 0
AllOf f w [] = Unit {0}
AllOf f w (e ∷ es) = IsKept f w e.declared × AllOf f w es

pub of_append : (f : ℕ) (w : Bool) (xs ys : List Entry) → AllOf f w xs → AllOf f w ys → AllOf f w (xs ++ ys)
of_append f w [] ys h k = k
of_append f w (x ∷ xs) ys h k = (h.0, of_append f w xs ys h.1 k)

-- what is picked among some declarations is kept as the first one is
abbrev Keeps : (List Declared → Option Declared) → Type 0
Keeps pick = (d : Declared) (ds : List Declared) → (c : Declared) × (pick (d ∷ ds) ≡ Some c) × ((f : ℕ) (w : Bool) → IsKept f w d → IsKept f w c)

first_keeps : Keeps first
first_keeps d ds = (d, refl, λ f w h. h)

merge_keeps : (d : Declared) (o : Option Declared) → (c : Declared) × (merge (Some d) o ≡ Some c) × ((f : ℕ) (w : Bool) → IsKept f w d → IsKept f w c)
merge_keeps d None = (d, refl, λ f w h. h)
merge_keeps d (Some e) = (record d { direct = false; given = max d.given e.given }, refl, λ f w h. record { owner = h.owner; nested = λ k. (refl, (h.nested k).1); inside = h.inside })

one_var_keeps : Keeps one_var
one_var_keeps d ds = merge_keeps d (one_var ds)

picked_first : (pick : List Declared → Option Declared) → Keeps pick → (f : ℕ) (w : Bool) (x : Entry) (rest : List Declared) → IsKept f w x.declared → (c : Declared) × (pick (x.declared ∷ rest) ≡ Some c) × IsKept f w c
picked_first pick k f w x rest h = let r = k x.declared rest in (r.0, r.1, r.2 f w h)

picked_there : (pick : List Declared → Option Declared) → Keeps pick → (f : ℕ) (w : Bool) (before : List Entry) (e : Entry) (es : List Entry) → AllOf f w (before ++ e ∷ es) → There (λ q. pick (named q (before ++ e ∷ es))) f w e.name
picked_there pick k f w [] e es h =
    let same : true ≡ bytes_eq e.name e.name = sym ((bytes_eq-Decides e.name e.name).1 refl) in
    subst (λ b. (c : Declared) × (pick (if b then e.declared ∷ named e.name es else named e.name es) ≡ Some c) × IsKept f w c) same (picked_first pick k f w e (named e.name es) h.0)
picked_there pick k f w (x ∷ before) e es h =
    let rest = named e.name (before ++ e ∷ es) in
    elim (bytes_eq x.name e.name) as (λ b. (c : Declared) × (pick (if b then x.declared ∷ rest else rest) ≡ Some c) × IsKept f w c)
    [ true ↦ picked_first pick k f w x rest h.0 | false ↦ picked_there pick k f w before e es h.1 ]

there_from : (pick : List Declared → Option Declared) → Keeps pick → (f : ℕ) (w : Bool) (before es : List Entry) → AllOf f w (before ++ es) → AllThere (λ q. pick (named q (before ++ es))) f w es
there_from pick k f w before [] h = tt
there_from pick k f w before (e ∷ es) h =
    let same : (before ++ e ∷ []) ++ es ≡ before ++ e ∷ es = append_assoc before (e ∷ []) es in
    (picked_there pick k f w before e es h, subst (λ z. AllThere (λ q. pick (named q z)) f w es) same (there_from pick k f w (before ++ e ∷ []) es (subst (AllOf f w) (sym same) h)))

picked_kept : (pick : List Declared → Option Declared) → Keeps pick → pick [] ≡ None → (f : ℕ) (w : Bool) (es : List Entry) (q : List ℕ) (d : Declared) → AllOf f w es → pick (named q es) ≡ Some d → IsKept f w d
picked_kept pick k none f w [] q d h e = cc
picked_kept pick k none f w (x ∷ xs) q d h e =
    let rest = named q xs in
    let here : pick (x.declared ∷ rest) ≡ Some d → IsKept f w d = λ m.
    let r = k x.declared rest in
    let is : r.0 ≡ d = cc in
    subst (IsKept f w) is (r.2 f w h.0)
    in
    elim (bytes_eq x.name q) as (λ b. pick (if b then x.declared ∷ rest else rest) ≡ Some d → IsKept f w d) [ true ↦ here | false ↦ λ m. picked_kept pick k none f w xs q d h.1 m ] e

pub first_kept : (f : ℕ) (w : Bool) (es : List Entry) (q : List ℕ) (d : Declared) → AllOf f w es → first (named q es) ≡ Some d → IsKept f w d
first_kept f w es q d h e = picked_kept first first_keeps refl f w es q d h e

pub var_kept : (f : ℕ) (w : Bool) (es : List Entry) (q : List ℕ) (d : Declared) → AllOf f w es → one_var (named q es) ≡ Some d → IsKept f w d
var_kept f w es q d h e = picked_kept one_var one_var_keeps refl f w es q d h e

-- the earlier of two declarations is kept where both are
earlier_kept : (f : ℕ) (w : Bool) (a b : Option Declared) → ((d : Declared) → a ≡ Some d → IsKept f w d) → ((d : Declared) → b ≡ Some d → IsKept f w d) → (is_some a ≡ true) ⊎ (is_some b ≡ true)
    → (d : Declared) × (earlier a b ≡ Some d) × IsKept f w d
earlier_kept f w None None g k s = elim s as (λ _. (d : Declared) × (earlier None None ≡ Some d) × IsKept f w d) [ inl e ↦ absurd (false≢true e) | inr e ↦ absurd (false≢true e) ]
earlier_kept f w None (Some e) g k s = (e, refl, k e refl)
earlier_kept f w (Some d) None g k s = (d, refl, g d refl)
earlier_kept f w (Some d) (Some e) g k s =
    elim (nat_lt e.offset d.offset) as (λ b. (c : Declared) × ((if b then Some e else Some d) ≡ Some c) × IsKept f w c) [ true ↦ (e, refl, k e refl) | false ↦ (d, refl, g d refl) ]

-- the names of a block's or a `for`'s scope are found in it
pub nested_there : (f : ℕ) (own : List Entry) (vars : List ℕ → Option Declared) (scopes : List Scope) → AllOf f false own
    → AllThere (found (record { own = λ q. first (named q own); vars = vars; whole = false; owner = f } ∷ scopes)) f false own
nested_there f own vars scopes h =
    let s : Scope = record { own = λ q. first (named q own); vars = vars; whole = false; owner = f } in
    there_by (λ q. first (named q own)) (found (s ∷ scopes)) f false own (λ q t. (t.0, here_look s scopes q t.0 t.1, t.2)) (there_from first first_keeps f false [] own h)

-- and so are those of a function's or the program's
pub own_there : (f : ℕ) (own vars : List Entry) (scopes : List Scope) → AllOf f true own → AllOf f true vars → AllThere (found (scope_with own vars true f ∷ scopes)) f true own
own_there f own vars scopes h k =
    let s = scope_with own vars true f in
    there_by (λ q. first (named q own)) (found (s ∷ scopes)) f true own
    (λ q t.
    let r = earlier_kept f true (first (named q own)) (one_var (named q vars)) (λ d. first_kept f true own q d h) (λ d. var_kept f true vars q d k) (inl (ap is_some t.1)) in
    (r.0, here_look s scopes q r.0 r.1, r.2))
    (there_from first first_keeps f true [] own h)

-- and its `var`s
pub vars_there : (f : ℕ) (own vars : List Entry) (scopes : List Scope) → AllOf f true own → AllOf f true vars → AllThere (found_var (scope_with own vars true f ∷ scopes)) f true vars
vars_there f own vars scopes h k =
    let s = scope_with own vars true f in
    there_by (λ q. one_var (named q vars)) (found_var (s ∷ scopes)) f true vars
    (λ q t.
    let r = earlier_kept f true (first (named q own)) (one_var (named q vars)) (λ d. first_kept f true own q d h) (λ d. var_kept f true vars q d k) (inr (ap is_some t.1)) in
    (r.0, here_look_var s scopes q r.0 refl r.1, r.2))
    (there_from one_var one_var_keeps f true [] vars k)
