-- Stacks of scopes.
use Rattle.std.proofs.Common.{◌≡◌, ℕ, ◌+◌, List, [], ◌∷◌, ◌++◌, if◌then◌else◌, ◌∙◌, ap, refl, sym, arith, length, take, get_or, take_all, append_assoc, ◌-◌, ◌<◌, ◌≤◌, Option, Some, None, Bool, true, false, not, ◌&&◌, ◌||◌, nat_lt}
use Rattle.std.proofs.lemmas.List.{take_more}
use Rattle.js_names.specs.declared.scope.Scope.{Scope as Held}
use Rattle.js_names.specs.declared.mention.Declared.{Declared}
use Rattle.js_names.specs.Scopes.{Scope}
use Rattle.js_names.specs.Mentions.{functions_of, owner_in, found, found_here, found_var, or_else, blocked, repeated, test_of, is_parameter}
use Rattle.js_names.specs.Views.{scope_of, scopes_of, scopes_onto}

scopes_onto-push : (below : List Scope) (xs : List Held) (x : Held) → scopes_onto below (xs ++ x ∷ []) ≡ scope_of x ∷ scopes_onto below xs
unfolding scopes_onto
scopes_onto-push below [] x = refl
scopes_onto-push below (y ∷ ys) x = scopes_onto-push (scope_of y ∷ below) ys x

-- a scope that is pushed is the innermost
pub scopes_push : (xs : List Held) (x : Held) → scopes_of (xs ++ x ∷ []) ≡ scope_of x ∷ scopes_of xs
scopes_push xs x = scopes_onto-push [] xs x

pub found_empty : (q : List ℕ) → found (scopes_of []) q ≡ None
unfolding found scopes_onto
found_empty q = refl

-- the scope below a mention is the innermost of those up to it
pub scopes_down : (xs : List Held) (j : ℕ) (d x : Held) → 0 < j → j ≤ length xs → x ≡ get_or xs (j - 1) d → scopes_of (take j xs) ≡ scope_of x ∷ scopes_of (take (j - 1) xs)
scopes_down xs j d x pos le e =
    let at : j ≡ (j - 1) + 1 = omega arith in
    ap (λ n. scopes_of (take n xs)) at
    ∙ (ap scopes_of (take_more xs (j - 1) d (omega arith))
    ∙ (ap (λ y. scopes_of (take (j - 1) xs ++ y ∷ [])) (sym e)
    ∙ scopes_push (take (j - 1) xs) x))

pub found_down : (xs : List Held) (j : ℕ) (q : List ℕ) (d x : Held) → 0 < j → j ≤ length xs → x ≡ get_or xs (j - 1) d → found (scopes_of (take j xs)) q ≡ or_else (found_here (scope_of x) q) (found (scopes_of (take (j - 1) xs)) q)
unfolding found
found_down xs j q d x pos le e = ap (λ s. found s q) (scopes_down xs j d x pos le e)

pub blocked_down : (xs : List Held) (j : ℕ) (q : List ℕ) (p : ℕ) (d x : Held) → 0 < j → j ≤ length xs → x ≡ get_or xs (j - 1) d
    → blocked (scopes_of (take j xs)) q p ≡ (test_of ((scope_of x).own q) (λ d. nat_lt d.offset p && not (is_parameter d.role)) || (not x.whole && blocked (scopes_of (take (j - 1) xs)) q p))
unfolding blocked
blocked_down xs j q p d x pos le e = ap (λ s. blocked s q p) (scopes_down xs j d x pos le e)

pub blocked_empty : (q : List ℕ) (p : ℕ) → blocked (scopes_of []) q p ≡ false
unfolding blocked scopes_onto
blocked_empty q p = refl

-- an answer of a scope on the way, and the way on
pub blocked_no : (a w b : Bool) → false ≡ a → true ≡ w → (a || (not w && b)) ≡ false
blocked_no a w b e f = ap (λ v. v || (not w && b)) (sym e) ∙ ap (λ v. not v && b) (sym f)

pub blocked_on : (a w b : Bool) → false ≡ a → false ≡ w → (a || (not w && b)) ≡ b
blocked_on a w b e f = ap (λ v. v || (not w && b)) (sym e) ∙ ap (λ v. not v && b) (sym f)

-- the innermost of all
pub repeated_last : (xs : List Held) (q : List ℕ) (p : ℕ) (d x : Held) → 1 ≤ length xs → x ≡ get_or xs (length xs - 1) d → repeated (scopes_of xs) q p ≡ repeated (scope_of x ∷ []) q p
unfolding scopes_onto repeated
repeated_last xs q p d x le e =
    ap (λ ys. repeated (scopes_of ys) q p) (sym (take_all (length xs) xs (omega arith))) ∙ ap (λ s. repeated s q p) (scopes_down xs (length xs) d x le (omega arith) e)

pub repeated_empty : (xs : List Held) (q : List ℕ) (p : ℕ) → length xs < 1 → repeated (scopes_of xs) q p ≡ false
unfolding scopes_onto repeated
repeated_empty [] q p h = refl
repeated_empty (x ∷ xs) q p h = absurd (omega arith)

pub found_some : (o r : Option Declared) (x : Declared) → Some x ≡ o → or_else o r ≡ Some x
found_some o r x e = ap (λ y. or_else y r) (sym e)

pub found_none : (o r : Option Declared) → None ≡ o → or_else o r ≡ r
found_none o r e = ap (λ y. or_else y r) (sym e)

pub found_var_empty : (q : List ℕ) → found_var (scopes_of []) q ≡ None
unfolding found_var scopes_onto
found_var_empty q = refl

pub found_var_down : (xs : List Held) (j : ℕ) (q : List ℕ) (d x : Held) → 0 < j → j ≤ length xs → x ≡ get_or xs (j - 1) d
    → found_var (scopes_of (take j xs)) q ≡ (if x.whole then found_here (scope_of x) q else found_var (scopes_of (take (j - 1) xs)) q)
unfolding found_var
found_var_down xs j q d x pos le e = ap (λ s. found_var s q) (scopes_down xs j d x pos le e)

pub functions_empty : functions_of (scopes_of []) ≡ []
unfolding functions_of scopes_onto
functions_empty = refl

pub functions_down : (xs : List Held) (j : ℕ) (d x : Held) → 0 < j → j ≤ length xs → x ≡ get_or xs (j - 1) d
    → functions_of (scopes_of (take j xs)) ≡ owner_in (scope_of x) ++ functions_of (scopes_of (take (j - 1) xs))
unfolding functions_of
functions_down xs j d x pos le e = ap functions_of (scopes_down xs j d x pos le e)

-- one more scope on the way
pub functions_step : (a b o f rest all : List ℕ) → b ≡ a ++ o → f ≡ o ++ rest → a ++ f ≡ all → b ++ rest ≡ all
functions_step a b o f rest all e d h = ap (λ z. z ++ rest) e ∙ (append_assoc a o rest ∙ (ap (λ z. a ++ z) (sym d) ∙ h))
