-- A block that keeps the `var`s of its own names shows the rules what one with all of them shows.
use Rattle.std.proofs.Common.{◌≡◌, ℕ, List, [], ◌∷◌, ◌++◌, ◌∙◌, ap, refl, Bool, true, false, not, ◌&&◌, ◌||◌, nat_lt, if◌then◌else◌}
use Rattle.std.specs.Prelude.{is_some, codes}
use Rattle.js_tree.specs.declared.tree.Name.{Name}
use Rattle.js_names.specs.declared.mention.Role.TheVariants.{Let, Var}
use Rattle.js_names.specs.declared.mention.What.{What}
use Rattle.js_names.specs.declared.mention.What.TheVariants.{Declares, Reads, Assigns, Misuses, LoopWord, Returns, Begins}
use Rattle.js_names.specs.Entries.{Entry, top}
use Rattle.js_names.specs.Scopes.{Scope, named, first, one_var, kept, inner_scope, scope_with}
use Rattle.js_names.specs.Forms.{is_reserved}
use Rattle.js_names.specs.Mentions.{found, found_here, found_var, functions_of, owner_in, blocked, repeated, clashes, declared_at, is_earlier, is_parameter, is_var, or_else, test_of, look_up}
use Rattle.js_names.specs.Kept.{IsOwn, KeepsEnough}
use Rattle.js_names.proofs.Making.{kept_all}

module _ (own vars : List Entry) (owner : ℕ) (outside : List Scope) where
  abbrev less : Scope
  less = inner_scope own vars owner

  abbrev more : Scope
  more = scope_with own vars false owner

  same_found : (xs : List Scope) (q : List ℕ) → found (xs ++ less ∷ outside) q ≡ found (xs ++ more ∷ outside) q
  unfolding found
  same_found [] q = refl
  same_found (x ∷ xs) q = ap (or_else (found_here x q)) (same_found xs q)

  same_found_var : (xs : List Scope) (q : List ℕ) → found_var (xs ++ less ∷ outside) q ≡ found_var (xs ++ more ∷ outside) q
  unfolding found_var
  same_found_var [] q = refl
  same_found_var (x ∷ xs) q = ap (λ o. if x.whole then found_here x q else o) (same_found_var xs q)

  same_functions : (xs : List Scope) → functions_of (xs ++ less ∷ outside) ≡ functions_of (xs ++ more ∷ outside)
  unfolding functions_of
  same_functions [] = refl
  same_functions (x ∷ xs) = ap (λ fs. owner_in x ++ fs) (same_functions xs)

  same_blocked : (xs : List Scope) (q : List ℕ) (p : ℕ) → blocked (xs ++ less ∷ outside) q p ≡ blocked (xs ++ more ∷ outside) q p
  unfolding blocked
  same_blocked [] q p = refl
  same_blocked (x ∷ xs) q p = ap (λ b. test_of (x.own q) (λ d. nat_lt d.offset p && not (is_parameter d.role)) || (not x.whole && b)) (same_blocked xs q p)

  same_repeated : (xs : List Scope) (q : List ℕ) (p : ℕ) → (xs ≡ [] → is_some (first (named q own)) ≡ true) → repeated (xs ++ less ∷ outside) q p ≡ repeated (xs ++ more ∷ outside) q p
  unfolding repeated
  same_repeated [] q p h =
      let o = one_var (named q vars) in
      ap (λ z. is_earlier (first (named q own)) p || is_earlier z p) (ap (λ b. kept b o) (h refl) ∙ kept_all o)
  same_repeated (x ∷ xs) q p h = refl

  same_declared : (xs : List Scope) (what : What) (q : List ℕ) → declared_at what (xs ++ less ∷ outside) q ≡ declared_at what (xs ++ more ∷ outside) q
  same_declared xs (Declares role) q =
      elim (is_var role) as (λ b. (if b then found_var (xs ++ less ∷ outside) q else found (xs ++ less ∷ outside) q) ≡ (if b then found_var (xs ++ more ∷ outside) q else found (xs ++ more ∷ outside) q))
      [ true ↦ same_found_var xs q | false ↦ same_found xs q ]
  same_declared xs Reads q = same_found xs q
  same_declared xs Assigns q = same_found xs q
  same_declared xs Misuses q = refl
  same_declared xs LoopWord q = refl
  same_declared xs Returns q = refl
  same_declared xs Begins q = refl

  same_clashes : (xs : List Scope) (what : What) (name : Name) → (xs ≡ [] → IsOwn own what name) → clashes what (xs ++ less ∷ outside) name ≡ clashes what (xs ++ more ∷ outside) name
  same_clashes xs (Declares role) name h =
      let q = name.text in
      let p = name.spot.at in
      let cases : (b : Bool) → (is_var role ≡ b)
      → (if b then blocked (xs ++ less ∷ outside) q p else repeated (xs ++ less ∷ outside) q p) ≡ (if b then blocked (xs ++ more ∷ outside) q p else repeated (xs ++ more ∷ outside) q p) =
      λ b. elim b as (λ b. (is_var role ≡ b)
      → (if b then blocked (xs ++ less ∷ outside) q p else repeated (xs ++ less ∷ outside) q p) ≡ (if b then blocked (xs ++ more ∷ outside) q p else repeated (xs ++ more ∷ outside) q p))
      [ true ↦ λ e. same_blocked xs q p | false ↦ λ e. same_repeated xs q p (λ n. h n e) ]
      in
      ap (λ b. is_reserved q || b) (cases (is_var role) refl)
  same_clashes xs Reads name h = refl
  same_clashes xs Assigns name h = refl
  same_clashes xs Misuses name h = refl
  same_clashes xs LoopWord name h = refl
  same_clashes xs Returns name h = refl
  same_clashes xs Begins name h = refl

pub keeps_enough : KeepsEnough
unfolding look_up
keeps_enough own vars owner inside outside around what name h = λ i. record {
  what = what;
  name = name;
  around = around;
  declared = same_declared own vars owner outside inside what name.text i;
  functions = same_functions own vars owner outside inside i;
  clashes = same_clashes own vars owner outside inside what name h i;
}

-- The law's premise is no law of trees: { var x; if (1) let x }. The `let` stands directly in the block, and is none of its names.

abbrev lone : Scope → Bool
lone s = clashes (Declares Let) (s ∷ []) (record { text = codes "x"; spot = record { at = 20; line = 1 } })

abbrev var_before : List Entry
var_before = record { name = codes "x"; declared = record { role = Var; offset = 6; end = 7; owner = top; direct = false; given = 0 } } ∷ []

lone_less : lone (inner_scope [] var_before top) ≡ false
unfolding repeated
lone_less = refl

lone_more : lone (scope_with [] var_before false top) ≡ true
unfolding repeated
lone_more = refl
