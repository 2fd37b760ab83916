-- What a function holds has a number below that of its slots.
use Rattle.std.proofs.Common.{◌≡◌, ◌⊎◌, inl, inr, ℕ, ◌<◌, List, [], ◌∷◌, ◌++◌, refl, sym, subst, length, fold, arith, Option, Some, None, Bool, true, false, if◌then◌else◌, nat_eq}
use Rattle.std.proofs.lemmas.Bool.{lt-ltb, ltb-true, eqb-true, or_cases, false≢true}
use Rattle.std.specs.Prelude.{unwrap_or, nat_lt, not}
use Rattle.std.specs.List.{flat_map, prefix_len}
use Rattle.js_program.specs.Sound.{all_below}
use Rattle.js_names.specs.declared.mention.Declared.{Declared}
use Rattle.js_names.specs.Mentions.{Mention, is_var}
use Rattle.js_names.specs.Slots.{Holding, held_by, is_among, joins, first_uses, assigned_in, holdings, slots_of, vars_of, parameter_in, captures_in, variable_in, variable_at, variable_of, var_of, var_in}
use Rattle.js_names.proofs.HeldLemmas.{held-append}
use Rattle.js_resolver.specs.Variables.{index_in, slots_among, var_slots}
use Rattle.js_resolver.proofs.sound.Parts.{Every, every_all}

abbrev pub In : ℕ → List ℕ → Type 0
In x [] = ⊥
In x (y ∷ ys) = (x ≡ y) ⊎ In x ys

pub in-left : (x : ℕ) (xs ys : List ℕ) → In x xs → In x (xs ++ ys)
in-left x [] ys h = absurd h
in-left x (y ∷ xs) ys (inl e) = inl e
in-left x (y ∷ xs) ys (inr h) = inr (in-left x xs ys h)

pub in-right : (x : ℕ) (xs ys : List ℕ) → In x ys → In x (xs ++ ys)
in-right x [] ys h = h
in-right x (y ∷ xs) ys h = inr (in-right x xs ys h)

pub in-cases : (x : ℕ) (xs ys : List ℕ) → In x (xs ++ ys) → In x xs ⊎ In x ys
in-cases x [] ys h = inr h
in-cases x (y ∷ xs) ys (inl e) = inl (inl e)
in-cases x (y ∷ xs) ys (inr h) = elim (in-cases x xs ys h) as (λ _. In x (y ∷ xs) ⊎ In x ys) [ inl k ↦ inl (inr k) | inr k ↦ inr k ]

among-in : (x : ℕ) (xs : List ℕ) → is_among x xs ≡ true → In x xs
among-in x [] h = absurd (false≢true h)
among-in x (y ∷ ys) h = elim (or_cases (nat_eq x y) (is_among x ys) h) as (λ _. In x (y ∷ ys)) [ inl e ↦ inl (eqb-true x y e) | inr k ↦ inr (among-in x ys k) ]

joins-keeps : (x y : ℕ) (xs : List ℕ) → In x xs → In x (joins xs y)
joins-keeps x y xs h = elim (is_among y xs) as (λ b. In x (if b then xs else xs ++ y ∷ [])) [ true ↦ h | false ↦ in-left x xs (y ∷ []) h ]

joins-new : (x : ℕ) (xs : List ℕ) → In x (joins xs x)
joins-new x xs =
    let cases : (b : Bool) → (b ≡ true → In x xs) → In x (if b then xs else xs ++ x ∷ []) = λ b. elim b as (λ b. (b ≡ true → In x xs) → In x (if b then xs else xs ++ x ∷ [])) [ true ↦ λ h. h refl | false ↦ λ h. in-right x xs (x ∷ []) (inl refl) ] in
    cases (is_among x xs) (among-in x xs)

fold-keeps : (x : ℕ) (acc xs : List ℕ) → In x acc → In x (fold joins acc xs)
fold-keeps x acc [] h = h
fold-keeps x acc (y ∷ xs) h = fold-keeps x (joins acc y) xs (joins-keeps x y acc h)

fold-new : (x : ℕ) (acc xs : List ℕ) → In x xs → In x (fold joins acc xs)
fold-new x acc [] h = absurd h
fold-new x acc (y ∷ xs) (inl e) = fold-keeps x (joins acc y) xs (subst (λ z. In x (joins acc z)) e (joins-new x acc))
fold-new x acc (y ∷ xs) (inr h) = fold-new x (joins acc y) xs h

-- the first uses have each element
pub in-first_uses : (x : ℕ) (xs : List ℕ) → In x xs → In x (first_uses xs)
in-first_uses x xs h = fold-new x [] xs h

joins-from : (x y : ℕ) (xs : List ℕ) → In x (joins xs y) → In x xs ⊎ (x ≡ y)
joins-from x y xs h =
    let last : In x (xs ++ y ∷ []) → In x xs ⊎ (x ≡ y) = λ k. elim (in-cases x xs (y ∷ []) k) as (λ _. In x xs ⊎ (x ≡ y)) [ inl a ↦ inl a | inr (inl e) ↦ inr e | inr (inr a) ↦ absurd a ] in
    elim (is_among y xs) as (λ b. In x (if b then xs else xs ++ y ∷ []) → In x xs ⊎ (x ≡ y)) [ true ↦ λ k. inl k | false ↦ last ] h

fold-from : (x : ℕ) (acc xs : List ℕ) → In x (fold joins acc xs) → In x acc ⊎ In x xs
fold-from x acc [] h = inl h
fold-from x acc (y ∷ xs) h =
    elim (fold-from x (joins acc y) xs h) as (λ _. In x acc ⊎ In x (y ∷ xs))
    [ inl k ↦ elim (joins-from x y acc k) as (λ _. In x acc ⊎ In x (y ∷ xs)) [ inl a ↦ inl a | inr e ↦ inr (inl e) ] | inr k ↦ inr (inr k) ]

-- and no others
pub in-from_first_uses : (x : ℕ) (xs : List ℕ) → In x (first_uses xs) → In x xs
in-from_first_uses x xs h = elim (fold-from x [] xs h) as (λ _. In x xs) [ inl a ↦ absurd a | inr k ↦ k ]

pick-below : (k m : ℕ) → 0 < m → unwrap_or (if nat_lt k m then Some k else None) 0 < m
pick-below k m l =
    let cases : (b : Bool) → (b ≡ true → k < m) → unwrap_or (if b then Some k else None) 0 < m = λ b. elim b as (λ b. (b ≡ true → k < m) → unwrap_or (if b then Some k else None) 0 < m) [ true ↦ λ h. h refl | false ↦ λ h. l ] in
    cases (nat_lt k m) (ltb-true k m)

some-in : (x : ℕ) (xs : List ℕ) → In x xs → 0 < length xs
some-in x [] h = absurd h
some-in x (y ∷ ys) h = omega arith

-- an element has a number in its list
pub index-below : (x : ℕ) (xs : List ℕ) → In x xs → index_in xs x < length xs
index-below x xs h = pick-below (prefix_len (λ y. not (nat_eq x y)) xs) (length xs) (some-in x xs h)

pub every_in : (P : ℕ → Type 0) (xs : List ℕ) → ((x : ℕ) → In x xs → P x) → Every P xs
every_in P [] f = tt
every_in P (x ∷ xs) f = (f x (inl refl), every_in P xs (λ y h. f y (inr h)))

every-indices : (slots vs : List ℕ) → Every (λ v. In v slots) vs → Every (λ k. nat_lt k (length slots) ≡ true) (slots_among slots vs)
every-indices slots [] h = tt
every-indices slots (v ∷ vs) h = (lt-ltb (index_in slots v) (length slots) (index-below v slots h.0), every-indices slots vs h.1)

-- variables that are among the slots have numbers below that of the slots
pub slots_below : (slots vs : List ℕ) → ((v : ℕ) → In v vs → In v slots) → all_below (length slots) (slots_among slots vs) ≡ true
slots_below slots vs f = every_all (λ k. nat_lt k (length slots)) (slots_among slots vs) (every-indices slots vs (every_in (λ v. In v slots) vs f))

held-left : (q v : ℕ) (xs ys : List Holding) → In v (held_by q xs) → In v (held_by q (xs ++ ys))
held-left q v xs ys h = subst (In v) (sym (held-append q xs ys)) (in-left v (held_by q xs) (held_by q ys) h)

held-right : (q v : ℕ) (xs ys : List Holding) → In v (held_by q ys) → In v (held_by q (xs ++ ys))
held-right q v xs ys h = subst (In v) (sym (held-append q xs ys)) (in-right v (held_by q xs) (held_by q ys) h)

pub held-cases : (q v : ℕ) (xs ys : List Holding) → In v (held_by q (xs ++ ys)) → In v (held_by q xs) ⊎ In v (held_by q ys)
held-cases q v xs ys h = in-cases v (held_by q xs) (held_by q ys) (subst (In v) (held-append q xs ys) h)

-- a list has a mention
abbrev pub HasMention : Mention → List Mention → Type 0
HasMention p [] = ⊥
HasMention p (q ∷ qs) = (p ≡ q) ⊎ HasMention p qs

-- what a mention gives is held
pub held-from : (g : Mention → List Holding) (q v : ℕ) (p : Mention) (ps : List Mention) → HasMention p ps → In v (held_by q (g p)) → In v (held_by q (flat_map g ps))
held-from g q v p [] h k = absurd h
held-from g q v p (x ∷ xs) (inl e) k = held-left q v (g x) (flat_map g xs) (subst (λ z. In v (held_by q (g z))) e k)
held-from g q v p (x ∷ xs) (inr h) k = held-right q v (g x) (flat_map g xs) (held-from g q v p xs h k)

pub parameter_slot : (assigned : List ℕ) (ps : List Mention) (f v : ℕ) → In v (held_by f (flat_map parameter_in ps)) → In v (slots_of assigned f ps)
unfolding slots_of holdings
parameter_slot assigned ps f v h = in-first_uses v (held_by f (holdings assigned ps)) (held-left f v (flat_map parameter_in ps) (flat_map (captures_in assigned) ps ++ flat_map (variable_in assigned) ps) h)

pub capture_slot : (assigned : List ℕ) (ps : List Mention) (f v : ℕ) → In v (held_by f (flat_map (captures_in assigned) ps)) → In v (slots_of assigned f ps)
unfolding slots_of holdings
capture_slot assigned ps f v h =
    in-first_uses v (held_by f (holdings assigned ps)) (held-right f v (flat_map parameter_in ps) (flat_map (captures_in assigned) ps ++ flat_map (variable_in assigned) ps) (held-left f v (flat_map (captures_in assigned) ps) (flat_map (variable_in assigned) ps) h))

pub variable_slot : (assigned : List ℕ) (ps : List Mention) (f v : ℕ) → In v (held_by f (flat_map (variable_in assigned) ps)) → In v (slots_of assigned f ps)
unfolding slots_of holdings
variable_slot assigned ps f v h =
    in-first_uses v (held_by f (holdings assigned ps)) (held-right f v (flat_map parameter_in ps) (flat_map (captures_in assigned) ps ++ flat_map (variable_in assigned) ps) (held-right f v (flat_map (captures_in assigned) ps) (flat_map (variable_in assigned) ps) h))

var-at : (assigned : List ℕ) (f v : ℕ) (o : Option Declared) → In v (held_by f (var_of assigned o)) → In v (held_by f (variable_of assigned o))
var-at assigned f v None h = h
var-at assigned f v (Some d) h = elim (is_var d.role) as (λ b. In v (held_by f (if b then variable_of assigned (Some d) else [])) → In v (held_by f (variable_of assigned (Some d)))) [ true ↦ λ k. k | false ↦ λ k. absurd k ] h

var-held : (assigned : List ℕ) (f v : ℕ) (ps : List Mention) → In v (held_by f (flat_map (var_in assigned) ps)) → In v (held_by f (flat_map (variable_in assigned) ps))
var-held assigned f v [] h = h
var-held assigned f v (p ∷ ps) h =
    elim (held-cases f v (var_in assigned p) (flat_map (var_in assigned) ps) h) as (λ _. In v (held_by f (flat_map (variable_in assigned) (p ∷ ps)))) [
      | inl k ↦ held-left f v (variable_in assigned p) (flat_map (variable_in assigned) ps) (var-at assigned f v (variable_at p.what p.declared) k)
      | inr k ↦ held-right f v (variable_in assigned p) (flat_map (variable_in assigned) ps) (var-held assigned f v ps k)
    ]

-- a function's `var`s have slots
pub vars_fit : (ps : List Mention) (f : ℕ) → all_below (length (slots_of (assigned_in ps) f ps)) (var_slots ps f) ≡ true
unfolding vars_of
vars_fit ps f =
    let assigned = assigned_in ps in
    slots_below (slots_of assigned f ps) (vars_of assigned f ps) (λ v h. variable_slot assigned ps f v (var-held assigned f v ps (in-from_first_uses v (held_by f (flat_map (var_in assigned) ps)) h)))
