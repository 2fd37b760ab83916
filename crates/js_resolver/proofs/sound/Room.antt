-- A function that begins in a program is there, and its slots hold its parameters and what it copies.
use Rattle.std.proofs.Common.{◌≡◌, ◌∙◌, inl, inr, ℕ, suc, ◌+◌, ◌<◌, ◌≤◌, List, [], ◌∷◌, ◌++◌, append_assoc, append-nil, refl, ap, sym, subst, length, length-append, map, fold, arith, Option, Some, None, Bool, true, false, not, ◌||◌, if◌then◌else◌, nat_eq}
use Rattle.std.proofs.lemmas.Bool.{lt-ltb, eqb-true, eqb-false, ne_eqb}
use Rattle.std.proofs.lemmas.Option.{slice_get-map}
use Rattle.std.specs.Prelude.{is_some, unwrap_or, nat_lt, slice_get, option_map}
use Rattle.std.specs.List.{flat_map, prefix_len}
use Rattle.std.proofs.lemmas.List.Sums.{fold-append}
use Rattle.js_program.specs.PlainProgram.{PlainBody, PlainProgram}
use Rattle.js_program.specs.Sound.{all_below, captures_fit, function_fits}
use Rattle.js_names.specs.declared.mention.Role.{Role}
use Rattle.js_names.specs.declared.mention.Role.TheVariants.{Parameter}
use Rattle.js_names.specs.declared.mention.What.{What}
use Rattle.js_names.specs.Mentions.{Mention}
use Rattle.js_names.specs.Slots.{held_by, inside, is_among, joins, first_uses, assigned_in, holdings, slots_of, captures, parameter_in, parameter_at, captures_in, variable_in, functions_in}
use Rattle.js_resolver.specs.Variables.{index_in, code_at, capture_slots}
use Rattle.js_resolver.proofs.sound.Functions.{captures_in_order}
use Rattle.js_names.proofs.HeldLemmas.{held-append}
use Rattle.js_resolver.proofs.sound.Lists.{In, in-first_uses}
use Rattle.js_resolver.proofs.sound.Mentions.{IsDeclared, AreSettled, IsCopied, captured, held-mention}
use Rattle.js_resolver.proofs.sound.Nodes.{slots_in, parameter_count}

abbrev pub NoRepeats : List ℕ → Type 0
NoRepeats [] = Unit {0}
NoRepeats (x ∷ xs) = (In x xs → ⊥) × NoRepeats xs

at-prefix : (f : ℕ) (fs : List ℕ) → In f fs → (prefix_len (λ y. not (nat_eq f y)) fs < length fs) × (slice_get fs (prefix_len (λ y. not (nat_eq f y)) fs) ≡ Some f)
at-prefix f [] h = absurd h
at-prefix f (y ∷ ys) h =
    let k = prefix_len (λ y. not (nat_eq f y)) ys in
    let cases : (b : Bool) → (nat_eq f y ≡ b) → ((if not b then 1 + k else 0) < suc (length ys)) × (slice_get (y ∷ ys) (if not b then 1 + k else 0) ≡ Some f) =
    λ b. elim b as (λ b. (nat_eq f y ≡ b) → ((if not b then 1 + k else 0) < suc (length ys)) × (slice_get (y ∷ ys) (if not b then 1 + k else 0) ≡ Some f)) [
      | true ↦ λ e. (omega arith, ap Some (sym (eqb-true f y e)))
      | false ↦ λ e.
          let later : In f ys = elim h as (λ _. In f ys) [ inl m ↦ absurd (eqb-false f y e m) | inr m ↦ m ] in
          let r = at-prefix f ys later in
          let next : suc k ≡ 1 + k = omega arith in
          (omega (arith, r.0), subst (λ j. slice_get (y ∷ ys) j ≡ Some f) next r.1)
    ]
    in
    cases (nat_eq f y) refl

pick-is : (k m : ℕ) → k < m → unwrap_or (if nat_lt k m then Some k else None) 0 ≡ k
pick-is k m l = ap (λ (b : Bool). unwrap_or (if b then Some k else None) 0) (lt-ltb k m l)

at-index : (f : ℕ) (fs : List ℕ) → In f fs → slice_get fs (index_in fs f) ≡ Some f
at-index f fs h = let r = at-prefix f fs h in ap (slice_get fs) (pick-is (prefix_len (λ y. not (nat_eq f y)) fs) (length fs) r.0) ∙ r.1

copies-fit : (slots : ℕ) (o : Option PlainBody) (xs : List ℕ) → option_map (λ (c : PlainBody). c.captures) o ≡ Some xs → all_below slots xs ≡ true → captures_fit slots o ≡ true
copies-fit slots None xs e h = cc
copies-fit slots (Some b) xs e h = let d : b.captures ≡ xs = cc in subst (λ z. all_below slots z ≡ true) (sym d) h

-- a function that begins is there
pub function_copies : (p : PlainProgram) (ps : List Mention) (f : ℕ) → captures_in_order p.functions ≡ map (capture_slots ps) (functions_in ps) → In f (functions_in ps)
    → option_map (λ (c : PlainBody). c.captures) (slice_get p.functions (code_at ps f)) ≡ Some (capture_slots ps f)
unfolding code_at
function_copies p ps f e h =
    let fs = functions_in ps in
    let i = index_in fs f in
    sym (slice_get-map (λ (c : PlainBody). c.captures) p.functions i) ∙ (ap (λ xs. slice_get xs i) e ∙ (slice_get-map (capture_slots ps) fs i ∙ ap (option_map (capture_slots ps)) (at-index f fs h)))

pub function_there : (p : PlainProgram) (ps : List Mention) (slots f : ℕ) → captures_in_order p.functions ≡ map (capture_slots ps) (functions_in ps) → In f (functions_in ps) → all_below slots (capture_slots ps f) ≡ true → function_fits p slots (code_at ps f) ≡ true
function_there p ps slots f e h fits = copies-fit slots (slice_get p.functions (code_at ps f)) (capture_slots ps f) (function_copies p ps f e h) fits

-- lists with no element twice

among-not : (y : ℕ) (xs ys : List ℕ) → (In y xs → ⊥) → is_among y (xs ++ ys) ≡ is_among y ys
among-not y [] ys h = refl
among-not y (x ∷ xs) ys h = ap (λ (b : Bool). b || is_among y (xs ++ ys)) (ne_eqb y x (λ e. h (inl e))) ∙ among-not y xs ys (λ m. h (inr m))

joins-apart : (y : ℕ) (xs ys : List ℕ) → (In y xs → ⊥) → joins (xs ++ ys) y ≡ xs ++ joins ys y
joins-apart y xs ys h =
    ap (λ (b : Bool). if b then xs ++ ys else (xs ++ ys) ++ y ∷ []) (among-not y xs ys h)
    ∙ elim (is_among y ys) as (λ b. (if b then xs ++ ys else (xs ++ ys) ++ y ∷ []) ≡ xs ++ (if b then ys else ys ++ y ∷ [])) [ true ↦ refl | false ↦ append_assoc xs ys (y ∷ []) ]

fold-apart : (xs acc ys : List ℕ) → ((y : ℕ) → In y ys → In y xs → ⊥) → fold joins (xs ++ acc) ys ≡ xs ++ fold joins acc ys
fold-apart xs acc [] h = refl
fold-apart xs acc (y ∷ ys) h = ap (λ z. fold joins z ys) (joins-apart y xs acc (h y (inl refl))) ∙ fold-apart xs (joins acc y) ys (λ z m. h z (inr m))

pub no_repeats-first_uses : (xs : List ℕ) → NoRepeats xs → first_uses xs ≡ xs
no_repeats-first_uses [] h = refl
no_repeats-first_uses (x ∷ xs) h =
    let apart : (y : ℕ) → In y xs → In y (x ∷ []) → ⊥ = λ y m n. elim n as (λ _. ⊥) [ inl e ↦ h.0 (subst (λ z. In z xs) e m) | inr e ↦ e ] in
    fold-apart (x ∷ []) [] xs apart ∙ ap (λ z. x ∷ z) (no_repeats-first_uses xs h.1)

joins-longer : (acc : List ℕ) (y : ℕ) → length acc ≤ length (joins acc y)
joins-longer acc y = elim (is_among y acc) as (λ b. length acc ≤ length (if b then acc else acc ++ y ∷ [])) [ true ↦ omega arith | false ↦ omega (arith, length-append acc (y ∷ [])) ]

fold-longer : (acc xs : List ℕ) → length acc ≤ length (fold joins acc xs)
fold-longer acc [] = omega arith
fold-longer acc (x ∷ xs) = omega (arith, joins-longer acc x, fold-longer (joins acc x) xs)

room-for : (xs ys zs : List ℕ) → NoRepeats xs → ((y : ℕ) → In y ys → In y xs → ⊥) → length xs + length (first_uses ys) ≤ length (first_uses (xs ++ (ys ++ zs)))
room-for xs ys zs h apart =
    let e : first_uses (xs ++ (ys ++ zs)) ≡ fold joins (fold joins (first_uses xs) ys) zs = fold-append joins [] xs (ys ++ zs) ∙ fold-append joins (first_uses xs) ys zs in
    let d : fold joins (first_uses xs) ys ≡ xs ++ first_uses ys = ap (λ z. fold joins z ys) (no_repeats-first_uses xs h ∙ sym (append-nil xs)) ∙ fold-apart xs [] ys apart in
    omega (arith, ap length e, ap length d, length-append xs (first_uses ys), fold-longer (fold joins (first_uses xs) ys) zs)

inside-apart : (owner f : ℕ) (fs : List ℕ) → In f (inside owner fs) → f ≡ owner → ⊥
inside-apart owner f [] h e = h
inside-apart owner f (g ∷ gs) h e =
    let cases : (b : Bool) → (nat_eq g owner ≡ b) → In f (if b then [] else g ∷ inside owner gs) → ⊥ =
    λ b. elim b as (λ b. (nat_eq g owner ≡ b) → In f (if b then [] else g ∷ inside owner gs) → ⊥)
    [ true ↦ λ m k. k | false ↦ λ m k. elim k as (λ _. ⊥) [ inl n ↦ eqb-false g owner m (sym n ∙ e) | inr n ↦ inside-apart owner f gs n e ] ]
    in
    cases (nat_eq g owner) refl h

-- the parameter of a function that a mention declares
parameter-held : (q : Mention) (f v : ℕ) (w : What) → q.what ≡ w → In v (held_by f (parameter_at w q)) → (role : Role) × (q.what ≡ What.Declares role) × (q.around.owner ≡ f) × (v ≡ q.name.spot.at)
parameter-held q f v (What.Declares Parameter) e h =
    let cases : (b : Bool) → (nat_eq q.around.owner f ≡ b) → In v (if b then q.name.spot.at ∷ [] else []) → (role : Role) × (q.what ≡ What.Declares role) × (q.around.owner ≡ f) × (v ≡ q.name.spot.at) =
    λ b. elim b as (λ b. (nat_eq q.around.owner f ≡ b) → In v (if b then q.name.spot.at ∷ [] else []) → (role : Role) × (q.what ≡ What.Declares role) × (q.around.owner ≡ f) × (v ≡ q.name.spot.at))
    [ true ↦ λ m k. elim k as (λ _. (role : Role) × (q.what ≡ What.Declares role) × (q.around.owner ≡ f) × (v ≡ q.name.spot.at)) [ inl n ↦ (Parameter, e, eqb-true q.around.owner f m, n) | inr n ↦ absurd n ] | false ↦ λ m k. absurd k ]
    in
    cases (nat_eq q.around.owner f) refl h
parameter-held q f v _ e h = absurd h

-- the slots of a function hold its parameters and what it copies
pub function_room : (ps : List Mention) (f : ℕ) → AreSettled ps → NoRepeats (held_by f (flat_map parameter_in ps)) → parameter_count ps f + length (captures (assigned_in ps) f ps) ≤ slots_in ps f
unfolding captures slots_of holdings
function_room ps f h alone =
    let assigned = assigned_in ps in
    let xs = held_by f (flat_map parameter_in ps) in
    let ys = held_by f (flat_map (captures_in assigned) ps) in
    let zs = held_by f (flat_map (variable_in assigned) ps) in
    let all : held_by f (holdings assigned ps) ≡ xs ++ (ys ++ zs) =
    held-append f (flat_map parameter_in ps) (flat_map (captures_in assigned) ps ++ flat_map (variable_in assigned) ps) ∙ ap (λ z. xs ++ z) (held-append f (flat_map (captures_in assigned) ps) (flat_map (variable_in assigned) ps))
    in
    let apart : (v : ℕ) → In v ys → In v xs → ⊥ = λ v m n.
    let c : IsCopied ps f v = captured ps f v (in-first_uses v ys m) in
    let q = held-mention parameter_in f v ps n in
    let own = parameter-held q.0 f v q.0.what refl q.2 in
    let there = (h.known q.0 q.1).declares own.0 own.1 in
    let d : IsDeclared ps c.declared = ((h.known c.mention c.has).found c.declared c.is).0 in
    let same : q.0.around.owner ≡ d.mention.around.owner = ap (λ (z : Mention). z.around.owner) (h.apart q.0 d.mention q.1 d.has (ap is_some there.1) d.named (sym own.3 ∙ (c.variable ∙ sym d.spot))) in
    inside-apart c.declared.owner f c.mention.functions c.within (sym own.2 ∙ (same ∙ d.owner))
    in
    subst (λ z. length xs + length (first_uses ys) ≤ length (first_uses z)) (sym all) (room-for xs ys zs alone apart)
