-- What a mention names is there, where no rule of names is broken.
use Rattle.std.proofs.Common.{◌≡◌, ◌∙◌, ◌⊎◌, inl, inr, ℕ, List, [], ◌∷◌, refl, ap, sym, subst, length, fold, arith, Option, Some, None, Bool, true, false, not, ◌&&◌, if◌then◌else◌, nat_eq}
use Rattle.std.proofs.lemmas.Bool.{lt-ltb, ltb-true, eqb-true, eqb-false, eq-eqb, and_from, and_parts, ne_eqb, not-true, not-false, false≢true, true≢false}
use Rattle.std.specs.Prelude.{is_some, unwrap_or, nat_lt}
use Rattle.std.specs.List.{flat_map}
use Rattle.js_tree.specs.Plain.{PlainItem}
use Rattle.js_program.specs.declared.node.Variable.{Variable}
use Rattle.js_program.specs.declared.node.Variable.TheVariants.{Slot, Constant}
use Rattle.js_program.specs.Sound.{variable_fits, all_below}
use Rattle.js_names.specs.declared.mention.Declared.{Declared}
use Rattle.js_names.specs.declared.mention.NameFault.{NameFault}
use Rattle.js_names.specs.declared.mention.Role.{Role}
use Rattle.js_names.specs.declared.mention.What.{What}
use Rattle.js_names.specs.Entries.{top}
use Rattle.js_names.specs.Mentions.{Mention, or_else, test_of, mentions}
use Rattle.js_names.specs.Slots.{Holding, held_by, holds_all, inside, assigned_in, is_constant, is_outer, can_copy, copies, is_use, is_begin, captures, captures_in, captures_of, constants_of, slots_of, slot_count}
use Rattle.js_names.specs.Rules.{fails_unknown, fails_capture, fails_twice, fails_const, fault_at, sooner, comes_before, name_fault}
use Rattle.js_resolver.specs.Variables.{index_in, slot_of, variable_with, named_by, known_here, known_in, name_key, named, named_at, second, around_of, capture_slots}
use Rattle.js_resolver.proofs.sound.Lists.{In, HasMention, index-below, in-from_first_uses, capture_slot, held-from, held-cases, slots_below}

-- a declaration of a program: a constant of it, or in a slot of its function, and its name stands there
pub record IsDeclared (ps : List Mention) (d : Declared) : Type 0 where
  pub constant : is_constant (assigned_in ps) d ≡ true → In d.offset (constants_of (assigned_in ps) ps)
  pub slot : is_constant (assigned_in ps) d ≡ false → In d.offset (slots_of (assigned_in ps) d.owner ps)
  pub mention : Mention
  pub has : HasMention mention ps
  pub spot : mention.name.spot.at ≡ d.offset
  pub owner : mention.around.owner ≡ d.owner
  pub named : is_some mention.declared ≡ true

-- each function has the next one around it
abbrev pub IsChain : List Mention → List ℕ → Type 0
IsChain ps [] = Unit {0}
IsChain ps (f ∷ []) = Unit {0}
IsChain ps (f ∷ g ∷ gs) = (around_of ps f ≡ g) × IsChain ps (g ∷ gs)

abbrev pub is_name : What → Bool
is_name (What.Declares role) = true
is_name What.Reads = true
is_name What.Assigns = true
is_name _ = false

-- what the scopes around a mention say of it
pub record IsKnown (ps : List Mention) (q : Mention) : Type 0 where
  pub outer : List ℕ
  pub within : q.functions ≡ q.around.owner ∷ outer
  pub chain : IsChain ps q.functions
  pub found : (d : Declared) → q.declared ≡ Some d → IsDeclared ps d × In d.owner q.functions
  pub declares : (role : Role) → q.what ≡ What.Declares role → (d : Declared) × (q.declared ≡ Some d) × (d.owner ≡ q.around.owner)
  pub silent : is_name q.what ≡ false → q.declared ≡ None
  pub begins : is_begin q.what ≡ true → around_of ps q.around.owner ≡ second top q.functions

-- no rule is broken

pub sooner_none : (a b : Option NameFault) → sooner a b ≡ None → (a ≡ None) × (b ≡ None)
sooner_none None b h = (refl, h)
sooner_none (Some f) None h = cc
sooner_none (Some f) (Some g) h = elim (comes_before g f) as (λ b. (if b then Some g else Some f) ≡ None → (Some f ≡ None) × (Some g ≡ None)) [ true ↦ λ k. cc | false ↦ λ k. cc ] h

soonest_from : (F : Mention → Option NameFault) (acc : Option NameFault) (ps : List Mention) → fold (λ f q. sooner f (F q)) acc ps ≡ None → (acc ≡ None) × ((q : Mention) → HasMention q ps → F q ≡ None)
soonest_from F acc [] h = (h, λ q k. absurd k)
soonest_from F acc (x ∷ xs) h =
    let r = soonest_from F (sooner acc (F x)) xs h in
    let s = sooner_none acc (F x) r.0 in
    (s.0, λ q k. elim k as (λ _. F q ≡ None) [ inl e ↦ ap F e ∙ s.1 | inr m ↦ r.1 q m ])

-- what the first rules say of a mention that breaks none
first_rules : (a b c d : Bool) (w x y z : NameFault) (rest : Option NameFault) → (if a then Some w else (if b then Some x else (if c then Some y else (if d then Some z else rest)))) ≡ None → (a ≡ false) × (d ≡ false) × (c ≡ false)
first_rules true b c d w x y z rest h = cc
first_rules false true c d w x y z rest h = cc
first_rules false false true d w x y z rest h = cc
first_rules false false false true w x y z rest h = cc
first_rules false false false false w x y z rest h = (refl, refl, refl)

pub unbroken : (items : List PlainItem) (q : Mention) → name_fault items ≡ None → HasMention q (mentions items) → (fails_unknown q ≡ false) × (fails_capture (assigned_in (mentions items)) q ≡ false) × (fails_const q ≡ false)
unfolding name_fault fault_at
unbroken items q h k =
    let ps = mentions items in
    let assigned = assigned_in ps in
    let e = (soonest_from (fault_at assigned (slot_count assigned ps)) None ps h).1 q k in
    first_rules (fails_unknown q) (fails_twice q) (fails_const q) (fails_capture assigned q) _ _ _ _ _ e

-- a variable that is among the constants, or among the slots
with_fits : (assigned constants slots : List ℕ) (d : Declared) → (is_constant assigned d ≡ true → In d.offset constants) → (is_constant assigned d ≡ false → In d.offset slots) → variable_fits (length slots) (length constants) (variable_with assigned constants slots d) ≡ true
with_fits assigned constants slots d f g =
    let cases : (b : Bool) → (b ≡ true → In d.offset constants) → (b ≡ false → In d.offset slots) → variable_fits (length slots) (length constants) (if b then Constant (index_in constants d.offset) else Slot (index_in slots d.offset)) ≡ true =
    λ b. elim b as (λ b. (b ≡ true → In d.offset constants) → (b ≡ false → In d.offset slots) → variable_fits (length slots) (length constants) (if b then Constant (index_in constants d.offset) else Slot (index_in slots d.offset)) ≡ true)
    [ true ↦ λ m n. lt-ltb _ _ (index-below d.offset constants (m refl)) | false ↦ λ m n. lt-ltb _ _ (index-below d.offset slots (n refl)) ]
    in
    cases (is_constant assigned d) f g

-- a variable that is not a constant
slot_fits : (assigned constants slots : List ℕ) (d : Declared) → is_constant assigned d ≡ false → In d.offset slots → variable_fits (length slots) 0 (variable_with assigned constants slots d) ≡ true
slot_fits assigned constants slots d e h =
    subst (λ b. variable_fits (length slots) 0 (if b then Constant (index_in constants d.offset) else Slot (index_in slots d.offset)) ≡ true) (sym e) (lt-ltb _ _ (index-below d.offset slots h))

-- what fits where there are not constants has a slot
pub has_slot : (slots : ℕ) (v : Variable) → variable_fits slots 0 v ≡ true → nat_lt (slot_of v) slots ≡ true
has_slot slots (Slot n) h = h
has_slot slots (Constant n) h = absurd (omega (arith, ltb-true n 0 h))

holds-in : (f v : ℕ) (fs : List ℕ) → In f fs → In v (held_by f (holds_all v fs))
holds-in f v [] h = absurd h
holds-in f v (g ∷ gs) h =
    let cases : (b : Bool) → (nat_eq g f ≡ b) → In v (if b then v ∷ held_by f (holds_all v gs) else held_by f (holds_all v gs)) =
    λ b. elim b as (λ b. (nat_eq g f ≡ b) → In v (if b then v ∷ held_by f (holds_all v gs) else held_by f (holds_all v gs))) [
      | true ↦ λ e. inl refl
      | false ↦ λ e. elim h as (λ _. In v (held_by f (holds_all v gs))) [ inl m ↦ absurd (false≢true (sym e ∙ eq-eqb g f (sym m))) | inr m ↦ holds-in f v gs m ]
    ]
    in
    cases (nat_eq g f) refl

holds-from : (f v w : ℕ) (fs : List ℕ) → In w (held_by f (holds_all v fs)) → (w ≡ v) × In f fs
holds-from f v w [] h = absurd h
holds-from f v w (g ∷ gs) h =
    let cases : (b : Bool) → (nat_eq g f ≡ b) → In w (if b then v ∷ held_by f (holds_all v gs) else held_by f (holds_all v gs)) → (w ≡ v) × In f (g ∷ gs) =
    λ b. elim b as (λ b. (nat_eq g f ≡ b) → In w (if b then v ∷ held_by f (holds_all v gs) else held_by f (holds_all v gs)) → (w ≡ v) × In f (g ∷ gs)) [
      | true ↦ λ e k. elim k as (λ _. (w ≡ v) × In f (g ∷ gs)) [ inl m ↦ (m, inl (sym (eqb-true g f e))) | inr m ↦ let r = holds-from f v w gs m in (r.0, inr r.1) ]
      | false ↦ λ e k. let r = holds-from f v w gs k in (r.0, inr r.1)
    ]
    in
    cases (nat_eq g f) refl h

-- a function that isn't the owner holds what its own mentions use
inside-first : (owner f : ℕ) (fs : List ℕ) → nat_eq f owner ≡ false → In f (inside owner (f ∷ fs))
inside-first owner f fs e = subst (λ b. In f (if b then [] else f ∷ inside owner fs)) (sym e) (inl refl)

copied : (assigned : List ℕ) (q : Mention) (d : Declared) (f : ℕ) → q.declared ≡ Some d → copies assigned q d ≡ true → In f (inside d.owner q.functions) → In d.offset (held_by f (captures_in assigned q))
copied assigned q d f e c h =
    subst (λ o. In d.offset (held_by f (captures_of assigned q o))) (sym e) (subst (λ b. In d.offset (held_by f (if b then holds_all d.offset (inside d.owner q.functions) else []))) (sym c) (holds-in f d.offset (inside d.owner q.functions) h))

-- a variable that a mention uses has a slot in its function, unless it is a constant
use_slot : (ps : List Mention) (q : Mention) (d : Declared) → HasMention q ps → IsKnown ps q → fails_capture (assigned_in ps) q ≡ false → is_use q.what ≡ true → q.declared ≡ Some d
    → is_constant (assigned_in ps) d ≡ false → In d.offset (slots_of (assigned_in ps) q.around.owner ps)
use_slot ps q d has k capture uses e c =
    let assigned = assigned_in ps in
    let declared : IsDeclared ps d = (k.found d e).0 in
    let cases : (b : Bool) → (nat_eq d.owner q.around.owner ≡ b) → In d.offset (slots_of assigned q.around.owner ps) =
    λ b. elim b as (λ b. (nat_eq d.owner q.around.owner ≡ b) → In d.offset (slots_of assigned q.around.owner ps)) [
      | true ↦ λ m. subst (λ f. In d.offset (slots_of assigned f ps)) (eqb-true d.owner q.around.owner m) (declared.slot c)
      | false ↦ λ m.
          let outer : is_outer assigned q d ≡ true = rw m (rw c refl) in
          let tested : (is_outer assigned q d && not (can_copy assigned d q.around.owner)) ≡ false =
          subst (λ (b : Bool). (b && (is_outer assigned q d && not (can_copy assigned d q.around.owner))) ≡ false) uses (subst (λ o. (is_use q.what && test_of o (λ d. is_outer assigned q d && not (can_copy assigned d q.around.owner))) ≡ false) e capture)
          in
          let copy : can_copy assigned d q.around.owner ≡ true = not-false _ (subst (λ (b : Bool). (b && not (can_copy assigned d q.around.owner)) ≡ false) outer tested) in
          let all : copies assigned q d ≡ true = and_from _ _ uses (and_from _ _ outer copy) in
          let apart : nat_eq q.around.owner d.owner ≡ false = ne_eqb q.around.owner d.owner (λ z. eqb-false d.owner q.around.owner m (sym z)) in
          let first : In q.around.owner (inside d.owner q.functions) = subst (λ fs. In q.around.owner (inside d.owner fs)) (sym k.within) (inside-first d.owner q.around.owner k.outer apart) in
          capture_slot assigned ps q.around.owner d.offset (held-from (captures_in assigned) q.around.owner d.offset q ps has (copied assigned q d q.around.owner e all first))
    ]
    in
    cases (nat_eq d.owner q.around.owner) refl

-- and so has the variable of any name
pub name_slot : (ps : List Mention) (q : Mention) (d : Declared) → HasMention q ps → IsKnown ps q → fails_capture (assigned_in ps) q ≡ false → q.declared ≡ Some d → is_constant (assigned_in ps) d ≡ false → In d.offset (slots_of (assigned_in ps) q.around.owner ps)
name_slot ps q d has k capture e c =
    let assigned = assigned_in ps in
    let here : (w : What) → q.what ≡ w → In d.offset (slots_of assigned q.around.owner ps) =
    λ w. elim w as (λ w. q.what ≡ w → In d.offset (slots_of assigned q.around.owner ps)) [
      | What.Declares role ↦ λ m.
          let r = k.declares role m in
          let same : d ≡ r.0 = cc in
          subst (λ f. In d.offset (slots_of assigned f ps)) (ap (λ (x : Declared). x.owner) same ∙ r.2) ((k.found d e).0.slot c)
      | What.Reads ↦ λ m. use_slot ps q d has k capture (ap is_use m) e c
      | What.Assigns ↦ λ m. use_slot ps q d has k capture (ap is_use m) e c
      | What.Misuses ↦ λ m. let z = k.silent (ap is_name m) in cc
      | What.LoopWord ↦ λ m. let z = k.silent (ap is_name m) in cc
      | What.Returns ↦ λ m. let z = k.silent (ap is_name m) in cc
      | What.Begins ↦ λ m. let z = k.silent (ap is_name m) in cc
    ]
    in
    here q.what refl

-- the first mention that knows something of a key
pub known-found : {A : Type 0} (key : Mention → ℕ) (value : Mention → Option A) (at : ℕ) (ps : List Mention) (q : Mention) (v : A) → HasMention q ps → key q ≡ at → value q ≡ Some v
    → (r : Mention) × (w : A) × HasMention r ps × (key r ≡ at) × (value r ≡ Some w) × (known_in key value at ps ≡ Some w)
known-found key value at [] q v h e f = absurd h
known-found {A = A} key value at (x ∷ xs) q v h e f =
    let rest : (value x ≡ None) ⊎ (nat_eq (key x) at ≡ false) → (known_here key value at x ≡ None) → (r : Mention) × (w : A) × HasMention r (x ∷ xs) × (key r ≡ at) × (value r ≡ Some w) × (known_in key value at (x ∷ xs) ≡ Some w) =
    λ no none.
    elim h as (λ _. (r : Mention) × (w : A) × HasMention r (x ∷ xs) × (key r ≡ at) × (value r ≡ Some w) × (known_in key value at (x ∷ xs) ≡ Some w)) [
      | inl same ↦ elim no as (λ _. (r : Mention) × (w : A) × HasMention r (x ∷ xs) × (key r ≡ at) × (value r ≡ Some w) × (known_in key value at (x ∷ xs) ≡ Some w)) [
        | inl m ↦ let z : Some v ≡ None = sym f ∙ (ap value same ∙ m) in cc
        | inr m ↦ absurd (true≢false (sym (eq-eqb (key x) at (sym (ap key same) ∙ e)) ∙ m))
      ]
      | inr k ↦ let g = known-found key value at xs q v k e f in (g.0, g.1, inr g.2, g.3, g.4, ap (λ o. or_else o (known_in key value at xs)) none ∙ g.5)
    ]
    in
    let cases : (b : Bool) → (nat_eq (key x) at ≡ b) → (o : Option A) → (value x ≡ o) → (r : Mention) × (w : A) × HasMention r (x ∷ xs) × (key r ≡ at) × (value r ≡ Some w) × (known_in key value at (x ∷ xs) ≡ Some w) =
    λ b. elim b as (λ b. (nat_eq (key x) at ≡ b) → (o : Option A) → (value x ≡ o) → (r : Mention) × (w : A) × HasMention r (x ∷ xs) × (key r ≡ at) × (value r ≡ Some w) × (known_in key value at (x ∷ xs) ≡ Some w)) [
      | true ↦ λ m o. elim o as (λ o. (value x ≡ o) → (r : Mention) × (w : A) × HasMention r (x ∷ xs) × (key r ≡ at) × (value r ≡ Some w) × (known_in key value at (x ∷ xs) ≡ Some w)) [
        | None ↦ λ n. rest (inl n) (ap (λ (b : Bool). if b then value x else None) m ∙ n)
        | Some w ↦ λ n. (x, w, inl refl, eqb-true (key x) at m, n, ap (λ o. or_else o (known_in key value at xs)) (ap (λ (b : Bool). if b then value x else None) m ∙ n))
      ]
      | false ↦ λ m o n. rest (inr m) (ap (λ (b : Bool). if b then value x else None) m)
    ]
    in
    cases (nat_eq (key x) at) refl (value x) refl

-- the mentions of a program, with the scopes around them, break no rule of captures, and names at one offset of the text are of one function
pub record AreSettled (ps : List Mention) : Type 0 where
  pub known : (q : Mention) → HasMention q ps → IsKnown ps q
  pub capture : (q : Mention) → HasMention q ps → fails_capture (assigned_in ps) q ≡ false
  pub apart : (q r : Mention) → HasMention q ps → HasMention r ps → is_some q.declared ≡ true → is_some r.declared ≡ true → q.name.spot.at ≡ r.name.spot.at → q ≡ r

named-declared : (assigned constants slots : List ℕ) (o : Option Declared) (v : Variable) → named_by assigned constants slots o ≡ Some v → (d : Declared) × (o ≡ Some d) × (variable_with assigned constants slots d ≡ v)
named-declared assigned constants slots None v e = cc
named-declared assigned constants slots (Some d) v e = (d, refl, cc)

-- the name at an offset of the text stands for what the mention declares
named_as : (ps : List Mention) (q : Mention) (d : Declared) → AreSettled ps → HasMention q ps → q.declared ≡ Some d
    → named_at ps q.name.spot.at ≡ variable_with (assigned_in ps) (constants_of (assigned_in ps) ps) (slots_of (assigned_in ps) q.around.owner ps) d
unfolding named_at
named_as ps q d h has e =
    let assigned = assigned_in ps in
    let constants = constants_of assigned ps in
    let slots = λ (f : ℕ). slots_of assigned f ps in
    let v = variable_with assigned constants (slots q.around.owner) d in
    let known = known-found name_key (named ps) q.name.spot.at ps q v has refl (ap (named_by assigned constants (slots q.around.owner)) e) in
    let r : Mention = known.0 in
    let w : Variable = known.1 in
    let m = named-declared assigned constants (slots r.around.owner) r.declared w known.4 in
    let same : r ≡ q = h.apart r q known.2 has (ap is_some m.1) (ap is_some e) known.3 in
    let there : Some m.0 ≡ Some d = sym m.1 ∙ (ap (λ (z : Mention). z.declared) same ∙ e) in
    let is : m.0 ≡ d = cc in
    ap (λ o. unwrap_or o (Slot 0)) known.5 ∙ (sym m.2 ∙ (ap (variable_with assigned constants (slots r.around.owner)) is ∙ ap (λ (z : Mention). variable_with assigned constants (slots z.around.owner) d) same))

-- that is there
pub name_fits : (ps : List Mention) (q : Mention) (d : Declared) → AreSettled ps → HasMention q ps → q.declared ≡ Some d
    → variable_fits (length (slots_of (assigned_in ps) q.around.owner ps)) (length (constants_of (assigned_in ps) ps)) (named_at ps q.name.spot.at) ≡ true
name_fits ps q d h has e =
    let assigned = assigned_in ps in
    let constants = constants_of assigned ps in
    let slots = slots_of assigned q.around.owner ps in
    subst (λ z. variable_fits (length slots) (length constants) z ≡ true) (sym (named_as ps q d h has e)) (with_fits assigned constants slots d ((h.known q has).found d e).0.constant (name_slot ps q d has (h.known q has) (h.capture q has) e))

-- and it is one in a slot, unless it is a constant
pub name_in_slot : (ps : List Mention) (q : Mention) (d : Declared) → AreSettled ps → HasMention q ps → q.declared ≡ Some d → is_constant (assigned_in ps) d ≡ false → variable_fits (length (slots_of (assigned_in ps) q.around.owner ps)) 0 (named_at ps q.name.spot.at) ≡ true
name_in_slot ps q d h has e constant =
    let assigned = assigned_in ps in
    let constants = constants_of assigned ps in
    let slots = slots_of assigned q.around.owner ps in
    subst (λ z. variable_fits (length slots) 0 z ≡ true) (sym (named_as ps q d h has e)) (slot_fits assigned constants slots d constant (name_slot ps q d has (h.known q has) (h.capture q has) e constant))

-- what a function copies for a mention, the function around it copies too, unless it declares that
chain-next : (ps : List Mention) (owner f : ℕ) (fs : List ℕ) → IsChain ps fs → In f (inside owner fs) → In owner fs → (around_of ps f ≡ owner) ⊎ In (around_of ps f) (inside owner fs)
chain-next ps owner f [] c h o = absurd h
chain-next ps owner f (g ∷ []) c h o =
    let cases : (b : Bool) → (nat_eq g owner ≡ b) → In f (if b then [] else g ∷ []) → (around_of ps f ≡ owner) ⊎ In (around_of ps f) (inside owner (g ∷ [])) =
    λ b. elim b as (λ b. (nat_eq g owner ≡ b) → In f (if b then [] else g ∷ []) → (around_of ps f ≡ owner) ⊎ In (around_of ps f) (inside owner (g ∷ []))) [
      | true ↦ λ m k. absurd k
      | false ↦ λ m k. elim o as (λ _. (around_of ps f ≡ owner) ⊎ In (around_of ps f) (inside owner (g ∷ []))) [ inl e ↦ absurd (eqb-false g owner m (sym e)) | inr e ↦ absurd e ]
    ]
    in
    cases (nat_eq g owner) refl h
chain-next ps owner f (g ∷ i ∷ is) c h o =
    let Goal : Type 0 = (around_of ps f ≡ owner) ⊎ In (around_of ps f) (inside owner (g ∷ i ∷ is)) in
    let cases : (b : Bool) → (nat_eq g owner ≡ b) → In f (if b then [] else g ∷ inside owner (i ∷ is)) → Goal =
    λ b. elim b as (λ b. (nat_eq g owner ≡ b) → In f (if b then [] else g ∷ inside owner (i ∷ is)) → Goal) [
      | true ↦ λ m k. absurd k
      | false ↦ λ m k.
          let later : In owner (i ∷ is) = elim o as (λ _. In owner (i ∷ is)) [ inl e ↦ absurd (eqb-false g owner m (sym e)) | inr e ↦ e ] in
          let wider : (x : ℕ) → In x (inside owner (i ∷ is)) → In x (inside owner (g ∷ i ∷ is)) = λ x n. subst (λ b. In x (if b then [] else g ∷ inside owner (i ∷ is))) (sym m) (inr n) in
          elim k as (λ _. Goal) [
            | inl e ↦
                let around : around_of ps f ≡ i = ap (around_of ps) e ∙ c.0 in
                let step : (b : Bool) → (nat_eq i owner ≡ b) → Goal =
                λ b. elim b as (λ b. (nat_eq i owner ≡ b) → Goal) [ true ↦ λ n. inl (around ∙ eqb-true i owner n) | false ↦ λ n. inr (wider (around_of ps f) (subst (λ x. In x (inside owner (i ∷ is))) (sym around) (inside-first owner i is n))) ]
                in
                step (nat_eq i owner) refl
            | inr e ↦ elim (chain-next ps owner f (i ∷ is) c.1 e later) as (λ _. Goal) [ inl z ↦ inl z | inr z ↦ inr (wider (around_of ps f) z) ]
          ]
    ]
    in
    cases (nat_eq g owner) refl h

-- where a captured variable comes from
pub record IsCopied (ps : List Mention) (f v : ℕ) : Type 0 where
  pub mention : Mention
  pub has : HasMention mention ps
  pub declared : Declared
  pub is : mention.declared ≡ Some declared
  pub copies : copies (assigned_in ps) mention declared ≡ true
  pub variable : v ≡ declared.offset
  pub within : In f (inside declared.owner mention.functions)

captured-here : (assigned : List ℕ) (q : Mention) (f v : ℕ) (o : Option Declared) → In v (held_by f (captures_of assigned q o)) → (d : Declared) × (o ≡ Some d) × (copies assigned q d ≡ true) × (v ≡ d.offset) × In f (inside d.owner q.functions)
captured-here assigned q f v None h = absurd h
captured-here assigned q f v (Some d) h =
    let Goal : Type 0 = (c : Declared) × (Some d ≡ Some c) × (copies assigned q c ≡ true) × (v ≡ c.offset) × In f (inside c.owner q.functions) in
    let cases : (b : Bool) → (copies assigned q d ≡ b) → In v (held_by f (if b then holds_all d.offset (inside d.owner q.functions) else [])) → Goal =
    λ b. elim b as (λ b. (copies assigned q d ≡ b) → In v (held_by f (if b then holds_all d.offset (inside d.owner q.functions) else [])) → Goal)
    [ true ↦ λ e k. let r = holds-from f d.offset v (inside d.owner q.functions) k in (d, refl, e, r.0, r.1) | false ↦ λ e k. absurd k ]
    in
    cases (copies assigned q d) refl h

pub held-mention : (g : Mention → List Holding) (f v : ℕ) (ps : List Mention) → In v (held_by f (flat_map g ps)) → (q : Mention) × HasMention q ps × In v (held_by f (g q))
held-mention g f v [] h = absurd h
held-mention g f v (x ∷ xs) h =
    elim (held-cases f v (g x) (flat_map g xs) h) as (λ _. (q : Mention) × HasMention q (x ∷ xs) × In v (held_by f (g q))) [ inl k ↦ (x, inl refl, k) | inr k ↦ let r = held-mention g f v xs k in (r.0, inr r.1, r.2) ]

pub captured : (ps : List Mention) (f v : ℕ) → In v (captures (assigned_in ps) f ps) → IsCopied ps f v
unfolding captures
captured ps f v h =
    let assigned = assigned_in ps in
    let q = held-mention (captures_in assigned) f v ps (in-from_first_uses v (held_by f (flat_map (captures_in assigned) ps)) h) in
    let c = captured-here assigned q.0 f v q.0.declared q.2 in
    record { mention = q.0; has = q.1; declared = c.0; is = c.1; copies = c.2; variable = c.3; within = c.4 }

-- the function around a function has a slot for each value that this one copies
pub captures_there : (ps : List Mention) (f : ℕ) → AreSettled ps → all_below (length (slots_of (assigned_in ps) (around_of ps f) ps)) (capture_slots ps f) ≡ true
captures_there ps f h =
    let assigned = assigned_in ps in
    let each : (v : ℕ) → In v (captures assigned f ps) → In v (slots_of assigned (around_of ps f) ps) = λ v m.
    let c = captured ps f v m in
    let d = c.declared in
    let k = h.known c.mention c.has in
    let found = k.found d c.is in
    let outer = (and_parts _ _ (and_parts (is_use c.mention.what) _ c.copies).1).0 in
    let constant : is_constant assigned d ≡ false = not-true _ (and_parts _ _ outer).1 in
    subst (λ z. In z (slots_of assigned (around_of ps f) ps)) (sym c.variable)
    (elim (chain-next ps d.owner f c.mention.functions k.chain c.within found.1) as (λ _. In d.offset (slots_of assigned (around_of ps f) ps)) [
      | inl e ↦ subst (λ g. In d.offset (slots_of assigned g ps)) (sym e) (found.0.slot constant)
      | inr e ↦ capture_slot assigned ps (around_of ps f) d.offset (held-from (captures_in assigned) (around_of ps f) d.offset c.mention ps c.has (copied assigned c.mention d (around_of ps f) c.is c.copies e))
    ])
    in
    slots_below (slots_of assigned (around_of ps f) ps) (captures assigned f ps) each
