-- Where the scopes around each mention are known, its program is sound.
use Rattle.std.proofs.Common.{◌≡◌, ◌∙◌, inl, inr, ℕ, ◌<◌, List, [], ◌∷◌, ◌++◌, append_assoc, refl, ap, sym, subst, length, length-append, map, arith, Some, None, Bool, true, false, not, ◌&&◌, ◌||◌, if◌then◌else◌, nat_eq}
use Rattle.std.proofs.lemmas.Bool.{eq-eqb, eqb-false, ne_eqb, or_parts, and_right, not-false, true≢false}
use Rattle.std.proofs.lemmas.List.{length-map}
use Rattle.std.specs.Prelude.{is_some}
use Rattle.std.specs.List.{flat_map, filter_map, cons_option}
use Rattle.js_data.proofs.Shared.{known}
use Rattle.js_tree.specs.Plain.{PlainItem}
use Rattle.js_program.specs.Sound.{variable_fits, all_below, IsSound}
use Rattle.js_names.specs.declared.mention.Declared.{Declared}
use Rattle.js_names.specs.declared.mention.Role.TheVariants.{Parameter}
use Rattle.js_names.specs.declared.mention.What.{What}
use Rattle.js_names.specs.Entries.{top}
use Rattle.js_names.specs.Unresolved.{Unresolved, item_mentions, unresolved_mentions}
use Rattle.js_names.specs.Mentions.{Mention, look_up, mentions, functions_of, declared_at, test_of, is_const, is_function, is_var}
use Rattle.js_names.specs.Slots.{held_by, parameter_in, parameter_at, assigned_in, constants_of, assigned_at, offset_in, is_among, is_constant, is_begin, is_use, is_assignment, first_uses, functions_in, function_at}
use Rattle.js_names.specs.Rules.{name_fault, is_misuse}
use Rattle.js_resolver.specs.Variables.{named_at, second, around_of, capture_slots}
use Rattle.js_resolver.specs.Resolved.{constant_of, program_of_tree}
use Rattle.js_resolver.proofs.sound.Functions.{begun, captures_in_order, items_listed}
use Rattle.js_names.proofs.HeldLemmas.{held-append}
use Rattle.js_resolver.proofs.sound.Lists.{In, HasMention, in-first_uses}
use Rattle.js_resolver.proofs.sound.Found.{AllHave, IsKept, IsFound, AllFound, in_whole}
use Rattle.js_resolver.proofs.sound.Scopes.{constant-from}
use Rattle.js_resolver.proofs.sound.Alone.{declared_alone}
use Rattle.js_resolver.proofs.sound.Mentions.{IsKnown, AreSettled, unbroken, has_slot, name_fits, name_in_slot, captures_there}
use Rattle.js_resolver.proofs.sound.Room.{NoRepeats, no_repeats-first_uses, function_copies, function_there, function_room}
use Rattle.js_resolver.proofs.sound.Nodes.{slots_in, FitsAt, SlotAt, DeclaresAt, fine_of, AllFine, IsCovered, counted, is_parameter_mention}
use Rattle.js_resolver.proofs.sound.Program.{program_scopes, program_sound}

-- what is asked of the mentions of a program
pub record AreApart (items : List PlainItem) : Type 0 where
  pub settled : AreSettled (mentions items)
  pub found : AllFound (flat_map (item_mentions (program_scopes items)) items)  -- each declared name has its declaration
  pub functions : NoRepeats (begun (flat_map (item_mentions (program_scopes items)) items))  -- no two functions begin at one offset
  pub inner : In top (begun (flat_map (item_mentions (program_scopes items)) items)) → ⊥  -- and none at the offset that stands for the top level
  pub parameters : (f : ℕ) → NoRepeats (held_by f (flat_map parameter_in (mentions items)))  -- no two parameters of a function stand at one offset

begun-functions : (ss : List Unresolved) → (In top (begun ss) → ⊥) → filter_map function_at (map look_up ss) ≡ begun ss
unfolding look_up
begun-functions [] h = refl
begun-functions (s ∷ ss) h =
    let cases : (b : Bool) → (is_begin s.what ≡ b) → (In top (if b then s.around.owner ∷ begun ss else begun ss) → ⊥)
    → filter_map function_at (map look_up (s ∷ ss)) ≡ (if b then s.around.owner ∷ begun ss else begun ss) =
    λ b. elim b as (λ b. (is_begin s.what ≡ b) → (In top (if b then s.around.owner ∷ begun ss else begun ss) → ⊥) → filter_map function_at (map look_up (s ∷ ss)) ≡ (if b then s.around.owner ∷ begun ss else begun ss)) [
      | true ↦ λ e k.
          let other : nat_eq s.around.owner top ≡ false = ne_eqb s.around.owner top (λ m. k (inl (sym m))) in
          let here : function_at (look_up s) ≡ Some s.around.owner = ap (λ (b : Bool). if b && not (nat_eq s.around.owner top) then Some s.around.owner else None) e ∙ ap (λ (b : Bool). if true && not b then Some s.around.owner else None) other in
          ap (λ o. cons_option o (filter_map function_at (map look_up ss))) here ∙ ap (λ z. s.around.owner ∷ z) (begun-functions ss (λ m. k (inr m)))
      | false ↦ λ e k.
          let here : function_at (look_up s) ≡ None = ap (λ (b : Bool). if b && not (nat_eq s.around.owner top) then Some s.around.owner else None) e in
          ap (λ o. cons_option o (filter_map function_at (map look_up ss))) here ∙ begun-functions ss k
    ]
    in
    cases (is_begin s.what) refl h

-- the functions of a program are those that begin in its items
functions-begun : (items : List PlainItem) → AreApart items → functions_in (mentions items) ≡ begun (flat_map (item_mentions (program_scopes items)) items)
unfolding functions_in mentions unresolved_mentions look_up
functions-begun items h = let ss = flat_map (item_mentions (program_scopes items)) items in ap first_uses (begun-functions ss h.inner) ∙ no_repeats-first_uses (begun ss) h.functions

has-at : (before : List Mention) (q : Mention) (qs : List Mention) → HasMention q (before ++ q ∷ qs)
has-at [] q qs = inl refl
has-at (x ∷ xs) q qs = inr (has-at xs q qs)

all_have : (before : List Mention) (ss : List Unresolved) → AllHave (before ++ map look_up ss) ss
all_have before [] = tt
all_have before (s ∷ ss) = (has-at before (look_up s) (map look_up ss), subst (λ z. AllHave z ss) (append_assoc before (look_up s ∷ []) (map look_up ss)) (all_have (before ++ look_up s ∷ []) ss))

pub items_have : (items : List PlainItem) → AllHave (mentions items) (flat_map (item_mentions (program_scopes items)) items)
unfolding mentions unresolved_mentions
items_have items = all_have (look_up _ ∷ []) (flat_map (item_mentions (program_scopes items)) items)

-- variables that are not constants

is_variable : (assigned : List ℕ) (d : Declared) (rest : Bool) → is_function d.role ≡ false → (nat_eq d.owner top && rest) ≡ false → (is_function d.role || (nat_eq d.owner top && rest)) ≡ false
is_variable assigned d rest f r = ap (λ (b : Bool). b || (nat_eq d.owner top && rest)) f ∙ r

inner_variable : (assigned : List ℕ) (d : Declared) → is_function d.role ≡ false → nat_eq d.owner top ≡ false → is_constant assigned d ≡ false
inner_variable assigned d f o = is_variable assigned d _ f (ap (λ (b : Bool). b && (d.direct && not (is_among d.offset assigned))) o)

nested_variable : (assigned : List ℕ) (d : Declared) → is_function d.role ≡ false → d.direct ≡ false → is_constant assigned d ≡ false
nested_variable assigned d f e =
    is_variable assigned d _ f (ap (λ (b : Bool). nat_eq d.owner top && (b && not (is_among d.offset assigned))) e ∙ and_right (nat_eq d.owner top) false refl)

assigned_variable : (assigned : List ℕ) (d : Declared) → is_function d.role ≡ false → is_among d.offset assigned ≡ true → is_constant assigned d ≡ false
assigned_variable assigned d f e =
    is_variable assigned d _ f
    (ap (λ (b : Bool). nat_eq d.owner top && (d.direct && not b)) e ∙ (ap (λ (b : Bool). nat_eq d.owner top && b) (and_right d.direct false refl) ∙ and_right (nat_eq d.owner top) false refl))

in-among : (x : ℕ) (xs : List ℕ) → In x xs → is_among x xs ≡ true
in-among x [] h = absurd h
in-among x (y ∷ ys) (inl e) = ap (λ (b : Bool). b || is_among x ys) (eq-eqb x y e)
in-among x (y ∷ ys) (inr h) = elim (nat_eq x y) as (λ b. (b || is_among x ys) ≡ true) [ true ↦ refl | false ↦ in-among x ys h ]

-- what a mention assigns is among the assigned variables
assigned_there : (ps : List Mention) (q : Mention) (d : Declared) → HasMention q ps → is_assignment q.what ≡ true → q.declared ≡ Some d → is_among d.offset (assigned_in ps) ≡ true
unfolding assigned_in
assigned_there ps q d has a e =
    let here : assigned_at q ≡ Some d.offset = ap (λ (b : Bool). if b then offset_in q.declared else None) a ∙ ap offset_in e in
    in-among d.offset (first_uses (filter_map assigned_at ps)) (in-first_uses d.offset (filter_map assigned_at ps) (constant-from assigned_at d.offset q ps has here))

-- what is assigned has a slot
assigned_slot : (items : List PlainItem) (q : Mention) → name_fault items ≡ None → AreSettled (mentions items) → HasMention q (mentions items) → is_assignment q.what ≡ true → is_use q.what ≡ true → SlotAt (mentions items) q.around.owner q.name.spot.at
assigned_slot items q ok settled has a m =
    let ps = mentions items in
    let rules = unbroken items q ok has in
    let declared = known q.declared (not-false _ (subst (λ (b : Bool). (b && not (is_some q.declared)) ≡ false) m (or_parts _ _ rules.0).1)) in
    let d : Declared = declared.0 in
    let tested : test_of q.declared (λ d. is_const d.role || is_function d.role) ≡ false = subst (λ (b : Bool). (b && test_of q.declared (λ d. is_const d.role || is_function d.role)) ≡ false) a rules.2 in
    let fixed : (is_const d.role || is_function d.role) ≡ false = subst (λ o. test_of o (λ d. is_const d.role || is_function d.role) ≡ false) declared.1 tested in
    has_slot (slots_in ps q.around.owner) (named_at ps q.name.spot.at)
    (name_in_slot ps q d settled has declared.1 (assigned_variable (assigned_in ps) d (or_parts _ _ fixed).1 (assigned_there ps q d has a declared.1)))

-- a declared name is a variable that its function may declare
declared_mention : (items : List PlainItem) (s : Unresolved) (w : Bool) (d : Declared) → AreSettled (mentions items) → HasMention (look_up s) (mentions items) → (look_up s).declared ≡ Some d → IsKept s.around.owner w d
    → FitsAt (program_of_tree items) (mentions items) s.around.owner s.name.spot.at → DeclaresAt (program_of_tree items) (mentions items) s.around.owner s.name.spot.at w
unfolding look_up
declared_mention items s w d settled has e kept fits =
    let p = program_of_tree items in
    let ps = mentions items in
    let assigned = assigned_in ps in
    let f = s.around.owner in
    let at = s.name.spot.at in
    let in_slot : is_constant assigned d ≡ false → variable_fits (slots_in ps f) 0 (named_at ps at) ≡ true = λ c. name_in_slot ps (look_up s) d settled has e c in
    let cases : (b : Bool) → (nat_eq f top ≡ b) → variable_fits (slots_in ps f) (if b then length p.constants else 0) (named_at ps at) ≡ true =
    λ b. elim b as (λ b. (nat_eq f top ≡ b) → variable_fits (slots_in ps f) (if b then length p.constants else 0) (named_at ps at) ≡ true) [
      | true ↦ λ m. fits
      | false ↦ λ m. in_slot (inner_variable assigned d (kept.inside (eqb-false f top m)) (ap (λ g. nat_eq g top) kept.owner ∙ m))
    ]
    in
    record { declared = cases (nat_eq f top) refl; slot = λ k. let n = kept.nested k in has_slot (slots_in ps f) (named_at ps at) (in_slot (nested_variable assigned d n.1 n.0)) }

-- each mention of a program fits
fine_mention : (items : List PlainItem) (s : Unresolved) → name_fault items ≡ None → AreApart items → HasMention (look_up s) (mentions items) → IsFound s.what s → (is_begin s.what ≡ true → In s.around.owner (functions_in (mentions items))) → fine_of (program_of_tree items) (mentions items) s.what s
unfolding look_up program_of_tree
fine_mention items s ok h has found listed =
    let p = program_of_tree items in
    let ps = mentions items in
    let assigned = assigned_in ps in
    let q = look_up s in
    let same : length (constants_of assigned ps) ≡ length p.constants = sym (length-map (constants_of assigned ps) (constant_of items ps)) in
    let around_known : IsKnown ps q = h.settled.known q has in
    let fits : (d : Declared) → q.declared ≡ Some d → FitsAt p ps s.around.owner s.name.spot.at = λ d e. subst (λ n. variable_fits (slots_in ps s.around.owner) n (named_at ps s.name.spot.at) ≡ true) same (name_fits ps q d h.settled has e) in
    let rules = unbroken items q ok has in
    let used : is_use s.what ≡ true → FitsAt p ps s.around.owner s.name.spot.at = λ e.
    let declared = known q.declared (not-false _ (subst (λ (b : Bool). (b && not (is_some q.declared)) ≡ false) e (or_parts _ _ rules.0).1)) in
    fits declared.0 declared.1
    in
    let cases : (w : What) → s.what ≡ w → IsFound w s → fine_of p ps w s =
    λ w. elim w as (λ w. s.what ≡ w → IsFound w s → fine_of p ps w s) [
      | What.Declares role ↦ λ e k.
          let is : q.declared ≡ Some k.0 = ap (λ v. declared_at v s.scopes s.name.text) e ∙ k.1 in
          declared_mention items s (is_var role || in_whole s.scopes) k.0 h.settled has is k.2 (fits k.0 is)
      | What.Reads ↦ λ e k. used (ap is_use e)
      | What.Assigns ↦ λ e k. assigned_slot items q ok h.settled has (ap is_assignment e) (ap is_use e)
      | What.Misuses ↦ λ e k. absurd (true≢false (sym (ap is_misuse e) ∙ (or_parts _ _ rules.0).0))
      | What.LoopWord ↦ λ e k. tt
      | What.Returns ↦ λ e k. tt
      | What.Begins ↦ λ e k.
          let f = s.around.owner in
          let around : around_of ps f ≡ second top (functions_of s.scopes) = around_known.begins (ap is_begin e) in
          let below : all_below (slots_in ps (second top (functions_of s.scopes))) (capture_slots ps f) ≡ true = subst (λ g. all_below (slots_in ps g) (capture_slots ps f) ≡ true) around (captures_there ps f h.settled) in
          let order : captures_in_order p.functions ≡ map (capture_slots ps) (functions_in ps) = items_listed ps (program_scopes items) 0 items ∙ ap (map (capture_slots ps)) (sym (functions-begun items h)) in
          let among : In f (functions_in ps) = listed (ap is_begin e) in
          let inner : f ≡ top → ⊥ = λ m. h.inner (subst (λ z. In z (begun (flat_map (item_mentions (program_scopes items)) items))) m (subst (In f) (functions-begun items h) among)) in
          record {
            there = function_there p ps (slots_in ps (second top (functions_of s.scopes))) f order among below;
            copies = function_copies p ps f order among;
            room = function_room ps f h.settled (h.parameters f);
            inner = ne_eqb f top inner;
          }
    ]
    in
    cases s.what refl found

fine_all : (items : List PlainItem) (ss : List Unresolved) → name_fault items ≡ None → AreApart items → AllHave (mentions items) ss → AllFound ss → ((f : ℕ) → In f (begun ss) → In f (functions_in (mentions items))) → AllFine (program_of_tree items) (mentions items) ss
fine_all items [] ok h has found listed = tt
fine_all items (s ∷ ss) ok h has found listed =
    let first : is_begin s.what ≡ true → In s.around.owner (functions_in (mentions items)) = λ e. listed s.around.owner (subst (λ b. In s.around.owner (if b then s.around.owner ∷ begun ss else begun ss)) (sym e) (inl refl)) in
    let later : (f : ℕ) → In f (begun ss) → In f (begun (s ∷ ss)) = λ f m. elim (is_begin s.what) as (λ b. In f (if b then s.around.owner ∷ begun ss else begun ss)) [ true ↦ inr m | false ↦ m ] in
    (fine_mention items s ok h has.0 found.0 first, fine_all items ss ok h has.1 found.1 (λ f m. listed f (later f m)))

counted-one : (f : ℕ) (q : Mention) (w : What) → length (held_by f (parameter_at w q)) ≡ (if is_parameter_mention w && nat_eq q.around.owner f then 1 else 0)
counted-one f q (What.Declares Parameter) = elim (nat_eq q.around.owner f) as (λ b. length (if b then q.name.spot.at ∷ [] else []) ≡ (if b then 1 else 0)) [ true ↦ refl | false ↦ refl ]
counted-one f q _ = refl

-- how many parameters some mentions declare
counted-held : (f : ℕ) (ss : List Unresolved) → counted f ss ≡ length (held_by f (flat_map parameter_in (map look_up ss)))
unfolding look_up
counted-held f [] = refl
counted-held f (s ∷ ss) =
    let here = held_by f (parameter_in (look_up s)) in
    let rest = held_by f (flat_map parameter_in (map look_up ss)) in
    omega (arith, counted-one f (look_up s) s.what, counted-held f ss, ap length (held-append f (parameter_in (look_up s)) (flat_map parameter_in (map look_up ss))), length-append here rest)

-- A program with no fault of a name is sound, where the scopes around its mentions are known.
pub accepted_sound : (items : List PlainItem) → length (program_of_tree items).nodes < 4294967296 → length (program_of_tree items).functions < 4294967296 → length (program_of_tree items).constants < 4294967296
    → name_fault items ≡ None → AreApart items → IsSound (program_of_tree items)
unfolding mentions unresolved_mentions look_up
accepted_sound items ln lf lc ok h =
    let ss = flat_map (item_mentions (program_scopes items)) items in
    let listed : (f : ℕ) → In f (begun ss) → In f (functions_in (mentions items)) = λ f m. subst (In f) (sym (functions-begun items h)) m in
    let covered : IsCovered (program_of_tree items) (mentions items) ss = record { fine = fine_all items ss ok h (items_have items) h.found listed; count = λ f. omega (arith, counted-held f ss) } in
    program_sound items ln lf lc covered (declared_alone items h.functions h.inner) (omega (arith, function_room (mentions items) top h.settled (h.parameters top)))
