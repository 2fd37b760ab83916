-- A program whose mentions fit is sound.
use Rattle.std.proofs.Common.{◌≡◌, ◌∙◌, ℕ, ◌+◌, ◌<◌, ◌≤◌, List, [], ◌∷◌, refl, ap, subst, length, map, arith, Option, Some, None, Bool, true, false, if◌then◌else◌, nat_eq}
use Rattle.std.proofs.lemmas.Bool.{le-leb, and_from}
use Rattle.std.specs.Prelude.{option_map, slice_get}
use Rattle.std.specs.List.{list_all, flat_map}
use Rattle.js_tree.specs.Plain.{PlainItem, statement, function_of}
use Rattle.js_program.specs.PlainProgram.{PlainNode, PlainBody, PlainProgram, PlainConstant, of_function, undeclared, unset}
use Rattle.js_program.specs.Sound.{node_fits, captures_nothing, constant_fits, IsSound}
use Rattle.js_names.specs.declared.mention.Declared.{Declared}
use Rattle.js_names.specs.Entries.{top}
use Rattle.js_names.specs.Scopes.{Scope, program_scope}
use Rattle.js_names.specs.Unresolved.{item_mentions}
use Rattle.js_names.specs.Mentions.{Mention, mentions, functions_of, is_var}
use Rattle.js_names.specs.Slots.{assigned_in, captures, constants_of, slots_of}
use Rattle.js_resolver.specs.Variables.{code_at, body_of, first_some, around_of, capture_slots, slots_among}
use Rattle.js_resolver.specs.Nodes.{items_piece}
use Rattle.js_resolver.specs.Resolved.{function_named, constant_there, constant_of, program_of_tree}
use Rattle.js_resolver.proofs.sound.Parts.{every_all, every_more}
use Rattle.js_resolver.proofs.sound.Order.{program_ordered}
use Rattle.js_resolver.proofs.sound.Lists.{vars_fit}
use Rattle.js_resolver.proofs.sound.Nodes.{slots_in, AllFine, fine_left, fine_right, IsCovered, IsWithin, IsGood, NodeFits, length_slots, items_good}

-- the scopes of the mentions of a program
abbrev pub program_scopes : List PlainItem → List Scope
program_scopes items = program_scope items ∷ []

within_program : (items : List PlainItem) → IsWithin (program_scopes items) top
unfolding functions_of program_scope
within_program items x = refl

first_fits : (p : PlainProgram) (c : PlainConstant) (o : Option PlainConstant) (os : List (Option PlainConstant)) → ((d : PlainConstant) → o ≡ Some d → constant_fits p d ≡ true) → constant_fits p (first_some c os) ≡ true → constant_fits p (first_some c (o ∷ os)) ≡ true
first_fits p c None os f h = h
first_fits p c (Some d) os f h = f d refl

there_fits : (p : PlainProgram) (v : ℕ) (o : Option Declared) (c : PlainConstant) → constant_there v o ≡ Some c → constant_fits p c ≡ true
there_fits p v None c h = cc
there_fits p v (Some d) c h =
    let cases : (a b : Bool) → (if a then Some (if b then unset else undeclared) else None) ≡ Some c → constant_fits p c ≡ true =
    λ a b. elim a as (λ a. (if a then Some (if b then unset else undeclared) else None) ≡ Some c → constant_fits p c ≡ true) [
      | true ↦ elim b as (λ b. Some (if b then unset else undeclared) ≡ Some c → constant_fits p c ≡ true)
          [ true ↦ λ k. let e : unset ≡ c = cc in subst (λ z. constant_fits p z ≡ true) e refl | false ↦ λ k. let e : undeclared ≡ c = cc in subst (λ z. constant_fits p z ≡ true) e refl ]
      | false ↦ λ k. cc
    ]
    in
    cases (nat_eq d.offset v) (is_var d.role) h

mentions_fit : (p : PlainProgram) (v : ℕ) (ps : List Mention) → constant_fits p (first_some undeclared (map (λ (q : Mention). constant_there v q.declared) ps)) ≡ true
mentions_fit p v [] = refl
mentions_fit p v (q ∷ qs) = first_fits p undeclared (constant_there v q.declared) (map (λ (q : Mention). constant_there v q.declared) qs) (there_fits p v q.declared) (mentions_fit p v qs)

-- the declared functions copy nothing
abbrev pub AllAlone : List Mention → List PlainItem → Type 0
AllAlone ps [] = Unit {0}
AllAlone ps (statement spot s ∷ is) = AllAlone ps is
AllAlone ps (function_of spot name names ss ∷ is) = (captures (assigned_in ps) spot.at ps ≡ []) × AllAlone ps is

copies_nothing : (o : Option PlainBody) (xs : List ℕ) → option_map (λ (b : PlainBody). b.captures) o ≡ Some xs → xs ≡ [] → captures_nothing o ≡ true
copies_nothing None xs e h = cc
copies_nothing (Some b) xs e h = let d : b.captures ≡ xs = cc in ap (λ (z : List ℕ). nat_eq (length z) 0) (d ∙ h)

named_fits : (p : PlainProgram) (ps : List Mention) (v : ℕ) (scopes : List Scope) (i : PlainItem) → AllAlone ps (i ∷ []) → AllFine p ps (item_mentions scopes i) → (c : PlainConstant) → function_named ps v i ≡ Some c → constant_fits p c ≡ true
unfolding item_mentions
named_fits p ps v scopes (statement spot s) w h c e = cc
named_fits p ps v scopes (function_of spot name names ss) w h c e =
    let nothing : capture_slots ps spot.at ≡ [] = ap (slots_among (slots_of (assigned_in ps) (around_of ps spot.at) ps)) w.0 in
    let there : constant_fits p (of_function (code_at ps spot.at)) ≡ true = copies_nothing (slice_get p.functions (code_at ps spot.at)) (capture_slots ps spot.at) h.1.0.copies nothing in
    elim (nat_eq name.spot.at v) as (λ b. (if b then Some (of_function (code_at ps spot.at)) else None) ≡ Some c → constant_fits p c ≡ true)
    [ true ↦ λ k. let d : of_function (code_at ps spot.at) ≡ c = cc in subst (λ z. constant_fits p z ≡ true) d there | false ↦ λ k. cc ] e

alone_first : (ps : List Mention) (i : PlainItem) (is : List PlainItem) → AllAlone ps (i ∷ is) → AllAlone ps (i ∷ [])
alone_first ps (statement spot s) is h = tt
alone_first ps (function_of spot name names ss) is h = (h.0, tt)

alone_rest : (ps : List Mention) (i : PlainItem) (is : List PlainItem) → AllAlone ps (i ∷ is) → AllAlone ps is
alone_rest ps (statement spot s) is h = h
alone_rest ps (function_of spot name names ss) is h = h.1

items_named : (p : PlainProgram) (ps : List Mention) (v : ℕ) (scopes : List Scope) (d : PlainConstant) (is : List PlainItem) → AllAlone ps is → constant_fits p d ≡ true → AllFine p ps (flat_map (item_mentions scopes) is)
    → constant_fits p (first_some d (map (function_named ps v) is)) ≡ true
items_named p ps v scopes d [] w k h = k
items_named p ps v scopes d (i ∷ is) w k h =
    first_fits p d (function_named ps v i) (map (function_named ps v) is) (named_fits p ps v scopes i (alone_first ps i is w) (fine_left p ps (item_mentions scopes i) (flat_map (item_mentions scopes) is) h))
    (items_named p ps v scopes d is (alone_rest ps i is w) k (fine_right p ps (item_mentions scopes i) (flat_map (item_mentions scopes) is) h))

constants_fit : (p : PlainProgram) (items : List PlainItem) (ps : List Mention) (vs : List ℕ) → AllAlone ps items → AllFine p ps (flat_map (item_mentions (program_scopes items)) items) → list_all (constant_fits p) (map (constant_of items ps) vs) ≡ true
constants_fit p items ps [] w h = refl
constants_fit p items ps (v ∷ vs) w h =
    and_from _ _ (items_named p ps v (program_scopes items) (first_some undeclared (map (λ (q : Mention). constant_there v q.declared) ps)) items w (mentions_fit p v ps) h) (constants_fit p items ps vs w h)

-- A program whose mentions fit is sound: every number of it is in range.
pub program_sound : (items : List PlainItem) → length (program_of_tree items).nodes < 4294967296 → length (program_of_tree items).functions < 4294967296 → length (program_of_tree items).constants < 4294967296
    → IsCovered (program_of_tree items) (mentions items) (flat_map (item_mentions (program_scopes items)) items) → AllAlone (mentions items) items → length (captures (assigned_in (mentions items)) top (mentions items)) ≤ slots_in (mentions items) top → IsSound (program_of_tree items)
unfolding program_of_tree body_of
program_sound items ln lf lc c alone room =
    let p = program_of_tree items in
    let ps = mentions items in
    let x = items_piece ps 0 items in
    let stands : (i : ℕ) (n : PlainNode) → slice_get x.nodes i ≡ Some n → slice_get p.nodes (0 + i) ≡ Some n = λ i n e. subst (λ k. slice_get x.nodes k ≡ Some n) (omega arith) e in
    let g : IsGood p ps top x = items_good p ps (program_scopes items) 0 items (within_program items) c stands in
    let content : (depth : ℕ) → list_all (node_fits p (slots_in ps top) (length p.constants) depth) x.parts ≡ true = λ depth.
    every_all (node_fits p (slots_in ps top) (length p.constants) depth) x.parts (every_more (NodeFits p ps top) (λ m. node_fits p (slots_in ps top) (length p.constants) depth m ≡ true) x.parts (λ m k. k depth) g.parts)
    in
    let own : 0 + length (capture_slots ps top) ≤ slots_in ps top = omega (arith, room, length_slots (slots_of (assigned_in ps) (around_of ps top) ps) (captures (assigned_in ps) top ps)) in
    record {
      nodes = ln;
      functions = lf;
      constants = lc;
      order = program_ordered items;
      top = λ depth. and_from _ _ (and_from _ _ (le-leb _ _ own) (vars_fit ps top)) (content depth);
      bodies = g.bodies;
      starts = constants_fit p items ps (constants_of (assigned_in ps) ps) alone c.fine;
    }
