-- What is known of the constants of a program, mention by mention and item by item.
use Rattle.std.proofs.Common.{◌≡◌, ℕ, ◌+◌, ◌<◌, List, [], ◌∷◌, ◌++◌, ◌∙◌, ap, refl, sym, map, length, take, get_or, Option, Some, None}
use Rattle.std.specs.Prelude.{Result, Ok, Err, IfOk, Vec, unwrap_or}
use Rattle.std.specs.declared.alloc.Global.{Global}
use Rattle.std.proofs.lemmas.List.{take_more, map-append}
use Rattle.std.proofs.lemmas.Simd.{map-map}
use Rattle.js_tree.specs.declared.tree.Item.{Item}
use Rattle.js_tree.specs.Views.{plain_item}
use Rattle.js_program.specs.declared.node.ConstantStart.{ConstantStart}
use Rattle.js_program.specs.PlainProgram.{PlainConstant, undeclared}
use Rattle.js_program.specs.Views.{plain_constant}
use Rattle.js_names.specs.declared.mention.Mention.{Mention as HeldMention}
use Rattle.js_names.specs.Mentions.{Mention, or_else}
use Rattle.js_names.specs.Views.{mention_of}
use Rattle.js_names.specs.Slots.{assigned_in, constants_of}
use Rattle.js_names.proofs.Taking.{or_else_assoc, or_else_none}
use Rattle.js_resolver.specs.inner.Tables.{Known}
use Rattle.js_resolver.specs.Variables.{first_some}
use Rattle.js_resolver.specs.Resolved.{constant_of, constant_there, function_named}
use Rattle.js_resolver.specs.inner.Starts.{NotesStart, first_of, start_in}

first_of-last : {A : Type 0} (os : List (Option A)) (o : Option A) → first_of (os ++ o ∷ []) ≡ or_else (first_of os) o
first_of-last [] o = or_else_none o
first_of-last (x ∷ xs) o = ap (or_else x) (first_of-last xs o) ∙ sym (or_else_assoc x (first_of xs) o)

pub first_some_of : {A : Type 0} (a : A) (os : List (Option A)) → first_some a os ≡ unwrap_or (first_of os) a
first_some_of a [] = refl
first_some_of a (None ∷ os) = first_some_of a os
first_some_of a (Some x ∷ os) = refl

-- one more iteration of a loop
pub notes_more : {X : Type 0} (k : ℕ → X → Option PlainConstant) (xs : List X) (i : ℕ) (d x : X) (a b c : Known ConstantStart) → i < length xs → x ≡ get_or xs i d
    → NotesStart a b (λ q. first_of (map (k q) (take i xs))) → NotesStart b c (λ q. k q x) → NotesStart a c (λ q. first_of (map (k q) (take (i + 1) xs)))
notes_more k xs i d x a b c h e m n q =
    n q ∙ (ap (λ z. or_else z (k q x)) (m q)
    ∙ (or_else_assoc (start_in a q) (first_of (map (k q) (take i xs))) (k q x)
    ∙ ap (or_else (start_in a q)) (sym (first_of-last (map (k q) (take i xs)) (k q x))
    ∙ (ap (λ z. first_of (map (k q) (take i xs) ++ k q z ∷ [])) e
    ∙ sym (ap (λ z. first_of z) (ap (map (k q)) (take_more xs i d h) ∙ map-append (k q) (take i xs) (get_or xs i d ∷ [])))))))

or_of : {A : Type 0} (a : A) (o p : Option A) → unwrap_or (or_else o p) a ≡ unwrap_or o (unwrap_or p a)
or_of a None p = refl
or_of a (Some x) p = refl

-- a map that took in the functions, then the mentions
pub start_is_constant : (ps : List Mention) (items : List Item) (held : List HeldMention) (e a b : Known ConstantStart) (v : ℕ) → ((q : ℕ) → start_in e q ≡ None) → map mention_of held ≡ ps
    → NotesStart e a (λ q. first_of (map (λ i. function_named ps q (plain_item i)) items)) → NotesStart a b (λ q. first_of (map (λ p. constant_there q (mention_of p).declared) held))
    → unwrap_or (start_in b v) undeclared ≡ constant_of (map plain_item items) ps v
start_is_constant ps items held e a b v n s m k =
    let fs = map (λ i. function_named ps v (plain_item i)) items in
    let cs = map (λ p. constant_there v (mention_of p).declared) held in
    ap (λ z. unwrap_or z undeclared) (k v ∙ (ap (λ z. or_else z (first_of cs)) (m v) ∙ ap (λ z. or_else (or_else z (first_of fs)) (first_of cs)) (n v)))
    ∙ (or_of undeclared (first_of fs) (first_of cs)
    ∙ (ap (unwrap_or (first_of fs)) (sym (first_some_of undeclared cs))
    ∙ (sym (first_some_of (first_some undeclared cs) fs)
    ∙ (ap (first_some (first_some undeclared cs)) (sym (map-map (function_named ps v) plain_item items))
    ∙ ap (λ z. first_some (first_some undeclared z) (map (function_named ps v) (map plain_item items))) (sym (map-map (λ (p : Mention). constant_there v p.declared) mention_of held) ∙ ap (map (λ (p : Mention). constant_there v p.declared)) s)))))

-- one more constant
pub starts_more : (f : ℕ → PlainConstant) (xs : List ℕ) (i d : ℕ) (a b : List ConstantStart) (s : ConstantStart) → i < length xs → map plain_constant a ≡ map f (take i xs) → b ≡ a ++ s ∷ [] → plain_constant s ≡ f (get_or xs i d) → map plain_constant b ≡ map f (take (i + 1) xs)
starts_more f xs i d a b s h inv e k =
    ap (map plain_constant) e ∙ (map-append plain_constant a (s ∷ []) ∙ (ap (λ z. z ++ plain_constant s ∷ []) inv ∙ (ap (λ z. map f (take i xs) ++ z ∷ []) k
    ∙ sym (ap (map f) (take_more xs i d h) ∙ map-append f (take i xs) (get_or xs i d ∷ [])))))

-- the constants, each as the definition says
pub if_starts : {E : Type 0} (r : Result (Vec ConstantStart Global) E) (ps : List Mention) (items : List Item) (held : List HeldMention) (e a b : Known ConstantStart) (vs : List ℕ) → ((q : ℕ) → start_in e q ≡ None) → map mention_of held ≡ ps
    → NotesStart e a (λ q. first_of (map (λ i. function_named ps q (plain_item i)) items)) → NotesStart a b (λ q. first_of (map (λ p. constant_there q (mention_of p).declared) held)) → vs ≡ constants_of (assigned_in ps) ps
    → IfOk r (λ v. map plain_constant v.items ≡ map (λ q. unwrap_or (start_in b q) undeclared) vs) → IfOk r (λ v. map plain_constant v.items ≡ map (constant_of (map plain_item items) ps) (constants_of (assigned_in ps) ps))
if_starts (Err y) ps items held e a b vs n s m k c h = tt
if_starts (Ok v) ps items held e a b vs n s m k c h =
    h ∙ (ap (λ f. map f vs) (λ i q. start_is_constant ps items held e a b q n s m k i) ∙ ap (map (constant_of (map plain_item items) ps)) c)
