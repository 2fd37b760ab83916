-- Scopes that are made from maps.
use Rattle.std.proofs.Common.{◌≡◌, ℕ, List, [], ◌∙◌, ap, sym, refl, map, Bool, true, false, Option, Some, None}
use Rattle.std.proofs.lemmas.List.Folds.{flat_map-map}
use Rattle.std.specs.Str.{bytes_eq}
use Rattle.std.specs.List.{flat_map}
use Rattle.std.specs.Map.{lookup}
use Rattle.std.specs.Prelude.{string_bytes, is_some}
use Rattle.std.specs.HashMap.{get_by_text}
use Rattle.js_tree.specs.declared.tree.Item.{Item}
use Rattle.js_tree.specs.Views.{plain_item}
use Rattle.js_names.specs.declared.mention.Declared.{Declared}
use Rattle.js_names.specs.Entries.{Entry, own_of_item, vars_of_item}
use Rattle.js_names.specs.Scopes.{first, named, one_var, merge, kept, inner_scope, scope_with}
use Rattle.js_names.specs.Mentions.{or_else}
use Rattle.js_names.specs.Views.{scope_of}
use Rattle.js_names.specs.Taken.{Names, keeps, in_map, TakesOwn, TakesVars, own_of_tree_item, vars_of_tree_item}
use Rattle.js_names.proofs.Taking.{merge_none}

-- a map that was empty has what it took in
pub own_from_empty : (a b : Names) (xs : List Entry) → a.entries ≡ [] → TakesOwn a b xs → (q : List ℕ) → get_by_text b q ≡ first (named q xs)
own_from_empty a b xs e t q = t q ∙ ap (λ es. or_else (lookup (λ k. bytes_eq q (string_bytes k)) es) (first (named q xs))) e

pub vars_from_empty : (keep : List ℕ → Bool) (a b : Names) (xs : List Entry) → a.entries ≡ [] → TakesVars keep a b xs → (q : List ℕ) → get_by_text b q ≡ kept (keep q) (one_var (named q xs))
vars_from_empty keep a b xs e t q = t q ∙ ap (λ es. merge (lookup (λ k. bytes_eq q (string_bytes k)) es) (kept (keep q) (one_var (named q xs)))) e

-- where all are kept
pub kept_all : (o : Option Declared) → kept true o ≡ o
kept_all None = refl
kept_all (Some d) = refl

all_from_empty : (a b : Names) (xs : List Entry) → a.entries ≡ [] → TakesVars (keeps None) a b xs → (q : List ℕ) → get_by_text b q ≡ one_var (named q xs)
all_from_empty a b xs e t q = vars_from_empty (keeps None) a b xs e t q ∙ kept_all (one_var (named q xs))

-- the same of all names
pub in_map_is : (a b : Names) (xs : List Entry) → a.entries ≡ [] → TakesVars (keeps None) a b xs → in_map b ≡ (λ q. one_var (named q xs))
in_map_is a b xs e t = λ i q. all_from_empty a b xs e t q i

-- a map that stays took in nothing
pub takes_none : (a : Names) → TakesVars (keeps None) a a []
takes_none a q = sym (merge_none (get_by_text a q))

-- two maps that were empty make a scope
pub scope_made : (a own b vars : Names) (xs ys : List Entry) (w : Bool) (o : ℕ) → a.entries ≡ [] → b.entries ≡ [] → TakesOwn a own xs → TakesVars (keeps None) b vars ys
    → scope_of (record { own = own; vars = vars; whole = w; owner = o }) ≡ scope_with xs ys w o
scope_made a own b vars xs ys w o d e t u = λ i. record {
  own = λ q. own_from_empty a own xs d t q i;
  vars = λ q. all_from_empty b vars ys e u q i;
  whole = w;
  owner = o;
}

-- and that of a block keeps the `var`s of its own names
pub inner_made : (a own b vars : Names) (xs ys : List Entry) (o : ℕ) → a.entries ≡ [] → b.entries ≡ [] → TakesOwn a own xs → TakesVars (keeps (Some own)) b vars ys
    → scope_of (record { own = own; vars = vars; whole = false; owner = o }) ≡ inner_scope xs ys o
inner_made a own b vars xs ys o d e t u = λ i. record {
  own = λ q. own_from_empty a own xs d t q i;
  vars = λ q. (vars_from_empty (keeps (Some own)) b vars ys e u q ∙ ap (λ z. kept (is_some z) (one_var (named q ys))) (own_from_empty a own xs d t q)) i;
  whole = false;
  owner = o;
}

pub own_of_tree : (is : List Item) → flat_map own_of_tree_item is ≡ flat_map own_of_item (map plain_item is)
own_of_tree is = sym (flat_map-map own_of_item plain_item is)

pub vars_of_tree : (is : List Item) → flat_map vars_of_tree_item is ≡ flat_map vars_of_item (map plain_item is)
vars_of_tree is = sym (flat_map-map vars_of_item plain_item is)
