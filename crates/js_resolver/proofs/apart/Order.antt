-- The names that stand among tokens.
use Rattle.std.proofs.Common.{◌≡◌, ℕ, List, [], ◌∷◌, ◌++◌, refl, ap, sym, Option, Some, None, if◌then◌else◌}
use Rattle.js_data.proofs.Shared.{kept-append}
use Rattle.js_lexer.specs.declared.token.Token.{Token}
use Rattle.js_tree.specs.declared.tree.Name.{Name}
use Rattle.js_tree.specs.declared.tree.Spot.{Spot}
use Rattle.js_grammar.specs.Sorts.{spot, named, name_at, kind_name}
use Rattle.js_names.specs.Unresolved.{Unresolved}
use Rattle.js_resolver.proofs.sound.Mentions.{is_name}

name_spot : (o : Option (List ℕ)) (s : Spot) (x : Name) → name_at o s ≡ Some x → x.spot ≡ s
name_spot None s x h = cc
name_spot (Some text) s x h =
    let e : record { text = text; spot = s } ≡ x = cc in
    sym (ap (λ (n : Name). n.spot) e)

-- a name stands at its token
pub name_offset : (t : Token) {x : Name} → named t ≡ Some x → x.spot.at ≡ t.from
unfolding named
name_offset t {x = x} h = ap (λ (s : Spot). s.at) (name_spot (kind_name t.kind) (spot t) x h)

-- the offsets of the names among some mentions
abbrev pub names_in : List Unresolved → List ℕ
names_in [] = []
names_in (s ∷ ss) = if is_name s.what then s.name.spot.at ∷ names_in ss else names_in ss

pub names-append : (xs ys : List Unresolved) → names_in (xs ++ ys) ≡ names_in xs ++ names_in ys
names-append xs ys = kept-append names_in (λ x. is_name x.what) (λ x. x.name.spot.at) refl (λ _ _. refl) xs ys
