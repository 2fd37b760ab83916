-- Facts on what is skipped and held, and what the tests on tokens are.
use Rattle.std.proofs.Common.{◌≡◌, ◌⊎◌, inl, inr, ℕ, zero, suc, ◌-◌, sub-one, false, List, [], ◌∷◌, Option, Some, None, refl}
use Rattle.js_lexer.specs.declared.token.Kind.{Kind}
use Rattle.js_lexer.specs.declared.token.Token.{Token}
use Rattle.js_lexer.specs.declared.sort.Sort.{Sort}
use Rattle.js_tree.specs.declared.tree.Spot.{Spot}
use Rattle.js_grammar.specs.Sorts.{sort, named, numbered, quoted, member_word, key, kind_name, kind_number, kind_text, kind_member, kind_key, name_at, spot}
use Rattle.js_grammar.specs.Operators.{operator_at, at_level, operator, sign, sort_sign, step, sort_step, assign_op, sort_assign}
use Rattle.js_grammar.specs.Arrows.{arrow_follows}
use Rattle.js_grammar.specs.Tokens.{starts, declares, sort_declare, lexical, if_lexical, is_of, is_of_name}
use Rattle.js_grammar.specs.Reading.{after, after_some}
use Rattle.js_cursor.specs.Passed.{first}

pub after_none : {B : Type 0} (k : Sort) (ts : List Token) (f : List Token → Option B) → starts k ts ≡ false → after k ts f ≡ None
after_none k [] f h = refl
after_none k (t ∷ ts) f h = rw h refl

pub held_none : {A B : Type 0} (g : Token → Option A) (ts : List Token) (f : A → List Token → Option B) → first g ts ≡ None → after_some g ts f ≡ None
held_none g [] f h = refl
held_none g (t ∷ ts) f h = rw h refl

pub sort_is : (t : Token) → t.sort ≡ sort t
unfolding sort
sort_is t = t.sorted

pub named_is : (t : Token) → named t ≡ name_at (kind_name t.kind) (spot t)
unfolding named
named_is t = refl

pub numbered_is : (t : Token) → numbered t ≡ kind_number t.kind
unfolding numbered
numbered_is t = refl

pub quoted_is : (t : Token) → quoted t ≡ kind_text t.kind
unfolding quoted
quoted_is t = refl

pub member_word_is : (t : Token) → member_word t ≡ kind_member t.kind
unfolding member_word
member_word_is t = refl

pub key_is : (t : Token) → key t ≡ kind_key t.kind
unfolding key
key_is t = refl

pub member_among : (k : Kind) (x y : List ℕ) → (k ≡ Kind.Name x) ⊎ (k ≡ Kind.Keyword x) → y ≡ x → kind_member k ≡ Some y
member_among k x y (inl e) h = rw (e, h) refl
member_among k x y (inr e) h = rw (e, h) refl

pub key_among : (k : Kind) (x y : List ℕ) → (k ≡ Kind.Name x) ⊎ ((k ≡ Kind.Keyword x) ⊎ (k ≡ Kind.Text x)) → y ≡ x → kind_key k ≡ Some y
key_among k x y (inl e) h = rw (e, h) refl
key_among k x y (inr (inl e)) h = rw (e, h) refl
key_among k x y (inr (inr e)) h = rw (e, h) refl

pub operator_at_is : (k : ℕ) (t : Token) → operator_at k t ≡ at_level k (operator (sort t))
unfolding operator_at
operator_at_is k t = refl

pub sign_is : (t : Token) → sign t ≡ sort_sign (sort t)
unfolding sign
sign_is t = refl

pub step_is : (t : Token) → step t ≡ sort_step (sort t)
unfolding step
step_is t = refl

pub assign_op_is : (t : Token) → assign_op t ≡ sort_assign (sort t)
unfolding assign_op
assign_op_is t = refl

pub declares_is : (t : Token) → declares t ≡ sort_declare (sort t)
unfolding declares
declares_is t = refl

pub lexical_is : (t : Token) → lexical t ≡ if_lexical (declares t)
unfolding lexical
lexical_is t = refl

pub is_of_is : (t : Token) → is_of t ≡ is_of_name (named t)
unfolding is_of
is_of_is t = refl

pub name_same : (a b : List ℕ) (s r : Spot) → b ≡ a → r ≡ s → name_at (Some a) s ≡ Some (record { text = b; spot = r })
name_same a b s r h k = rw (h, k) refl

pub past_close : (t : Token) (ts : List Token) (d : ℕ) → sort t ≡ Sort.RightParen → (d ≡ 0 → ⊥) → arrow_follows (t ∷ ts) d ≡ arrow_follows ts (d - 1)
past_close t ts zero h k = absurd (k refl)
past_close t ts (suc d) h k = rw (h, sub-one) refl
