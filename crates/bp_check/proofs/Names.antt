-- The names of methods are those that a call of a method knows.
use Rattle.std.proofs.Common.{◌≡◌, ◌∙◌, ℕ, Bool, true, false, ◌||◌, List, refl, sym, ap}
use Rattle.std.specs.Prelude.{Option, Some, None, is_some, codes, if◌then◌else◌}
use Rattle.std.specs.List.{list_any}
use Rattle.std.specs.Str.{bytes_eq}
use Rattle.js_value.specs.declared.op.Method.{Method}
use Rattle.js_value.specs.declared.op.Method.TheVariants as method
use Rattle.bp_check.specs.Words.{methods, is_method}

-- the method of the first name that a word is
abbrev named : Bool → Bool → Bool → Bool → Bool → Bool → Bool → Option Method
named c s e o a x n =
    if c then Some method.Concat else
    (if s then Some method.StartsWith else
    (if e then Some method.EndsWith else
    (if o then Some method.Or else
    (if a then Some method.And else
    (if x then Some method.Xor else
    (if n then Some method.Negate else None))))))

is_named : (c s e o a x n : Bool) → is_some (named c s e o a x n) ≡ (c || (s || (e || (o || (a || (x || (n || false)))))))
is_named true s e o a x n = refl
is_named false true e o a x n = refl
is_named false false true o a x n = refl
is_named false false false true a x n = refl
is_named false false false false true x n = refl
is_named false false false false false true n = refl
is_named false false false false false false true = refl
is_named false false false false false false false = refl

second_first : (a b c : Bool) → (a || (b || c)) ≡ (b || (a || c))
second_first true true c = refl
second_first true false c = refl
second_first false true c = refl
second_first false false c = refl

asked : (c f s e o a x n : Bool) → (c || (f || (s || (e || (o || (a || (x || (n || false)))))))) ≡ (f || is_some (named c s e o a x n))
asked c f s e o a x n = second_first c f (s || (e || (o || (a || (x || (n || false)))))) ∙ ap (λ (b : Bool). f || b) (sym (is_named c s e o a x n))

-- each method has its name in the list, and each name in the list is that of a method
pub methods_are_all : (word : List ℕ) → list_any (bytes_eq word) methods ≡ is_method word
methods_are_all word =
    asked (bytes_eq word (codes "concat")) (bytes_eq word (codes "forEach")) (bytes_eq word (codes "startsWith")) (bytes_eq word (codes "endsWith")) (bytes_eq word (codes "or"))
    (bytes_eq word (codes "and")) (bytes_eq word (codes "xor")) (bytes_eq word (codes "negate"))
