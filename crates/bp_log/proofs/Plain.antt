-- A text without escapes stands in its quotation marks as it is.
use Rattle.std.proofs.Common.{◌≡◌, ◌≤◌, ◌<◌, ◌==◌, ℕ, List, [], ◌∷◌, ◌++◌, false, refl, ap, arith}
use Rattle.std.specs.Prelude.{flat_map, All}
use Rattle.std.proofs.lemmas.Bool.{ne_eqb, le-ltb}
use Rattle.std.proofs.lemmas.List.Elements.{All-head, All-tail}
use Rattle.js_data.specs.JsonText.{escaped_byte, quoted_text}
use Rattle.bp_log.specs.inner.Plain.{StandsAsItIs}

not_small : (x n : ℕ) → 32 ≤ x → n < 32 → (x == n) ≡ false
not_small x n h k = ne_eqb x n (λ e. absurd (omega arith))

no_escape : (x : ℕ) → StandsAsItIs x → escaped_byte x ≡ x ∷ []
no_escape x (h, a, b) =
    rw (ne_eqb x 34 a, ne_eqb x 92 b, not_small x 8 h (omega arith), not_small x 9 h (omega arith), not_small x 10 h (omega arith), not_small x 12 h (omega arith), not_small x 13 h (omega arith), le-ltb x 32 h) refl

no_escapes : (s : List ℕ) → All StandsAsItIs s → flat_map escaped_byte s ≡ s
no_escapes [] h = refl
no_escapes (x ∷ s) h = rw (no_escape x (All-head StandsAsItIs x s h), no_escapes s (All-tail StandsAsItIs x s h)) refl

pub quoted_plain : (s : List ℕ) → All StandsAsItIs s → quoted_text s ≡ 34 ∷ (s ++ 34 ∷ [])
quoted_plain s h = ap (λ (t : List ℕ). 34 ∷ (t ++ 34 ∷ [])) (no_escapes s h)
