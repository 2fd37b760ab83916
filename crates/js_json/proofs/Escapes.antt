-- The escapes of `json` are those of the event's text.
use Rattle.std.proofs.Common.{◌≡◌, ◌≢◌, ◌⊎◌, ℕ, List, [], ◌∷◌, ◌++◌, true, false, refl, ap, inl, inr}
use Rattle.std.proofs.lemmas.Bool.Decides.{eqb_tells}
use Rattle.std.specs.Prelude.{flat_map, ◌==◌}
use Rattle.json.specs.Print.{escape_byte, quoted}
use Rattle.js_data.specs.JsonText.{escaped_byte, quoted_text}

Told : ℕ → ℕ → Type 0
Told x n = (((x == n) ≡ true) × (x ≡ n)) ⊎ (((x == n) ≡ false) × (x ≢ n))

by_cases : (x : ℕ) → Told x 34 → Told x 92 → Told x 8 → Told x 9 → Told x 10 → Told x 12 → Told x 13 → escape_byte x ≡ escaped_byte x
unfolding escape_byte Told
by_cases x (inl a) _ _ _ _ _ _ = rw a.1
by_cases x (inr a) (inl b) _ _ _ _ _ = rw b.1
by_cases x (inr a) (inr b) (inl c) _ _ _ _ = rw c.1
by_cases x (inr a) (inr b) (inr c) (inl d) _ _ _ = rw d.1
by_cases x (inr a) (inr b) (inr c) (inr d) (inl e) _ _ = rw e.1
by_cases x (inr a) (inr b) (inr c) (inr d) (inr e) (inl f) _ = rw f.1
by_cases x (inr a) (inr b) (inr c) (inr d) (inr e) (inr f) (inl g) = rw g.1
by_cases x (inr a) (inr b) (inr c) (inr d) (inr e) (inr f) (inr g) = rw (a.0, b.0, c.0, d.0, e.0, f.0, g.0)

pub escape_byte_is : (x : ℕ) → escape_byte x ≡ escaped_byte x
unfolding Told
escape_byte_is x = by_cases x (eqb_tells x 34) (eqb_tells x 92) (eqb_tells x 8) (eqb_tells x 9) (eqb_tells x 10) (eqb_tells x 12) (eqb_tells x 13)

pub escape_is : (s : List ℕ) → flat_map escape_byte s ≡ flat_map escaped_byte s
escape_is [] = refl
escape_is (x ∷ s) = rw (escape_byte_is x, escape_is s)

pub quoted_is : (s : List ℕ) → quoted s ≡ quoted_text s
quoted_is s = ap (λ t. 34 ∷ (t ++ 34 ∷ [])) (escape_is s)
