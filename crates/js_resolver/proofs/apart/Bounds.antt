-- Numbers that ascend within bounds.
use Rattle.std.proofs.Common.{inl, inr, ℕ, suc, ◌<◌, ◌≤◌, List, [], ◌∷◌, ◌++◌, arith}
use Rattle.js_resolver.proofs.sound.Lists.{In}
use Rattle.js_resolver.proofs.sound.Room.{NoRepeats}

-- from the first bound on, below the second, each above the one before it
abbrev pub Ascend : ℕ → ℕ → List ℕ → Type 0
Ascend low high [] = low ≤ high
Ascend low high (x ∷ xs) = (low ≤ x) × Ascend (suc x) high xs

pub ascend_bounds : (low high : ℕ) (xs : List ℕ) → Ascend low high xs → low ≤ high
ascend_bounds low high [] h = h
ascend_bounds low high (x ∷ xs) h = omega (arith, h.0, ascend_bounds (suc x) high xs h.1)

pub ascend_from : (low here high : ℕ) (xs : List ℕ) → low ≤ here → Ascend here high xs → Ascend low high xs
ascend_from low here high [] l h = omega arith
ascend_from low here high (x ∷ xs) l h = (omega (arith, h.0), h.1)

pub ascend_to : (low here high : ℕ) (xs : List ℕ) → here ≤ high → Ascend low here xs → Ascend low high xs
ascend_to low here high [] l h = omega arith
ascend_to low here high (x ∷ xs) l h = (h.0, ascend_to (suc x) here high xs l h.1)

pub ascend_append : (low here high : ℕ) (xs ys : List ℕ) → Ascend low here xs → Ascend here high ys → Ascend low high (xs ++ ys)
ascend_append low here high [] ys h k = ascend_from low here high ys h k
ascend_append low here high (x ∷ xs) ys h k = (h.0, ascend_append (suc x) here high xs ys h.1 k)

pub ascend_in : (low high x : ℕ) (xs : List ℕ) → Ascend low high xs → In x xs → (low ≤ x) × (x < high)
ascend_in low high x [] h k = absurd k
ascend_in low high x (y ∷ ys) h (inl e) = let b = ascend_bounds (suc y) high ys h.1 in (omega (arith, h.0, e), omega (arith, b, e))
ascend_in low high x (y ∷ ys) h (inr k) = let r = ascend_in (suc y) high x ys h.1 k in (omega (arith, h.0, r.0), r.1)

pub ascend_apart : (low high : ℕ) (xs : List ℕ) → Ascend low high xs → NoRepeats xs
ascend_apart low high [] h = tt
ascend_apart low high (x ∷ xs) h = (λ k. let r = ascend_in (suc x) high x xs h.1 k in omega (arith, r.0), ascend_apart (suc x) high xs h.1)
