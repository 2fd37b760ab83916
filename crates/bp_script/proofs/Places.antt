-- A refused place stands in the text.
use Rattle.std.proofs.Common.{◌≡◌, ℕ, ◌+◌, ◌≤◌, List, length, drop, subst, arith, length-drop}
use Rattle.js_lexer.specs.declared.token.Flaw.{Flaw}
use Rattle.js_lexer.specs.Front.{Piece, gap, token, refused, front}
use Rattle.js_lexer.specs.Cut.{RefusedFrom, refused_here, refused_behind_gap, refused_behind_token, Refused}
use Rattle.js_lexer.proofs.Fits.{PieceFits, Sized, front-fits}

fits : (bs : List ℕ) (p : Piece) → front bs ≡ p → PieceFits bs p
fits bs p h = subst (λ (q : Piece). PieceFits bs q) h (front-fits bs)

within_from : (bytes : List ℕ) {place at : ℕ} {f : Flaw} → place ≤ length bytes → RefusedFrom bytes place f at → at ≤ length bytes
within_from bytes h (refused_here {place = place} {n = n} {flaw = f} e) =
    let k : n ≤ length (drop place bytes) = fits (drop place bytes) (refused f n) e in
    let size = length-drop place bytes in
    omega (arith, k, size, h)
within_from bytes h (refused_behind_gap {place = place} {n = n} e d) =
    let k : Sized n (drop place bytes) = fits (drop place bytes) (gap n) e in
    let size = length-drop place bytes in
    let w = k.within in
    let more : place + n ≤ length bytes = omega (arith, w, size, h) in
    within_from bytes more d
within_from bytes h (refused_behind_token {place = place} {n = n} {kind = kind} e d) =
    let k : Sized n (drop place bytes) = fits (drop place bytes) (token kind n) e in
    let size = length-drop place bytes in
    let w = k.within in
    let more : place + n ≤ length bytes = omega (arith, w, size, h) in
    within_from bytes more d

pub refused_within : (bytes : List ℕ) (f : Flaw) (at : ℕ) → Refused bytes f at → at ≤ length bytes
refused_within bytes f at d = within_from bytes (omega arith) d
