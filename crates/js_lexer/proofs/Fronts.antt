-- What stands in front.
use Rattle.std.proofs.Common.{◌≡◌, ℕ, zero, suc, ◌<◌, refl, arith}
use Rattle.js_lexer.specs.Front.{Piece, gap, gap_or}

pub gap_or_some : (n : ℕ) (other : Piece) → 0 < n → gap_or n other ≡ gap n
gap_or_some zero other h = absurd (omega arith)
gap_or_some (suc n) other h = refl

pub gap_or_none : (n : ℕ) (other : Piece) → n ≡ 0 → gap_or n other ≡ other
gap_or_none n other h = rw h refl
