-- The loop over a text.
use Rattle.std.proofs.Common.{◌≡◌, ℕ, ◌+◌, ◌<◌, ◌≤◌, Bool, List, length, drop, subst, arith, length-drop, Result, Ok, Err}
use Rattle.std.specs.Str.{IsUtf8}
use Rattle.js_lexer.specs.declared.limits.TheConstants.{MOST_BYTES}
use Rattle.js_lexer.specs.declared.token.Found.{Found}
use Rattle.js_lexer.specs.declared.token.Found.TheVariants.{Gap, Token}
use Rattle.js_lexer.specs.declared.token.Stop.{Stop}
use Rattle.js_lexer.specs.declared.token.Stop.TheVariants.{Refused as Refused', Memory}
use Rattle.js_lexer.specs.declared.token.Flaw.{Flaw}
use Rattle.js_lexer.specs.declared.token.Flaw.TheVariants.{Character, OpenText, Escape, NumberRange, Unsupported}
use Rattle.js_lexer.specs.inner.Found.{IsFound}
use Rattle.js_lexer.specs.Front.{Piece, gap, token, refused, front}
use Rattle.js_lexer.specs.Gaps.{line_ends, line_of}
use Rattle.js_lexer.specs.Cut.{Refused}
use Rattle.js_lexer.specs.Lexed.{IsRefusal, fault_of}
use Rattle.js_lexer.specs.inner.Steps.{IsStep, StopFits, fault_of_stop}
use Rattle.js_lexer.specs.declared.token.Token.{Token as Token'}
use Rattle.js_lexer.proofs.Cutting.{SoFar, so_far_refused}
use Rattle.js_lexer.proofs.Lines.{line_ends_add}
use Rattle.js_lexer.proofs.Fits.{PieceFits, Sized, front-fits}

fits : (bytes : List ℕ) (place : ℕ) (p : Piece) → front (drop place bytes) ≡ p → PieceFits (drop place bytes) p
fits bytes place p h = subst (λ (q : Piece). PieceFits (drop place bytes) q) h (front-fits (drop place bytes))

pub step_found : (bytes : List ℕ) (place : ℕ) (r : Result Found Stop) → place < length bytes → IsFound (front (drop place bytes)) r → IsStep bytes place r
step_found bytes place (Ok (Gap n)) l h =
    let s : Sized n (drop place bytes) = fits bytes place (gap n) h in
    record { is = h; some = s.some; within = omega (arith, s.within, length-drop place bytes) }
step_found bytes place (Ok (Token kind sort n)) l h =
    let s : Sized n (drop place bytes) = fits bytes place (token kind n) h.is in
    record { is = h.is; sorted = h.sorted; some = s.some; within = omega (arith, s.within, length-drop place bytes) }
step_found bytes place (Err (Refused' flaw n)) l h =
    let s : n ≤ length (drop place bytes) = fits bytes place (refused flaw n) h in
    record { is = h; within = omega (arith, s, length-drop place bytes) }
step_found bytes place (Err Memory) l h = tt

pub refusal_of : (bytes : List ℕ) (flaw : Flaw) (place : ℕ) → IsUtf8 bytes → Refused bytes flaw place → IsRefusal bytes (fault_of flaw place)
refusal_of bytes Character place u h = (u, h)
refusal_of bytes OpenText place u h = (u, h)
refusal_of bytes Escape place u h = (u, h)
refusal_of bytes NumberRange place u h = (u, h)
refusal_of bytes Unsupported place u h = (u, h)

pub step_fits : (bytes : List ℕ) (place : ℕ) (stop : Stop) → length bytes ≤ MOST_BYTES → IsStep bytes place (Err stop) → StopFits place stop
step_fits bytes place (Refused' flaw n) l h = omega (arith, h.within)
step_fits bytes place Memory l h = tt

pub stop_refusal : (bytes : List ℕ) (first : Bool) (place : ℕ) (before : List Token') (stop : Stop) → IsUtf8 bytes → SoFar bytes first place before →
    IsStep bytes place (Err stop) → IsRefusal bytes (fault_of_stop place stop)
stop_refusal bytes first place before (Refused' flaw n) u s h =
    refusal_of bytes flaw (place + n) u (so_far_refused bytes first place n before flaw s h.is)
stop_refusal bytes first place before Memory u s h = tt

pub line_behind : (bytes : List ℕ) (place n line ends : ℕ) → line ≡ line_of bytes place → ends ≡ line_ends n (drop place bytes) → line + ends ≡ line_of bytes (place + n)
line_behind bytes place n line ends h k = let e = line_ends_add place n bytes in omega (arith, h, k, e)
