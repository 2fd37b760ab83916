-- What stands after the first word of a line.
use Rattle.std.proofs.Common.{◌≡◌, ℕ, List, ◌++◌, None, refl, sym, ◌∙◌}
use Rattle.std.specs.Prelude.{codes}
use Rattle.std.proofs.lemmas.List.{append_cancel_left}
use Rattle.std.specs.Str.Pattern.{FindsTextPrefix, StripsPrefix}
use Rattle.bp_log.specs.Texts.{line_text, verdict_text}
use Rattle.bp_log.specs.declared.trace.Line.TheVariants as line
use Rattle.bp_log.specs.declared.verdict.Verdict.{Verdict}

-- the line of a verdict is one word and the verdict
pub said : (v : Verdict) → line_text (line.Verdict v) ≡ codes "verdict " ++ verdict_text v
unfolding line_text
said v = refl

-- it begins with the word
pub begins : (v : Verdict) (bytes : List ℕ) → bytes ≡ line_text (line.Verdict v) → FindsTextPrefix (codes "verdict ") bytes None → ⊥
begins v bytes e h = h (verdict_text v) (e ∙ said v)

-- and what stands after it is the verdict
pub behind : (v : Verdict) (bytes rest : List ℕ) → bytes ≡ line_text (line.Verdict v) → StripsPrefix (FindsTextPrefix (codes "verdict ")) bytes rest → rest ≡ verdict_text v
behind v bytes rest e h =
    h.2 ∙ append_cancel_left (codes "verdict ") _ _ (sym h.1.1 ∙ e ∙ said v)
