use Rattle.std.proofs.Common.{◌∙◌, ap, sym, arith, length}
use Rattle.js_grammar.specs.Arrows.{arrow_follows}
use Rattle.js_cursor.proofs.Using.{past_close}
use Rattle.js_cursor.proofs.peek.arrow_behind.Goals as goal

pub unclosed-preserved-in-RightParen-2 : goal.unclosed-preserved-in-RightParen-2
unclosed-preserved-in-RightParen-2 c = record {
  same = sym (past_close c.in-Some.token.now c.in-Some.behind.now c.unclosed.depth (sym c.sort_of.ensures ∙ c.in-RightParen.is) c.if-depth-eq0.false) ∙
      (ap (λ xs. arrow_follows xs c.unclosed.depth) (sym c.in-Some.ensures) ∙ c.unclosed.invariant.same);
  few = omega (arith, c.unclosed.invariant.few, ap length c.in-Some.ensures);
}
