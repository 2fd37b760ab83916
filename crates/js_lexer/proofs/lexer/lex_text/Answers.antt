use Rattle.std.proofs.Common.{◌||◌, nat_lt, arith, sym, ap, subst, ◌∙◌, ℕ, List}
use Rattle.js_lexer.specs.Gaps.{line_ends}
use Rattle.js_lexer.specs.Lexed.{IsRefusal}
use Rattle.js_lexer.specs.inner.Steps.{GapAt, TokenAt}
use Rattle.js_lexer.specs.declared.token.LexFault.{LexFault}
use Rattle.js_lexer.proofs.Cutting.{so_far_gap, so_far_token}
use Rattle.js_lexer.proofs.Lexing.{line_behind, step_fits, stop_refusal}
use Rattle.js_lexer.proofs.lexer.lex_text.Goals as goal

pub more-preserved-in-Ok-Gap : goal.more-preserved-in-Ok-Gap
more-preserved-in-Ok-Gap c =
    let step : GapAt c.args.text.now c.more.place c.in-Ok-Gap.size = rw c.in-Ok-Gap.field-0-is at c.in-Ok-Gap.ensures in
    let ends = c.line_ends_in-ends.ensures.ends ∙ ap (λ (bs : List ℕ). line_ends c.in-Ok-Gap.size bs) c.rest_of.ensures in
    record {
      so_far = so_far_gap c.args.text.now c.more.new_line _ c.more.place c.in-Ok-Gap.size c.more.tokens.items c.more.invariant.so_far step.is
          (c.is_broken-new_line.ensures ∙ ap (λ (n : ℕ). c.more.new_line || nat_lt 0 n) ends);
      line = line_behind c.args.text.now c.more.place c.in-Ok-Gap.size c.more.line c.line_ends_in-ends.result c.more.invariant.line ends;
      few = omega (arith, c.line_ends_in-ends.ensures.few, c.more.invariant.few);
      within = step.within;
    }

pub more-preserved : goal.more-preserved
more-preserved c =
    let step : TokenAt c.args.text.now c.more.place c.in-Ok-Token.kind c.in-Ok-Token.sort c.in-Ok-Token.size = rw c.in-Ok-Token.field-0-is at c.in-Ok-Token.ensures in
    let ends = c.line_ends_in-ends-in-Ok-Token.ensures.ends ∙ ap (λ (bs : List ℕ). line_ends c.in-Ok-Token.size bs) c.rest_of-in-Ok-Token.ensures in
    record {
      so_far = so_far_token c.args.text.now c.more.new_line c.more.place c.in-Ok-Token.size c.more.line c.in-Ok-Token.kind c.in-Ok-Token.sort c.more.tokens.items c.push.new.self.items _
          c.more.invariant.so_far step.is c.more.invariant.line c.in_ok-push-in-Ok-Token.ensures.items;
      line = line_behind c.args.text.now c.more.place c.in-Ok-Token.size c.more.line c.line_ends_in-ends-in-Ok-Token.result c.more.invariant.line ends;
      few = omega (arith, c.line_ends_in-ends-in-Ok-Token.ensures.few, c.more.invariant.few);
      within = step.within;
    }

pub stopped-requires : goal.stopped-requires
stopped-requires c = step_fits c.args.text.now c.more.place c.in-Err.stop c.requires c.in-Err.ensures

pub returns-in-Err-clause-refused : goal.returns-in-Err-clause-refused
returns-in-Err-clause-refused c =
    subst (λ (e : LexFault). IsRefusal c.args.text.now e) (sym c.stopped.ensures)
    (stop_refusal c.args.text.now c.more.new_line c.more.place c.more.tokens.items c.in-Err.stop c.utf8.text c.more.invariant.so_far c.in-Err.ensures)
