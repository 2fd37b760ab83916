use Rattle.std.proofs.Common.{[], sym, ap, ◌∙◌, subst}
use Rattle.js_value.specs.Lists.{values_in}
use Rattle.js_value.specs.Views.{value_list_view}
use Rattle.js_meaning.specs.Calls.{enters}
use Rattle.js_meaning.specs.Meaning.{eval}
use Rattle.js_frames.specs.Places.{plain_ground, here}
use Rattle.js_program.specs.PlainProgram.{PlainBody, PlainProgram, content_parts}
use Rattle.js_frames.specs.Frames.{statements_in}
use Rattle.js_frames.specs.Fits.{AreNodes}
use Rattle.js_frames.proofs.Numbers.{top_parts}
use Rattle.js_frames.proofs.Steps.{means_ok}
use Rattle.js_frames.proofs.engine.Engine.begin_top.Goals as goal

pub returns : goal.returns
returns c =
    let ev = eval (here c.args.base.now c.args.self.now) in
    record {
      effects = c.enter.ensures.effects;
      goes = means_ok (plain_ground c.args.base.now) _ _ _ _ c.enter.result c.enter.ensures.goes
          (λ s. ap (λ b. enters ev 0 b (values_in c.in_ok-captured.captured) c.new-args.result s) (c.top.ensures ∙ ap (λ (q : PlainProgram). q.top) c.program.ensures)
          ∙ ap (λ vs. enters ev 0 (let p = c.args.base.now in let q = p.program in q.top) (values_in vs) c.new-args.result s) (c.in_ok-captured.ensures ∙ ap value_list_view c.new.ensures.items)
          ∙ ap (λ vs. enters ev 0 (let p = c.args.base.now in let q = p.program in q.top) [] vs s) c.new-args.ensures);
    }

pub enter-requires : goal.enter-requires
enter-requires c =
    let program = let b = c.args.base.now in b.program in
    record {
      parts = subst (λ (b : PlainBody). AreNodes program (content_parts b.content)) (sym (c.top.ensures ∙ ap (λ (q : PlainProgram). q.top) c.program.ensures)) (top_parts program c.keeps.ensures);
      statements = ap (λ (b : PlainBody). statements_in b.content) (sym (c.top.ensures ∙ ap (λ (q : PlainProgram). q.top) c.program.ensures));
      sequence = tt;
      fits = c.requires;
    }
