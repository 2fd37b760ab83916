use Rattle.std.proofs.Common.{sym, ap, ◌∙◌}
use Rattle.js_frames.specs.Places.{place_of, undefined_at}
use Rattle.js_frames.proofs.engine.Engine.declare_without.Goals as goal

pub returns-in-Var : goal.returns-in-Var
returns-in-Var c = ap (λ k. undefined_at k c.args.variable (place_of c.args.self.now)) (sym c.in-Var.is)

pub returns-in-Const : goal.returns-in-Const
returns-in-Const c = c.put.ensures ∙ ap (λ k. undefined_at k c.args.variable (place_of c.args.self.now)) (sym c.in-Const.is)

pub returns-in-Let : goal.returns-in-Let
returns-in-Let c = c.put-in-Let.ensures ∙ ap (λ k. undefined_at k c.args.variable (place_of c.args.self.now)) (sym c.in-Let.is)
