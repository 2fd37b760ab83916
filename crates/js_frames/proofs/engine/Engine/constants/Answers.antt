use Rattle.std.proofs.Common.{sym, ap, ◌∙◌}
use Rattle.std.specs.Prelude.{unwrap_or}
use Rattle.js_frames.proofs.engine.Engine.constants.Goals as goal

pub returns-in-Some : goal.returns-in-Some
returns-in-Some c = ap (λ o. unwrap_or o (let b = c.args.base.now in b.constants)) (sym c.in-Some.is)

pub returns-in-None : goal.returns-in-None
returns-in-None c = c.constants.ensures ∙ ap (λ o. unwrap_or o (let b = c.args.base.now in b.constants)) (sym c.in-None.is)
