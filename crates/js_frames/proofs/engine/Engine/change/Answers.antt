use Rattle.std.proofs.Common.{sym, ap}
use Rattle.js_value.specs.Views.{plain_value}
use Rattle.js_meaning.specs.Expressions.{updates}
use Rattle.js_frames.specs.Places.{plain_ground}
use Rattle.js_frames.proofs.Steps.{means_ok}
use Rattle.js_frames.proofs.engine.Engine.change.Goals as goal

pub returns-in-Before : goal.returns-in-Before
returns-in-Before c = λ a h. means_ok (plain_ground c.args.base.now) _ _ _ _ c.write.result (c.write.ensures a h) (λ s. ap (λ q. updates c.args.line q c.args.slot (plain_value c.args.old) a s) (sym c.in-Before.is))

pub returns-in-After : goal.returns-in-After
returns-in-After c = λ a h. means_ok (plain_ground c.args.base.now) _ _ _ _ c.write_behind.result (c.write_behind.ensures a h) (λ s. ap (λ q. updates c.args.line q c.args.slot (plain_value c.args.old) a s) (sym c.in-After.is))
