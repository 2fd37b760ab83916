use Rattle.std.proofs.Common.{ap, ◌∙◌}
use Rattle.std.specs.Prelude.{unwrap_or}
use Rattle.js_frames.proofs.engine.Engine.into_constants.Goals as goal

pub returns : goal.returns
returns c = c.unwrap_or.ensures ∙ ap (unwrap_or (let e = c.args.self in e.constants)) c.new.ensures
