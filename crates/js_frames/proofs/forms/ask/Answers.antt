use Rattle.std.proofs.Common.{ap, ◌∙◌}
use Rattle.js_value.specs.Views.{plain_value}
use Rattle.js_meaning.specs.Forms.{argument, asks}
use Rattle.js_frames.proofs.Lists.{argument_taken}
use Rattle.js_frames.proofs.BecomesLemmas.{asks_so}
use Rattle.js_frames.proofs.forms.ask.Goals as goal

pub returns : goal.returns
returns c = asks_so _ c.take.result c.take-priority.result c.args.line (λ g s.
    ap (λ x. asks g.budget c.args.line x (plain_value c.take-priority.result) s.replies s) (c.take.ensures.value ∙ ap (argument 0) c.take-priority.ensures.rest ∙ argument_taken c.args.args.now)
    ∙ ap (λ y. asks g.budget c.args.line (argument 0 c.args.args.now) y s.replies s) c.take-priority.ensures.value)
