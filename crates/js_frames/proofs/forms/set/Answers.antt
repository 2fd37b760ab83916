use Rattle.std.proofs.Common.{ap}
use Rattle.js_value.specs.Value as v
use Rattle.js_value.specs.declared.value.Value.TheVariants as value
use Rattle.js_meaning.specs.State.{gives}
use Rattle.js_frames.proofs.BecomesLemmas.{gives_so}
use Rattle.js_frames.proofs.forms.set.Goals as goal

pub returns : goal.returns
returns c = gives_so _ _ (value.Set c.in_ok-made.made) c.give.ensures (λ g s. ap (λ q. gives (v.set q) s) c.in_ok-made.ensures)
