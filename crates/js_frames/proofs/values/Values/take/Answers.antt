use Rattle.std.proofs.Common.{ap, ◌∙◌, take}
use Rattle.js_value.specs.Value.{undefined}
use Rattle.std.specs.Prelude.{unwrap_or}
use Rattle.std.proofs.lemmas.List.{take-set}
use Rattle.js_frames.proofs.values.Values.take.Goals as goal

pub returns-clause-value : goal.returns-clause-value
returns-clause-value c = ap (λ o. unwrap_or o undefined) c.put_out-value.ensures.value

pub returns-clause-rest : goal.returns-clause-rest
returns-clause-rest c = c.cut.ensures ∙ ap (take c.args.place) c.put_out-value.ensures.rest ∙ take-set c.args.self.now c.args.place undefined
