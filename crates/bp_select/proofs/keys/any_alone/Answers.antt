use Rattle.std.proofs.Common.{◌∙◌, ℕ, List, ap}
use Rattle.bp_roll.specs.Rolls.{is_in}
use Rattle.bp_select.specs.inner.Heeding.{any_key}
use Rattle.bp_select.proofs.HeedLemmas.{in_push, touched_any}
use Rattle.bp_select.proofs.keys.any_alone.Goals as goal

pub returns : goal.returns
returns c = λ t. touched_any t c.push.new.self.items (ap (λ (ks : List ℕ). is_in any_key ks) c.in_ok-push.ensures.items ∙ in_push any_key c.new-keys.result.items)
