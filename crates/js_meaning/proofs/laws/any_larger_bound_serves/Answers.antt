use Rattle.js_meaning.proofs.Bound.{enough}
use Rattle.js_meaning.proofs.laws.any_larger_bound_serves.Goals as goal

pub returns : goal.returns
returns c = λ g bound n s le. enough g bound n s le
