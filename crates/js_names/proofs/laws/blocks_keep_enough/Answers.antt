use Rattle.js_names.proofs.KeptLemmas.{keeps_enough}
use Rattle.js_names.proofs.Homes.{programs_keep_enough}
use Rattle.js_names.proofs.laws.blocks_keep_enough.Goals as goal

pub returns : goal.returns
returns c = record { everywhere = keeps_enough; programs = programs_keep_enough }
