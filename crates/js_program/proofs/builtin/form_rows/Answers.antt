use Rattle.std.proofs.Common.{refl}
use Rattle.js_program.proofs.builtin.form_rows.Goals as goal

pub returns-clause-rows : goal.returns-clause-rows
returns-clause-rows c = refl

pub returns-clause-distinct : goal.returns-clause-distinct
returns-clause-distinct c = refl
