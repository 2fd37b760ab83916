-- How many nodes bodies begin.
use Rattle.std.specs.Prelude.{ℕ, ◌-◌}
use Rattle.js_program.specs.PlainProgram.{PlainProgram}
use Rattle.js_meaning.specs.State.{left_by}
use Rattle.js_meaning.specs.Bodies.{Origin, evaluation}
use Rattle.bp_log.specs.Options.{PlainOptions}
use Rattle.bp_run.specs.Settling.{Body}
use Rattle.bp_code.specs.Code.{ground_for}

-- how many nodes a body begins with its replies, since its start or the last of them: what it takes
-- of the budget
abbrev pub nodes_of : PlainProgram → PlainOptions → Body Origin → ℕ
nodes_of program options b =
    options.budget
    - (left_by
    (evaluation (ground_for program options.budget b.origin) options.budget b.origin
    b.replies)).fuel
