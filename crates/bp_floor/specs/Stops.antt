-- Where b-threads stand: the line of the stop, and what is stated there.
use Rattle.std.specs.Prelude.{ℕ, Option, Some, None, option_map, if◌then◌else◌}
use Rattle.js_value.specs.Value.{PlainSet}
use Rattle.js_program.specs.PlainProgram.{PlainProgram}
use Rattle.js_meaning.specs.Bodies.{Origin, evaluation}
use Rattle.bp_log.specs.Options.{PlainOptions}
use Rattle.bp_run.specs.Bodies.{Statement, Outcome}
use Rattle.bp_run.specs.Bodies.Outcome.{Stopped}
use Rattle.bp_run.specs.Configuration.{Thread}
use Rattle.bp_thread.specs.Jobs.{stop_line}
use Rattle.bp_code.specs.Code.{ground_for, sealed_code_of as code_of}

abbrev pub Stop : Type 0
Stop = ℕ × Statement PlainSet

abbrev pub stop_with : Outcome PlainSet → Option ℕ → Option Stop
stop_with (Stopped s) line = option_map (λ n. (n, s)) line
stop_with _ line = None

-- the line of the stop where a body stands after its replies
abbrev pub line_after : PlainProgram → PlainOptions → Thread Origin → Option ℕ
line_after program o t =
    stop_line (evaluation (ground_for program o.budget t.origin) o.budget t.origin t.replies)

-- unless the b-thread has ended
abbrev pub stop_in : PlainProgram → PlainOptions → Option (Thread Origin) → Option Stop
stop_in program o None = None
stop_in program o (Some t) =
    if t.ended then None
    else stop_with ((code_of program o).after t.origin t.replies).outcome (line_after program o t)
