-- What is to be run, as the definitions see it.
use Rattle.std.specs.Prelude.{[], ◌∷◌, option_map}
use Rattle.js_value.specs.Views.{plain_value}
use Rattle.js_program.specs.declared.builtin.Mode.TheVariants as mode
use Rattle.js_meaning.specs.Bodies.{Origin, function}
use Rattle.bp_run.specs.Settling as run
use Rattle.bp_floor.specs.declared.entry.Handler.{Handler}
use Rattle.bp_floor.specs.declared.entry.Entry.{Entry}
use Rattle.bp_floor.specs.declared.entry.Entry.TheVariants.{Top, Runs, Stops}

abbrev pub handler_seen : Handler → run.Body Origin
handler_seen h =
    record {
      origin = function mode.Handler (plain_value h.function) (plain_value h.argument ∷ []);
      replies = [];
    }

abbrev pub entry_seen : Entry → run.Entry Origin
entry_seen Top = run.Entry.The_top
entry_seen (Runs i) = run.Entry.Runs i
entry_seen (Stops i h) = run.Entry.Stops i (option_map handler_seen h)
