-- What an event does to a b-thread.
use Rattle.std.specs.Prelude.{Bool, not, ◌&&◌, ◌||◌}
use Rattle.js_data.specs.Event.{PlainEvent}
use Rattle.bp_run.specs.Selecting.{Has, Live, requests}
use Rattle.bp_explain.specs.Blocking.{says_yes}

-- whether e interrupts it; a set at fault has no event
abbrev pub interrupts : {Set : Type 0} → Has Set → PlainEvent → Live Set → Bool
interrupts has e t = says_yes (has t.statement.interrupt e)

-- whether it goes on at e
abbrev pub moves : {Set : Type 0} → Has Set → PlainEvent → Live Set → Bool
moves has e t =
    not (interrupts has e t) && (requests e t || says_yes (has t.statement.wait_for e))
