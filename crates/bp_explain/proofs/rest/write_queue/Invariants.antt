use Rattle.std.proofs.Common.{◌≡◌, ◌++◌, drop, string_bytes}
use Rattle.std.specs.Prelude.{flat_map}
use Rattle.bp_explain.specs.States.{waiting_text}
use Rattle.bp_explain.proofs.rest.write_queue.Given as goal

abbrev pub invariant-loop-event : goal.invariant-loop-event
invariant-loop-event l =
    string_bytes l.text ++ flat_map waiting_text (drop l.event-index l.queue) ≡ string_bytes l.initial.text ++ flat_map waiting_text l.queue
