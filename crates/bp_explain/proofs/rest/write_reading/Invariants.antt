use Rattle.std.proofs.Common.{◌≡◌, ◌++◌, drop, string_bytes}
use Rattle.std.specs.Prelude.{flat_map}
use Rattle.bp_explain.specs.States.{reading_text}
use Rattle.bp_explain.proofs.rest.write_reading.Given as goal

abbrev pub invariant-loop-injector : goal.invariant-loop-injector
invariant-loop-injector l =
    string_bytes l.text ++ flat_map reading_text (drop l.injector-index l.reading) ≡ string_bytes l.initial.text ++ flat_map reading_text l.reading
