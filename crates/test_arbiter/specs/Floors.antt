-- Floors on the way from the start to where nobody is to be run.
use Rattle.std.specs.Prelude.{◌≡◌, false, List}
use Rattle.js_meaning.specs.Bodies.{Origin}
use Rattle.bp_log.specs.declared.trace.Line.{Line}
use Rattle.bp_run.specs.Settling.{Pair, settle, opening}
use Rattle.bp_floor.specs.Floors.{PlainFloor, StandsFor, code_on}
use Rattle.bp_arbiter.specs.Calls.{RunCalls}

-- memory never ran out, and the floor stands for a pair that settles to where the program's start does
pub record Goes (f : PlainFloor) : Type 0 where
  pub whole : f.broken ≡ false
  pub taken : List Line
  pub pair : Pair Origin
  pub stands : StandsFor f taken pair
  pub settles : settle (code_on f) pair ≡ settle (code_on f) opening
  pub calls : RunCalls pair
