-- Statements, outcomes and origins as plain data.
use Rattle.std.specs.Prelude.{◌≡◌, Option, Some, None, Result, Ok, Err}
use Rattle.js_value.specs.Value.{PlainSet, any, no_sets}
use Rattle.js_value.specs.Views.{plain_value}
use Rattle.js_value.specs.Lists.{values_in}
use Rattle.js_meaning.specs.Bodies as body
use Rattle.bp_run.specs.Bodies as run
use Rattle.bp_thread.specs.declared.statement.Statement.{Statement}
use Rattle.bp_thread.specs.declared.outcome.Outcome.{Outcome}
use Rattle.bp_thread.specs.declared.outcome.Outcome.TheVariants.{Stopped, Ended, Broken, Violated, Spent}
use Rattle.bp_thread.specs.declared.origin.Origin.{Origin}
use Rattle.bp_thread.specs.declared.origin.Origin.TheVariants.{Top, Call}
use Rattle.bp_thread.specs.declared.reading.StatementFault.{StatementFault}
use Rattle.bp_thread.specs.declared.reading.StatementFault.TheVariants as fault

-- the empty list of sets where no set is stated
abbrev pub stated_set : Option PlainSet → PlainSet
stated_set None = any no_sets
stated_set (Some s) = s

abbrev pub plain_statement : Statement → run.Statement PlainSet
plain_statement s = record {
  request = s.request;
  wait_for = stated_set s.wait_for;
  block = stated_set s.block;
  interrupt = stated_set s.interrupt;
  priority = s.priority;
}

abbrev pub plain_outcome : Outcome → run.Outcome PlainSet
plain_outcome (Stopped s) = run.Outcome.Stopped (plain_statement s)
plain_outcome Ended = run.Outcome.Ended
plain_outcome (Broken f line) = run.Outcome.Broken f line
plain_outcome (Violated text) = run.Outcome.Violated text
plain_outcome Spent = run.Outcome.Spent

abbrev pub plain_origin : Origin → body.Origin
plain_origin Top = body.the_top
plain_origin (Call mode f args) = body.function mode (plain_value f) (values_in args)

-- what was read, or nothing, unless memory ran out
abbrev pub Reads : {A B : Type 0} → (B → A) → Option A → Result B StatementFault → Type 0
Reads view o (Ok b) = o ≡ Some (view b)
Reads view o (Err fault.Shape) = o ≡ None
Reads view o (Err fault.Memory) = Unit {0}
