-- What an event does to one b-thread.
use Rattle.std.specs.Prelude.{◌≡◌, ◌++◌, ℕ, Option, Some, None, Result, Ok, Err, filter_map, option_to_list}
use Rattle.bp_run.specs.Selecting.{Asked}
use Rattle.bp_run.specs.Choosing as choosing
use Rattle.bp_select.specs.Answers.{FaultAs, move_of, interrupt_of}
use Rattle.bp_select.specs.declared.answers.Reach.{Reach}
use Rattle.bp_select.specs.declared.answers.SelectFault.{SelectFault}
use Rattle.bp_select.specs.declared.reaching.Touch.{Touch}
use Rattle.bp_select.specs.declared.reaching.Touch.TheVariants.{Stays, Moves, Interrupts}

abbrev pub touch_as : ℕ → Touch → Option choosing.Touched
touch_as n Stays = None
touch_as n Moves = Some (choosing.Touched.Moves n)
touch_as n Interrupts = Some (choosing.Touched.Interrupts n)

-- what happens to one b-thread is added, or its set is at fault
abbrev pub AddsTouch : Asked (Option choosing.Touched) → Reach → Reach → Result (Unit {0}) SelectFault →
    Type 0
AddsTouch asked old new (Ok x) =
    (o : Option choosing.Touched) × (asked ≡ Ok o)
    × (new.moved.items ≡ old.moved.items ++ filter_map move_of (option_to_list o))
    × (new.interrupted.items ≡ old.interrupted.items ++ filter_map interrupt_of (option_to_list o))
AddsTouch asked old new (Err f) = FaultAs asked f
