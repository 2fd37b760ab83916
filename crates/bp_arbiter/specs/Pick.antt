-- What comes of a pick.
use Rattle.std.specs.Prelude.{List, [], ◌∷◌}
use Rattle.js_value.specs.Value.{PlainSet}
use Rattle.js_meaning.specs.Bodies.{Origin}
use Rattle.bp_run.specs.Bodies.{Code}
use Rattle.bp_run.specs.Settling.{Entry, Pair}
use Rattle.bp_run.specs.Story.{Next, over, stepped}
use Rattle.bp_run.specs.Story.Next.{Ends, Selects, Waits}
use Rattle.bp_floor.specs.declared.phase.Phase.{Phase}
use Rattle.bp_floor.specs.declared.phase.Phase.TheVariants.{Ready, Rest, Over}
use Rattle.bp_arbiter.specs.declared.picked.Picked.{Picked}
use Rattle.bp_arbiter.specs.declared.picked.Picked.TheVariants as picked

-- an event is selected, or the run waits, or there is a verdict
abbrev pub picked_of : Next → Picked
picked_of (Ends v) = picked.Over
picked_of (Selects ch reached) = picked.Moved
picked_of Waits = picked.Wait

-- the pair after that: at a verdict with its line, at a selected event with what it reaches
abbrev pub after_pick : Code Origin PlainSet → Pair Origin → Next → Pair Origin
after_pick l p (Ends v) = record p { stand = over p.stand v }
after_pick l p (Selects ch reached) = stepped l p.stand ch.event ch.place reached
after_pick l p Waits = p

-- `Ready`, or `Rest` where nobody was reached
abbrev pub moved_phase : List (Entry Origin) → Phase
moved_phase [] = Rest
moved_phase (n ∷ ns) = Ready

abbrev pub phase_after : Picked → List (Entry Origin) → Phase
phase_after picked.Moved ns = moved_phase ns
phase_after picked.Wait ns = Rest
phase_after picked.Over ns = Over
