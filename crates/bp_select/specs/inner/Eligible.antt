-- What can be selected, as the definitions say it.
use Rattle.std.specs.Prelude.{◌≡◌, ℕ, List, [], Option, Some, None}
use Rattle.js_value.specs.Value.{PlainSet}
use Rattle.bp_run.specs.Selecting.{Enabled, Live}
use Rattle.bp_select.specs.declared.answers.Choice.{Choice}
use Rattle.bp_select.specs.declared.answers.Choice.TheVariants as choice
use Rattle.bp_select.specs.declared.selecting.Eligible.{Eligible}
use Rattle.bp_select.specs.declared.selecting.Eligible.TheVariants.{Inner, Outer, Nothing}
use Rattle.bp_live.specs.Tops.{HaveTops}
use Rattle.bp_live.specs.Candidates.{events_in, tops_of}

abbrev pub eligible_of : Eligible → Enabled
eligible_of (Inner cs) = record { inner = events_in cs.items; outer = None }
eligible_of (Outer place) = record { inner = []; outer = Some place }
eligible_of Nothing = record { inner = []; outer = None }

-- its candidates have the greatest priorities with which these b-threads request them
abbrev pub IsOf : List (Live PlainSet) → Eligible → Type 0
IsOf ts (Inner cs) = HaveTops ts (tops_of cs.items)
IsOf ts (Outer place) = Unit {0}
IsOf ts Nothing = Unit {0}

-- an event of the queue is the one at this place
abbrev pub IsFrom : Option ℕ → Choice → Type 0
IsFrom place (choice.Internal e) = Unit {0}
IsFrom place (choice.External i) = place ≡ Some i
IsFrom place choice.Nothing = Unit {0}
