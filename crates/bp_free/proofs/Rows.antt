-- Free runs compute.
use Rattle.std.proofs.Common.{◌≡◌, List, [], ◌∷◌, Some, None, refl, option_map}
use Rattle.std.specs.Prelude.{codes}
use Rattle.std.specs.Fmt.{digits}
use Rattle.js_data.specs.Event.{PlainEvent}
use Rattle.js_data.proofs.Shared.{named}
use Rattle.bp_log.specs.Options.{default_options}
use Rattle.bp_log.specs.Texts.{lines_text, line_text}
use Rattle.bp_log.specs.declared.verdict.Verdict.TheVariants as verdict
use Rattle.bp_run.specs.Bodies.{Part}
use Rattle.bp_run.specs.Bodies.Effect.{Register}
use Rattle.bp_run.specs.Configuration.{Stand}
use Rattle.bp_run.specs.Settling.{turn, settle_in, settle}
use Rattle.bp_run.specs.Selecting.{selectable, blocker}
use Rattle.bp_run.specs.Choosing.{reach}
use Rattle.bp_run.specs.Story.{step}
use Rattle.bp_run.proofs.Rows.{Small, Nothing, Only, Body, Main, A, B, code, doing, at_point, x, y, go}
use Rattle.bp_free.specs.declared.answer.Reason.TheVariants.{NotRequested, Blocked, NotFirst, NotHere}
use Rattle.bp_free.specs.Due.{due}
use Rattle.bp_free.specs.Free.{free, free_from, further}
use Rattle.bp_free.specs.Traces.{IsTrace}
use Rattle.bp_free.specs.Wrong.{first_lines}
use Rattle.bp_free.specs.Reasons.{line_reason}

-- A requests three events, B blocks x until y
abbrev three_asked : Body → List PlainEvent → Part Body Small
three_asked Main rs = doing (Register (codes "A") A ∷ Register (codes "B") B ∷ [])
three_asked A [] = at_point (x ∷ y ∷ go ∷ []) Nothing Nothing Nothing
three_asked B [] = at_point [] (Only y) (Only x) Nothing
three_asked o rs = doing []

-- whatever is drawn, go may come
pub go_may_come : option_map (λ (s : Stand Body). lines_text s.lines) (free (code three_asked) default_options (go ∷ [])) ≡ Some (codes "event [\"go\"]\ndone \"A\"\n")
unfolding turn settle_in settle selectable reach step due further free_from free line_text lines_text digits
go_may_come = refl

-- so may y, which B waits for; nothing is left then
pub text_is_a_trace : IsTrace (code three_asked) default_options (codes "event [\"y\"]\ndone \"A\"\ndone \"B\"\nverdict quiet 1\n") 1
unfolding turn settle_in settle selectable reach step due further free_from free line_text lines_text digits
text_is_a_trace = record { run = record { events = y ∷ []; stand = _; verdict = verdict.Quiet 1; leads = refl; ends = refl }; text = refl; many = refl }

-- x may not, for B blocks it, and z may not, for nobody requests it
pub blocked_may_not_come : free (code three_asked) default_options (x ∷ []) ≡ None
unfolding turn settle_in settle selectable reach step due further free_from free
blocked_may_not_come = refl

pub others_may_not_come : free (code three_asked) default_options (named (codes "z") ∷ []) ≡ None
unfolding turn settle_in settle selectable reach step due further free_from free
others_may_not_come = refl

abbrev pub start : Stand Body
start = settle (code three_asked) Rattle.bp_run.specs.Settling.opening

pub reasons_of_events :
    (line_reason (code three_asked) default_options start [] (Some x) None ≡ Blocked x (codes "B"))
    × (line_reason (code three_asked) default_options start [] (Some (named (codes "z"))) None ≡ NotRequested (named (codes "z")))
    × (line_reason (code three_asked) default_options start [] None (Some go) ≡ NotFirst go)
    × (line_reason (code three_asked) default_options start [] None None ≡ NotHere)
unfolding turn settle_in settle selectable reach step due further free_from free blocker
reasons_of_events = (refl, refl, refl, refl)

pub lines_are_counted_with_their_ends : (first_lines 1 (codes "a\nb\nc") ≡ Some (codes "a\n")) × (first_lines 3 (codes "a\nb\nc") ≡ None)
lines_are_counted_with_their_ends = (refl, refl)
