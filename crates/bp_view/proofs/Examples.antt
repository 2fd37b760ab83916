-- Views of runs of the small language, computed.
use Rattle.std.proofs.Common.{◌≡◌, List, [], ◌∷◌, Some, None, refl, take}
use Rattle.std.specs.Prelude.{codes}
use Rattle.std.specs.Fmt.{digits}
use Rattle.js_data.specs.Event.{PlainEvent}
use Rattle.js_data.proofs.Shared.{named}
use Rattle.bp_log.specs.Options.{default_options}
use Rattle.bp_log.specs.declared.record.Record.{Record}
use Rattle.bp_log.specs.declared.record.Record.TheVariants.{Sel, End}
use Rattle.bp_log.specs.declared.verdict.Verdict.TheVariants as verdict
use Rattle.bp_run.specs.Bodies.{Part}
use Rattle.bp_run.specs.Bodies.Effect.{Register}
use Rattle.bp_run.specs.Settling.{turn, settle_in, settle, initial}
use Rattle.bp_run.specs.Selecting.{selectable}
use Rattle.bp_run.specs.Choosing.{choice, reach}
use Rattle.bp_run.specs.Story.{step, next, after_record, story_from, story}
use Rattle.bp_run.proofs.Rows.{Small, Body, code, at_point, doing, nothing_at_all, one_overtaken, overtaking, with_injectors, x}
use Rattle.bp_run.proofs.Rows.Small.{Nothing, Only}
use Rattle.bp_run.proofs.Rows.Body.{Main, A, B, C}
use Rattle.bp_view.specs.Lines.{summary_line}
use Rattle.bp_view.specs.Views.{view_of}

-- of the empty program: no records, and then its verdict
pub nothing_shown_first : view_of (code nothing_at_all) default_options [] ≡ Some (codes "view records 0 steps 0 live 0 queue 0\n")
unfolding turn settle_in settle initial selectable choice reach step next after_record story_from story summary_line digits
nothing_shown_first = refl

pub nothing_shown_last : view_of (code nothing_at_all) default_options (End (verdict.Quiet 0) ∷ []) ≡ Some (codes "view records 1 steps 0 live 0 queue 0 over\n")
unfolding turn settle_in settle initial selectable choice reach step next after_record story_from story summary_line digits
nothing_shown_last = refl

-- what is no story has no line
pub no_line : view_of (code nothing_at_all) default_options (Sel x ∷ []) ≡ None
unfolding turn settle_in settle initial selectable choice reach step next after_record story_from story
no_line = refl

-- two pour three times each, and a third has them take turns
abbrev hot : PlainEvent
hot = named (codes "hot")

abbrev cold : PlainEvent
cold = named (codes "cold")

abbrev pouring : PlainEvent → List PlainEvent → Part Body Small
pouring e [] = at_point (e ∷ []) Nothing Nothing Nothing
pouring e (a ∷ []) = at_point (e ∷ []) Nothing Nothing Nothing
pouring e (a ∷ (b ∷ [])) = at_point (e ∷ []) Nothing Nothing Nothing
pouring e _ = doing []

abbrev taking_turns : PlainEvent → PlainEvent → List PlainEvent → Part Body Small
taking_turns e f [] = at_point [] (Only e) (Only f) Nothing
taking_turns e f (r ∷ rs) = taking_turns f e rs

abbrev pours : Body → List PlainEvent → Part Body Small
pours Main replies = doing (Register (codes "hot") A ∷ (Register (codes "cold") B ∷ (Register (codes "turns") C ∷ [])))
pours A replies = pouring hot replies
pours B replies = pouring cold replies
pours C replies = taking_turns hot cold replies
pours _ replies = doing []

abbrev poured : List Record
poured = Sel hot ∷ (Sel cold ∷ (Sel hot ∷ (Sel cold ∷ (Sel hot ∷ (Sel cold ∷ (End (verdict.Quiet 6) ∷ []))))))

pub three_live : view_of (code pours) default_options [] ≡ Some (codes "view records 0 steps 0 live 3 queue 0\n")
unfolding turn settle_in settle initial selectable choice reach step next after_record story_from story summary_line digits
three_live = refl

pub one_has_ended : view_of (code pours) default_options (take 5 poured) ≡ Some (codes "view records 5 steps 5 live 2 queue 0\n")
unfolding turn settle_in settle initial selectable choice reach step next after_record story_from story summary_line digits
one_has_ended = refl

pub one_live : view_of (code pours) default_options poured ≡ Some (codes "view records 7 steps 6 live 1 queue 0 over\n")
unfolding turn settle_in settle initial selectable choice reach step next after_record story_from story summary_line digits
one_live = refl

-- events of an injector wait in the queue, and are no steps
pub two_wait : view_of (code one_overtaken) (with_injectors 1) (take 3 overtaking) ≡ Some (codes "view records 3 steps 0 live 2 queue 2\n")
unfolding turn settle_in settle initial selectable choice reach step next after_record story_from story summary_line digits
two_wait = refl

pub none_waits : view_of (code one_overtaken) (with_injectors 1) (take 5 overtaking) ≡ Some (codes "view records 5 steps 2 live 0 queue 0\n")
unfolding turn settle_in settle initial selectable choice reach step next after_record story_from story summary_line digits
none_waits = refl
