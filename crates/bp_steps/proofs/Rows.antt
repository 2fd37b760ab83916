-- The definitions computed at small programs.
use Rattle.std.proofs.Common.{◌≡◌, List, [], ◌∷◌, refl}
use Rattle.std.specs.Prelude.{Option, Some, None, codes, option_map}
use Rattle.bp_log.specs.Options.{default_options, PlainOptions}
use Rattle.bp_log.specs.declared.item.Item.TheVariants as item
use Rattle.bp_log.specs.declared.record.Record.{Record}
use Rattle.bp_log.specs.declared.record.Record.TheVariants.{In, Bad, Eof, Sel, End}
use Rattle.bp_log.specs.declared.verdict.Verdict.TheVariants as verdict
use Rattle.bp_run.specs.Settling.{turn, settle_in, settle, initial}
use Rattle.bp_run.specs.Selecting.{selectable}
use Rattle.bp_run.specs.Choosing.{choice, reach}
use Rattle.bp_run.specs.Story.{step, next, after_record, story_from, story}
use Rattle.bp_run.specs.Bodies.{Part}
use Rattle.bp_run.specs.Bodies.Effect.{Register}
use Rattle.bp_run.proofs.Rows.{Main, A, Nothing, Only, at_point, doing, code, in_waves, violations, one_overtaken, overtaking, with_injectors, x, go}
use Rattle.bp_run.proofs.Rows as small
use Rattle.js_data.specs.Event.{PlainEvent}
use Rattle.bp_steps.specs.Merging.{items_by}
use Rattle.bp_steps.specs.declared.step.CoreStep.{CoreStep}
use Rattle.bp_steps.specs.declared.step.CoreStep.TheVariants.{Absorb, Pick, Slice, Seal}
use Rattle.bp_steps.specs.Steps.{Moment, Nodes, opened, after_step, played, made_by}
use Rattle.bp_steps.specs.Schedules.{settling_in, schedule_from, schedule_of}

-- each body begins three nodes
abbrev three : Nodes small.Body
three b = 3

abbrev pub waves : List CoreStep
waves =
    Slice 0 1000000 ∷ Seal ∷ Slice 0 1000000 ∷ Seal ∷ Pick ∷ Slice 0 1000000 ∷ Seal ∷ Slice 0 1000000 ∷ Slice 1 1000000 ∷ Seal ∷ Slice 0 1000000 ∷ Seal
    ∷ Pick ∷ []

pub waves_in_steps : schedule_of (code in_waves) default_options (Sel x ∷ End (verdict.Quiet 1) ∷ []) ≡ waves
unfolding turn settle_in settle initial selectable choice reach step next after_record story_from story settling_in schedule_from schedule_of
waves_in_steps = refl

pub waves_are_legal :
    option_map (λ (m : Moment small.Body). m.records) (played (code in_waves) default_options three waves (opened (code in_waves) default_options)) ≡ Some (Sel x ∷ End (verdict.Quiet 1) ∷ [])
unfolding turn settle_in settle initial selectable choice reach step next after_record story_from story after_step played
waves_are_legal = refl

-- jobs may be cut in any order
pub slices_in_any_order :
    option_map (λ (m : Moment small.Body). m.records) (played (code in_waves) default_options three
    (Slice 0 2 ∷ Slice 0 1 ∷ Seal ∷ Slice 0 3 ∷ Seal ∷ Pick ∷ Slice 0 9 ∷ Seal ∷ Slice 1 1 ∷ Slice 0 3 ∷ Slice 1 2 ∷ Seal ∷ Slice 0 3 ∷ Seal ∷ Pick ∷ []) (opened (code in_waves) default_options))
    ≡ Some (Sel x ∷ End (verdict.Quiet 1) ∷ [])
unfolding turn settle_in settle initial selectable choice reach step next after_record story_from story after_step played
slices_in_any_order = refl

-- no pick before the top level has run
pub no_pick_at_first : played (code in_waves) default_options three (Pick ∷ []) (opened (code in_waves) default_options) ≡ None
unfolding turn settle_in settle initial selectable choice reach step next after_record story_from story after_step played
no_pick_at_first = refl

-- no seal while a job goes on
pub no_seal_too_soon : played (code in_waves) default_options three (Slice 0 2 ∷ Seal ∷ []) (opened (code in_waves) default_options) ≡ None
unfolding turn settle_in settle initial selectable choice reach step next after_record story_from story after_step played
no_seal_too_soon = refl

-- where the records have no end, the turn that comes to a verdict is left out
pub verdict_left_out : schedule_of (code violations) default_options [] ≡ Slice 0 1000000 ∷ Seal ∷ []
unfolding turn settle_in settle initial selectable choice reach step next after_record story_from story settling_in schedule_from schedule_of
verdict_left_out = refl

pub verdict_by_the_last_seal :
    schedule_of (code violations) default_options (End (verdict.Violated (Rattle.bp_log.specs.declared.verdict.Place.TheVariants.Thread (codes "A")) (codes "first")) ∷ [])
    ≡ Slice 0 1000000 ∷ Seal ∷ Slice 0 1000000 ∷ Slice 1 1000000 ∷ Seal ∷ []
unfolding turn settle_in settle initial selectable choice reach step next after_record story_from story settling_in schedule_from schedule_of
verdict_by_the_last_seal = refl

pub overtaken_in_steps :
    option_map (λ (m : Moment small.Body). m.records)
    (played (code one_overtaken) (with_injectors 1) three (schedule_of (code one_overtaken) (with_injectors 1) overtaking) (opened (code one_overtaken) (with_injectors 1))) ≡ Some overtaking
unfolding turn settle_in settle initial selectable choice reach step next after_record story_from story after_step played settling_in schedule_from schedule_of
overtaken_in_steps = refl

-- a slice of no nodes, of a number that isn't there, and of a job that has its outcome
pub no_empty_slice : played (code in_waves) default_options three (Slice 0 0 ∷ []) (opened (code in_waves) default_options) ≡ None
unfolding turn settle_in settle initial selectable choice reach step next after_record story_from story after_step played
no_empty_slice = refl

pub no_slice_elsewhere : played (code in_waves) default_options three (Slice 1 1 ∷ []) (opened (code in_waves) default_options) ≡ None
unfolding turn settle_in settle initial selectable choice reach step next after_record story_from story after_step played
no_slice_elsewhere = refl

pub no_slice_past_the_outcome : played (code in_waves) default_options three (Slice 0 3 ∷ Slice 0 1 ∷ []) (opened (code in_waves) default_options) ≡ None
unfolding turn settle_in settle initial selectable choice reach step next after_record story_from story after_step played
no_slice_past_the_outcome = refl

abbrev made : (small.Body → List PlainEvent → Part small.Body small.Small) → PlainOptions → List CoreStep → Option (List Record)
made body o steps = made_by (code body) o three steps

-- ---- at the end of a list

-- a cut list stands at rest after its last event
pub cut_list : schedule_of (code in_waves) default_options (Sel x ∷ []) ≡ Slice 0 1000000 ∷ Seal ∷ Slice 0 1000000 ∷ Seal ∷ Pick ∷ Slice 0 1000000 ∷ Seal ∷ Slice 0 1000000 ∷ Slice 1 1000000 ∷ Seal ∷ Slice 0 1000000 ∷ Seal ∷ []
unfolding turn settle_in settle initial selectable choice reach step next after_record story_from story settling_in schedule_from schedule_of
cut_list = refl

pub cut_list_is_legal : made in_waves default_options (schedule_of (code in_waves) default_options (Sel x ∷ [])) ≡ Some (Sel x ∷ [])
unfolding turn settle_in settle initial selectable choice reach step next after_record story_from story after_step played settling_in schedule_from schedule_of
cut_list_is_legal = refl

-- the verdict of a merge is recorded by the last seal, and nothing is picked then
pub seal_records_the_verdict :
    made violations default_options (Slice 0 3 ∷ Seal ∷ Slice 1 3 ∷ Slice 0 3 ∷ Seal ∷ [])
    ≡ Some (End (verdict.Violated (Rattle.bp_log.specs.declared.verdict.Place.TheVariants.Thread (codes "A")) (codes "first")) ∷ [])
unfolding turn settle_in settle initial selectable choice reach step next after_record story_from story after_step played
seal_records_the_verdict = refl

pub no_pick_after_a_verdict : made violations default_options (Slice 0 3 ∷ Seal ∷ Slice 1 3 ∷ Slice 0 3 ∷ Seal ∷ Pick ∷ []) ≡ None
unfolding turn settle_in settle initial selectable choice reach step next after_record story_from story after_step played
no_pick_after_a_verdict = refl

-- ---- a wave that has only a b-thread without a handler lends nothing

abbrev pub interrupted : small.Body → List PlainEvent → Part small.Body small.Small
interrupted Main replies = doing (Register (codes "A") A ∷ [])
interrupted A replies = at_point [] Nothing Nothing (Only go)
interrupted _ replies = doing []

abbrev pub interrupting : List Record
interrupting = In 0 go ∷ Eof 0 ∷ Sel go ∷ End (verdict.Quiet 1) ∷ []

pub wave_without_bodies :
    schedule_of (code interrupted) (with_injectors 1) interrupting
    ≡ Slice 0 1000000 ∷ Seal ∷ Slice 0 1000000 ∷ Seal ∷ Absorb 0 (item.Offered go) ∷ Absorb 0 item.End ∷ Pick ∷ Seal ∷ Pick ∷ []
unfolding turn settle_in settle initial selectable choice reach step next after_record story_from story settling_in schedule_from schedule_of
wave_without_bodies = refl

pub wave_without_bodies_is_sealed : made interrupted (with_injectors 1) (schedule_of (code interrupted) (with_injectors 1) interrupting) ≡ Some interrupting
unfolding turn settle_in settle initial selectable choice reach step next after_record story_from story after_step played settling_in schedule_from schedule_of
wave_without_bodies_is_sealed = refl

pub no_pick_before_its_seal :
    made interrupted (with_injectors 1) (Slice 0 3 ∷ Seal ∷ Slice 0 3 ∷ Seal ∷ Absorb 0 (item.Offered go) ∷ Pick ∷ Pick ∷ []) ≡ None
unfolding turn settle_in settle initial selectable choice reach step next after_record story_from story after_step played
no_pick_before_its_seal = refl

-- ---- injectors

-- where the run waits, a pick changes nothing
pub pick_that_waits : made interrupted (with_injectors 1) (Slice 0 3 ∷ Seal ∷ Slice 0 3 ∷ Seal ∷ Pick ∷ Pick ∷ []) ≡ Some []
unfolding turn settle_in settle initial selectable choice reach step next after_record story_from story after_step played
pick_that_waits = refl

pub nothing_of_an_ended_injector :
    made interrupted (with_injectors 1) (Slice 0 3 ∷ Seal ∷ Slice 0 3 ∷ Seal ∷ Absorb 0 item.End ∷ Absorb 0 (item.Offered go) ∷ []) ≡ None
unfolding turn settle_in settle initial selectable choice reach step next after_record story_from story after_step played
nothing_of_an_ended_injector = refl

pub nothing_of_a_fault : made interrupted (with_injectors 1) (Slice 0 3 ∷ Seal ∷ Slice 0 3 ∷ Seal ∷ Absorb 0 item.Failed ∷ []) ≡ None
unfolding turn settle_in settle initial selectable choice reach step next after_record story_from story after_step played
nothing_of_a_fault = refl

-- what was heard of an injector, in order
pub heard_of_the_first : items_by 0 (In 0 x ∷ In 1 go ∷ Sel x ∷ In 0 go ∷ Bad 1 3 ∷ Eof 0 ∷ []) ≡ item.Offered x ∷ item.Offered go ∷ item.End ∷ []
heard_of_the_first = refl

pub heard_of_the_second : items_by 1 (In 0 x ∷ In 1 go ∷ Sel x ∷ In 0 go ∷ Bad 1 3 ∷ Eof 0 ∷ []) ≡ item.Offered go ∷ item.Bad 3 ∷ []
heard_of_the_second = refl
