-- The code of every program gives short texts alone.
use Rattle.std.proofs.Common.{◌≡◌, ℕ, zero, suc, true, List, [], ◌∷◌, Option, Some, None, map, refl, sym}
use Rattle.std.specs.Prelude.{IsSome, slice_get, fold, drop, option_map}
use Rattle.std.proofs.lemmas.Bool.{false≢true}
use Rattle.js_data.specs.Event.{PlainEvent}
use Rattle.js_data.proofs.Shared.{OfSome}
use Rattle.js_value.specs.Value as v
use Rattle.js_value.specs.Value.{PlainValue, PlainSet}
use Rattle.js_program.specs.declared.builtin.Mode.TheVariants.{Handler}
use Rattle.js_program.specs.PlainProgram.{PlainProgram, PlainConstant, of_function, undeclared, unset}
use Rattle.js_meaning.specs.State as js
use Rattle.js_meaning.specs.State.{Ground, Setting, State, went, broken, violated, spent, stopped, left_by, effects_of}
use Rattle.js_meaning.specs.Variables.{constant_start}
use Rattle.js_meaning.specs.Meaning.{does_node, begins_with, within, allowed, eval}
use Rattle.js_meaning.specs.Statements.{iterations}
use Rattle.js_meaning.specs.Bodies.{Origin, the_top, function, bare, setting_of, own_constants, start_of, evaluation, constants_left, ground_of}
use Rattle.bp_log.specs.Options.{PlainOptions, AreOptions}
use Rattle.bp_log.specs.Records.{is_complete, Complete}
use Rattle.bp_log.specs.declared.version.Version.{Version}
use Rattle.bp_log.specs.declared.record.Record.{Record}
use Rattle.bp_reading.specs.Reading.{first_stage}
use Rattle.bp_reading.specs.Laws.{AreRecords, Stands}
use Rattle.bp_run.specs.Bodies.{Statement}
use Rattle.bp_run.specs.Configuration.{Configuration}
use Rattle.bp_run.specs.Settling.{initial}
use Rattle.bp_run.specs.Story.{story}
use Rattle.bp_meaning.specs.After.{effect_of, stopped_with, outcome_of, part_of, handler_after}
use Rattle.bp_code.specs.Code.{ground_for, code_of}
use Rattle.bp_records.specs.Laws.{StoriesStand}
use Rattle.bp_records.proofs.Lists.{Each, each_drop, or_default}
use Rattle.bp_records.proofs.Short.{IsLight, IsShort}
use Rattle.bp_records.proofs.Outcomes.{AreShortSlots, IsShortEffect, AreShortEffects, IsShortState, IsShortOutcome, IsShortOrigin}
use Rattle.bp_records.proofs.Evaluation.{Keeps, spends_keeps, iterations_keeps, node_keeps, body_keeps}
use Rattle.bp_records.proofs.Runs.{ShortEffect, ShortOutcome, ShortPart, ShortCode}
use Rattle.bp_records.proofs.Stories.{story_stands, begins}

-- ---- evaluation

begins_keeps : (go : State → js.Outcome) → Keeps go → (fuel : ℕ) (s : State) → IsShortState s → IsShortOutcome (begins_with fuel go s)
begins_keeps go h zero s m = m.effects
begins_keeps go h (suc fuel) s m = h.at (record s { fuel = fuel }) (record { slots = m.slots; constants = m.constants; replies = m.replies; effects = m.effects })

module _ (g : Setting) (ground : AreShortSlots g.base.constants) where
  within_keeps : (k n : ℕ) → Keeps (within g k n)
  unfolding within
  within_keeps zero n = spends_keeps
  within_keeps (suc k) n = record {
    at = λ s m. begins_keeps (does_node g (within g k) (iterations (within g k) k) (slice_get g.base.program.nodes n))
        (node_keeps g ground (within g k) (within_keeps k) (iterations (within g k) k) (iterations_keeps g ground (within g k) (within_keeps k) k) (slice_get g.base.program.nodes n)) s.fuel s m;
  }

  eval_keeps : (n : ℕ) → Keeps (eval g n)
  unfolding eval
  eval_keeps n = record { at = λ s m. (within_keeps (allowed g.budget s) n).at s m }

starts_short : (cs : List PlainConstant) → AreShortSlots (map constant_start cs)
starts_short [] = tt
starts_short (of_function code ∷ cs) = (tt, starts_short cs)
starts_short (undeclared ∷ cs) = (tt, starts_short cs)
starts_short (unset ∷ cs) = (tt, starts_short cs)

own_short : (base : Ground) (o : Origin) → OfSome AreShortSlots (own_constants base o)
own_short base the_top = starts_short base.program.constants
own_short base (function mode f args) = tt

evaluation_short : (base : Ground) (budget : ℕ) (o : Origin) (replies : List PlainEvent) → AreShortSlots base.constants → IsShortOrigin o → Each IsLight replies → IsShortOutcome (evaluation base budget o replies)
unfolding evaluation
evaluation_short base budget o replies ground h k =
    (body_keeps (setting_of base budget o) ground (eval (setting_of base budget o)) (eval_keeps (setting_of base budget o) ground) o h).at (start_of base budget o replies)
    (record { slots = tt; constants = own_short base o; replies = k; effects = tt })

left_short : (o : js.Outcome) → IsShortOutcome o → AreShortSlots (constants_left o)
left_short (went c s) h = or_default AreShortSlots s.constants [] h.1.constants tt
left_short (broken f line l) h = tt
left_short (violated text l) h = tt
left_short (spent l) h = tt
left_short (stopped x y line l) h = tt

ground_short : (program : PlainProgram) (budget : ℕ) (o : Origin) → AreShortSlots (ground_for program budget o).constants
unfolding ground_of
ground_short program budget the_top = tt
ground_short program budget (function mode f args) = left_short (evaluation (bare program) budget the_top []) (evaluation_short (bare program) budget the_top [] tt tt tt)

-- ---- what a run sees of it

all_effects_short : (o : js.Outcome) → IsShortOutcome o → AreShortEffects (effects_of o)
all_effects_short (went c s) h = h.1.effects
all_effects_short (broken f line l) h = h
all_effects_short (violated text l) h = h.1
all_effects_short (spent l) h = h
all_effects_short (stopped x y line l) h = h

effects_seen : (xs : List js.Effect) → AreShortEffects xs → Each (ShortEffect IsShortOrigin) (map effect_of xs)
effects_seen [] h = tt
effects_seen (js.says text ∷ xs) h = (tt, effects_seen xs h.1)
effects_seen (js.enqueues e ∷ xs) h = (tt, effects_seen xs h.1)
effects_seen (js.registers name f ∷ xs) h = ((h.0.0, (h.0.1, tt)), effects_seen xs h.1)
effects_seen (js.handles f ∷ xs) h = (tt, effects_seen xs h.1)

stop_seen : (o : Option (Statement PlainSet)) (line : ℕ) → ShortOutcome (stopped_with o line)
stop_seen None line = tt
stop_seen (Some statement) line = tt

outcome_seen : (o : js.Outcome) → IsShortOutcome o → ShortOutcome (outcome_of o)
outcome_seen (went c s) h = tt
outcome_seen (broken f line l) h = tt
outcome_seen (violated text l) h = h.0
outcome_seen (spent l) h = tt
outcome_seen (stopped x y line l) h = stop_seen _ line

part_seen : (o : js.Outcome) → IsShortOutcome o → ShortPart IsShortOrigin (part_of o)
part_seen o h = record {
  effects = effects_seen (drop (left_by o).delivered (left_by o).effects) (each_drop IsShortEffect (left_by o).delivered (left_by o).effects (all_effects_short o h));
  outcome = outcome_seen o h;
}

handler_seen : (earlier : Option PlainValue) (xs : List js.Effect) → OfSome IsShort earlier → AreShortEffects xs → OfSome IsShort (fold handler_after earlier xs)
handler_seen earlier [] h k = h
handler_seen earlier (js.says text ∷ xs) h k = handler_seen earlier xs h k.1
handler_seen earlier (js.enqueues e ∷ xs) h k = handler_seen earlier xs h k.1
handler_seen earlier (js.registers name f ∷ xs) h k = handler_seen earlier xs h k.1
handler_seen earlier (js.handles f ∷ xs) h k = handler_seen (Some f) xs k.0 k.1

handled_seen : (e : PlainEvent) (o : Option PlainValue) → IsLight e → OfSome IsShort o → OfSome IsShortOrigin (option_map (λ f. function Handler f (v.event e ∷ [])) o)
handled_seen e None k h = tt
handled_seen e (Some f) k h = (h, (k, tt))

module _ (program : PlainProgram) (options : PlainOptions) where
  code_outcome : (o : Origin) (replies : List PlainEvent) → IsShortOrigin o → Each IsLight replies → IsShortOutcome (evaluation (ground_for program options.budget o) options.budget o replies)
  code_outcome o replies h k = evaluation_short (ground_for program options.budget o) options.budget o replies (ground_short program options.budget o) h k

  code_short : ShortCode IsShortOrigin (code_of program options)
  code_short = record {
    top = tt;
    after = λ o replies h k. part_seen (evaluation (ground_for program options.budget o) options.budget o replies) (code_outcome o replies h k);
    handling = λ o replies e h k light.
        let outcome = evaluation (ground_for program options.budget o) options.budget o replies in
        handled_seen e (fold handler_after None (effects_of outcome)) light (handler_seen None (effects_of outcome) tt (all_effects_short outcome (code_outcome o replies h k)));
  }

told_stands : (v : Version) (program : PlainProgram) (options : PlainOptions) (records : List Record) (o : Option (Configuration Origin)) → AreOptions options → AreRecords records → is_complete records ≡ true →
    o ≡ story (code_of program options) options records → IsSome o → Stands (first_stage v options.injectors) records
unfolding story
told_stands v program options records None fine are whole e h = absurd (false≢true h)
told_stands v program options records (Some d) fine are whole e h =
    story_stands IsShortOrigin (code_of program options) (code_short program options) options fine records (initial (code_of program options) options.injectors) d (first_stage v options.injectors)
    (begins v IsShortOrigin (code_of program options) (code_short program options) options fine) are whole (sym e)

complete_is : (records : List Record) → Complete records → is_complete records ≡ true
complete_is records h = h

pub stories_stand : StoriesStand
stories_stand v program options records fine are whole h = told_stands v program options records (story (code_of program options) options records) fine are whole refl h
