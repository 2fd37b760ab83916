-- What an evaluation does to the run around it in each mode.
use Rattle.std.specs.Prelude.{◌≡◌, Bool, true, false, None}
use Rattle.js_program.specs.declared.builtin.Mode.{Mode}
use Rattle.js_program.specs.declared.builtin.Mode.TheVariants.{Predicate}
use Rattle.js_program.specs.declared.builtin.Builtin.TheVariants as form
use Rattle.js_program.specs.Builtins.{has_effect_in}
use Rattle.js_meaning.specs.State.{State, Outcome, went, broken, violated, spent, stopped}

-- forms act on the run in every mode but that of predicates
abbrev pub acts : Mode → Bool
acts Predicate = false
acts _ = true

-- Where forms do not act there are no effects; a stop and a violation come only where their forms have
-- their effect.
abbrev pub OnlyAnswers : Mode → State → Outcome → Type 0
OnlyAnswers mode before (went c s) = acts mode ≡ false → s.effects ≡ before.effects
OnlyAnswers mode before (broken f line l) = acts mode ≡ false → l.effects ≡ before.effects
OnlyAnswers mode before (violated text l) = has_effect_in mode form.Assert ≡ true
OnlyAnswers mode before (spent l) = acts mode ≡ false → l.effects ≡ before.effects
OnlyAnswers mode before (stopped statement priority line l) = has_effect_in mode form.Sync ≡ true

-- The constants stay those of the ground: none are the state's own.
abbrev pub StandsOnGround : Outcome → Type 0
StandsOnGround (went c s) = s.constants ≡ None
StandsOnGround _ = Unit {0}
