use Rattle.std.proofs.Common.{[], refl, sym, ap, subst}
use Rattle.std.specs.Prelude.{unwrap_or}
use Rattle.js_frames.specs.Places.{Place, plain_effects}
use Rattle.js_frames.specs.Fits.{StackFits}
use Rattle.js_frames.specs.Runs.{IsOfProgram, untaken, asked_by, line_asked, answer_by, constants_by}
use Rattle.js_frames.proofs.Pauses.{effects_taken}
use Rattle.js_frames.proofs.machine.Machine.take_effects.Goals as goal

pub returns-clause-program : goal.returns-clause-program
unfolding IsOfProgram
returns-clause-program c = λ p h next e. (subst (λ (q : Place). StackFits p q.stack) (sym c.take_effects.ensures.place) (h next e).0, (h next e).1)

pub returns-clause-given : goal.returns-clause-given
unfolding untaken
returns-clause-given c = ap plain_effects c.take_effects.ensures.effects

pub returns-clause-left : goal.returns-clause-left
unfolding untaken
returns-clause-left c = ap (λ (q : Place). q.effects) c.take_effects.ensures.place

pub returns-clause-asked : goal.returns-clause-asked
unfolding asked_by
returns-clause-asked c = refl

pub returns-clause-line : goal.returns-clause-line
unfolding line_asked
returns-clause-line c = refl

pub returns-clause-answer : goal.returns-clause-answer
unfolding answer_by
returns-clause-answer c = refl

pub returns-clause-constants : goal.returns-clause-constants
unfolding constants_by
returns-clause-constants c = ap (λ (q : Place). unwrap_or q.constants []) c.take_effects.ensures.place

pub returns-clause-stands : goal.returns-clause-stands
returns-clause-stands c = effects_taken c.args.self.now c.take_effects.new.self (plain_effects c.take_effects.result) (ap plain_effects c.take_effects.ensures.effects) c.take_effects.ensures.place
