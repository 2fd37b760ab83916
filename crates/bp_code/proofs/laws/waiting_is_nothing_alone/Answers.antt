use Rattle.bp_run.proofs.Waiting.{story_same, text_same, alone_same}
use Rattle.bp_code.specs.Code.{code_of}
use Rattle.bp_code.proofs.laws.waiting_is_nothing_alone.Goals as goal

pub returns-clause-story : goal.returns-clause-story
returns-clause-story c = λ p o wait records i. story_same (code_of p o) o wait records i

pub returns-clause-text : goal.returns-clause-text
returns-clause-text c = λ p o wait records i. text_same (code_of p o) o wait records i

pub returns-clause-run : goal.returns-clause-run
returns-clause-run c = λ p o wait i. alone_same (code_of p o) o wait i
