use Rattle.bp_run.proofs.Waiting.{story_same, text_same, alone_same}
use Rattle.bp_run.proofs.laws.waiting_is_nothing_alone.Goals as goal

pub returns-clause-story : goal.returns-clause-story
returns-clause-story c = λ l o wait records i. story_same l o wait records i

pub returns-clause-text : goal.returns-clause-text
returns-clause-text c = λ l o wait records i. text_same l o wait records i

pub returns-clause-run : goal.returns-clause-run
returns-clause-run c = λ l o wait i. alone_same l o wait i
