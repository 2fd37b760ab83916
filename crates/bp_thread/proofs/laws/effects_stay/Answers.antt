use Rattle.bp_thread.proofs.Behind.{made_begins, whole_begins}
use Rattle.bp_thread.proofs.laws.effects_stay.Goals as goal

pub returns-clause-made : goal.returns-clause-made
returns-clause-made c = λ base budget begun made j later at. made_begins base budget begun made j later at

pub returns-clause-since : goal.returns-clause-since
returns-clause-since c = λ base budget j w. whole_begins base budget j w
