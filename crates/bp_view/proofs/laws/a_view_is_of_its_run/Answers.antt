use Rattle.bp_view.proofs.RunViews.{view_text, view_part}
use Rattle.bp_view.proofs.laws.a_view_is_of_its_run.Goals as goal

pub returns-clause-whole : goal.returns-clause-whole
returns-clause-whole c = λ l o records first later start before after a last begun w. view_text l o records first later start before after a last begun w

pub returns-clause-part : goal.returns-clause-part
returns-clause-part c = λ l o records first later start before after a last begun w. view_part l o records first later start before after a last begun w
