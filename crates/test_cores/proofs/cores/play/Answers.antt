use Rattle.test_cores.proofs.Somewhere.{after_steps, after_refusal}
use Rattle.test_cores.proofs.cores.play.Goals as goal

pub returns-in-Ok-clause-somewhere : goal.returns-in-Ok-clause-somewhere
returns-in-Ok-clause-somewhere c = after_steps c.args.core.now c.play.new.self _ c.requires.somewhere c.in-Ok.ensures.played

pub returns-in-Err-Illegal-clause-somewhere : goal.returns-in-Err-Illegal-clause-somewhere
returns-in-Err-Illegal-clause-somewhere c =
    after_refusal c.args.core.now c.play.new.self _ _ _ _ c.requires.somewhere c.in-Err-Illegal.field-0-is c.in-Err-Illegal.ensures.ends
