use Rattle.js_names.proofs.HeldLemmas.{vars_taken}
use Rattle.js_names.proofs.holdings.vars.Goals as goal

pub returns : goal.returns
returns c = vars_taken c.args.assigned.now.keys c.args.mentions.now c.new-held.result c.hold_each_own.new.held c.new-held.ensures.empty c.in_ok-hold_each_own.ensures
