use Rattle.js_names.proofs.HeldLemmas.{slots_taken}
use Rattle.js_names.proofs.holdings.slots.Goals as goal

pub returns : goal.returns
returns c = slots_taken c.args.assigned.now.keys c.args.mentions.now c.new-held.result c.hold_all.new.held c.new-held.ensures.empty c.in_ok-hold_all.ensures
