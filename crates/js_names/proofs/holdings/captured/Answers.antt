use Rattle.js_names.proofs.HeldLemmas.{captures_taken}
use Rattle.js_names.proofs.holdings.captured.Goals as goal

pub returns : goal.returns
returns c = captures_taken c.args.assigned.now.keys c.args.mentions.now c.new-held.result c.hold_all_captures.new.held c.new-held.ensures.empty c.in_ok-hold_all_captures.ensures
