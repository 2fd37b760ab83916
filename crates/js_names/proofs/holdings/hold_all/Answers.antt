use Rattle.js_names.proofs.HeldLemmas.{holds_both}
use Rattle.js_names.proofs.holdings.hold_all.Goals as goal

pub returns : goal.returns
returns c =
    holds_both c.args.held.now c.hold_each_own.new.held c.hold_each_own-2.new.held _ _ c.in_ok-hold_each_own.ensures
    (holds_both c.hold_each_own.new.held c.hold_all_captures.new.held c.hold_each_own-2.new.held _ _ c.in_ok-hold_all_captures.ensures c.in_ok-hold_each_own-2.ensures)
