use Rattle.std.proofs.Common.{◌≡◌, ◌≤◌, max, drop}
use Rattle.js_data.specs.Capped.{capped}
use Rattle.js_value.specs.Value.{set_list_nesting}
use Rattle.js_value.specs.Views.{set_list_of}
use Rattle.js_value.proofs.size.sets_nesting.Given as goal

abbrev pub invariant-loop-set : goal.invariant-loop-set
invariant-loop-set l =
    (l.most ≤ 18_446_744_073_709_551_615) × (capped (max l.most (set_list_nesting (set_list_of (drop l.set-index l.sets)))) ≡ capped (set_list_nesting (set_list_of l.sets)))
